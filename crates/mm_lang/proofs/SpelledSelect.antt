-- Queries, SELECT, EXPLAIN and WATCH: the tokens that are read spell the value, and each spelling is read.
use Rattle.std.proofs.Common.{◌≡◌, ⊎_elim, ℕ, Bool, true, false, cond, List, [], ◌∷◌, ◌++◌, Option, Some, None, refl, sym, ap, subst, ◌∙◌, append-nil}
use Rattle.std.proofs.Common.{append_assoc}
use Rattle.std.specs.Option.{option_and_then, option_or}
use Rattle.std.specs.Str.Parse.{digits_value}
use Rattle.std.proofs.lemmas.Option.{none-some, same_Some}
use Rattle.mm_schema.specs.Name.{IsName}
use Rattle.mm_value.specs.Literal.{is_numeral}
use Rattle.mm_query.specs.declared.atom.Atom.{Atom}
use Rattle.mm_query.specs.declared.command.Command.{Command}
use Rattle.mm_query.specs.declared.command.Command.TheVariants as command
use Rattle.mm_query.specs.declared.command.Definition.TheVariants as define
use Rattle.mm_query.specs.Fields.{FieldName}
use Rattle.mm_query.specs.declared.query.FromItem.{FromItem}
use Rattle.mm_query.specs.declared.query.Query.{Query}
use Rattle.mm_lang.specs.declared.read.keyword.Keyword.TheVariants as keyword
use Rattle.mm_lang.specs.declared.read.token.Symbol.TheVariants as symbol
use Rattle.mm_lang.specs.Grammar.{name, comma_list, field, from_item, position, explain, order, query, select, shift, tests_on, watch}
use Rattle.mm_lang.specs.Phrases.{Phrase, ◌>>=◌, ◌>>◌, say, word_of, the_symbol, the_keyword, has_keyword}
use Rattle.mm_lang.specs.Spelling.{word, SpellsCommand, SpellsDistinct, SpellsField, SpellsFromItem, SpellsList, SpellsOne, SpellsOrder, SpellsPosition}
use Rattle.mm_lang.specs.Spelling.{SpellsQuery, SpellsTestsOn}
use Rattle.mm_lang.specs.Tokens.{Token, Word, Mark}
use Rattle.mm_lang.specs.steps.Parts.{Front, said_same, tested, then_parts}
use Rattle.mm_lang.proofs.Exactness.{Always, IsExact, one_exact, list_exact, clause_exact}
use Rattle.mm_lang.proofs.SpelledAtoms.{NoTest, comma, field_column, tests_exact}
use Rattle.mm_lang.proofs.SpelledWords.{keyword_read, has_keyword_read, name_no_keyword, name_read, name_spelled}

-- ---- positions

says_position : Token → Option ℕ
says_position t = option_and_then (λ w. cond (is_numeral w) (Some (digits_value 10 w)) None) (word_of t)

position_read : (t : Token) (n : ℕ) → says_position t ≡ Some n → SpellsPosition t n
unfolding says_position
position_read (Word w) n e = let p = tested (is_numeral w) (Some (digits_value 10 w)) n e in (p.0, sym (same_Some (digits_value 10 w) n p.1))
position_read _ n e = absurd (none-some n e)

position_spelled : (t : Token) (n : ℕ) → SpellsPosition t n → says_position t ≡ Some n
unfolding says_position
position_spelled (Word w) n h = ap (λ b. cond b (Some (digits_value 10 w)) None) h.0 ∙ ap Some (sym h.1)
position_spelled _ n h = absurd h

-- no position follows
abbrev NoPosition : List Token → Type 0
NoPosition us = (Always us × (the_symbol symbol.Comma us ≡ None)) × (the_keyword keyword.Order us ≡ None)

order_exact : IsExact order SpellsOrder NoPosition
unfolding says_position
order_exact =
    clause_exact keyword.Order (the_symbol symbol.Comma) (Mark symbol.Comma) position (SpellsOne SpellsPosition)
    (λ us. Always us × (the_symbol symbol.Comma us ≡ None))
    (list_exact (the_symbol symbol.Comma) (Mark symbol.Comma) position (SpellsOne SpellsPosition) Always comma
    (one_exact says_position SpellsPosition position_read position_spelled) (λ us. tt))
    (λ us. refl)

-- ---- fields and tables

fields_exact : IsExact (comma_list field) (SpellsList (Mark symbol.Comma) SpellsField) (λ us. Always us × (the_symbol symbol.Comma us ≡ None))
fields_exact = list_exact (the_symbol symbol.Comma) (Mark symbol.Comma) field SpellsField Always comma field_column.exact (λ us. tt)

say_item : List ℕ → List ℕ → Phrase FromItem
say_item t a = say (record { table = t; alias = a })

after_table : List ℕ → Phrase FromItem
after_table t = name >>= say_item t

item_read : (ts : List Token) (i : FromItem) (us : List Token) → from_item ts ≡ Some (i, us)
    → (front : List Token) × SpellsFromItem front i × (ts ≡ front ++ us)
unfolding from_item after_table say_item
item_read ts i us e =
    let p = then_parts name after_table ts i us e in
    let q = then_parts name (say_item p.0) p.1 i us p.3 in
    let read : FromItem = record { table = p.0; alias = q.0 } in
    let r = said_same read i q.1 us q.3 in
    let t = name_read ts p.0 p.1 p.2 in
    let a = name_read p.1 q.0 q.1 q.2 in
    let front = Word p.0 ∷ Word q.0 ∷ [] in
    (front, subst (SpellsFromItem front) r.0 (t.1, a.1, refl), t.0 ∙ ap (λ l. Word p.0 ∷ l) (a.0 ∙ ap (λ l. Word q.0 ∷ l) r.1))

item_spelled : (front : List Token) (i : FromItem) (us : List Token) → SpellsFromItem front i → from_item (front ++ us) ≡ Some (i, us)
unfolding from_item after_table say_item
item_spelled front i us h =
    ap (λ l. from_item (l ++ us)) h.2
    ∙ ap (option_and_then (λ (r : Front (List ℕ)). after_table r.0 r.1)) (name_spelled i.table (Word i.alias ∷ us) h.0)
    ∙ ap (option_and_then (λ (r : Front (List ℕ)). say_item i.table r.0 r.1)) (name_spelled i.alias us h.1)

tables_exact : IsExact (comma_list from_item) (SpellsList (Mark symbol.Comma) SpellsFromItem) (λ us. Always us × (the_symbol symbol.Comma us ≡ None))
tables_exact =
    list_exact (the_symbol symbol.Comma) (Mark symbol.Comma) from_item SpellsFromItem Always comma
    (record { sound = item_read; complete = λ front i us h _. item_spelled front i us h }) (λ us. tt)

-- ---- the ends of the parts

-- An ORDER ends the tests and the tables before it, ..
abbrev EndsTests : List Token → Type 0
EndsTests us = NoTest us × (the_symbol symbol.Comma us ≡ None)

order_ends : (front : List Token) (positions : List ℕ) → SpellsOrder front positions → NoTest front × (the_symbol symbol.Comma front ≡ None)
unfolding shift
order_ends front [] h = subst EndsTests (sym h) (((refl, refl), refl), refl)
order_ends front (n ∷ others) h = subst EndsTests (sym h.2) (((refl, refl), refl), refl)

-- .. a WHERE ends the tables, ..
where_ends : (front us : List Token) (asked : List (Atom FieldName)) → SpellsTestsOn SpellsField front asked → the_symbol symbol.Comma us ≡ None
    → the_symbol symbol.Comma (front ++ us) ≡ None
where_ends front us [] h end = ap (λ l. the_symbol symbol.Comma (l ++ us)) h ∙ end
where_ends front us (a ∷ others) h end = ap (λ l. the_symbol symbol.Comma (l ++ us)) h.2

-- .. and fields do not begin with DISTINCT.
fields_begin : (front us : List Token) (fields : List FieldName) → SpellsList (Mark symbol.Comma) SpellsField front fields
    → the_keyword keyword.Distinct (front ++ us) ≡ None
fields_begin front us [] h = absurd h
fields_begin front us (f ∷ []) h =
    ap (λ l. the_keyword keyword.Distinct (l ++ us)) h.2
    ∙ name_no_keyword keyword.Distinct refl f.alias (Mark symbol.Dot ∷ Word f.column ∷ us) h.0
fields_begin front us (f ∷ g ∷ others) h =
    ap (λ l. the_keyword keyword.Distinct (l ++ us)) (h.4 ∙ ap (λ l. l ++ Mark symbol.Comma ∷ h.1) h.2.2)
    ∙ name_no_keyword keyword.Distinct refl f.alias (Mark symbol.Dot ∷ Word f.column ∷ Mark symbol.Comma ∷ h.1 ++ us) h.2.0

-- ---- DISTINCT

distinct_read : (ts : List Token) (distinct : Bool) (us : List Token) → has_keyword keyword.Distinct ts ≡ Some (distinct, us)
    → (front : List Token) × SpellsDistinct front distinct × (ts ≡ front ++ us)
distinct_read ts distinct us e =
    ⊎_elim
    (λ there. let front = word keyword.Distinct ∷ [] in (front, subst (SpellsDistinct front) (sym there.0) refl, there.1))
    (λ not_there. ([], subst (SpellsDistinct []) (sym not_there.0) refl, not_there.1))
    (has_keyword_read keyword.Distinct ts distinct us e)

distinct_spelled : (front : List Token) (distinct : Bool) (us : List Token) → SpellsDistinct front distinct → the_keyword keyword.Distinct us ≡ None
    → has_keyword keyword.Distinct (front ++ us) ≡ Some (distinct, us)
distinct_spelled front true us h end = ap (λ l. has_keyword keyword.Distinct (l ++ us)) h
distinct_spelled front false us h end =
    ap (λ l. has_keyword keyword.Distinct (l ++ us)) h
    ∙ ap (λ (o : Option (Front (Unit {0}))). option_or (option_and_then (λ (r : Front (Unit {0})). say true r.1) o) (Some (false, us))) end

-- ---- queries

abbrev Tests : Type 0
Tests = List (Atom FieldName)

say_query : Bool → List FieldName → List FromItem → Tests → List ℕ → Phrase Query
say_query distinct fields from asked positions =
    say (record { distinct = distinct; fields = fields; from = from; atoms = asked; order = positions })

after_tests : Bool → List FieldName → List FromItem → Tests → Phrase Query
after_tests distinct fields from asked = order >>= say_query distinct fields from asked

after_tables : Bool → List FieldName → List FromItem → Phrase Query
after_tables distinct fields from = tests_on field >>= after_tests distinct fields from

after_from : Bool → List FieldName → Phrase Query
after_from distinct fields = comma_list from_item >>= after_tables distinct fields

after_fields : Bool → List FieldName → Phrase Query
after_fields distinct fields = the_keyword keyword.From >> after_from distinct fields

after_distinct : Bool → Phrase Query
after_distinct distinct = comma_list field >>= after_fields distinct

-- the parts, grouped from the left or from the right
pub regrouped : (a b c d e : List Token) → a ++ b ++ c ++ d ++ e ≡ a ++ (b ++ (c ++ (d ++ e)))
regrouped a b c d e = append_assoc (a ++ b ++ c) d e ∙ append_assoc (a ++ b) c (d ++ e) ∙ append_assoc a b (c ++ (d ++ e))

query_read : (ts : List Token) (c : Query) → query ts ≡ Some (c, []) → SpellsQuery ts c
unfolding query after_distinct after_fields after_from after_tables after_tests say_query
query_read ts c e =
    let p = then_parts (has_keyword keyword.Distinct) after_distinct ts c [] e in
    let q = then_parts (comma_list field) (after_fields p.0) p.1 c [] p.3 in
    let r = then_parts (the_keyword keyword.From) (λ u. after_from p.0 q.0) q.1 c [] q.3 in
    let s = then_parts (comma_list from_item) (after_tables p.0 q.0) r.1 c [] r.3 in
    let t = then_parts (tests_on field) (after_tests p.0 q.0 s.0) s.1 c [] s.3 in
    let o = then_parts order (say_query p.0 q.0 s.0 t.0) t.1 c [] t.3 in
    let read : Query = record { distinct = p.0; fields = q.0; from = s.0; atoms = t.0; order = o.0 } in
    let same = said_same read c o.1 [] o.3 in
    let distinct = distinct_read ts p.0 p.1 p.2 in
    let fields = fields_exact.sound p.1 q.0 q.1 q.2 in
    let from = tables_exact.sound r.1 s.0 s.1 s.2 in
    let asked = (tests_exact field SpellsField field_column).sound s.1 t.0 t.1 t.2 in
    let positions = order_exact.sound t.1 o.0 o.1 o.2 in
    let behind_tests : t.1 ≡ positions.0 = positions.2 ∙ ap (λ l. positions.0 ++ l) same.1 ∙ append-nil positions.0 in
    let behind_from : r.1 ≡ from.0 ++ (asked.0 ++ positions.0) =
    from.2 ∙ ap (λ l. from.0 ++ l) (asked.2 ∙ ap (λ l. asked.0 ++ l) behind_tests) in
    let behind_distinct : p.1 ≡ fields.0 ++ (word keyword.From ∷ (from.0 ++ (asked.0 ++ positions.0))) =
    fields.2 ∙ ap (λ l. fields.0 ++ l) (keyword_read keyword.From q.1 r.1 r.2 ∙ ap (λ l. word keyword.From ∷ l) behind_from) in
    subst (SpellsQuery ts) same.0 (
      distinct.0,
      fields.0,
      from.0,
      asked.0,
      positions.0,
      distinct.1,
      fields.1,
      from.1,
      asked.1,
      positions.1,
      distinct.2 ∙ ap (λ l. distinct.0 ++ l) behind_distinct ∙ sym (regrouped distinct.0 fields.0 (word keyword.From ∷ from.0) asked.0 positions.0),
    )

module _ (q : Query) (distinct fields from asked positions : List Token) (h : SpellsDistinct distinct q.distinct)
    (k : SpellsList (Mark symbol.Comma) SpellsField fields q.fields) (l : SpellsList (Mark symbol.Comma) SpellsFromItem from q.from)
    (m : SpellsTestsOn SpellsField asked q.atoms) (n : SpellsOrder positions q.order) where
  order_read : order positions ≡ Some (q.order, [])
  order_read = ap order (sym (append-nil positions)) ∙ order_exact.complete positions q.order [] n ((tt, refl), refl)

  parts_spelled : query (distinct ++ (fields ++ (word keyword.From ∷ (from ++ (asked ++ positions))))) ≡ Some (q, [])
  unfolding query after_distinct after_fields after_from after_tables after_tests say_query
  parts_spelled =
      let end = order_ends positions q.order n in
      ap (option_and_then (λ (r : Front Bool). after_distinct r.0 r.1))
      (distinct_spelled distinct q.distinct (fields ++ (word keyword.From ∷ (from ++ (asked ++ positions)))) h
      (fields_begin fields (word keyword.From ∷ (from ++ (asked ++ positions))) q.fields k))
      ∙ ap (option_and_then (λ (r : Front (List FieldName)). after_fields q.distinct r.0 r.1))
      (fields_exact.complete fields q.fields (word keyword.From ∷ (from ++ (asked ++ positions))) k (tt, refl))
      ∙ ap (option_and_then (λ (r : Front (List FromItem)). after_tables q.distinct q.fields r.0 r.1))
      (tables_exact.complete from q.from (asked ++ positions) l (tt, where_ends asked positions q.atoms m end.1))
      ∙ ap (option_and_then (λ (r : Front Tests). after_tests q.distinct q.fields q.from r.0 r.1))
      ((tests_exact field SpellsField field_column).complete asked q.atoms positions m end.0)
      ∙ ap (option_and_then (λ (r : Front (List ℕ)). say_query q.distinct q.fields q.from q.atoms r.0 r.1)) order_read

query_spelled : (ts : List Token) (q : Query) → SpellsQuery ts q → query ts ≡ Some (q, [])
query_spelled ts q h =
    ap query (h.10 ∙ regrouped h.0 h.1 (word keyword.From ∷ h.2) h.3 h.4) ∙ parts_spelled q h.0 h.1 h.2 h.3 h.4 h.5 h.6 h.7 h.8 h.9

-- ---- SELECT, EXPLAIN and WATCH

-- a query after the keywords of a command
module _ (make : Query → Command) where
  say_made : Query → Phrase Command
  say_made q = say (make q)

  made_read : (ts : List Token) (c : Command) → (query >>= (λ q. say (make q))) ts ≡ Some (c, []) → (q : Query) × SpellsQuery ts q × (make q ≡ c)
  unfolding say_made
  made_read ts c e =
      let p = then_parts query say_made ts c [] e in
      let r = said_same (make p.0) c p.1 [] p.3 in
      (p.0, query_read ts p.0 (p.2 ∙ ap (λ us. Some (p.0, us)) r.1), r.0)

  made_spelled : (ts : List Token) (q : Query) → SpellsQuery ts q → (query >>= (λ q. say (make q))) ts ≡ Some (make q, [])
  made_spelled ts q h = ap (option_and_then (λ (r : Front Query). say (make r.0) r.1)) (query_spelled ts q h)

pub select_read : (ts : List Token) (c : Command) → select ts ≡ Some (c, []) → SpellsCommand (word keyword.Select ∷ ts) c
unfolding select
select_read ts c e = let p = made_read (λ q. command.Select q) ts c e in subst (SpellsCommand (word keyword.Select ∷ ts)) p.2 (ts, p.1, refl)

pub select_spelled : (ts : List Token) (q : Query) → SpellsQuery ts q → select ts ≡ Some (command.Select q, [])
unfolding select
select_spelled ts q h = made_spelled (λ q. command.Select q) ts q h

say_plan : Query → Phrase Command
say_plan q = say (command.Explain q)

pub explain_read : (ts : List Token) (c : Command) → explain ts ≡ Some (c, []) → SpellsCommand (word keyword.Explain ∷ ts) c
unfolding explain say_plan
explain_read ts c e =
    let p = then_parts (the_keyword keyword.Select) (λ u. query >>= say_plan) ts c [] e in
    let q = made_read (λ q. command.Explain q) p.1 c p.3 in
    subst (SpellsCommand (word keyword.Explain ∷ ts)) q.2 (p.1, q.1, ap (λ l. word keyword.Explain ∷ l) (keyword_read keyword.Select ts p.1 p.2))

pub explain_spelled : (ts : List Token) (q : Query) → SpellsQuery ts q → explain (word keyword.Select ∷ ts) ≡ Some (command.Explain q, [])
unfolding explain
explain_spelled ts q h = made_spelled (λ q. command.Explain q) ts q h

say_watch : List ℕ → Query → Command
say_watch n q = command.Define (define.Watch (record { name = n; query = q }))

after_select : List ℕ → Phrase Command
after_select n = query >>= (λ q. say (say_watch n q))

after_named : List ℕ → Phrase Command
after_named n = the_keyword keyword.Select >> after_select n

pub watch_read : (ts : List Token) (c : Command) → watch ts ≡ Some (c, []) → SpellsCommand (word keyword.Watch ∷ ts) c
unfolding watch after_named after_select say_watch
watch_read ts c e =
    let p = then_parts name after_named ts c [] e in
    let r = then_parts (the_keyword keyword.Select) (λ u. after_select p.0) p.1 c [] p.3 in
    let q = made_read (say_watch p.0) r.1 c r.3 in
    let n = name_read ts p.0 p.1 p.2 in
    subst (SpellsCommand (word keyword.Watch ∷ ts)) q.2 (
      r.1,
      n.1,
      q.1,
      ap (λ l. word keyword.Watch ∷ l) (n.0 ∙ ap (λ l. Word p.0 ∷ l) (keyword_read keyword.Select p.1 r.1 r.2)),
    )

pub watch_spelled : (n : List ℕ) (ts : List Token) (q : Query) → IsName n → SpellsQuery ts q
    → watch (Word n ∷ word keyword.Select ∷ ts) ≡ Some (command.Define (define.Watch (record { name = n; query = q })), [])
unfolding watch after_named after_select say_watch
watch_spelled n ts q named h =
    ap (option_and_then (λ (r : Front (List ℕ)). after_named r.0 r.1)) (name_spelled n (word keyword.Select ∷ ts) named)
    ∙ made_spelled (say_watch n) ts q h
