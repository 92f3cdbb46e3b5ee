-- Queries and commands, read with holes and with literals in their place.
use Rattle.std.proofs.Common.{◌≡◌, inl, inr, ⊎_elim, ℕ, Bool, cond, List, [], ◌∷◌, Option, Some, None, map, refl, sym, ap, subst, ◌∙◌}
use Rattle.std.specs.List.{AllZip}
use Rattle.std.specs.Option.{option_map, option_and_then, option_or}
use Rattle.std.specs.Str.Parse.{digits_value}
use Rattle.std.proofs.lemmas.Option.{none-some, same_Some}
use Rattle.mm_value.specs.Literal.{is_numeral}
use Rattle.mm_value.specs.declared.values.Value.{Value}
use Rattle.mm_query.specs.Fields.{FieldName}
use Rattle.mm_query.specs.declared.atom.Assignment.{Assignment}
use Rattle.mm_query.specs.declared.atom.Atom.{Atom}
use Rattle.mm_query.specs.declared.atom.Operand.{Operand}
use Rattle.mm_query.specs.declared.command.Command.{Command}
use Rattle.mm_query.specs.declared.command.Command.TheVariants.{Change, Define, Explain, Select}
use Rattle.mm_query.specs.declared.command.Definition.TheVariants as define
use Rattle.mm_query.specs.declared.command.Mutation.TheVariants.{Delete, Insert, Update}
use Rattle.mm_query.specs.declared.query.FromItem.{FromItem}
use Rattle.mm_query.specs.declared.query.Query.{Query}
use Rattle.mm_lang.specs.Grammar.{assignment, comma_list, command_behind, command_of, delete, explain, field, from_item, insert, literal_of, name, operand_on}
use Rattle.mm_lang.specs.Grammar.{order, position, query, select, test_on, tests_on, tuple, update, watch}
use Rattle.mm_lang.specs.Phrases.{Phrase, ◌>>=◌, ◌>>◌, clause, alone, has_keyword, maybe, one, say, the_keyword, the_symbol, whole}
use Rattle.mm_lang.specs.Spelling.{SpellsCommand, word}
use Rattle.mm_lang.specs.Tokens.{Token, Hole}
use Rattle.mm_lang.specs.declared.read.keyword.Keyword.{Keyword}
use Rattle.mm_lang.specs.declared.read.keyword.Keyword.TheVariants as keyword
use Rattle.mm_lang.specs.declared.read.token.Symbol.TheVariants as symbol
use Rattle.mm_lang.specs.steps.Parts.{Front, chained, word_parts}
use Rattle.mm_lang.specs.Templates.{holes_among}
use Rattle.mm_lang.proofs.LiteralOrder.{read_literals}
use Rattle.mm_lang.proofs.SpelledCommands.{command_read}
use Rattle.mm_statement.specs.Filling.{Filled, merged, blank, blank_assignment, blank_atom, blank_operand, blank_query, blank_value}
use Rattle.mm_statement.specs.Texts.{IsText, with_texts}
use Rattle.mm_statement.proofs.TextPhrases.{ReadAlike, ReadsSame, StopsAtHole, clause_alike, comma_same, dot_same, equal_same, has_keyword_same}
use Rattle.mm_statement.proofs.TextPhrases.{keyword_same, list_alike, name_same, parentheses_alike, same_alike, say_alike, say_same, say_stops, settled}
use Rattle.mm_statement.proofs.TextPhrases.{then_alike, then_same}
use Rattle.mm_statement.proofs.TextReadings.{literal_alike, operand_alike, test_alike}
use Rattle.mm_statement.proofs.TextCommands.{fixed_texts, is_fixed}
use Rattle.mm_statement.proofs.TextTokens.{AreReadable, among_texts, texts_readable}

-- ---- tests, assignments and tuples

tests_alike : {F : Type 0} (column : Phrase F) → ReadsSame column → ((ts : List Token) → column (Hole ∷ ts) ≡ None)
    → ReadAlike (tests_on column) (tests_on column) (map blank_atom)
tests_alike column same ends =
    clause_alike (the_keyword keyword.And) (test_on column) blank_atom (keyword_same keyword.And refl) (λ ts. refl) (test_alike column same ends)
    keyword.Where refl

name_tests_alike : ReadAlike (tests_on name) (tests_on name) (map blank_atom)
name_tests_alike = tests_alike name name_same (λ ts. refl)

say_assignment : List ℕ → Operand (List ℕ) → Phrase (Assignment (List ℕ))
say_assignment n o = say (record { column = n; source = o })

after_equal : List ℕ → Phrase (Assignment (List ℕ))
after_equal n = operand_on name >>= say_assignment n

after_assigned : List ℕ → Phrase (Assignment (List ℕ))
after_assigned n = the_symbol symbol.Equal >> after_equal n

assignment_alike : ReadAlike assignment assignment blank_assignment
unfolding assignment after_assigned after_equal say_assignment
assignment_alike =
    same_alike name after_assigned after_assigned blank_assignment name_same
    (λ n. same_alike (the_symbol symbol.Equal) (λ u. after_equal n) (λ u. after_equal n) blank_assignment equal_same
    (λ u. then_alike (operand_on name) (operand_on name) (say_assignment n) (say_assignment n) blank_operand blank_assignment
    (λ o. say_stops (record { column = n; source = o })) (operand_alike name name_same (λ ts. refl))
    (λ x y h. say_alike blank_assignment (record { column = n; source = x }) (record { column = n; source = y })
    (λ i. record { column = n; source = h i }))))

assignments_alike : ReadAlike (comma_list assignment) (comma_list assignment) (map blank_assignment)
assignments_alike = list_alike (the_symbol symbol.Comma) assignment blank_assignment comma_same (λ ts. refl) assignment_alike

maybe_there : (ts : List Token) (v : Value) (us : List Token) → one literal_of ts ≡ Some (v, us) → maybe (one literal_of) ts ≡ Some (Some v, us)
maybe_there ts v us e =
    ap (λ (o : Option (Front Value)). option_or (option_and_then (λ (r : Front Value). say (Some r.0) r.1) o) (Some (None, ts))) e

value_alike : ReadAlike (one literal_of) (one literal_of) blank_value
value_alike ts texts x y us ws r e f =
    ⊎_elim (λ h. inl (refl, h.1)) inr
    (literal_alike ts texts (Some x) (Some y) us ws r (maybe_there ts x us e) (maybe_there (with_texts ts texts) y ws f))

tuples_alike : ReadAlike (comma_list tuple) (comma_list tuple) (map (map blank_value))
unfolding tuple
tuples_alike =
    list_alike (the_symbol symbol.Comma) tuple (map blank_value) comma_same (λ ts. refl)
    (parentheses_alike (comma_list (one literal_of)) (map blank_value)
    (list_alike (the_symbol symbol.Comma) (one literal_of) blank_value comma_same (λ ts. refl) value_alike))

-- ---- the parts of a query

say_field : List ℕ → List ℕ → Phrase FieldName
say_field a c = say (record { alias = a; column = c })

after_dot : List ℕ → Phrase FieldName
after_dot a = name >>= say_field a

after_alias : List ℕ → Phrase FieldName
after_alias a = the_symbol symbol.Dot >> after_dot a

field_same : ReadsSame field
unfolding field after_alias after_dot say_field
field_same =
    then_same name after_alias name_same
    (λ a. then_same (the_symbol symbol.Dot) (λ u. after_dot a) dot_same
    (λ u. then_same name (say_field a) name_same (λ c. say_same (record { alias = a; column = c }))))

no_field : (ts : List Token) → field (Hole ∷ ts) ≡ None
unfolding field
no_field ts = refl

say_item : List ℕ → List ℕ → Phrase FromItem
say_item t a = say (record { table = t; alias = a })

after_table : List ℕ → Phrase FromItem
after_table t = name >>= say_item t

item_same : ReadsSame from_item
unfolding from_item after_table say_item
item_same = then_same name after_table name_same (λ t. then_same name (say_item t) name_same (λ a. say_same (record { table = t; alias = a })))

-- unchanged
abbrev itself : {A : Type 0} → A → A
itself x = x

same_read : {A : Type 0} (phrase : Phrase A) → ReadsSame phrase → ReadAlike phrase phrase itself
same_read {A} phrase same ts texts x y us ws r e f =
    let move : Front A → Front A = λ s. (s.0, with_texts s.1 texts) in
    settled phrase phrase itself ts (with_texts ts texts) x x us (with_texts us texts) refl (record { texts = texts; readable = r; split = refl }) e
    (same ts texts r ∙ ap (option_map move) e) x y us ws e f

fields_alike : ReadAlike (comma_list field) (comma_list field) (map itself)
fields_alike = list_alike (the_symbol symbol.Comma) field itself comma_same (λ ts. refl) (same_read field field_same)

items_alike : ReadAlike (comma_list from_item) (comma_list from_item) (map itself)
items_alike = list_alike (the_symbol symbol.Comma) from_item itself comma_same (λ ts. refl) (same_read from_item item_same)

each_itself : {A : Type 0} (xs : List A) → map itself xs ≡ xs
each_itself [] = refl
each_itself (x ∷ xs) = ap (λ l. x ∷ l) (each_itself xs)

same_lists : {A : Type 0} (xs ys : List A) → map itself ys ≡ map itself xs → ys ≡ xs
same_lists xs ys h = sym (each_itself ys) ∙ h ∙ each_itself xs

says_position : List ℕ → Option ℕ
says_position w = cond (is_numeral w) (Some (digits_value 10 w)) None

position_alike : ReadAlike position position itself
unfolding says_position
position_alike ts texts x y us ws r e f =
    let p = word_parts says_position ts x us e in
    let pair : ℕ → Front ℕ = λ n. (n, with_texts us texts) in
    settled position position itself ts (with_texts ts texts) x x us (with_texts us texts) refl (record { texts = texts; readable = r; split = refl }) e
    (ap (λ l. position (with_texts l texts)) p.1 ∙ ap (option_map pair) p.2) x y us ws e f

order_alike : ReadAlike order order (map itself)
order_alike = clause_alike (the_symbol symbol.Comma) position itself comma_same (λ ts. refl) position_alike keyword.Order refl

-- ---- queries

abbrev Tests : Type 0
Tests = List (Atom FieldName)

say_query : Bool → List FieldName → List FromItem → Tests → List ℕ → Phrase Query
say_query distinct fields from asked positions =
    say (record { distinct = distinct; fields = fields; from = from; atoms = asked; order = positions })

after_tests : Bool → List FieldName → List FromItem → Tests → Phrase Query
after_tests distinct fields from asked = order >>= say_query distinct fields from asked

after_tables : Bool → List FieldName → List FromItem → Phrase Query
after_tables distinct fields from = tests_on field >>= after_tests distinct fields from

after_from : Bool → List FieldName → Phrase Query
after_from distinct fields = comma_list from_item >>= after_tables distinct fields

after_fields : Bool → List FieldName → Phrase Query
after_fields distinct fields = the_keyword keyword.From >> after_from distinct fields

after_distinct : Bool → Phrase Query
after_distinct distinct = comma_list field >>= after_fields distinct

tests_stop : (distinct : Bool) (fields : List FieldName) (from : List FromItem) (asked : Tests) → StopsAtHole (after_tests distinct fields from asked)
unfolding after_tests say_query clause
tests_stop distinct fields from asked =
    say_stops (record { distinct = distinct; fields = fields; from = from; atoms = asked; order = [] })

tables_stop : (distinct : Bool) (fields : List FieldName) (from : List FromItem) → StopsAtHole (after_tables distinct fields from)
unfolding after_tables after_tests say_query clause
tables_stop distinct fields from = say_stops (record { distinct = distinct; fields = fields; from = from; atoms = []; order = [] })

fields_stop : (distinct : Bool) (fields : List FieldName) → StopsAtHole (after_fields distinct fields)
unfolding after_fields
fields_stop distinct fields ts q us e = let answer : Front Query = (q, us) in absurd (none-some answer e)

module _ (distinct : Bool) (fields : List FieldName) where
  tests_read : (from : List FromItem) (x y : Tests) → map blank_atom y ≡ map blank_atom x
      → ReadAlike (after_tests distinct fields from x) (after_tests distinct fields from y) blank_query
  unfolding after_tests say_query
  tests_read from x y shape =
      then_alike order order (say_query distinct fields from x) (say_query distinct fields from y) (map itself) blank_query
      (λ positions. say_stops (record { distinct = distinct; fields = fields; from = from; atoms = x; order = positions })) order_alike
      (λ m n h. say_alike blank_query (record { distinct = distinct; fields = fields; from = from; atoms = x; order = m })
      (record { distinct = distinct; fields = fields; from = from; atoms = y; order = n })
      (λ i. record { distinct = distinct; fields = fields; from = from; atoms = shape i; order = same_lists m n h i }))

  tables_read : (from : List FromItem) → ReadAlike (after_tables distinct fields from) (after_tables distinct fields from) blank_query
  unfolding after_tables
  tables_read from =
      then_alike (tests_on field) (tests_on field) (after_tests distinct fields from) (after_tests distinct fields from) (map blank_atom) blank_query
      (tests_stop distinct fields from) (tests_alike field field_same no_field) (tests_read from)

  from_read : ReadAlike (after_from distinct fields) (after_from distinct fields) blank_query
  unfolding after_from
  from_read =
      then_alike (comma_list from_item) (comma_list from_item) (after_tables distinct fields) (after_tables distinct fields) (map itself) blank_query
      (tables_stop distinct fields) items_alike
      (λ m n h. subst (λ l. ReadAlike (after_tables distinct fields m) (after_tables distinct fields l) blank_query) (sym (same_lists m n h)) (tables_read m))

  fields_read : ReadAlike (after_fields distinct fields) (after_fields distinct fields) blank_query
  unfolding after_fields
  fields_read =
      same_alike (the_keyword keyword.From) (λ u. after_from distinct fields) (λ u. after_from distinct fields) blank_query
      (keyword_same keyword.From refl) (λ u. from_read)

query_alike : ReadAlike query query blank_query
unfolding query after_distinct after_fields after_from after_tables after_tests say_query
query_alike =
    same_alike (has_keyword keyword.Distinct) after_distinct after_distinct blank_query (has_keyword_same keyword.Distinct refl)
    (λ distinct. then_alike (comma_list field) (comma_list field) (after_fields distinct) (after_fields distinct) (map itself) blank_query
    (fields_stop distinct) fields_alike
    (λ m n h. subst (λ l. ReadAlike (after_fields distinct m) (after_fields distinct l) blank_query) (sym (same_lists m n h)) (fields_read distinct m)))

-- ---- commands

-- a query after the keywords of a command
made_alike : (make_x make_y : Query → Command) → ((x y : Query) → blank_query y ≡ blank_query x → blank (make_y y) ≡ blank (make_x x))
    → ReadAlike (query >>= (λ q. say (make_x q))) (query >>= (λ q. say (make_y q))) blank
made_alike make_x make_y shaped =
    then_alike query query (λ q. say (make_x q)) (λ q. say (make_y q)) blank_query blank (λ q. say_stops (make_x q)) query_alike
    (λ x y h. say_alike blank (make_x x) (make_y y) (shaped x y h))

select_alike : ReadAlike select select blank
unfolding select
select_alike = made_alike (λ q. Select q) (λ q. Select q) (λ x y h. ap (λ q. Select q) h)

say_plan : Query → Phrase Command
say_plan q = say (Explain q)

explain_alike : ReadAlike explain explain blank
unfolding explain say_plan
explain_alike =
    same_alike (the_keyword keyword.Select) (λ u. query >>= say_plan) (λ u. query >>= say_plan) blank (keyword_same keyword.Select refl)
    (λ u. made_alike (λ q. Explain q) (λ q. Explain q) (λ x y h. ap (λ q. Explain q) h))

say_watch : List ℕ → Query → Command
say_watch n q = Define (define.Watch (record { name = n; query = q }))

after_select : List ℕ → Phrase Command
after_select n = query >>= (λ q. say (say_watch n q))

after_named : List ℕ → Phrase Command
after_named n = the_keyword keyword.Select >> after_select n

watch_alike : ReadAlike watch watch blank
unfolding watch after_named after_select say_watch
watch_alike =
    same_alike name after_named after_named blank name_same
    (λ n. same_alike (the_keyword keyword.Select) (λ u. after_select n) (λ u. after_select n) blank (keyword_same keyword.Select refl)
    (λ u. made_alike (say_watch n) (say_watch n) (λ x y h. λ i. Define (define.Watch (record { name = n; query = h i })))))

say_delete : List ℕ → List (Atom (List ℕ)) → Phrase Command
say_delete t asked = say (Change (Delete t asked))

asked_in : List ℕ → Phrase Command
asked_in t = tests_on name >>= say_delete t

delete_alike : ReadAlike delete delete blank
unfolding delete asked_in say_delete
delete_alike =
    same_alike name asked_in asked_in blank name_same
    (λ t. then_alike (tests_on name) (tests_on name) (say_delete t) (say_delete t) (map blank_atom) blank (λ asked. say_stops (Change (Delete t asked)))
    name_tests_alike (λ x y h. say_alike blank (Change (Delete t x)) (Change (Delete t y)) (λ i. Change (Delete t (h i)))))

abbrev Assignments : Type 0
Assignments = List (Assignment (List ℕ))

say_update : List ℕ → Assignments → List (Atom (List ℕ)) → Phrase Command
say_update t set asked = say (Change (Update t set asked))

after_assignments : List ℕ → Assignments → Phrase Command
after_assignments t set = tests_on name >>= say_update t set

after_set : List ℕ → Phrase Command
after_set t = comma_list assignment >>= after_assignments t

after_updated : List ℕ → Phrase Command
after_updated t = the_keyword keyword.Set >> after_set t

assignments_stop : (t : List ℕ) (set : Assignments) → StopsAtHole (after_assignments t set)
unfolding after_assignments say_update clause
assignments_stop t set = say_stops (Change (Update t set []))

asked_alike : (t : List ℕ) (x y : Assignments) → map blank_assignment y ≡ map blank_assignment x
    → ReadAlike (after_assignments t x) (after_assignments t y) blank
unfolding after_assignments say_update
asked_alike t x y shape =
    then_alike (tests_on name) (tests_on name) (say_update t x) (say_update t y) (map blank_atom) blank (λ asked. say_stops (Change (Update t x asked)))
    name_tests_alike (λ m n h. say_alike blank (Change (Update t x m)) (Change (Update t y n)) (λ i. Change (Update t (shape i) (h i))))

update_alike : ReadAlike update update blank
unfolding update after_updated after_set after_assignments say_update
update_alike =
    same_alike name after_updated after_updated blank name_same
    (λ t. same_alike (the_keyword keyword.Set) (λ u. after_set t) (λ u. after_set t) blank (keyword_same keyword.Set refl)
    (λ u. then_alike (comma_list assignment) (comma_list assignment) (after_assignments t) (after_assignments t) (map blank_assignment) blank
    (assignments_stop t) assignments_alike (asked_alike t)))

say_insert : List ℕ → List (List Value) → Phrase Command
say_insert t tuples = say (Change (Insert t tuples))

after_table_name : List ℕ → Phrase Command
after_table_name t = comma_list tuple >>= say_insert t

insert_alike : ReadAlike insert insert blank
unfolding insert after_table_name say_insert
insert_alike =
    same_alike name after_table_name after_table_name blank name_same
    (λ t. then_alike (comma_list tuple) (comma_list tuple) (say_insert t) (say_insert t) (map (map blank_value)) blank
    (λ tuples. say_stops (Change (Insert t tuples))) tuples_alike
    (λ x y h. say_alike blank (Change (Insert t x)) (Change (Insert t y)) (λ i. Change (Insert t (h i)))))

-- ---- whole lines

alone_read : {A : Type 0} (x y : A) (us : List Token) → alone x us ≡ Some y → (x ≡ y) × (us ≡ [])
alone_read x y [] e = (same_Some x y e, refl)
alone_read x y (u ∷ us) e = absurd (none-some y e)

whole_read : (phrase : Phrase Command) (ts : List Token) (c : Command) → whole phrase ts ≡ Some c → phrase ts ≡ Some (c, [])
whole_read phrase ts c e =
    let p = chained (λ (r : Front Command). alone r.0 r.1) (phrase ts) c e in
    let q = alone_read p.0.0 c p.0.1 p.2 in
    p.1 ∙ (λ i. Some (q.0 i, q.1 i))

-- Commands that begin with this keyword.
module _ (k : Keyword) (starts : (us : List Token) → command_of (word k ∷ us) ≡ whole (command_behind k) us)
    (alike : ReadAlike (command_behind k) (command_behind k) blank) where
  behind_read : (ts rest texts : List Token) (c f : Command) → AreReadable texts → ts ≡ word k ∷ rest → command_of ts ≡ Some c
      → command_of (with_texts ts texts) ≡ Some f → blank f ≡ blank c
  behind_read ts rest texts c f r is e g =
      let here = whole_read (command_behind k) rest c (sym (starts rest) ∙ ap command_of (sym is) ∙ e) in
      let there = whole_read (command_behind k) (with_texts rest texts) f
      (sym (starts (with_texts rest texts)) ∙ ap (λ l. command_of (with_texts l texts)) (sym is) ∙ g) in
      ⊎_elim (λ h. h.0) (λ h. absurd h) (alike rest texts c f [] [] r here there)

-- Tokens with literals and tokens with holes read as commands that differ only in their literals.
pub read_alike : (ts texts : List Token) (c f : Command) → AreReadable texts → command_of ts ≡ Some c → command_of (with_texts ts texts) ≡ Some f
    → blank f ≡ blank c
unfolding command_of is_fixed
read_alike ts texts c f r e g = by c e (command_read ts c e)
  where
    by : (d : Command) → command_of ts ≡ Some d → SpellsCommand ts d → blank f ≡ blank d
    by (Change (Insert t tuples)) e h = behind_read keyword.Insert (λ us. refl) insert_alike ts _ texts _ f r h.3 e g
    by (Change (Update t set asked)) e h = behind_read keyword.Update (λ us. refl) update_alike ts _ texts _ f r h.5 e g
    by (Change (Delete t asked)) e h = behind_read keyword.Delete (λ us. refl) delete_alike ts _ texts _ f r h.3 e g
    by (Select q) e h = behind_read keyword.Select (λ us. refl) select_alike ts _ texts _ f r h.2 e g
    by (Explain q) e h = behind_read keyword.Explain (λ us. refl) explain_alike ts _ texts _ f r h.2 e g
    by (Define (define.Watch w)) e h = behind_read keyword.Watch (λ us. refl) watch_alike ts _ texts _ f r h.3 e g
    by d e h = ap blank (same_Some f d (sym g ∙ ap command_of (fixed_texts ts texts d e refl) ∙ e))

-- A command that is read from tokens with literals is the filled one.
pub read_filled : (ts texts : List Token) (values : List Value) (command filled : Command) → command_of ts ≡ Some command → AllZip IsText texts values
    → command_of (with_texts ts texts) ≡ Some filled → Filled (holes_among ts) values command filled
read_filled ts texts values c f read stand e = record {
  same = read_alike ts texts c f (texts_readable texts values stand) read e;
  literals =
      read_literals (with_texts ts texts) f e ∙ among_texts ts texts values stand ∙ ap (merged (holes_among ts) values) (sym (read_literals ts c read));
}
