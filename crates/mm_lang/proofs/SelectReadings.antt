-- Queries and their parts, read one after the other, and the commands that contain one.
use Rattle.std.proofs.Common.{◌≡◌, ℕ, Bool, true, false, cond, List, Option, Some, None, Result, Ok, pos, refl, sym, ap, ◌∙◌}
use Rattle.std.specs.Prelude.{FitsSigned}
use Rattle.std.specs.Int.{w64}
use Rattle.std.specs.List.{flat_map}
use Rattle.std.specs.Option.{option_map, option_or}
use Rattle.std.specs.Str.Parse.{digits_value}
use Rattle.mm_value.specs.Literal.{IsNumeral, is_numeral, is_within_limit}
use Rattle.mm_value.specs.declared.refusal.Refusal.{Refusal}
use Rattle.mm_value.specs.declared.refusal.Refusal.TheVariants.{NumberOutOfRange}
use Rattle.mm_value.specs.declared.values.Value.TheVariants.{Int}
use Rattle.mm_value.proofs.Limits.{int_within}
use Rattle.mm_query.specs.declared.atom.Atom.{Atom}
use Rattle.mm_query.specs.declared.command.Command.{Command}
use Rattle.mm_query.specs.declared.command.Command.TheVariants as command
use Rattle.mm_query.specs.declared.command.Definition.TheVariants as define
use Rattle.mm_query.specs.Fields.{FieldName}
use Rattle.mm_query.specs.declared.query.FromItem.{FromItem}
use Rattle.mm_query.specs.declared.query.Query.{Query}
use Rattle.mm_lang.specs.declared.read.keyword.Keyword.TheVariants as keyword
use Rattle.mm_lang.specs.declared.read.reader.Reader.{Reader}
use Rattle.mm_lang.specs.declared.read.token.Symbol.TheVariants as symbol
use Rattle.mm_lang.specs.Grammar.{name, comma_list, explain, field, from_item, position, order, query, select, tests_on, watch}
use Rattle.mm_lang.specs.Phrases.{Phrase, ◌>>=◌, ◌>>◌, say, one, word_of, the_symbol, the_keyword, has_keyword}
use Rattle.mm_lang.specs.Reading.{literals_of, position_literals, query_literals, test_literals}
use Rattle.mm_lang.specs.Tokens.{tokens}
use Rattle.mm_lang.specs.steps.Parsing.{Fails, Gives, ReadsPhrase, Skips, no_literals}
use Rattle.mm_lang.specs.steps.Parts.{Front}
use Rattle.mm_lang.proofs.Operands.{not_within}
use Rattle.mm_lang.proofs.Readings.{or_none, took, took_list, took_then, took_say, gives, word_says, fails_first, fails_next, reads_behind, given_both}
use Rattle.mm_lang.proofs.Readings.{given_made, keyword_stands}

-- ---- fields

say_field : List ℕ → List ℕ → Phrase FieldName
say_field a c = say (record { alias = a; column = c })

after_dot : List ℕ → Phrase FieldName
after_dot a = name >>= say_field a

after_alias : List ℕ → Phrase FieldName
after_alias a = the_symbol symbol.Dot >> after_dot a

pub field_no_alias : (old : Reader) (e : Refusal) → Fails name old e → Fails field old e
unfolding field after_alias after_dot say_field
field_no_alias old e h = fails_first name after_alias old e h

module _ (old mid : Reader) (a : List ℕ) (g : Gives name no_literals old mid a) where
  pub field_no_dot : (e : Refusal) → Fails (the_symbol symbol.Dot) mid e → Fails field old e
  unfolding field after_alias after_dot say_field
  field_no_dot e h = let t = took g in fails_next name after_alias old mid a e t.is (fails_first (the_symbol symbol.Dot) (λ u. after_dot a) mid e h)

  module _ (behind : Reader) (d : Gives (the_symbol symbol.Dot) no_literals mid behind tt) where
    pub field_no_column : (e : Refusal) → Fails name behind e → Fails field old e
    unfolding field after_alias after_dot say_field
    field_no_column e h =
        let t = took g in
        let u = took d in
        fails_next name after_alias old mid a e t.is
        (fails_next (the_symbol symbol.Dot) (λ u. after_dot a) mid behind tt e u.is (fails_first name (say_field a) behind e h))

    pub field_given : (new : Reader) (c : List ℕ) → Gives name no_literals behind new c → Gives field no_literals old new (record { alias = a; column = c })
    unfolding field after_alias after_dot say_field
    field_given new c h =
        let read : FieldName = record { alias = a; column = c } in
        gives (took_then after_alias (took g) (took_then (λ u. after_dot a) (took d) (took_then (say_field a) (took h) (took_say read new))))

-- ---- tables of FROM

say_item : List ℕ → List ℕ → Phrase FromItem
say_item t a = say (record { table = t; alias = a })

after_table : List ℕ → Phrase FromItem
after_table t = name >>= say_item t

pub from_no_table : (old : Reader) (e : Refusal) → Fails name old e → Fails from_item old e
unfolding from_item after_table say_item
from_no_table old e h = fails_first name after_table old e h

module _ (old mid : Reader) (t : List ℕ) (g : Gives name no_literals old mid t) where
  pub from_no_alias : (e : Refusal) → Fails name mid e → Fails from_item old e
  unfolding from_item after_table say_item
  from_no_alias e h = let n = took g in fails_next name after_table old mid t e n.is (fails_first name (say_item t) mid e h)

  pub from_given : (new : Reader) (a : List ℕ) → Gives name no_literals mid new a → Gives from_item no_literals old new (record { table = t; alias = a })
  unfolding from_item after_table say_item
  from_given new a h =
      let read : FromItem = record { table = t; alias = a } in
      gives (took_then after_table (took g) (took_then (say_item t) (took h) (took_say read new)))

-- ---- positions

module _ (old mid : Reader) (word : List ℕ) (g : Gives (one word_of) no_literals old mid word) (numeral : IsNumeral word) where
  position_is : position (tokens old.rest) ≡ Some (digits_value 10 word, tokens mid.rest)
  position_is =
      let t = took g in
      let pair : ℕ → Front ℕ = λ n. (n, tokens mid.rest) in
      word_says (λ w. cond (is_numeral w) (Some (digits_value 10 w)) None) (tokens old.rest) word (tokens mid.rest) t.is
      ∙ ap (λ b. option_map pair (cond b (Some (digits_value 10 word)) None)) numeral

  -- A number within its limit is returned, ..
  pub position_within : (n : ℕ) → n ≡ digits_value 10 word → FitsSigned w64 (pos (digits_value 10 word)) → Gives position position_literals old mid n
  position_within n is fits =
      let t = took g in
      let within : is_within_limit (Int (pos (digits_value 10 word))) ≡ true = int_within (pos (digits_value 10 word)) fits in
      record {
        said = digits_value 10 word;
        read = position_is;
        fault =
            t.fault
            ∙ sym (ap (λ b. option_or old.fault (option_or (cond b None (Some NumberOutOfRange)) None)) within ∙ or_none old.fault);
        same = λ none. is;
        shorter = t.shorter;
      }

  -- .. and one past its limit is recorded.
  pub position_past : (fault : Option Refusal) (placeholder : ℕ) → ¬ FitsSigned w64 (pos (digits_value 10 word))
      → fault ≡ option_or mid.fault (Some NumberOutOfRange) → Gives position position_literals old (record mid { fault = fault }) placeholder
  position_past fault placeholder past noted =
      let t = took g in
      let out : is_within_limit (Int (pos (digits_value 10 word))) ≡ false = not_within (pos (digits_value 10 word)) past in
      record {
        said = digits_value 10 word;
        read = position_is;
        fault =
            noted ∙ ap (λ f. option_or f (Some NumberOutOfRange)) t.fault
            ∙ sym (ap (λ b. option_or old.fault (option_or (cond b None (Some NumberOutOfRange)) None)) out);
        same =
            λ none. let some : ◌≡◌ {A = Option Refusal} (Some NumberOutOfRange) None =
            sym (ap (λ b. option_or (cond b None (Some NumberOutOfRange)) None) out) ∙ none in absurd (cc);
        shorter = t.shorter;
      }

-- ---- queries

abbrev Tests : Type 0
Tests = List (Atom FieldName)

say_query : Bool → List FieldName → List FromItem → Tests → List ℕ → Query
say_query distinct fields from asked positions = record { distinct = distinct; fields = fields; from = from; atoms = asked; order = positions }

after_tests : Bool → List FieldName → List FromItem → Tests → Phrase Query
after_tests distinct fields from asked =
    order >>= (λ positions. say (record { distinct = distinct; fields = fields; from = from; atoms = asked; order = positions }))

pub after_tables : Bool → List FieldName → List FromItem → Phrase Query
after_tables distinct fields from = tests_on field >>= after_tests distinct fields from

pub after_from : Bool → List FieldName → Phrase Query
after_from distinct fields = comma_list from_item >>= after_tables distinct fields

pub after_fields : Bool → List FieldName → Phrase Query
after_fields distinct fields = the_keyword keyword.From >> after_from distinct fields

pub after_distinct : Bool → Phrase Query
after_distinct distinct = comma_list field >>= after_fields distinct

-- After each part that is read, the rest decides the result.
module _ (old mid new : Reader) (r : Result Query Refusal) (distinct : Bool) where
  pub query_distinct : Skips (the_keyword keyword.Distinct) old mid distinct → ReadsPhrase (after_distinct distinct) query_literals mid new r
      → ReadsPhrase query query_literals old new r
  unfolding query after_distinct after_fields after_from after_tables after_tests
  query_distinct skips h =
      reads_behind (has_keyword keyword.Distinct) after_distinct query_literals old mid new distinct r
      (keyword_stands keyword.Distinct old mid distinct skips) h

  module _ (fields : List FieldName) where
    pub query_fields : Gives (comma_list field) (flat_map no_literals) old mid fields → ReadsPhrase (after_fields distinct fields) query_literals mid new r
        → ReadsPhrase (after_distinct distinct) query_literals old new r
    unfolding after_distinct
    query_fields g h = reads_behind (comma_list field) (after_fields distinct) query_literals old mid new fields r (took_list g) h

    pub query_from : Gives (the_keyword keyword.From) no_literals old mid tt → ReadsPhrase (after_from distinct fields) query_literals mid new r
        → ReadsPhrase (after_fields distinct fields) query_literals old new r
    unfolding after_fields
    query_from g h = reads_behind (the_keyword keyword.From) (λ u. after_from distinct fields) query_literals old mid new tt r (took g) h

    pub query_tables : (from : List FromItem) → Gives (comma_list from_item) (flat_map no_literals) old mid from
        → ReadsPhrase (after_tables distinct fields from) query_literals mid new r → ReadsPhrase (after_from distinct fields) query_literals old new r
    unfolding after_from
    query_tables from g h = reads_behind (comma_list from_item) (after_tables distinct fields) query_literals old mid new from r (took_list g) h

-- If a part is missing, the query fails.
module _ (old : Reader) (e : Refusal) (distinct : Bool) where
  pub query_no_fields : Fails (comma_list field) old e → Fails (after_distinct distinct) old e
  unfolding after_distinct
  query_no_fields h = fails_first (comma_list field) (after_fields distinct) old e h

  module _ (fields : List FieldName) where
    pub query_no_from : Fails (the_keyword keyword.From) old e → Fails (after_fields distinct fields) old e
    unfolding after_fields
    query_no_from h = fails_first (the_keyword keyword.From) (λ u. after_from distinct fields) old e h

    pub query_no_tables : Fails (comma_list from_item) old e → Fails (after_from distinct fields) old e
    unfolding after_from
    query_no_tables h = fails_first (comma_list from_item) (after_tables distinct fields) old e h

    pub query_no_tests : (from : List FromItem) → Fails (tests_on field) old e → Fails (after_tables distinct fields from) old e
    unfolding after_tables
    query_no_tests from h = fails_first (tests_on field) (after_tests distinct fields from) old e h

-- The tests and the positions, which have literals.
module _ (old mid : Reader) (distinct : Bool) (fields : List FieldName) (from : List FromItem) (asked : Tests)
    (g : Gives (tests_on field) (flat_map test_literals) old mid asked) where
  pub query_no_order : (e : Refusal) → Fails order mid e → Fails (after_tables distinct fields from) old e
  unfolding after_tables after_tests say_query
  query_no_order e h =
      fails_next (tests_on field) (after_tests distinct fields from) old mid g.said e g.read
      (fails_first order (λ positions. say (say_query distinct fields from g.said positions)) mid e h)

  pub query_given : (new : Reader) (positions : List ℕ) → Gives order (flat_map position_literals) mid new positions
      → Gives (after_tables distinct fields from) query_literals old new
      (record { distinct = distinct; fields = fields; from = from; atoms = asked; order = positions })
  unfolding after_tables after_tests say_query
  query_given new positions h =
      given_both (tests_on field) order (say_query distinct fields from) (flat_map test_literals) (flat_map position_literals) query_literals (λ x y. refl)
      old mid new asked positions g h

-- ---- SELECT, EXPLAIN and WATCH

pub select_no_query : (old : Reader) (e : Refusal) → Fails query old e → Fails select old e
unfolding select
select_no_query old e h = fails_first query (λ q. say (command.Select q)) old e h

pub select_given : (old new : Reader) (q : Query) → Gives query query_literals old new q → Gives select literals_of old new (command.Select q)
unfolding select
select_given old new q g = given_made query (λ q. command.Select q) query_literals literals_of (λ x. refl) g

say_plan : Query → Phrase Command
say_plan q = say (command.Explain q)

pub explain_no_select : (old : Reader) (e : Refusal) → Fails (the_keyword keyword.Select) old e → Fails explain old e
unfolding explain say_plan
explain_no_select old e h = fails_first (the_keyword keyword.Select) (λ u. query >>= say_plan) old e h

module _ (old mid : Reader) (g : Gives (the_keyword keyword.Select) no_literals old mid tt) where
  pub explain_no_query : (e : Refusal) → Fails query mid e → Fails explain old e
  unfolding explain say_plan
  explain_no_query e h =
      let t = took g in
      fails_next (the_keyword keyword.Select) (λ u. query >>= say_plan) old mid tt e t.is (fails_first query say_plan mid e h)

  pub explain_given : (new : Reader) (q : Query) → Gives query query_literals mid new q → Gives explain literals_of old new (command.Explain q)
  unfolding explain say_plan
  explain_given new q h =
      reads_behind (the_keyword keyword.Select) (λ u. query >>= say_plan) literals_of old mid new tt (Ok (command.Explain q)) (took g)
      (given_made query (λ q. command.Explain q) query_literals literals_of (λ x. refl) h)

say_watch : List ℕ → Query → Command
say_watch n q = command.Define (define.Watch (record { name = n; query = q }))

after_select : List ℕ → Phrase Command
after_select n = query >>= (λ q. say (command.Define (define.Watch (record { name = n; query = q }))))

after_named : List ℕ → Phrase Command
after_named n = the_keyword keyword.Select >> after_select n

pub watch_no_name : (old : Reader) (e : Refusal) → Fails name old e → Fails watch old e
unfolding watch after_named after_select
watch_no_name old e h = fails_first name after_named old e h

module _ (old mid : Reader) (n : List ℕ) (g : Gives name no_literals old mid n) where
  pub watch_no_select : (e : Refusal) → Fails (the_keyword keyword.Select) mid e → Fails watch old e
  unfolding watch after_named after_select
  watch_no_select e h = let t = took g in fails_next name after_named old mid n e t.is (fails_first (the_keyword keyword.Select) (λ u. after_select n) mid e h)

  module _ (behind : Reader) (k : Gives (the_keyword keyword.Select) no_literals mid behind tt) where
    pub watch_no_query : (e : Refusal) → Fails query behind e → Fails watch old e
    unfolding watch after_named after_select say_watch
    watch_no_query e h =
        let t = took g in
        let u = took k in
        fails_next name after_named old mid n e t.is
        (fails_next (the_keyword keyword.Select) (λ u. after_select n) mid behind tt e u.is (fails_first query (λ q. say (say_watch n q)) behind e h))

    pub watch_given : (new : Reader) (q : Query) → Gives query query_literals behind new q
        → Gives watch literals_of old new (command.Define (define.Watch (record { name = n; query = q })))
    unfolding watch after_named after_select say_watch
    watch_given new q h =
        reads_behind name after_named literals_of old mid new n (Ok (say_watch n q)) (took g)
        (reads_behind (the_keyword keyword.Select) (λ u. after_select n) literals_of mid behind new tt (Ok (say_watch n q)) (took k)
        (given_made query (say_watch n) query_literals literals_of (λ x. refl) h))
