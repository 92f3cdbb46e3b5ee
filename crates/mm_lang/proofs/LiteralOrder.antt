-- The literals of a command are among its tokens, in order.
use Rattle.std.proofs.Common.{◌≡◌, inl, inr, ⊎_elim, ℕ, Bool, true, false, cond, List, [], ◌∷◌, ◌++◌, Some, None, pos, refl, sym}
use Rattle.std.proofs.Common.{ap, ◌∙◌, append_assoc, append-nil}
use Rattle.std.specs.List.{flat_map, list_all, cons_option}
use Rattle.std.specs.Prelude.{ℤ}
use Rattle.std.specs.Option.{option_or}
use Rattle.std.proofs.lemmas.Bool.{and_parts}
use Rattle.mm_schema.specs.Name.{IsName}
use Rattle.mm_schema.specs.declared.column.OnDelete.{OnDelete}
use Rattle.mm_schema.specs.declared.column.OnDelete.TheVariants.{Cascade, Restrict}
use Rattle.mm_schema.specs.declared.column.Role.{Role}
use Rattle.mm_schema.specs.declared.column.Role.TheVariants.{Plain, Key, Reference}
use Rattle.mm_schema.specs.declared.index.IndexKind.{IndexKind}
use Rattle.mm_schema.specs.declared.index.IndexKind.TheVariants as kind
use Rattle.mm_value.specs.Literal.{is_within_limit}
use Rattle.mm_value.specs.declared.col_type.ColType.{ColType}
use Rattle.mm_value.specs.declared.col_type.ColType.TheVariants as type
use Rattle.mm_value.specs.declared.values.Value.{Value}
use Rattle.mm_value.specs.declared.values.Value.TheVariants.{Int, Text}
use Rattle.mm_query.specs.declared.atom.Atom.{Atom}
use Rattle.mm_query.specs.declared.atom.Comparison.{Comparison}
use Rattle.mm_query.specs.declared.atom.Comparison.TheVariants as compared
use Rattle.mm_query.specs.declared.atom.Operand.TheVariants as kind_of
use Rattle.mm_query.specs.declared.command.Command.{Command}
use Rattle.mm_query.specs.declared.command.Command.TheVariants as command
use Rattle.mm_query.specs.declared.command.Definition.TheVariants as define
use Rattle.mm_query.specs.declared.command.Mutation.TheVariants as change
use Rattle.mm_query.specs.declared.query.Query.{Query}
use Rattle.mm_lang.specs.declared.read.keyword.Keyword.{Keyword}
use Rattle.mm_lang.specs.declared.read.keyword.Keyword.TheVariants as keyword
use Rattle.mm_lang.specs.declared.read.token.Symbol.TheVariants.{Open, Close, Comma, Dot, Equal}
use Rattle.mm_lang.specs.Grammar.{command_of}
use Rattle.mm_lang.specs.Reading.{assignment_literals, first_fault, literals_among, literals_of, operand_literals, past_limit, position_literals}
use Rattle.mm_lang.specs.Reading.{query_literals, test_literals}
use Rattle.mm_lang.specs.Spelling.{word, type_word, kind_word, comparison_symbol, SpellsLiteral, SpellsOne, SpellsList, SpellsClause, SpellsInParentheses}
use Rattle.mm_lang.specs.Spelling.{SpellsTuple, SpellsOnDelete, SpellsRole, SpellsColumn, SpellsDigits, SpellsUnit, SpellsShift, SpellsName, SpellsField}
use Rattle.mm_lang.specs.Spelling.{SpellsOperandOn, SpellsTestOn, SpellsAssignment, SpellsTestsOn, SpellsFromItem, SpellsDistinct, SpellsPosition, SpellsOrder}
use Rattle.mm_lang.specs.Spelling.{SpellsQuery, SpellsCommand}
use Rattle.mm_lang.specs.Tokens.{Token, Word, Signed, Quoted, Mark, Hole}
use Rattle.mm_lang.specs.steps.Parsing.{no_literals, only_literal}
use Rattle.mm_lang.proofs.SpelledWords.{literal_spelled, name_no_literal}
use Rattle.mm_lang.proofs.SpelledCommands.{command_read}
use Rattle.mm_lang.proofs.SpelledSelect.{regrouped}
use Rattle.mm_lang.proofs.TupleValues.{all_literals}

-- the literals among some tokens
abbrev among : List Token → List Value
among ts = literals_among ts

-- A spelling followed by any tokens contributes exactly the value's literals.
abbrev HasLiterals : {A : Type 0} → (List Token → A → Type 0) → (A → List Value) → Type 0
HasLiterals {A} Spells literals = (ts : List Token) (x : A) (us : List Token) → Spells ts x → among (ts ++ us) ≡ literals x ++ among us

literal_front : (t : Token) (v : Value) (us : List Token) → SpellsLiteral t v → among (t ∷ us) ≡ v ∷ among us
literal_front (Word w) (Int z) us h = ap (λ o. cons_option o (among us)) (literal_spelled (Word w) (Int z) h)
literal_front (Signed w) (Int z) us h = ap (λ o. cons_option o (among us)) (literal_spelled (Signed w) (Int z) h)
literal_front (Quoted text) (Text said) us h = ap (λ o. cons_option o (among us)) (literal_spelled (Quoted text) (Text said) h)
literal_front Hole (Int z) us h = ap (λ o. cons_option o (among us)) (literal_spelled Hole (Int z) h)
literal_front _ _ us h = absurd h

one_literal : HasLiterals (SpellsOne SpellsLiteral) only_literal
one_literal ts v us h = ap (λ l. among (l ++ us)) h.2 ∙ literal_front h.0 v us h.1

list_literals : {A : Type 0} (separator : Token) (Spells : List Token → A → Type 0) (literals : A → List Value)
    → ((us : List Token) → among (separator ∷ us) ≡ among us) → HasLiterals Spells literals → (xs : List A) (ts us : List Token)
    → SpellsList separator Spells ts xs → among (ts ++ us) ≡ flat_map literals xs ++ among us
list_literals separator Spells literals none each [] ts us h = absurd h
list_literals separator Spells literals none each (x ∷ []) ts us h = each ts x us h ∙ ap (λ l. l ++ among us) (sym (append-nil (literals x)))
list_literals separator Spells literals none each (x ∷ y ∷ xs) ts us h =
    ap (λ l. among (l ++ us)) h.4 ∙ ap among (append_assoc h.0 (separator ∷ h.1) us)
    ∙ each h.0 x (separator ∷ h.1 ++ us) h.2
    ∙ ap (λ l. literals x ++ l) (none (h.1 ++ us) ∙ list_literals separator Spells literals none each (y ∷ xs) h.1 us h.3)
    ∙ sym (append_assoc (literals x) (flat_map literals (y ∷ xs)) (among us))

in_parentheses_literals : {A : Type 0} (Spells : List Token → A → Type 0) (literals : A → List Value) → HasLiterals Spells literals
    → HasLiterals (SpellsInParentheses Spells) literals
in_parentheses_literals Spells literals each ts x us h =
    ap (λ l. among (l ++ us)) h.2 ∙ ap among (append_assoc h.0 (Mark Close ∷ []) us) ∙ each h.0 x (Mark Close ∷ us) h.1

tuple_literals : HasLiterals SpellsTuple (λ values. values)
tuple_literals ts values us h =
    in_parentheses_literals (SpellsList (Mark Comma) (SpellsOne SpellsLiteral)) (flat_map only_literal)
    (λ ts vs us k. list_literals (Mark Comma) (SpellsOne SpellsLiteral) only_literal (λ us. refl) one_literal vs ts us k) ts values us h
    ∙ ap (λ l. l ++ among us) (all_literals values)

type_no_literal : (t : ColType) (ts : List Token) → among (word (type_word t) ∷ ts) ≡ among ts
type_no_literal type.Int ts = refl
type_no_literal type.Text ts = refl

kind_no_literal : (k : IndexKind) → among (word (kind_word k) ∷ []) ≡ []
kind_no_literal kind.Tree = refl
kind_no_literal kind.Hash = refl

behind_name : (name : List ℕ) (ts : List Token) → IsName name → among (Word name ∷ ts) ≡ among ts
behind_name name ts named = ap (λ o. cons_option o (among ts)) (name_no_literal name named)

on_delete_no_literal : (ts : List Token) (d : OnDelete) (us : List Token) → SpellsOnDelete ts d → among (ts ++ us) ≡ among us
on_delete_no_literal ts Restrict us spelled = ap (λ l. among (l ++ us)) spelled
on_delete_no_literal ts Cascade us spelled = ap (λ l. among (l ++ us)) spelled

role_no_literal : (ts : List Token) (r : Role) (us : List Token) → SpellsRole ts r → among (ts ++ us) ≡ among us
role_no_literal ts Key us spelled = ap (λ l. among (l ++ us)) spelled
role_no_literal ts Plain us spelled = ap (λ l. among (l ++ us)) spelled
role_no_literal ts (Reference target on_delete) us spelled =
    ap (λ l. among (l ++ us)) spelled.3 ∙ behind_name target (spelled.0 ++ us) spelled.1 ∙ on_delete_no_literal spelled.0 on_delete us spelled.2

column_literals : HasLiterals SpellsColumn no_literals
column_literals ts c us h =
    ap (λ l. among (l ++ us)) h.3 ∙ behind_name c.name (word (type_word c.col_type) ∷ h.0 ++ us) h.1 ∙ type_no_literal c.col_type (h.0 ++ us)
    ∙ role_no_literal h.0 c.role us h.2

none_at_all : {A : Type 0} (xs : List A) → flat_map no_literals xs ≡ []
none_at_all [] = refl
none_at_all (x ∷ xs) = none_at_all xs

-- tests and assignments

digits_literal : (ts : List Token) (z : ℤ) (us : List Token) → SpellsDigits ts z → among (ts ++ us) ≡ Int z ∷ among us
digits_literal ts z us h =
    ⊎_elim
    (λ plus. ap (λ l. among (l ++ us)) plus.0 ∙ ap (λ o. cons_option o (among us)) (literal_spelled (Word h.0) (Int z) (h.1, plus.1)))
    (λ minus.
    ⊎_elim
    (λ apart. ap (λ l. among (l ++ us)) apart ∙ ap (λ o. cons_option o (among us)) (literal_spelled (Signed h.0) (Int z) (h.1, minus.1)))
    (λ joined. ap (λ l. among (l ++ us)) joined ∙ ap (λ o. cons_option o (among us)) (literal_spelled (Signed h.0) (Int z) (h.1, minus.1)))
    minus.0)
    h.2

unit_literal : (ts : List Token) (z : ℤ) (us : List Token) → SpellsUnit ts z → among (ts ++ us) ≡ Int z ∷ among us
unit_literal ts z us (inl plus) = ap (λ l. among (l ++ us)) plus.0 ∙ ap (λ n. Int n ∷ among us) (sym plus.1)
unit_literal ts z us (inr minus) = ap (λ l. among (l ++ us)) minus.0 ∙ ap (λ n. Int n ∷ among us) (sym minus.1)

shift_literal : (ts : List Token) (z : ℤ) (us : List Token) → SpellsShift ts z → among (ts ++ us) ≡ Int z ∷ among us
shift_literal ts z us h = ⊎_elim (digits_literal ts z us) (unit_literal ts z us) h

comparison_no_literal : (c : Comparison) (us : List Token) → among (Mark (comparison_symbol c) ∷ us) ≡ among us
comparison_no_literal compared.Equal us = refl
comparison_no_literal compared.Less us = refl
comparison_no_literal compared.LessOrEqual us = refl
comparison_no_literal compared.Greater us = refl
comparison_no_literal compared.GreaterOrEqual us = refl

module _ {F : Type 0} (Spells : List Token → F → Type 0) (none : HasLiterals Spells no_literals) where
  operand_among : HasLiterals (SpellsOperandOn Spells) operand_literals
  operand_among ts (kind_of.Literal v) us h = one_literal ts v us h
  operand_among ts (kind_of.Column f) us h = none ts f us h
  operand_among ts (kind_of.Shifted f z) us h =
      ap (λ l. among (l ++ us)) h.4 ∙ ap among (append_assoc h.0 h.1 us) ∙ none h.0 f (h.1 ++ us) h.2 ∙ shift_literal h.1 z us h.3

  test_among : HasLiterals (SpellsTestOn Spells) test_literals
  test_among ts a us h =
      let behind = Mark (comparison_symbol a.comparison) ∷ h.1 in
      ap (λ l. among (l ++ us)) h.4 ∙ ap among (append_assoc h.0 behind us) ∙ none h.0 a.left (behind ++ us) h.2
      ∙ comparison_no_literal a.comparison (h.1 ++ us) ∙ operand_among h.1 a.right us h.3

clause_among : {A : Type 0} (wanted : Keyword) (separator : Token) (Spells : List Token → A → Type 0) (literals : A → List Value)
    → ((us : List Token) → among (word wanted ∷ us) ≡ among us) → ((us : List Token) → among (separator ∷ us) ≡ among us) → HasLiterals Spells literals
    → HasLiterals (SpellsClause wanted separator Spells) (flat_map literals)
clause_among wanted separator Spells literals keyword_none none each ts [] us h = ap (λ l. among (l ++ us)) h
clause_among wanted separator Spells literals keyword_none none each ts (x ∷ xs) us h =
    ap (λ l. among (l ++ us)) h.2 ∙ keyword_none (h.0 ++ us) ∙ list_literals separator Spells literals none each (x ∷ xs) h.0 us h.1

tests_among : {F : Type 0} (Spells : List Token → F → Type 0) → HasLiterals Spells no_literals → HasLiterals (SpellsTestsOn Spells) (flat_map test_literals)
tests_among Spells none =
    clause_among keyword.Where (word keyword.And) (SpellsTestOn Spells) test_literals (λ us. refl) (λ us. refl) (test_among Spells none)

name_among : HasLiterals SpellsName no_literals
name_among ts n us h = ap (λ l. among (l ++ us)) h.1 ∙ behind_name n us h.0

name_tests_among : (asked : List (Atom (List ℕ))) (ts : List Token) → SpellsTestsOn SpellsName ts asked → among ts ≡ flat_map test_literals asked
name_tests_among asked ts h =
    ap among (sym (append-nil ts)) ∙ tests_among SpellsName name_among ts asked [] h ∙ append-nil (flat_map test_literals asked)

assignment_among : HasLiterals SpellsAssignment assignment_literals
assignment_among ts a us h =
    ap (λ l. among (l ++ us)) h.3 ∙ behind_name a.column (Mark Equal ∷ h.0 ++ us) h.1 ∙ operand_among SpellsName name_among h.0 a.source us h.2

-- the parts of a query

field_among : HasLiterals SpellsField no_literals
field_among ts f us h =
    ap (λ l. among (l ++ us)) h.2 ∙ behind_name f.alias (Mark Dot ∷ Word f.column ∷ us) h.0 ∙ behind_name f.column us h.1

item_among : HasLiterals SpellsFromItem no_literals
item_among ts i us h = ap (λ l. among (l ++ us)) h.2 ∙ behind_name i.table (Word i.alias ∷ us) h.0 ∙ behind_name i.alias us h.1

position_front : (t : Token) (n : ℕ) (us : List Token) → SpellsPosition t n → among (t ∷ us) ≡ Int (pos n) ∷ among us
position_front (Word w) n us h = ap (λ o. cons_option o (among us)) (literal_spelled (Word w) (Int (pos n)) (h.0, ap pos h.1))
position_front _ n us h = absurd h

position_among : HasLiterals (SpellsOne SpellsPosition) position_literals
position_among ts n us h = ap (λ l. among (l ++ us)) h.2 ∙ position_front h.0 n us h.1

order_among : HasLiterals SpellsOrder (flat_map position_literals)
order_among = clause_among keyword.Order (Mark Comma) (SpellsOne SpellsPosition) position_literals (λ us. refl) (λ us. refl) position_among

distinct_among : (ts : List Token) (distinct : Bool) (us : List Token) → SpellsDistinct ts distinct → among (ts ++ us) ≡ among us
distinct_among ts true us h = ap (λ l. among (l ++ us)) h
distinct_among ts false us h = ap (λ l. among (l ++ us)) h

query_among : (ts : List Token) (q : Query) → SpellsQuery ts q → among ts ≡ query_literals q
query_among ts q h =
    let tail = h.3 ++ h.4 in
    ap among (h.10 ∙ regrouped h.0 h.1 (word keyword.From ∷ h.2) h.3 h.4)
    ∙ distinct_among h.0 q.distinct (h.1 ++ word keyword.From ∷ (h.2 ++ tail)) h.5
    ∙ list_literals (Mark Comma) SpellsField no_literals (λ us. refl) field_among q.fields h.1 (word keyword.From ∷ (h.2 ++ tail)) h.6
    ∙ ap (λ l. l ++ among (h.2 ++ tail)) (none_at_all q.fields)
    ∙ list_literals (Mark Comma) SpellsFromItem no_literals (λ us. refl) item_among q.from h.2 tail h.7
    ∙ ap (λ l. l ++ among tail) (none_at_all q.from)
    ∙ tests_among SpellsField field_among h.3 q.atoms h.4 h.8
    ∙ ap (λ l. flat_map test_literals q.atoms ++ l)
    (ap among (sym (append-nil h.4)) ∙ order_among h.4 q.order [] h.9 ∙ append-nil (flat_map position_literals q.order))

-- commands

spelled_literals : (ts : List Token) (c : Command) → SpellsCommand ts c → literals_of c ≡ among ts
spelled_literals ts command.Nothing h = absurd h
spelled_literals ts (command.Define (define.Table definition)) h =
    sym (
    ap among h.4 ∙ behind_name definition.name h.0 h.1 ∙ ap among (sym (append-nil h.0))
    ∙ in_parentheses_literals (SpellsList (Mark Comma) SpellsColumn) (flat_map no_literals)
    (λ ts cs us k. list_literals (Mark Comma) SpellsColumn no_literals (λ us. refl) column_literals cs ts us k) h.0 definition.columns [] h.3
    ∙ ap (λ l. l ++ []) (none_at_all definition.columns))
spelled_literals ts (command.Define (define.DropTable n)) h = sym (ap among h.1 ∙ behind_name n [] h.0)
spelled_literals ts (command.Define (define.Index i)) h =
    let behind = Word i.column ∷ Mark Close ∷ word (kind_word i.kind) ∷ [] in
    sym (
    ap among h.3 ∙ behind_name i.name (word keyword.On ∷ Word i.table ∷ Mark Open ∷ behind) h.0
    ∙ behind_name i.table (Mark Open ∷ behind) h.1
    ∙ behind_name i.column (Mark Close ∷ word (kind_word i.kind) ∷ []) h.2 ∙ kind_no_literal i.kind)
spelled_literals ts (command.Define (define.DropIndex n)) h = sym (ap among h.1 ∙ behind_name n [] h.0)
spelled_literals ts (command.Define (define.Watch watched)) h =
    sym (ap among h.3 ∙ behind_name watched.name (word keyword.Select ∷ h.0) h.1 ∙ query_among h.0 watched.query h.2)
spelled_literals ts (command.Define (define.Unwatch n)) h = sym (ap among h.1 ∙ behind_name n [] h.0)
spelled_literals ts (command.Change (change.Insert table tuples)) h =
    sym (
    ap among h.3 ∙ behind_name table h.0 h.1 ∙ ap among (sym (append-nil h.0))
    ∙ list_literals (Mark Comma) SpellsTuple (λ values. values) (λ us. refl) tuple_literals tuples h.0 [] h.2
    ∙ append-nil (flat_map (λ values. values) tuples))
spelled_literals ts (command.Change (change.Update table set asked)) h =
    sym (
    ap among h.5 ∙ behind_name table (word keyword.Set ∷ h.0 ++ h.1) h.2
    ∙ list_literals (Mark Comma) SpellsAssignment assignment_literals (λ us. refl) assignment_among set h.0 h.1 h.3
    ∙ ap (λ l. flat_map assignment_literals set ++ l) (name_tests_among asked h.1 h.4))
spelled_literals ts (command.Change (change.Delete table asked)) h =
    sym (ap among h.3 ∙ behind_name table h.0 h.1 ∙ name_tests_among asked h.0 h.2)
spelled_literals ts (command.Scan table) h = sym (ap among h.1 ∙ behind_name table [] h.0)
spelled_literals ts (command.ScanIndex i) h = sym (ap among h.1 ∙ behind_name i [] h.0)
spelled_literals ts (command.Select q) h = sym (ap among h.2 ∙ query_among h.0 q h.1)
spelled_literals ts (command.Explain q) h = sym (ap among h.2 ∙ query_among h.0 q h.1)
spelled_literals ts (command.Show n) h = sym (ap among h.1 ∙ behind_name n [] h.0)
spelled_literals ts command.Tables h = sym (ap among h)
spelled_literals ts command.Begin h = sym (ap among h)
spelled_literals ts command.Commit h = sym (ap among h)
spelled_literals ts command.Rollback h = sym (ap among h)
spelled_literals ts (command.Savepoint n) h = sym (ap among h.1 ∙ behind_name n [] h.0)
spelled_literals ts (command.RollbackTo n) h = sym (ap among h.1 ∙ behind_name n [] h.0)

pub read_literals : (ts : List Token) (c : Command) → command_of ts ≡ Some c → literals_of c ≡ among ts
read_literals ts c e = spelled_literals ts c (command_read ts c e)

-- the first literal past its limit is refused
pub first_past : (front behind : List Value) (v : Value) → list_all is_within_limit front ≡ true → is_within_limit v ≡ false
    → first_fault (front ++ v ∷ behind) ≡ Some (past_limit v)
first_past [] behind v within past = ap (λ b. option_or (cond b None (Some (past_limit v))) (first_fault behind)) past
first_past (x ∷ xs) behind v within past =
    let p = and_parts (is_within_limit x) (list_all is_within_limit xs) within in
    ap (λ b. option_or (cond b None (Some (past_limit x))) (first_fault (xs ++ v ∷ behind))) p.0 ∙ first_past xs behind v p.1 past
