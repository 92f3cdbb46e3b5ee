-- No sign precedes a number with a minus of its own.
use Rattle.std.proofs.Common.{◌≡◌, inl, inr, ⊎_elim, ℕ, Bool, true, false, not, ◌&&◌, List, [], ◌∷◌, ◌++◌}
use Rattle.std.proofs.Common.{refl, sym, ap, ◌∙◌, append_assoc, append-nil}
use Rattle.std.specs.List.{AllByRecursion, AllZip}
use Rattle.std.proofs.lemmas.Bool.{cases_Bool, false≢true}
use Rattle.mm_schema.specs.declared.column.OnDelete.{OnDelete}
use Rattle.mm_schema.specs.declared.column.OnDelete.TheVariants.{Cascade, Restrict}
use Rattle.mm_schema.specs.declared.column.Role.TheVariants as role
use Rattle.mm_value.specs.declared.values.Value.{Value}
use Rattle.mm_query.specs.declared.atom.Comparison.{Comparison}
use Rattle.mm_query.specs.declared.atom.Comparison.TheVariants as compared
use Rattle.mm_query.specs.declared.atom.Operand.TheVariants as operand
use Rattle.mm_query.specs.declared.command.Command.{Command}
use Rattle.mm_query.specs.declared.command.Command.TheVariants as command
use Rattle.mm_query.specs.declared.command.Definition.TheVariants as define
use Rattle.mm_query.specs.declared.command.Mutation.TheVariants as change
use Rattle.mm_query.specs.declared.query.Query.{Query}
use Rattle.mm_lang.specs.Spelling.{SpellsAssignment, SpellsClause, SpellsColumn, SpellsCommand, SpellsDistinct, SpellsField, SpellsFromItem}
use Rattle.mm_lang.specs.Spelling.{SpellsInParentheses, SpellsList, SpellsLiteral, SpellsName, SpellsOnDelete, SpellsOne, SpellsOperandOn, SpellsOrder}
use Rattle.mm_lang.specs.Spelling.{SpellsPosition, SpellsQuery, SpellsRole, SpellsShift, SpellsTestOn, SpellsTestsOn, SpellsTuple}
use Rattle.mm_lang.specs.Spelling.{comparison_symbol, type_word, word}
use Rattle.mm_lang.specs.Tokens.{Token, Word, Signed, Mark, Hole}
use Rattle.mm_lang.specs.declared.read.keyword.Keyword.{Keyword}
use Rattle.mm_lang.specs.declared.read.keyword.Keyword.TheVariants as keyword
use Rattle.mm_lang.specs.declared.read.token.Symbol.TheVariants.{Close, Comma, Dot, Equal, Plus, Minus}
use Rattle.mm_statement.specs.Texts.{begins_minus, keeps_signs}
use Rattle.mm_statement.proofs.TextBytes.{HasSign, in_place, is_signed}
use Rattle.mm_lang.proofs.SpelledSelect.{regrouped}

-- a sign directly before a number with a minus
unfoldable pub signs_twice : List Token → Bool
signs_twice [] = false
signs_twice (Mark Plus ∷ Signed w ∷ ts) = true
signs_twice (Mark Minus ∷ Signed w ∷ ts) = true
signs_twice (t ∷ ts) = signs_twice ts

-- ---- a command has none

-- the token is not a sign
abbrev IsUnsigned : Token → Type 0
IsUnsigned (Mark Plus) = ⊥
IsUnsigned (Mark Minus) = ⊥
IsUnsigned token = Unit {0}

abbrev AreUnsigned : List Token → Type 0
AreUnsigned ts = AllByRecursion IsUnsigned ts

unsigned_step : (t : Token) (us : List Token) → IsUnsigned t → signs_twice (t ∷ us) ≡ signs_twice us
unfolding signs_twice
unsigned_step (Mark Plus) us h = absurd h
unsigned_step (Mark Minus) us h = absurd h
unsigned_step t us h = refl

unsigned_front : (ts us : List Token) → AreUnsigned ts → signs_twice (ts ++ us) ≡ signs_twice us
unsigned_front [] us h = refl
unsigned_front (t ∷ ts) us h = unsigned_step t (ts ++ us) h.0 ∙ unsigned_front ts us h.1

-- A spelling has no sign directly before a number with a minus, whatever tokens follow.
abbrev SignsOnce : {A : Type 0} → (List Token → A → Type 0) → Type 0
SignsOnce {A} Spelled = (ts : List Token) (x : A) (us : List Token) → Spelled ts x → signs_twice (ts ++ us) ≡ signs_twice us

once_alone : {A : Type 0} (Spelled : List Token → A → Type 0) → SignsOnce Spelled → (ts : List Token) (x : A) → Spelled ts x → signs_twice ts ≡ false
unfolding signs_twice
once_alone Spelled once ts x h = ap signs_twice (sym (append-nil ts)) ∙ once ts x [] h

list_once : {A : Type 0} (separator : Token) (Spelled : List Token → A → Type 0) → IsUnsigned separator → SignsOnce Spelled → (xs : List A)
    (ts us : List Token) → SpellsList separator Spelled ts xs → signs_twice (ts ++ us) ≡ signs_twice us
list_once separator Spelled plain each [] ts us h = absurd h
list_once separator Spelled plain each (x ∷ []) ts us h = each ts x us h
list_once separator Spelled plain each (x ∷ y ∷ xs) ts us h =
    ap (λ l. signs_twice (l ++ us)) h.4 ∙ ap signs_twice (append_assoc h.0 (separator ∷ h.1) us)
    ∙ each h.0 x (separator ∷ h.1 ++ us) h.2 ∙ unsigned_step separator (h.1 ++ us) plain
    ∙ list_once separator Spelled plain each (y ∷ xs) h.1 us h.3

clause_once : {A : Type 0} (wanted : Keyword) (separator : Token) (Spelled : List Token → A → Type 0) → IsUnsigned separator → SignsOnce Spelled
    → SignsOnce (SpellsClause wanted separator Spelled)
clause_once wanted separator Spelled plain each ts [] us h = ap (λ l. signs_twice (l ++ us)) h
clause_once wanted separator Spelled plain each ts (x ∷ xs) us h =
    ap (λ l. signs_twice (l ++ us)) h.2 ∙ unsigned_step (word wanted) (h.0 ++ us) tt ∙ list_once separator Spelled plain each (x ∷ xs) h.0 us h.1

parentheses_once : {A : Type 0} (Spelled : List Token → A → Type 0) → SignsOnce Spelled → SignsOnce (SpellsInParentheses Spelled)
unfolding signs_twice
parentheses_once Spelled each ts x us h =
    ap (λ l. signs_twice (l ++ us)) h.2 ∙ ap signs_twice (append_assoc h.0 (Mark Close ∷ []) us) ∙ each h.0 x (Mark Close ∷ us) h.1

literal_unsigned : (t : Token) (v : Value) → SpellsLiteral t v → IsUnsigned t
literal_unsigned (Mark s) v h = absurd h
literal_unsigned t v h = tt

literal_once : SignsOnce (SpellsOne SpellsLiteral)
literal_once ts v us h = ap (λ l. signs_twice (l ++ us)) h.2 ∙ unsigned_step h.0 us (literal_unsigned h.0 v h.1)

tuple_once : SignsOnce SpellsTuple
tuple_once =
    parentheses_once (SpellsList (Mark Comma) (SpellsOne SpellsLiteral))
    (λ ts vs us k. list_once (Mark Comma) (SpellsOne SpellsLiteral) tt literal_once vs ts us k)

shift_once : SignsOnce SpellsShift
unfolding signs_twice
shift_once ts z us (inl h) =
    ⊎_elim (λ plus. ap (λ l. signs_twice (l ++ us)) plus.0)
    (λ minus. ⊎_elim (λ apart. ap (λ l. signs_twice (l ++ us)) apart) (λ joined. ap (λ l. signs_twice (l ++ us)) joined) minus.0)
    h.2
shift_once ts z us (inr (inl plus)) = ap (λ l. signs_twice (l ++ us)) plus.0
shift_once ts z us (inr (inr minus)) = ap (λ l. signs_twice (l ++ us)) minus.0

comparison_unsigned : (c : Comparison) → IsUnsigned (Mark (comparison_symbol c))
comparison_unsigned compared.Equal = tt
comparison_unsigned compared.Less = tt
comparison_unsigned compared.LessOrEqual = tt
comparison_unsigned compared.Greater = tt
comparison_unsigned compared.GreaterOrEqual = tt

module _ {F : Type 0} (Spelled : List Token → F → Type 0) (column : SignsOnce Spelled) where
  operand_once : SignsOnce (SpellsOperandOn Spelled)
  operand_once ts (operand.Literal v) us h = literal_once ts v us h
  operand_once ts (operand.Column f) us h = column ts f us h
  operand_once ts (operand.Shifted f z) us h =
      ap (λ l. signs_twice (l ++ us)) h.4 ∙ ap signs_twice (append_assoc h.0 h.1 us) ∙ column h.0 f (h.1 ++ us) h.2 ∙ shift_once h.1 z us h.3

  test_once : SignsOnce (SpellsTestOn Spelled)
  test_once ts a us h =
      let behind = Mark (comparison_symbol a.comparison) ∷ h.1 in
      ap (λ l. signs_twice (l ++ us)) h.4 ∙ ap signs_twice (append_assoc h.0 behind us) ∙ column h.0 a.left (behind ++ us) h.2
      ∙ unsigned_step (Mark (comparison_symbol a.comparison)) (h.1 ++ us) (comparison_unsigned a.comparison) ∙ operand_once h.1 a.right us h.3

  tests_once : SignsOnce (SpellsTestsOn Spelled)
  tests_once = clause_once keyword.Where (word keyword.And) (SpellsTestOn Spelled) tt test_once

name_once : SignsOnce SpellsName
name_once ts n us h = ap (λ l. signs_twice (l ++ us)) h.1 ∙ unsigned_step (Word n) us tt

assignment_once : SignsOnce SpellsAssignment
assignment_once ts a us h =
    ap (λ l. signs_twice (l ++ us)) h.3 ∙ unsigned_front (Word a.column ∷ Mark Equal ∷ []) (h.0 ++ us) (tt, (tt, tt))
    ∙ operand_once SpellsName name_once h.0 a.source us h.2

field_once : SignsOnce SpellsField
field_once ts f us h =
    ap (λ l. signs_twice (l ++ us)) h.2 ∙ unsigned_front (Word f.alias ∷ Mark Dot ∷ Word f.column ∷ []) us (tt, (tt, (tt, tt)))

item_once : SignsOnce SpellsFromItem
item_once ts i us h = ap (λ l. signs_twice (l ++ us)) h.2 ∙ unsigned_front (Word i.table ∷ Word i.alias ∷ []) us (tt, (tt, tt))

distinct_once : SignsOnce SpellsDistinct
distinct_once ts true us h = ap (λ l. signs_twice (l ++ us)) h ∙ unsigned_step (word keyword.Distinct) us tt
distinct_once ts false us h = ap (λ l. signs_twice (l ++ us)) h

position_unsigned : (t : Token) (n : ℕ) → SpellsPosition t n → IsUnsigned t
position_unsigned (Word w) n h = tt
position_unsigned _ n h = absurd h

order_once : SignsOnce SpellsOrder
order_once =
    clause_once keyword.Order (Mark Comma) (SpellsOne SpellsPosition) tt
    (λ ts n us h. ap (λ l. signs_twice (l ++ us)) h.2 ∙ unsigned_step h.0 us (position_unsigned h.0 n h.1))

query_once : (ts : List Token) (q : Query) → SpellsQuery ts q → signs_twice ts ≡ false
query_once ts q h =
    let tail = h.3 ++ h.4 in
    ap signs_twice (h.10 ∙ regrouped h.0 h.1 (word keyword.From ∷ h.2) h.3 h.4)
    ∙ distinct_once h.0 q.distinct (h.1 ++ word keyword.From ∷ (h.2 ++ tail)) h.5
    ∙ list_once (Mark Comma) SpellsField tt field_once q.fields h.1 (word keyword.From ∷ (h.2 ++ tail)) h.6
    ∙ unsigned_step (word keyword.From) (h.2 ++ tail) tt
    ∙ list_once (Mark Comma) SpellsFromItem tt item_once q.from h.2 tail h.7
    ∙ tests_once SpellsField field_once h.3 q.atoms h.4 h.8
    ∙ once_alone SpellsOrder order_once h.4 q.order h.9

-- ---- definitions

role_once : SignsOnce SpellsRole
role_once ts role.Key us h = ap (λ l. signs_twice (l ++ us)) h ∙ unsigned_step (word keyword.Key) us tt
role_once ts role.Plain us h = ap (λ l. signs_twice (l ++ us)) h
role_once ts (role.Reference table on_delete) us h =
    ap (λ l. signs_twice (l ++ us)) h.3 ∙ unsigned_front (word keyword.Ref ∷ Word table ∷ []) (h.0 ++ us) (tt, (tt, tt))
    ∙ by h.0 on_delete h.2
  where
    by : (ts : List Token) (d : OnDelete) → SpellsOnDelete ts d → signs_twice (ts ++ us) ≡ signs_twice us
    by ts Restrict k = ap (λ l. signs_twice (l ++ us)) k
    by ts Cascade k = ap (λ l. signs_twice (l ++ us)) k ∙ unsigned_step (word keyword.Cascade) us tt

column_once : SignsOnce SpellsColumn
column_once ts c us h =
    ap (λ l. signs_twice (l ++ us)) h.3 ∙ unsigned_front (Word c.name ∷ word (type_word c.col_type) ∷ []) (h.0 ++ us) (tt, (tt, tt))
    ∙ role_once h.0 c.role us h.2

-- ---- commands

-- only words
words_once : (ts us : List Token) → AreUnsigned us → ts ≡ us → signs_twice ts ≡ false
unfolding signs_twice
words_once ts us plain is = ap signs_twice (is ∙ sym (append-nil us)) ∙ unsigned_front us [] plain

-- words, followed by a part
part_once : (ts front rest : List Token) → AreUnsigned front → ts ≡ front ++ rest → signs_twice rest ≡ false → signs_twice ts ≡ false
part_once ts front rest plain is once = ap signs_twice is ∙ unsigned_front front rest plain ∙ once

pub command_once : (ts : List Token) (c : Command) → SpellsCommand ts c → signs_twice ts ≡ false
command_once ts command.Nothing h = absurd h
command_once ts (command.Define (define.Table definition)) h =
    part_once ts (word keyword.Table ∷ Word definition.name ∷ []) h.0 (tt, (tt, tt)) h.4
    (once_alone (SpellsInParentheses (SpellsList (Mark Comma) SpellsColumn))
    (parentheses_once (SpellsList (Mark Comma) SpellsColumn) (λ ts cs us k. list_once (Mark Comma) SpellsColumn tt column_once cs ts us k))
    h.0 definition.columns h.3)
command_once ts (command.Define (define.DropTable n)) h = words_once ts _ (tt, (tt, (tt, tt))) h.1
command_once ts (command.Define (define.Index i)) h = words_once ts _ (tt, (tt, (tt, (tt, (tt, (tt, (tt, (tt, tt)))))))) h.3
command_once ts (command.Define (define.DropIndex n)) h = words_once ts _ (tt, (tt, (tt, tt))) h.1
command_once ts (command.Define (define.Watch watched)) h =
    part_once ts (word keyword.Watch ∷ Word watched.name ∷ word keyword.Select ∷ []) h.0 (tt, (tt, (tt, tt))) h.3 (query_once h.0 watched.query h.2)
command_once ts (command.Define (define.Unwatch n)) h = words_once ts _ (tt, (tt, tt)) h.1
command_once ts (command.Change (change.Insert table tuples)) h =
    part_once ts (word keyword.Insert ∷ Word table ∷ []) h.0 (tt, (tt, tt)) h.3
    (once_alone (SpellsList (Mark Comma) SpellsTuple) (λ ts xs us k. list_once (Mark Comma) SpellsTuple tt tuple_once xs ts us k) h.0 tuples h.2)
command_once ts (command.Change (change.Update table set asked)) h =
    part_once ts (word keyword.Update ∷ Word table ∷ word keyword.Set ∷ []) (h.0 ++ h.1) (tt, (tt, (tt, tt))) h.5
    (list_once (Mark Comma) SpellsAssignment tt assignment_once set h.0 h.1 h.3
    ∙ once_alone (SpellsTestsOn SpellsName) (tests_once SpellsName name_once) h.1 asked h.4)
command_once ts (command.Change (change.Delete table asked)) h =
    part_once ts (word keyword.Delete ∷ Word table ∷ []) h.0 (tt, (tt, tt)) h.3
    (once_alone (SpellsTestsOn SpellsName) (tests_once SpellsName name_once) h.0 asked h.2)
command_once ts (command.Scan table) h = words_once ts _ (tt, (tt, tt)) h.1
command_once ts (command.ScanIndex i) h = words_once ts _ (tt, (tt, (tt, tt))) h.1
command_once ts (command.Select q) h = part_once ts (word keyword.Select ∷ []) h.0 (tt, tt) h.2 (query_once h.0 q h.1)
command_once ts (command.Explain q) h = part_once ts (word keyword.Explain ∷ word keyword.Select ∷ []) h.0 (tt, (tt, tt)) h.2 (query_once h.0 q h.1)
command_once ts (command.Show n) h = words_once ts _ (tt, (tt, tt)) h.1
command_once ts command.Tables h = words_once ts _ (tt, tt) h
command_once ts command.Begin h = words_once ts _ (tt, tt) h
command_once ts command.Commit h = words_once ts _ (tt, tt) h
command_once ts command.Rollback h = words_once ts _ (tt, tt) h
command_once ts (command.Savepoint n) h = words_once ts _ (tt, (tt, tt)) h.1
command_once ts (command.RollbackTo n) h = words_once ts _ (tt, (tt, (tt, tt))) h.1

-- ---- a literal with a minus after a sign

twice_behind : (t : Token) (us : List Token) → signs_twice us ≡ true → signs_twice (t ∷ us) ≡ true
unfolding signs_twice
twice_behind (Mark Plus) (Signed w ∷ us) h = refl
twice_behind (Mark Minus) (Signed w ∷ us) h = refl
twice_behind t us h = h

plus_signed : (t : Token) (us : List Token) → is_signed t ≡ true → signs_twice (Mark Plus ∷ t ∷ us) ≡ true
unfolding signs_twice is_signed
plus_signed (Signed w) us h = refl
plus_signed t us h = absurd (false≢true h)

minus_signed : (t : Token) (us : List Token) → is_signed t ≡ true → signs_twice (Mark Minus ∷ t ∷ us) ≡ true
unfolding signs_twice is_signed
minus_signed (Signed w) us h = refl
minus_signed t us h = absurd (false≢true h)

pub nothing_kept : (ts : List Token) → keeps_signs ts [] ≡ true
nothing_kept [] = refl
nothing_kept (Mark Plus ∷ Hole ∷ ts) = nothing_kept ts
nothing_kept (Mark Minus ∷ Hole ∷ ts) = nothing_kept ts
nothing_kept (Hole ∷ ts) = nothing_kept ts
nothing_kept (t ∷ ts) = nothing_kept ts

pub turned_twice : (ts : List Token) (texts : List (List ℕ)) (said : List Token) → AllZip HasSign texts said → keeps_signs ts texts ≡ false
    → signs_twice (in_place ts said) ≡ true
unfolding in_place
turned_twice ts [] [] h turned = absurd (false≢true (sym turned ∙ nothing_kept ts))
turned_twice ts [] (t ∷ said) h turned = absurd h
turned_twice ts (x ∷ texts) [] h turned = absurd h
turned_twice [] (x ∷ texts) (t ∷ said) h turned = absurd (false≢true (sym turned))
turned_twice (Mark Plus ∷ Hole ∷ ts) (x ∷ texts) (t ∷ said) h turned =
    ⊎_elim (λ minus. plus_signed t (in_place ts said) (h.0 ∙ minus))
    (λ other. twice_behind (Mark Plus) (t ∷ in_place ts said) (twice_behind t (in_place ts said)
    (turned_twice ts texts said h.1 (ap (λ b. not b && keeps_signs ts texts) (sym other) ∙ turned))))
    (cases_Bool (begins_minus x))
turned_twice (Mark Minus ∷ Hole ∷ ts) (x ∷ texts) (t ∷ said) h turned =
    ⊎_elim (λ minus. minus_signed t (in_place ts said) (h.0 ∙ minus))
    (λ other. twice_behind (Mark Minus) (t ∷ in_place ts said) (twice_behind t (in_place ts said)
    (turned_twice ts texts said h.1 (ap (λ b. not b && keeps_signs ts texts) (sym other) ∙ turned))))
    (cases_Bool (begins_minus x))
turned_twice (Hole ∷ ts) (x ∷ texts) (t ∷ said) h turned = twice_behind t (in_place ts said) (turned_twice ts texts said h.1 turned)
turned_twice (v ∷ ts) (x ∷ texts) (t ∷ said) h turned = twice_behind v (in_place ts (t ∷ said)) (turned_twice ts (x ∷ texts) (t ∷ said) h turned)
