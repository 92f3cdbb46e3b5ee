-- Commands: the tokens that are read spell the value, and each spelling is read.
use Rattle.std.proofs.Common.{◌≡◌, ◌⊎◌, inl, inr, ⊎_elim, ℕ, Bool, true, false, eqb, List, [], ◌∷◌, ◌++◌, Option, Some, None, refl, sym, ap, subst, ◌∙◌}
use Rattle.std.proofs.Common.{append-nil}
use Rattle.std.specs.Option.{option_and_then, option_or}
use Rattle.std.proofs.lemmas.Bool.{cond-true, eqb-true, eq-eqb, false≢true}
use Rattle.std.proofs.lemmas.Option.{none-some, same_Some}
use Rattle.mm_schema.specs.Columns.{key_count}
use Rattle.mm_schema.specs.Name.{IsName}
use Rattle.mm_schema.specs.declared.column.Column.{Column}
use Rattle.mm_schema.specs.declared.column.OnDelete.{OnDelete}
use Rattle.mm_schema.specs.declared.column.OnDelete.TheVariants.{Cascade, Restrict}
use Rattle.mm_schema.specs.declared.column.Role.{Role}
use Rattle.mm_schema.specs.declared.column.Role.TheVariants.{Plain, Key, Reference}
use Rattle.mm_schema.specs.declared.index.IndexKind.{IndexKind}
use Rattle.mm_schema.specs.declared.index.IndexKind.TheVariants as kind
use Rattle.mm_value.specs.declared.col_type.ColType.{ColType}
use Rattle.mm_value.specs.declared.col_type.ColType.TheVariants as type
use Rattle.mm_value.specs.declared.values.Value.{Value}
use Rattle.mm_query.specs.declared.command.Command.{Command}
use Rattle.mm_query.specs.declared.command.Command.TheVariants as command
use Rattle.mm_query.specs.declared.command.Definition.TheVariants as define
use Rattle.mm_query.specs.declared.command.Mutation.TheVariants as change
use Rattle.mm_lang.specs.declared.read.keyword.Keyword.{Keyword}
use Rattle.mm_lang.specs.declared.read.keyword.Keyword.TheVariants as keyword
use Rattle.mm_lang.specs.declared.read.token.Symbol.TheVariants.{Open, Close, Comma}
use Rattle.mm_lang.specs.Grammar.{literal_of, name, type_named, col_type, on_delete_of, reference_to, reference, role_behind, role, column, kind_named}
use Rattle.mm_lang.specs.Grammar.{index_kind, tuple, comma_list, table, drop, dropped, index, insert, rollback, rolled_back, savepoint, scan, scan_of, show}
use Rattle.mm_lang.specs.Grammar.{unwatch, command_behind, command_of}
use Rattle.mm_lang.specs.Phrases.{Phrase, ◌>>=◌, ◌>>◌, say, one, one_word, the_symbol, the_keyword, has_keyword, only_if, in_parentheses, alone}
use Rattle.mm_lang.specs.Spelling.{word, type_word, kind_word, SpellsLiteral, SpellsOne, SpellsList, SpellsInParentheses, SpellsTuple, SpellsOnDelete}
use Rattle.mm_lang.specs.Spelling.{SpellsRole, SpellsColumn, SpellsCommand}
use Rattle.mm_lang.specs.Tokens.{Token, Word, Mark}
use Rattle.mm_lang.specs.Words.{keyword_named}
use Rattle.mm_lang.specs.steps.Parts.{Front, said_same, tested, chained, then_parts, word_parts, in_parentheses_parts}
use Rattle.mm_lang.proofs.SpelledWords.{symbol_read, keyword_read, named_read, has_keyword_read, name_no_keyword, name_read, name_spelled, literal_read}
use Rattle.mm_lang.proofs.SpelledWords.{literal_spelled}
use Rattle.mm_lang.proofs.SpelledAtoms.{comma, delete_read, delete_spelled, update_read, update_spelled}
use Rattle.mm_lang.proofs.SpelledSelect.{select_read, select_spelled, explain_read, explain_spelled, watch_read, watch_spelled}
use Rattle.mm_lang.proofs.Exactness.{IsExact, Always, one_exact, list_exact, parentheses_exact}

-- tuples

abbrev Literals : List Token → List Value → Type 0
Literals ts values = SpellsList (Mark Comma) (SpellsOne SpellsLiteral) ts values

literals_exact : IsExact (comma_list (one literal_of)) Literals (λ us. Always us × (the_symbol Comma us ≡ None))
literals_exact =
    list_exact (the_symbol Comma) (Mark Comma) (one literal_of) (SpellsOne SpellsLiteral) Always comma
    (one_exact literal_of SpellsLiteral literal_read literal_spelled) (λ us. tt)

tuple_exact : IsExact tuple SpellsTuple Always
unfolding tuple
tuple_exact = parentheses_exact (comma_list (one literal_of)) Literals (λ us. Always us × (the_symbol Comma us ≡ None)) literals_exact (λ us. (tt, refl))

tuples_exact : IsExact (comma_list tuple) (SpellsList (Mark Comma) SpellsTuple) (λ us. Always us × (the_symbol Comma us ≡ None))
tuples_exact = list_exact (the_symbol Comma) (Mark Comma) tuple SpellsTuple Always comma tuple_exact (λ us. tt)

-- columns

type_word_of : (k : Keyword) (t : ColType) → type_named k ≡ Some t → k ≡ type_word t
type_word_of keyword.Int t e = ap type_word (same_Some type.Int t e)
type_word_of keyword.Text t e = ap type_word (same_Some type.Text t e)
type_word_of _ t e = absurd (none-some t e)

type_read : (ts : List Token) (t : ColType) (us : List Token) → col_type ts ≡ Some (t, us) → ts ≡ word (type_word t) ∷ us
type_read ts t us e =
    let p = word_parts (λ w. option_and_then type_named (keyword_named w)) ts t us e in
    let q = chained type_named (keyword_named p.0) t p.2 in
    p.1 ∙ ap (λ w. w ∷ us) (named_read p.0 q.0 q.1 ∙ ap word (type_word_of q.0 t q.2))

type_spelled : (t : ColType) (us : List Token) → col_type (word (type_word t) ∷ us) ≡ Some (t, us)
type_spelled type.Int us = refl
type_spelled type.Text us = refl

abbrev IsRole : List Token → Role → List Token → Type 0
IsRole ts r us = (front : List Token) × SpellsRole front r × (ts ≡ front ++ us)

on_delete_read : (there : Bool) (ts us : List Token) → ((there ≡ true) × (ts ≡ word keyword.Cascade ∷ us)) ⊎ ((there ≡ false) × (ts ≡ us))
    → (behind : List Token) × SpellsOnDelete behind (on_delete_of there) × (ts ≡ behind ++ us)
on_delete_read true ts us (inl h) = (word keyword.Cascade ∷ [], refl, h.1)
on_delete_read false ts us (inr h) = ([], refl, h.1)
on_delete_read true ts us (inr h) = absurd (false≢true (sym h.0))
on_delete_read false ts us (inl h) = absurd (false≢true h.0)

reference_read : (there : Bool) (ts : List Token) (r : Role) (us : List Token) → reference there ts ≡ Some (r, us)
    → (ms : List Token) → ((there ≡ true) × (ms ≡ word keyword.Ref ∷ ts)) ⊎ ((there ≡ false) × (ms ≡ ts)) → IsRole ms r us
reference_read true ts r us e ms (inl h) =
    let p = then_parts name reference_to ts r us e in
    let q = then_parts (has_keyword keyword.Cascade) (λ there. say (Reference p.0 (on_delete_of there))) p.1 r us p.3 in
    let s = said_same (Reference p.0 (on_delete_of q.0)) r q.1 us q.3 in
    let n = name_read ts p.0 p.1 p.2 in
    let behind = on_delete_read q.0 p.1 q.1 (has_keyword_read keyword.Cascade p.1 q.0 q.1 q.2) in
    let front = word keyword.Ref ∷ Word p.0 ∷ behind.0 in (
      front,
      subst (SpellsRole front) s.0 (behind.0, n.1, behind.1, refl),
      h.1 ∙ ap (λ l. word keyword.Ref ∷ l) (n.0 ∙ ap (λ l. Word p.0 ∷ l) (behind.2 ∙ ap (λ l. behind.0 ++ l) s.1)),
    )
reference_read false ts r us e ms (inr h) = let q = said_same Plain r ts us e in ([], subst (SpellsRole []) q.0 refl, h.1 ∙ q.1)
reference_read true ts r us e ms (inr h) = absurd (false≢true (sym h.0))
reference_read false ts r us e ms (inl h) = absurd (false≢true h.0)

role_behind_read : (there : Bool) (ts : List Token) (r : Role) (us : List Token) → role_behind there ts ≡ Some (r, us)
    → (ms : List Token) → ((there ≡ true) × (ms ≡ word keyword.Key ∷ ts)) ⊎ ((there ≡ false) × (ms ≡ ts)) → IsRole ms r us
role_behind_read true ts r us e ms (inl h) =
    let q = said_same Key r ts us e in
    let front = word keyword.Key ∷ [] in
    (front, subst (SpellsRole front) q.0 refl, h.1 ∙ ap (λ l. word keyword.Key ∷ l) q.1)
role_behind_read false ts r us e ms (inr h) =
    let p = then_parts (has_keyword keyword.Ref) reference ts r us e in
    let s = reference_read p.0 p.1 r us p.3 ts (has_keyword_read keyword.Ref ts p.0 p.1 p.2) in
    (s.0, s.1, h.1 ∙ s.2)
role_behind_read true ts r us e ms (inr h) = absurd (false≢true (sym h.0))
role_behind_read false ts r us e ms (inl h) = absurd (false≢true h.0)

role_read : (ts : List Token) (r : Role) (us : List Token) → role ts ≡ Some (r, us) → IsRole ts r us
role_read ts r us e =
    let p = then_parts (has_keyword keyword.Key) role_behind ts r us e in
    role_behind_read p.0 p.1 r us p.3 ts (has_keyword_read keyword.Key ts p.0 p.1 p.2)

-- the tokens begin with no role, and with no CASCADE that would continue one
abbrev NoRole : List Token → Type 0
NoRole us = (role us ≡ Some (Plain, us)) × (the_keyword keyword.Cascade us ≡ None)

-- CASCADE or nothing after the name of a table, given the result of reading the keyword
by_cascade : List ℕ → List Token → Option (Front (Unit {0})) → Option (Front Role)
by_cascade target ts found =
    option_and_then (λ (r : Front Bool). say (Reference target (on_delete_of r.0)) r.1)
    (option_or (option_and_then (λ (s : Front (Unit {0})). say true s.1) found) (Some (false, ts)))

reference_to_spelled : (target : List ℕ) (behind : List Token) (d : OnDelete) (us : List Token) → SpellsOnDelete behind d
    → the_keyword keyword.Cascade us ≡ None → reference_to target (behind ++ us) ≡ Some (Reference target d, us)
unfolding by_cascade
reference_to_spelled target behind Restrict us spelled end = ap (λ l. reference_to target (l ++ us)) spelled ∙ ap (by_cascade target us) end
reference_to_spelled target behind Cascade us spelled end = ap (λ l. reference_to target (l ++ us)) spelled

role_spelled : (front : List Token) (r : Role) (us : List Token) → SpellsRole front r → NoRole us → role (front ++ us) ≡ Some (r, us)
role_spelled front Key us spelled end = ap (λ l. role (l ++ us)) spelled
role_spelled front Plain us spelled end = ap (λ l. role (l ++ us)) spelled ∙ end.0
role_spelled front (Reference target on_delete) us spelled end =
    ap (λ l. role (l ++ us)) spelled.3
    ∙ ap (option_and_then (λ (r : Front (List ℕ)). reference_to r.0 r.1)) (name_spelled target (spelled.0 ++ us) spelled.1)
    ∙ reference_to_spelled target spelled.0 on_delete us spelled.2 end.1

say_column : List ℕ → ColType → Role → Phrase Column
say_column n t r = say (record { name = n; col_type = t; role = r })

after_type : List ℕ → ColType → Phrase Column
after_type n t = role >>= say_column n t

after_name : List ℕ → Phrase Column
after_name n = col_type >>= after_type n

column_read : (ts : List Token) (c : Column) (us : List Token) → column ts ≡ Some (c, us) → (front : List Token) × SpellsColumn front c × (ts ≡ front ++ us)
unfolding column say_column after_type after_name
column_read ts c us e =
    let p = then_parts name after_name ts c us e in
    let q = then_parts col_type (after_type p.0) p.1 c us p.3 in
    let r = then_parts role (say_column p.0 q.0) q.1 c us q.3 in
    let read : Column = record { name = p.0; col_type = q.0; role = r.0 } in
    let s = said_same read c r.1 us r.3 in
    let n = name_read ts p.0 p.1 p.2 in
    let behind = role_read q.1 r.0 r.1 r.2 in (
      Word p.0 ∷ word (type_word q.0) ∷ behind.0,
      subst (SpellsColumn (Word p.0 ∷ word (type_word q.0) ∷ behind.0)) s.0 (behind.0, n.1, behind.1, refl),
      n.0 ∙ ap (λ l. Word p.0 ∷ l)
          (type_read p.1 q.0 q.1 q.2 ∙ ap (λ l. word (type_word q.0) ∷ l) (behind.2 ∙ ap (λ l. behind.0 ++ l) s.1)),
    )

column_spelled : (front : List Token) (c : Column) (us : List Token) → SpellsColumn front c → NoRole us
    → column (front ++ us) ≡ Some (c, us)
unfolding column say_column after_type after_name
column_spelled front c us h end =
    let behind = word (type_word c.col_type) ∷ h.0 ++ us in
    ap (λ l. column (l ++ us)) h.3
    ∙ ap (option_and_then (λ (r : Front (List ℕ)). after_name r.0 r.1)) (name_spelled c.name behind h.1)
    ∙ ap (option_and_then (λ (r : Front ColType). after_type c.name r.0 r.1)) (type_spelled c.col_type (h.0 ++ us))
    ∙ ap (option_and_then (λ (r : Front Role). say_column c.name c.col_type r.0 r.1)) (role_spelled h.0 c.role us h.2 end)

columns_exact : IsExact (comma_list column) (SpellsList (Mark Comma) SpellsColumn) (λ us. NoRole us × (the_symbol Comma us ≡ None))
columns_exact =
    list_exact (the_symbol Comma) (Mark Comma) column SpellsColumn NoRole comma (record { sound = column_read; complete = column_spelled }) (λ us. (refl, refl))

table_columns_exact : IsExact (in_parentheses (comma_list column)) (SpellsInParentheses (SpellsList (Mark Comma) SpellsColumn)) Always
table_columns_exact =
    parentheses_exact (comma_list column) (SpellsList (Mark Comma) SpellsColumn) (λ us. NoRole us × (the_symbol Comma us ≡ None)) columns_exact
    (λ us. ((refl, refl), refl))

-- INSERT

say_insert : List ℕ → List (List Value) → Phrase Command
say_insert t tuples = say (command.Change (change.Insert t tuples))

insert_read : (ts : List Token) (c : Command) → insert ts ≡ Some (c, []) → SpellsCommand (word keyword.Insert ∷ ts) c
unfolding insert say_insert
insert_read ts c e =
    let p = then_parts name (λ t. comma_list tuple >>= say_insert t) ts c [] e in
    let q = then_parts (comma_list tuple) (say_insert p.0) p.1 c [] p.3 in
    let r = said_same (command.Change (change.Insert p.0 q.0)) c q.1 [] q.3 in
    let n = name_read ts p.0 p.1 p.2 in
    let s = tuples_exact.sound p.1 q.0 q.1 q.2 in
    let all : p.1 ≡ s.0 = s.2 ∙ ap (λ l. s.0 ++ l) r.1 ∙ append-nil s.0 in
    subst (SpellsCommand (word keyword.Insert ∷ ts)) r.0
    (s.0, n.1, s.1, ap (λ l. word keyword.Insert ∷ l) (n.0 ∙ ap (λ l. Word p.0 ∷ l) all))

insert_spelled : (t : List ℕ) (tuples : List (List Value)) (inner : List Token) → IsName t → SpellsList (Mark Comma) SpellsTuple inner tuples
    → insert (Word t ∷ inner) ≡ Some (command.Change (change.Insert t tuples), [])
unfolding insert say_insert
insert_spelled t tuples inner named h =
    ap (option_and_then (λ (r : Front (List ℕ)). (comma_list tuple >>= say_insert r.0) r.1)) (name_spelled t inner named)
    ∙ ap (option_and_then (λ (r : Front (List (List Value))). say_insert t r.0 r.1))
    (ap (comma_list tuple) (sym (append-nil inner)) ∙ tuples_exact.complete inner tuples [] h (tt, refl))

-- a single name after the keywords of a command

module _ (make : List ℕ → Command) where
  say_made : List ℕ → Phrase Command
  say_made n = say (make n)

  made_read : (ts : List Token) (c : Command) → (name >>= (λ n. say (make n))) ts ≡ Some (c, [])
      → (n : List ℕ) × IsName n × (ts ≡ Word n ∷ []) × (make n ≡ c)
  unfolding say_made
  made_read ts c e =
      let p = then_parts name say_made ts c [] e in
      let r = said_same (make p.0) c p.1 [] p.3 in
      let n = name_read ts p.0 p.1 p.2 in
      (p.0, n.1, n.0 ∙ ap (λ l. Word p.0 ∷ l) r.1, r.0)

  made_spelled : (n : List ℕ) → IsName n → (name >>= (λ n. say (make n))) (Word n ∷ []) ≡ Some (make n, [])
  made_spelled n named = ap (option_and_then (λ (r : Front (List ℕ)). say (make r.0) r.1)) (name_spelled n [] named)

-- SCAN

after_scan : Bool → Phrase Command
after_scan by_index = name >>= (λ n. say (scan_of by_index n))

scan_read : (ts : List Token) (c : Command) → scan ts ≡ Some (c, []) → SpellsCommand (word keyword.Scan ∷ ts) c
unfolding scan after_scan
scan_read ts c e =
    let p = then_parts (has_keyword keyword.Index) after_scan ts c [] e in
    let q = made_read (scan_of p.0) p.1 c p.3 in
    ⊎_elim
    (λ there. subst (SpellsCommand (word keyword.Scan ∷ ts)) (ap (λ b. scan_of b q.0) (sym there.0) ∙ q.3)
    (q.1, ap (λ l. word keyword.Scan ∷ l) (there.1 ∙ ap (λ l. word keyword.Index ∷ l) q.2)))
    (λ not_there. subst (SpellsCommand (word keyword.Scan ∷ ts)) (ap (λ b. scan_of b q.0) (sym not_there.0) ∙ q.3)
    (q.1, ap (λ l. word keyword.Scan ∷ l) (not_there.1 ∙ q.2)))
    (has_keyword_read keyword.Index ts p.0 p.1 p.2)

scan_spelled : (t : List ℕ) → IsName t → scan (Word t ∷ []) ≡ Some (command.Scan t, [])
unfolding scan
scan_spelled t named =
    ap (λ (o : Option (Front (Unit {0}))). option_and_then (λ (r : Front Bool). (name >>= (λ n. say (scan_of r.0 n))) r.1)
    (option_or (option_and_then (λ (s : Front (Unit {0})). say true s.1) o) (Some (false, Word t ∷ []))))
    (name_no_keyword keyword.Index refl t [] named)
    ∙ made_spelled (scan_of false) t named

scan_index_spelled : (i : List ℕ) → IsName i → scan (word keyword.Index ∷ Word i ∷ []) ≡ Some (command.ScanIndex i, [])
unfolding scan
scan_index_spelled i named = made_spelled (scan_of true) i named

-- SHOW and UNWATCH

show_read : (ts : List Token) (c : Command) → show ts ≡ Some (c, []) → SpellsCommand (word keyword.Show ∷ ts) c
unfolding show
show_read ts c e =
    let p = made_read (λ n. command.Show n) ts c e in
    subst (SpellsCommand (word keyword.Show ∷ ts)) p.3 (p.1, ap (λ l. word keyword.Show ∷ l) p.2)

show_spelled : (n : List ℕ) → IsName n → show (Word n ∷ []) ≡ Some (command.Show n, [])
unfolding show
show_spelled n named = made_spelled (λ n. command.Show n) n named

savepoint_read : (ts : List Token) (c : Command) → savepoint ts ≡ Some (c, []) → SpellsCommand (word keyword.Savepoint ∷ ts) c
unfolding savepoint
savepoint_read ts c e =
    let p = made_read (λ n. command.Savepoint n) ts c e in
    subst (SpellsCommand (word keyword.Savepoint ∷ ts)) p.3 (p.1, ap (λ l. word keyword.Savepoint ∷ l) p.2)

savepoint_spelled : (n : List ℕ) → IsName n → savepoint (Word n ∷ []) ≡ Some (command.Savepoint n, [])
unfolding savepoint
savepoint_spelled n named = made_spelled (λ n. command.Savepoint n) n named

-- ROLLBACK, and ROLLBACK TO

rolled_back_read : (to : Bool) (ts us : List Token) (c : Command)
    → ((to ≡ true) × (ts ≡ word keyword.To ∷ us)) ⊎ ((to ≡ false) × (ts ≡ us)) → rolled_back to us ≡ Some (c, []) → SpellsCommand (word keyword.Rollback ∷ ts) c
rolled_back_read true ts us c (inl there) e =
    let p = made_read (λ n. command.RollbackTo n) us c e in
    subst (λ l. SpellsCommand (word keyword.Rollback ∷ l) c) (sym there.1)
    (subst (SpellsCommand (word keyword.Rollback ∷ word keyword.To ∷ us)) p.3 (p.1, ap (λ l. word keyword.Rollback ∷ word keyword.To ∷ l) p.2))
rolled_back_read true ts us c (inr not_there) e = absurd (false≢true (sym not_there.0))
rolled_back_read false ts us c (inl there) e = absurd (false≢true there.0)
rolled_back_read false ts us c (inr not_there) e =
    let p = said_same command.Rollback c us [] e in
    subst (SpellsCommand (word keyword.Rollback ∷ ts)) p.0 (ap (λ l. word keyword.Rollback ∷ l) (not_there.1 ∙ p.1))

rollback_read : (ts : List Token) (c : Command) → rollback ts ≡ Some (c, []) → SpellsCommand (word keyword.Rollback ∷ ts) c
unfolding rollback
rollback_read ts c e =
    let p = then_parts (has_keyword keyword.To) rolled_back ts c [] e in
    rolled_back_read p.0 ts p.1 c (has_keyword_read keyword.To ts p.0 p.1 p.2) p.3

rollback_spelled : rollback [] ≡ Some (command.Rollback, [])
unfolding rollback
rollback_spelled = refl

rollback_to_spelled : (n : List ℕ) → IsName n → rollback (word keyword.To ∷ Word n ∷ []) ≡ Some (command.RollbackTo n, [])
unfolding rollback
rollback_to_spelled n named = made_spelled (λ n. command.RollbackTo n) n named

unwatch_read : (ts : List Token) (c : Command) → unwatch ts ≡ Some (c, []) → SpellsCommand (word keyword.Unwatch ∷ ts) c
unfolding unwatch
unwatch_read ts c e =
    let p = made_read (λ n. command.Define (define.Unwatch n)) ts c e in
    subst (SpellsCommand (word keyword.Unwatch ∷ ts)) p.3 (p.1, ap (λ l. word keyword.Unwatch ∷ l) p.2)

unwatch_spelled : (n : List ℕ) → IsName n → unwatch (Word n ∷ []) ≡ Some (command.Define (define.Unwatch n), [])
unfolding unwatch
unwatch_spelled n named = made_spelled (λ n. command.Define (define.Unwatch n)) n named

-- DROP

dropped_read : (k : Keyword) (ts : List Token) (c : Command) → dropped k ts ≡ Some (c, []) → SpellsCommand (word keyword.Drop ∷ word k ∷ ts) c
dropped_read keyword.Table ts c e =
    let p = made_read (λ n. command.Define (define.DropTable n)) ts c e in
    subst (SpellsCommand (word keyword.Drop ∷ word keyword.Table ∷ ts)) p.3
    (p.1, ap (λ l. word keyword.Drop ∷ word keyword.Table ∷ l) p.2)
dropped_read keyword.Index ts c e =
    let p = made_read (λ n. command.Define (define.DropIndex n)) ts c e in
    subst (SpellsCommand (word keyword.Drop ∷ word keyword.Index ∷ ts)) p.3
    (p.1, ap (λ l. word keyword.Drop ∷ word keyword.Index ∷ l) p.2)
dropped_read _ ts c e = let answer : Front Command = (c, []) in absurd (none-some answer e)

drop_read : (ts : List Token) (c : Command) → drop ts ≡ Some (c, []) → SpellsCommand (word keyword.Drop ∷ ts) c
unfolding drop
drop_read ts c e =
    let p = then_parts (one_word keyword_named) dropped ts c [] e in
    let s = word_parts keyword_named ts p.0 p.1 p.2 in
    subst (λ l. SpellsCommand (word keyword.Drop ∷ l) c) (sym (s.1 ∙ ap (λ t. t ∷ p.1) (named_read s.0 p.0 s.2))) (dropped_read p.0 p.1 c p.3)

drop_table_spelled : (n : List ℕ) → IsName n → drop (word keyword.Table ∷ Word n ∷ []) ≡ Some (command.Define (define.DropTable n), [])
unfolding drop
drop_table_spelled n named = made_spelled (λ n. command.Define (define.DropTable n)) n named

drop_index_spelled : (n : List ℕ) → IsName n → drop (word keyword.Index ∷ Word n ∷ []) ≡ Some (command.Define (define.DropIndex n), [])
unfolding drop
drop_index_spelled n named = made_spelled (λ n. command.Define (define.DropIndex n)) n named

-- INDEX

kind_word_of : (k : Keyword) (i : IndexKind) → kind_named k ≡ Some i → k ≡ kind_word i
kind_word_of keyword.Tree i e = ap kind_word (same_Some kind.Tree i e)
kind_word_of keyword.Hash i e = ap kind_word (same_Some kind.Hash i e)
kind_word_of _ i e = absurd (none-some i e)

kind_read : (ts : List Token) (i : IndexKind) (us : List Token) → index_kind ts ≡ Some (i, us) → ts ≡ word (kind_word i) ∷ us
kind_read ts i us e =
    let p = word_parts (λ w. option_and_then kind_named (keyword_named w)) ts i us e in
    let q = chained kind_named (keyword_named p.0) i p.2 in
    p.1 ∙ ap (λ w. w ∷ us) (named_read p.0 q.0 q.1 ∙ ap word (kind_word_of q.0 i q.2))

kind_spelled : (i : IndexKind) (us : List Token) → index_kind (word (kind_word i) ∷ us) ≡ Some (i, us)
kind_spelled kind.Tree us = refl
kind_spelled kind.Hash us = refl

the_index : List ℕ → List ℕ → List ℕ → IndexKind → Command
the_index n t c k = command.Define (define.Index (record { name = n; table = t; column = c; kind = k }))

say_index : List ℕ → List ℕ → List ℕ → IndexKind → Phrase Command
say_index n t c k = say (the_index n t c k)

after_column : List ℕ → List ℕ → List ℕ → Phrase Command
after_column n t c = index_kind >>= say_index n t c

after_indexed : List ℕ → List ℕ → Phrase Command
after_indexed n t = in_parentheses name >>= after_column n t

after_on : List ℕ → Phrase Command
after_on n = name >>= after_indexed n

after_index : List ℕ → Phrase Command
after_index n = the_keyword keyword.On >> after_on n

index_read : (ts : List Token) (c : Command) → index ts ≡ Some (c, []) → SpellsCommand (word keyword.Index ∷ ts) c
unfolding index after_index after_on after_indexed after_column say_index the_index
index_read ts c e =
    let p = then_parts name after_index ts c [] e in
    let q = then_parts (the_keyword keyword.On) (λ u. after_on p.0) p.1 c [] p.3 in
    let r = then_parts name (after_indexed p.0) q.1 c [] q.3 in
    let s = then_parts (in_parentheses name) (after_column p.0 r.0) r.1 c [] r.3 in
    let k = then_parts index_kind (say_index p.0 r.0 s.0) s.1 c [] s.3 in
    let u = said_same (the_index p.0 r.0 s.0 k.0) c k.1 [] k.3 in
    let inside = in_parentheses_parts name r.1 s.0 s.1 s.2 in
    let n = name_read ts p.0 p.1 p.2 in
    let t = name_read q.1 r.0 r.1 r.2 in
    let m = name_read inside.0 s.0 inside.1 inside.3 in
    let kind_is = kind_read s.1 k.0 k.1 k.2 ∙ ap (λ l. word (kind_word k.0) ∷ l) u.1 in
    let column_is = m.0 ∙ ap (λ l. Word s.0 ∷ l) (symbol_read Close inside.1 s.1 inside.4 ∙ ap (λ l. Mark Close ∷ l) kind_is) in
    let table_is = t.0 ∙ ap (λ l. Word r.0 ∷ l) (symbol_read Open r.1 inside.0 inside.2 ∙ ap (λ l. Mark Open ∷ l) column_is) in
    let all = n.0 ∙ ap (λ l. Word p.0 ∷ l) (keyword_read keyword.On p.1 q.1 q.2 ∙ ap (λ l. word keyword.On ∷ l) table_is) in
    subst (SpellsCommand (word keyword.Index ∷ ts)) u.0 (n.1, t.1, m.1, ap (λ l. word keyword.Index ∷ l) all)

module _ (n t c : List ℕ) (k : IndexKind) (named : IsName n) (indexed : IsName t) (by : IsName c) where
  behind_column : List Token
  behind_column = Mark Close ∷ word (kind_word k) ∷ []

  behind_table : List Token
  behind_table = Mark Open ∷ Word c ∷ Mark Close ∷ word (kind_word k) ∷ []

  index_spelled : index (Word n ∷ word keyword.On ∷ Word t ∷ Mark Open ∷ Word c ∷ Mark Close ∷ word (kind_word k) ∷ [])
      ≡ Some (command.Define (define.Index (record { name = n; table = t; column = c; kind = k })), [])
  unfolding index after_index after_on after_indexed after_column say_index the_index behind_column behind_table
  index_spelled =
      ap (option_and_then (λ (r : Front (List ℕ)). after_index r.0 r.1)) (name_spelled n (word keyword.On ∷ Word t ∷ behind_table) named)
      ∙ ap (option_and_then (λ (r : Front (List ℕ)). after_indexed n r.0 r.1)) (name_spelled t behind_table indexed)
      ∙ ap (λ (o : Option (Front (List ℕ))). option_and_then (λ (r : Front (List ℕ)). after_column n t r.0 r.1)
      (option_and_then (λ (r : Front (List ℕ)). (the_symbol Close >>= (λ u. say r.0)) r.1) o)) (name_spelled c behind_column by)
      ∙ ap (option_and_then (λ (r : Front IndexKind). say_index n t c r.0 r.1)) (kind_spelled k [])

-- TABLE

abbrev the_table : List ℕ → List Column → Command
the_table n columns = command.Define (define.Table (record { name = n; columns = columns }))

say_table : List ℕ → List Column → Phrase Command
say_table n columns = only_if (eqb (key_count columns) 1) (say (the_table n columns))

table_read : (ts : List Token) (c : Command) → table ts ≡ Some (c, []) → SpellsCommand (word keyword.Table ∷ ts) c
unfolding table say_table
table_read ts c e =
    let p = then_parts name (λ n. in_parentheses (comma_list column) >>= say_table n) ts c [] e in
    let q = then_parts (in_parentheses (comma_list column)) (say_table p.0) p.1 c [] p.3 in
    let answer : Front Command = (c, []) in
    let k = tested (eqb (key_count q.0) 1) (Some (the_table p.0 q.0, q.1)) answer q.3 in
    let r = said_same (the_table p.0 q.0) c q.1 [] k.1 in
    let n = name_read ts p.0 p.1 p.2 in
    let s = table_columns_exact.sound p.1 q.0 q.1 q.2 in
    let all : p.1 ≡ s.0 = s.2 ∙ ap (λ l. s.0 ++ l) r.1 ∙ append-nil s.0 in
    subst (SpellsCommand (word keyword.Table ∷ ts)) r.0
    (s.0, n.1, eqb-true (key_count q.0) 1 k.0, s.1, ap (λ l. word keyword.Table ∷ l) (n.0 ∙ ap (λ l. Word p.0 ∷ l) all))

table_spelled : (n : List ℕ) (columns : List Column) (inner : List Token) → IsName n → key_count columns ≡ 1
    → SpellsInParentheses (SpellsList (Mark Comma) SpellsColumn) inner columns → table (Word n ∷ inner) ≡ Some (the_table n columns, [])
unfolding table say_table
table_spelled n columns inner named one h =
    ap (option_and_then (λ (r : Front (List ℕ)). (in_parentheses (comma_list column) >>= say_table r.0) r.1)) (name_spelled n inner named)
    ∙ ap (option_and_then (λ (r : Front (List Column)). say_table n r.0 r.1))
    (ap (in_parentheses (comma_list column)) (sym (append-nil inner)) ∙ table_columns_exact.complete inner columns [] h tt)
    ∙ cond-true (eqb (key_count columns) 1) _ _ (eq-eqb (key_count columns) 1 one)

-- BEGIN, COMMIT and TABLES

whole_read : (k : Keyword) (whole : Command) → SpellsCommand (word k ∷ []) whole → (ts : List Token) (c : Command)
    → ◌≡◌ {A = Option (Front Command)} (Some (whole, ts)) (Some (c, [])) → SpellsCommand (word k ∷ ts) c
whole_read k whole spelled ts c e =
    let p = said_same whole c ts [] e in
    subst (λ us. SpellsCommand (word k ∷ us) c) (sym p.1) (subst (SpellsCommand (word k ∷ [])) p.0 spelled)

-- all commands

behind_read : (k : Keyword) (ts : List Token) (c : Command) → command_behind k ts ≡ Some (c, []) → SpellsCommand (word k ∷ ts) c
behind_read keyword.Begin ts c e = whole_read keyword.Begin command.Begin refl ts c e
behind_read keyword.Commit ts c e = whole_read keyword.Commit command.Commit refl ts c e
behind_read keyword.Delete ts c e = delete_read ts c e
behind_read keyword.Drop ts c e = drop_read ts c e
behind_read keyword.Explain ts c e = explain_read ts c e
behind_read keyword.Index ts c e = index_read ts c e
behind_read keyword.Insert ts c e = insert_read ts c e
behind_read keyword.Rollback ts c e = rollback_read ts c e
behind_read keyword.Savepoint ts c e = savepoint_read ts c e
behind_read keyword.Scan ts c e = scan_read ts c e
behind_read keyword.Select ts c e = select_read ts c e
behind_read keyword.Show ts c e = show_read ts c e
behind_read keyword.Table ts c e = table_read ts c e
behind_read keyword.Tables ts c e = whole_read keyword.Tables command.Tables refl ts c e
behind_read keyword.Unwatch ts c e = unwatch_read ts c e
behind_read keyword.Update ts c e = update_read ts c e
behind_read keyword.Watch ts c e = watch_read ts c e
behind_read _ ts c e = let answer : Front Command = (c, []) in absurd (none-some answer e)

alone_read : (x c : Command) (us : List Token) → alone x us ≡ Some c → (x ≡ c) × (us ≡ [])
alone_read x c [] e = (same_Some x c e, refl)
alone_read x c (u ∷ us) e = absurd (none-some c e)

pub command_read : (ts : List Token) (c : Command) → command_of ts ≡ Some c → SpellsCommand ts c
unfolding command_of
command_read ts c e =
    let p = chained (λ (r : Front Command). alone r.0 r.1) ((one_word keyword_named >>= command_behind) ts) c e in
    let q = alone_read p.0.0 c p.0.1 p.2 in
    let r = then_parts (one_word keyword_named) command_behind ts p.0.0 p.0.1 p.1 in
    let s = word_parts keyword_named ts r.0 r.1 r.2 in
    let same : ◌≡◌ {A = Option (Front Command)} (Some (p.0.0, p.0.1)) (Some (c, [])) = ap (λ x. Some (x, p.0.1)) q.0 ∙ ap (λ us. Some (c, us)) q.1 in
    subst (λ l. SpellsCommand l c) (sym (s.1 ∙ ap (λ t. t ∷ r.1) (named_read s.0 r.0 s.2))) (behind_read r.0 r.1 c (r.3 ∙ same))

pub command_spelled : (ts : List Token) (c : Command) → SpellsCommand ts c → command_of ts ≡ Some c
unfolding command_of
command_spelled ts command.Nothing h = absurd h
command_spelled ts (command.Define (define.Table definition)) h =
    ap command_of h.4 ∙ ap (option_and_then (λ (r : Front Command). alone r.0 r.1)) (table_spelled definition.name definition.columns h.0 h.1 h.2 h.3)
command_spelled ts (command.Define (define.DropTable n)) h =
    ap command_of h.1 ∙ ap (option_and_then (λ (r : Front Command). alone r.0 r.1)) (drop_table_spelled n h.0)
command_spelled ts (command.Define (define.Index i)) h =
    ap command_of h.3 ∙ ap (option_and_then (λ (r : Front Command). alone r.0 r.1)) (index_spelled i.name i.table i.column i.kind h.0 h.1 h.2)
command_spelled ts (command.Define (define.DropIndex n)) h =
    ap command_of h.1 ∙ ap (option_and_then (λ (r : Front Command). alone r.0 r.1)) (drop_index_spelled n h.0)
command_spelled ts (command.Define (define.Watch watched)) h =
    ap command_of h.3 ∙ ap (option_and_then (λ (r : Front Command). alone r.0 r.1)) (watch_spelled watched.name h.0 watched.query h.1 h.2)
command_spelled ts (command.Define (define.Unwatch n)) h =
    ap command_of h.1 ∙ ap (option_and_then (λ (r : Front Command). alone r.0 r.1)) (unwatch_spelled n h.0)
command_spelled ts (command.Change (change.Insert t tuples)) h =
    ap command_of h.3 ∙ ap (option_and_then (λ (r : Front Command). alone r.0 r.1)) (insert_spelled t tuples h.0 h.1 h.2)
command_spelled ts (command.Change (change.Update t set asked)) h =
    ap command_of h.5 ∙ ap (option_and_then (λ (r : Front Command). alone r.0 r.1)) (update_spelled t set asked h.0 h.1 h.2 h.3 h.4)
command_spelled ts (command.Change (change.Delete t asked)) h =
    ap command_of h.3 ∙ ap (option_and_then (λ (r : Front Command). alone r.0 r.1)) (delete_spelled t asked h.0 h.1 h.2)
command_spelled ts (command.Scan t) h = ap command_of h.1 ∙ ap (option_and_then (λ (r : Front Command). alone r.0 r.1)) (scan_spelled t h.0)
command_spelled ts (command.ScanIndex i) h = ap command_of h.1 ∙ ap (option_and_then (λ (r : Front Command). alone r.0 r.1)) (scan_index_spelled i h.0)
command_spelled ts (command.Select q) h =
    ap command_of h.2 ∙ ap (option_and_then (λ (r : Front Command). alone r.0 r.1)) (select_spelled h.0 q h.1)
command_spelled ts (command.Explain q) h =
    ap command_of h.2 ∙ ap (option_and_then (λ (r : Front Command). alone r.0 r.1)) (explain_spelled h.0 q h.1)
command_spelled ts (command.Show n) h = ap command_of h.1 ∙ ap (option_and_then (λ (r : Front Command). alone r.0 r.1)) (show_spelled n h.0)
command_spelled ts command.Tables h = ap command_of h
command_spelled ts command.Begin h = ap command_of h
command_spelled ts command.Commit h = ap command_of h
command_spelled ts command.Rollback h = ap command_of h ∙ ap (option_and_then (λ (r : Front Command). alone r.0 r.1)) rollback_spelled
command_spelled ts (command.Savepoint n) h = ap command_of h.1 ∙ ap (option_and_then (λ (r : Front Command). alone r.0 r.1)) (savepoint_spelled n h.0)
command_spelled ts (command.RollbackTo n) h = ap command_of h.1 ∙ ap (option_and_then (λ (r : Front Command). alone r.0 r.1)) (rollback_to_spelled n h.0)

pub command_one : (ts : List Token) (c d : Command) → SpellsCommand ts c → SpellsCommand ts d → c ≡ d
command_one ts c d h k = same_Some c d (sym (command_spelled ts c h) ∙ command_spelled ts d k)
