-- The content of slots while edits are made and undone.
use Rattle.std.proofs.Common.{◌≡◌, ◌≢◌, ℕ, Bool, true, false, cond, ◌⊎◌, ⊎_elim, inl, inr, List, refl, sym, ap, ◌∙◌, subst}
use Rattle.std.specs.Bool.{OnTrue, OnFalse}
use Rattle.std.specs.Prelude.{Result, Ok, Err, OnOk, OnErr}
use Rattle.std.specs.List.{All, Contains}
use Rattle.std.specs.Cmp.{IsTotalOrder, on_total}
use Rattle.std.specs.Cmp.Lexicographic.{options_total}
use Rattle.std.specs.Prelude.{slice_get}
use Rattle.std.specs.Ordering.{ordering_reverse}
use Rattle.std.specs.declared.cmp.Ordering.TheVariants.{Equal}
use Rattle.std.proofs.lemmas.Bool.{cases_eq, eq-eqb, eqb-true}
use Rattle.std.proofs.lemmas.Cmp.{tied_itself}
use Rattle.mm_value.proofs.Orders.{value_cmp_total}
use Rattle.mm_value.specs.declared.row_ref.RowRef.{RowRef}
use Rattle.mm_value.specs.declared.values.Value.{Value}
use Rattle.mm_schema.specs.Rows.{column_cmp}
use Rattle.mm_partition.specs.Places.{Content, Places, Live, Hidden, row_in, slot_at, IsUnchanged, ChangesOnly, ChangesTwo}
use Rattle.mm_row_order.specs.Refs.{Slots}
use Rattle.mm_tables.specs.Edits.{same_ref, put, exchanged}

pub same_or_apart : (a b : RowRef) → (a ≡ b) ⊎ (a ≢ b)
same_or_apart a b =
    ⊎_elim
    (λ (s : a.slot ≡ b.slot). inl (λ i. record { slot = s i }))
    (λ (n : a.slot ≢ b.slot). inr (λ (e : a ≡ b). n (ap (λ (r : RowRef). r.slot) e)))
    (cases_eq a.slot b.slot)

pub holds_at : {X : Type 0} (P : X → Type 0) (xs : List X) (x : X) → All P xs → Contains xs x → P x
holds_at P xs x all (k, within, is) = subst P is (all k x within)

pub on_true : (P : Type 0) (b : Bool) → b ≡ true → OnTrue b P → P
on_true P true e h = h
on_true P false e h = let no : ⊥ = cc in absurd no

pub on_false : (P : Type 0) (b : Bool) → b ≡ false → OnFalse b P → P
on_false P true e h = let no : ⊥ = cc in absurd no
on_false P false e h = h

-- a property of either result
pub either_way : {T E : Type 0} (r : Result T E) (A B C : Type 0) → OnOk r A → OnErr r B → (A → C) → (B → C) → C
either_way (Ok x) A B C ok err from_ok from_err = from_ok ok
either_way (Err e) A B C ok err from_ok from_err = from_err err

pub both_ok : {T E : Type 0} (r : Result T E) (A B : Type 0) → OnOk r A → OnOk r B → OnOk r (A × B)
both_ok (Ok x) A B a b = (a, b)
both_ok (Err e) A B a b = tt

pub on_true_from : (P : Type 0) (b : Bool) → (b ≡ true → P) → OnTrue b P
on_true_from P true from = from refl
on_true_from P false from = tt

pub same_from_test : (a b : RowRef) → same_ref a b ≡ true → a ≡ b
same_from_test a b e = λ i. record { slot = eqb-true a.slot b.slot e i }

pub test_from_same : (a b : RowRef) → a ≡ b → same_ref a b ≡ true
test_from_same a b e = eq-eqb a.slot b.slot (ap (λ (r : RowRef). r.slot) e)

pub apart_from_test : (a b : RowRef) → same_ref a b ≡ false → b ≢ a
apart_from_test a b e same = let both : true ≡ false = sym (test_from_same a b (sym same)) ∙ e in cc

pub picked : (b : Bool) (x y z : Content) → (b ≡ true → x ≡ z) → (b ≡ false → y ≡ z) → cond b x y ≡ z
picked true x y z on_true on_false = on_true refl
picked false x y z on_true on_false = on_false refl

pub put_other : (r at : RowRef) (c : Content) (now : Slots) → r ≢ at → put r c now at ≡ now at
put_other r at c now apart = picked (same_ref r at) c (now at) (now at) (λ same. absurd (apart (same_from_test r at same))) (λ no. refl)

pub put_here : (r at : RowRef) (c : Content) (now : Slots) → r ≡ at → put r c now at ≡ c
put_here r at c now same = ap {B = Content} (λ b. cond b c (now at)) (test_from_same r at same)

-- no slot changes
pub unchanged : (old new : Places) → IsUnchanged old new → slot_at new ≡ slot_at old
unchanged old new same = λ i r. same r i

-- one slot changes
pub changed_made : (old new : Places) (at : RowRef) (now : Content) → ChangesOnly old new at now → slot_at new ≡ put at now (slot_at old)
changed_made old new at now changes = λ i r.
    sym (picked (same_ref at r) now (slot_at old r) (slot_at new r)
    (λ here. sym changes.changed ∙ ap (slot_at new) (same_from_test at r here))
    (λ apart. sym (changes.others r (apart_from_test at r apart))))
    i

-- one slot has its old content again
pub changed_back : (old new : Places) (at : RowRef) (was now : Content) → slot_at old at ≡ was → ChangesOnly old new at now
    → put at was (slot_at new) ≡ slot_at old
changed_back old new at was now is changes = λ i r.
    picked (same_ref at r) was (slot_at new r) (slot_at old r) (λ here. sym is ∙ ap (slot_at old) (same_from_test at r here))
    (λ apart. changes.others r (apart_from_test at r apart))
    i

-- two slots are exchanged
pub exchanged_made : (old new : Places) (a b : RowRef) (x y : List Value) → slot_at old a ≡ Live x → slot_at old b ≡ Hidden y
    → ChangesTwo old new a b (Live y) (Hidden x) → slot_at new ≡ exchanged a b (slot_at old)
exchanged_made old new a b x y live hidden changes = λ i r.
    sym (picked (same_ref a r) (Live (row_in (slot_at old b))) (put b (Hidden (row_in (slot_at old a))) (slot_at old) r) (slot_at new r)
    (λ at_a. ap (λ c. Live (row_in c)) hidden ∙ (sym changes.first ∙ ap (slot_at new) (same_from_test a r at_a)))
    (λ not_a. picked (same_ref b r) (Hidden (row_in (slot_at old a))) (slot_at old r) (slot_at new r)
    (λ at_b. ap (λ c. Hidden (row_in c)) live ∙ (sym changes.second ∙ ap (slot_at new) (same_from_test b r at_b)))
    (λ not_b. sym (changes.others r (apart_from_test a r not_a) (apart_from_test b r not_b)))))
    i

column_cmp_total : (key : ℕ) → IsTotalOrder (column_cmp key)
column_cmp_total key = on_total (λ (row : List Value). slice_get row key) (options_total value_cmp_total)

-- the equality of keys is symmetric
pub equal_turns : (key : ℕ) (x y : List Value) → column_cmp key x y ≡ Equal → column_cmp key y x ≡ Equal
equal_turns key x y same = (column_cmp_total key).antisymm y x ∙ ap ordering_reverse same

-- a row has its own key, and two rows with the key of a third one have one key
pub equal_self : (key : ℕ) (x : List Value) → column_cmp key x x ≡ Equal
equal_self key x = tied_itself (column_cmp_total key) x

pub equal_through : (key : ℕ) (x y z : List Value) → column_cmp key x y ≡ Equal → column_cmp key y z ≡ Equal → column_cmp key x z ≡ Equal
equal_through key x y z first second = (column_cmp_total key).congr x y z first ∙ second
