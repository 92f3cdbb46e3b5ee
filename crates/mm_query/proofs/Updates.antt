-- The values that an UPDATE computes, and its refusals.
use Rattle.std.proofs.Common.{◌≡◌, ℕ, ◌<◌, suc, length, drop, get_or, add-one, Bool, true, false, cond, ◌||◌, List, [], ◌∷◌, ◌++◌, Some, None, refl, sym, ap}
use Rattle.std.proofs.Common.{subst, ◌∙◌}
use Rattle.std.specs.List.{All, find, list_any, slice_get}
use Rattle.std.proofs.Math.Seq.{drop-cons}
use Rattle.std.proofs.lemmas.Option.{slice_get_within, slice_get-get_or}
use Rattle.std.proofs.lemmas.List.Elements.{All-head, All-tail}
use Rattle.std.proofs.lemmas.List.Folds.{list_any-append}
use Rattle.mm_schema.specs.Refused.{first_refusal}
use Rattle.mm_value.specs.declared.refusal.Refusal.{Refusal}
use Rattle.mm_value.specs.declared.refusal.Refusal.TheVariants.{ArithmeticOutOfRange}
use Rattle.mm_value.specs.declared.values.Value.{Value}
use Rattle.mm_query.specs.Atoms.{is_past_range, range_conditions, updated_from, updated_value}
use Rattle.mm_query.specs.declared.atom.Assignment.{Assignment}

-- A property of all elements holds of the one that is found.
pub found_holds : {X : Type 0} (P : X → Type 0) (test : X → Bool) (xs : List X) (x : X) → All P xs → find test xs ≡ Some x → P x
found_holds P test [] x all e = cc
found_holds P test (y ∷ ys) x all e =
    elim (test y) as (λ b. (cond b (Some y) (find test ys) ≡ Some x) → P x) [
      | true ↦ λ h. let same : y ≡ x = cc in subst P same (All-head P y ys all)
      | false ↦ λ h. found_holds P test ys x (All-tail P y ys all) h
    ] e

due_none : (b : Bool) (refusal : Refusal) → cond b (Some refusal) None ≡ None → b ≡ false
due_none true refusal e = cc
due_none false refusal e = refl

due_some : (b : Bool) (due refusal : Refusal) → cond b (Some due) None ≡ Some refusal → b ≡ true
due_some true due refusal e = refl
due_some false due refusal e = cc

pub or_false : (a b : Bool) → a ≡ false → b ≡ false → (a || b) ≡ false
or_false a b e h = cc

or_true : (a b c : Bool) → (b || false) ≡ true → (a || (b || c)) ≡ true
or_true true b c e = refl
or_true false true c e = refl
or_true false false c e = cc

-- No value is past the range if none of the earlier ones is, nor the last one.
pub in_range_behind : (values : List Value) (value : Value) → list_any is_past_range values ≡ false
    → first_refusal (range_conditions (value ∷ [])) ≡ None → list_any is_past_range (values ++ value ∷ []) ≡ false
in_range_behind values value front last =
    list_any-append is_past_range values (value ∷ [])
    ∙ or_false (list_any is_past_range values) (list_any is_past_range (value ∷ [])) front (due_none _ ArithmeticOutOfRange last)

-- If a value is refused, so are all lists of values that contain it.
pub refused_among : (front : List Value) (value : Value) (rest all : List Value) (refusal : Refusal) → front ++ value ∷ rest ≡ all
    → first_refusal (range_conditions (value ∷ [])) ≡ Some refusal → first_refusal (range_conditions all) ≡ Some refusal
refused_among front value rest all refusal is due =
    let some : (is_past_range value || false) ≡ true = due_some _ ArithmeticOutOfRange refusal due in
    let any : list_any is_past_range all ≡ true =
    ap (list_any is_past_range) (sym is) ∙ (list_any-append is_past_range front (value ∷ rest)
    ∙ or_true (list_any is_past_range front) (is_past_range value) (list_any is_past_range rest) some) in
    ap (λ b. cond b (Some ArithmeticOutOfRange) None) any ∙ (sym (ap (λ b. cond b (Some ArithmeticOutOfRange) None) some) ∙ due)

-- The next value of the new row is that of the next column.
pub next_value : (assignments : List (Assignment ℕ)) (row : List Value) (column : ℕ) (old : Value) (front all : List Value)
    → slice_get row column ≡ Some old
    → front ++ updated_from assignments row column (drop column row) ≡ all
    → front ++ updated_value assignments row column old ∷ updated_from assignments row (suc column) (drop (suc column) row) ≡ all
next_value assignments row column old front all is e =
    let inside : column < length row = slice_get_within row column old is in
    let there : slice_get row column ≡ Some (get_or row column old) = slice_get-get_or row column old inside in
    let same : get_or row column old ≡ old = cc in
    let split : drop column row ≡ old ∷ drop (suc column) row =
    drop-cons row column old inside ∙ ap (λ v. v ∷ drop (suc column) row) same in
    let here : updated_from assignments row column (old ∷ drop (suc column) row)
    ≡ updated_value assignments row column old ∷ updated_from assignments row (suc column) (drop (suc column) row) = rw add-one refl in
    ap (λ t. front ++ t) (sym here) ∙ (ap (λ t. front ++ updated_from assignments row column t) (sym split) ∙ e)
