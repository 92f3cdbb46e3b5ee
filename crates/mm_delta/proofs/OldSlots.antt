-- The old rows of edits, and their slots.
use Rattle.std.proofs.Common.{◌≡◌, ◌≢◌, ℕ, List, [], ◌∷◌, Option, Some, None, map, get_or, refl, ap, ◌∙◌, subst, arith}
use Rattle.std.specs.List.{All, AllPairs, cons_option}
use Rattle.std.proofs.lemmas.List.Elements.{All-cons, All-contains, All-head, All-nil, All-tail, Contains-get_or}
use Rattle.std.proofs.lemmas.List.Kept.{AllPairs-cons}
use Rattle.mm_base.proofs.References.{out_of_filter_map}
use Rattle.mm_row_order.specs.Refs.{HasHidden, HasRow, Slots, row_at}
use Rattle.mm_store.specs.Edits.{new_slot, old_slot, rows_gone}
use Rattle.mm_tables.proofs.Commands.{first_apart, rest_apart}
use Rattle.mm_tables.specs.Commands.{IsApart, LeavesOut}
use Rattle.mm_tables.specs.Edits.{Fits}
use Rattle.mm_tables.specs.declared.edit.Edit.{Edit}
use Rattle.mm_tables.specs.declared.edit.Edit.TheVariants.{Delete, Insert, Move, Stage, Update}
use Rattle.mm_value.specs.declared.row_ref.RowRef.{RowRef}
use Rattle.mm_value.specs.declared.values.Value.{Value}
use Rattle.mm_delta.specs.Edited.{old_slots}

-- The old rows are those of their slots.
pub gone_rows : (now : Slots) (edits : List Edit) → rows_gone now edits ≡ map (row_at now) (old_slots edits)
gone_rows now [] = refl
gone_rows now (Stage at ∷ edits) = gone_rows now edits
gone_rows now (Insert at ∷ edits) = gone_rows now edits
gone_rows now (Update at other ∷ edits) = ap (λ (l : List (List Value)). row_at now at ∷ l) (gone_rows now edits)
gone_rows now (Move at other ∷ edits) = ap (λ (l : List (List Value)). row_at now at ∷ l) (gone_rows now edits)
gone_rows now (Delete at ∷ edits) = ap (λ (l : List (List Value)). row_at now at ∷ l) (gone_rows now edits)

-- The old rows are in use.
pub old_live : (key : ℕ) (now : Slots) (edits : List Edit) → All (Fits key now) edits → All (HasRow now) (old_slots edits)
old_live key now [] all = All-nil (HasRow now)
old_live key now (Stage at ∷ edits) all = old_live key now edits (All-tail (Fits key now) (Stage at) edits all)
old_live key now (Insert at ∷ edits) all = old_live key now edits (All-tail (Fits key now) (Insert at) edits all)
old_live key now (Update at other ∷ edits) all =
    All-cons (HasRow now) at (old_slots edits) (All-head (Fits key now) (Update at other) edits all).0
    (old_live key now edits (All-tail (Fits key now) (Update at other) edits all))
old_live key now (Move at other ∷ edits) all =
    All-cons (HasRow now) at (old_slots edits) (All-head (Fits key now) (Move at other) edits all).0
    (old_live key now edits (All-tail (Fits key now) (Move at other) edits all))
old_live key now (Delete at ∷ edits) all =
    All-cons (HasRow now) at (old_slots edits) (All-head (Fits key now) (Delete at) edits all)
    (old_live key now edits (All-tail (Fits key now) (Delete at) edits all))

-- The new row of an edit is hidden.
pub new_hidden : (key : ℕ) (now : Slots) (edit : Edit) (at : RowRef) → Fits key now edit → new_slot edit ≡ Some at → HasHidden now at
new_hidden key now (Stage s) at fits is = absurd fits
new_hidden key now (Insert s) at fits is = subst (HasHidden now) (let same : s ≡ at = cc in same) fits
new_hidden key now (Update a s) at fits is = subst (HasHidden now) (let same : s ≡ at = cc in same) fits.1
new_hidden key now (Move a s) at fits is = subst (HasHidden now) (let same : s ≡ at = cc in same) fits.1
new_hidden key now (Delete s) at fits is = let no : ⊥ = cc in absurd no

-- ---- no two edits have the same old row

leaves_old : (edit : Edit) (at other : RowRef) → LeavesOut edit other → old_slot edit ≡ Some at → at ≢ other
leaves_old (Stage s) at other out is same = let no : ⊥ = cc in no
leaves_old (Insert s) at other out is same = let no : ⊥ = cc in no
leaves_old (Update s n) at other out is same = out.0 (let here : s ≡ at = cc in here ∙ same)
leaves_old (Move s n) at other out is same = out.0 (let here : s ≡ at = cc in here ∙ same)
leaves_old (Delete s) at other out is same = out (let here : s ≡ at = cc in here ∙ same)

old_left_out : (edit other : Edit) (at : RowRef) → IsApart edit other → old_slot other ≡ Some at → LeavesOut edit at
old_left_out edit (Stage s) at apart is = let no : ⊥ = cc in absurd no
old_left_out edit (Insert s) at apart is = let no : ⊥ = cc in absurd no
old_left_out edit (Update s n) at apart is = subst (LeavesOut edit) (let here : s ≡ at = cc in here) apart.0
old_left_out edit (Move s n) at apart is = subst (LeavesOut edit) (let here : s ≡ at = cc in here) apart.0
old_left_out edit (Delete s) at apart is = subst (LeavesOut edit) (let here : s ≡ at = cc in here) apart

pub old_apart : (edits : List Edit) → AllPairs IsApart edits → AllPairs (λ a b. a ≢ b) (old_slots edits)
old_apart [] apart = λ i j d before within. absurd (omega arith)
old_apart (edit ∷ edits) apart = joined (old_slot edit) refl (old_apart edits (rest_apart edit edits apart))
  where
    joined : (o : Option RowRef) → old_slot edit ≡ o → AllPairs (λ a b. a ≢ b) (old_slots edits) → AllPairs (λ a b. a ≢ b) (cons_option o (old_slots edits))
    joined None is rest = rest
    joined (Some at) is rest =
        AllPairs-cons (λ (a b : RowRef). a ≢ b) at (old_slots edits)
        (λ k d within.
        let other : RowRef = get_or (old_slots edits) k d in
        let found = out_of_filter_map old_slot edits other (Contains-get_or (old_slots edits) k d within) in
        leaves_old edit at other
        (old_left_out edit found.0 other (All-contains (IsApart edit) edits found.0 (first_apart edit edits apart) found.1) found.2) is)
        rest
