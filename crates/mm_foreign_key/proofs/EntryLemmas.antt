-- Entries stored as numbers.
use Rattle.std.proofs.Common.{◌≡◌, ◌≢◌, ℕ, zero, suc, ◌<◌, List, ◌∷◌, ◌++◌, length, Option, Some, None, get_or, set, replicate}
use Rattle.std.proofs.Common.{refl, ap, sym, ◌∙◌, ⊎_elim, arith}
use Rattle.std.proofs.lemmas.Bool.{cases_eq, cond-true, cond-false, eq-eqb, ne_eqb}
use Rattle.std.proofs.lemmas.List.{get_or-map, length-map, map-append, map-set}
use Rattle.mm_value.specs.declared.row_ref.RowRef.{RowRef}
use Rattle.mm_foreign_key.specs.declared.slots.TheConstants.{NONE}
use Rattle.mm_foreign_key.specs.Counts.{entry_of, entries_of, IsCounted}

-- there are as many entries as numbers
pub as_many_entries : (numbers : List ℕ) → length (entries_of numbers) ≡ length numbers
as_many_entries numbers = length-map numbers entry_of

-- the entry at an existing position
pub entry_at : (numbers : List ℕ) (i d : ℕ) → i < length numbers → get_or (entries_of numbers) i None ≡ entry_of (get_or numbers i d)
entry_at numbers i d within = get_or-map entry_of numbers i d None within

-- a reference is stored as its slot
pub entry_of_slot : (at : RowRef) → at.slot ≢ NONE → entry_of at.slot ≡ Some at
entry_of_slot at other = cond-false _ _ _ (ne_eqb at.slot NONE other)

same_slot : (a b : RowRef) → Some a ≡ Some b → a.slot ≡ b.slot
same_slot a b is =
    let same : a ≡ b = cc in
    ap (λ (at : RowRef). at.slot) same

-- the stored number of a reference is its slot
pub slot_of_entry : (number : ℕ) (at : RowRef) → entry_of number ≡ Some at → number ≡ at.slot
slot_of_entry number at is =
    ⊎_elim
    (λ (same : number ≡ NONE). let both : None ≡ Some at = sym (cond-true _ _ _ (eq-eqb number NONE same)) ∙ is in cc)
    (λ (other : number ≢ NONE). same_slot (record { slot = number }) at (sym (entry_of_slot (record { slot = number }) other) ∙ is))
    (cases_eq number NONE)

-- the entries after a number is written
pub entries-set : (numbers : List ℕ) (i number : ℕ) → entries_of (set numbers i number) ≡ set (entries_of numbers) i (entry_of number)
entries-set numbers i number = map-set entry_of numbers i number

none_entries : (more : ℕ) → entries_of (replicate more NONE) ≡ replicate more None
none_entries zero = refl
none_entries (suc more) = ap (λ (entries : List (Option RowRef)). None ∷ entries) (none_entries more)

-- the entries after appending entries without a target
pub entries-grown : (numbers : List ℕ) (more : ℕ) → entries_of (numbers ++ replicate more NONE) ≡ entries_of numbers ++ replicate more None
entries-grown numbers more =
    map-append entry_of numbers (replicate more NONE) ∙ ap (λ (entries : List (Option RowRef)). entries_of numbers ++ entries) (none_entries more)

-- the entries after the slot of a row with a count is written
pub entries-tied : (numbers : List ℕ) (i : ℕ) (target : RowRef) (counts : List ℕ) → target.slot < length counts → IsCounted (entries_of numbers) counts
    → entries_of (set numbers i target.slot) ≡ set (entries_of numbers) i (Some target)
entries-tied numbers i target counts within counted =
    entries-set numbers i target.slot ∙ ap (set (entries_of numbers) i) (entry_of_slot target (omega (arith, within, counted.places)))
