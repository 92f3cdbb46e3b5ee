-- The row that a row refers to, read from the entries.
use Rattle.std.proofs.Common.{◌≡◌, ℕ, ◌<◌, List, ◌++◌, length, Option, Some, None, get_or, set, replicate, sym, ap, ◌∙◌, arith}
use Rattle.std.specs.Prelude.{count_by}
use Rattle.std.proofs.lemmas.List.{get_or-set_other, get_or-set_same}
use Rattle.mm_value.specs.declared.row_ref.RowRef.{RowRef}
use Rattle.mm_foreign_key.specs.Counts.{refers_to, entry_of, entries_of}
use Rattle.mm_foreign_key.specs.Ties.{Ties, target_at, HasTarget, IsReferred, KeepsTargets, ChangesTarget}
use Rattle.mm_foreign_key.proofs.CountLemmas.{entry_within, entry_from_count, count_from_entry, get_or-grown}
use Rattle.mm_foreign_key.proofs.EntryLemmas.{as_many_entries, entry_at, slot_of_entry}

-- the entry of a row is its target
pub entry_is : (ties : Ties) (targets : List (Option RowRef)) (from : RowRef) → targets ≡ ties.targets
    → get_or targets from.slot None ≡ target_at ties from
entry_is ties targets from view = ap (λ (xs : List (Option RowRef)). get_or xs from.slot None) view

-- a row whose slot is counted is referenced
pub IsReferred-from_count : (ties : Ties) (targets : List (Option RowRef)) (to : RowRef) → targets ≡ ties.targets
    → 0 < count_by (refers_to to.slot) targets → IsReferred ties to
IsReferred-from_count ties targets to view some =
    let (i, is) = entry_from_count to.slot targets some in
    let from : RowRef = record { slot = i } in (from, sym (entry_is ties targets from view) ∙ is)

pub count-from_IsReferred : (ties : Ties) (targets : List (Option RowRef)) (to : RowRef) → targets ≡ ties.targets → IsReferred ties to
    → 0 < count_by (refers_to to.slot) targets
count-from_IsReferred ties targets to view (from, is) = count_from_entry targets from.slot to (entry_is ties targets from view ∙ is)

-- no entry is written, and entries without a target are appended
pub KeepsTargets-grown : (old : Ties) (targets grown : List (Option RowRef)) (more : ℕ) → targets ≡ old.targets
    → grown ≡ targets ++ replicate more None → KeepsTargets old (record { targets = grown; extent = old.extent })
KeepsTargets-grown old targets grown more view is from =
    ap (λ (xs : List (Option RowRef)). get_or xs from.slot None) is
    ∙ (get_or-grown targets more from.slot None ∙ entry_is old targets from view)

-- one entry is written
pub ChangesTarget-set : (old new : Ties) (targets : List (Option RowRef)) (from : RowRef) (target : Option RowRef) → targets ≡ old.targets
    → new.targets ≡ set targets from.slot target → from.slot < length targets → ChangesTarget old new from target
ChangesTarget-set old new targets from target view written within = record {
  changed = ap (λ (xs : List (Option RowRef)). get_or xs from.slot None) written ∙ get_or-set_same targets from.slot target None within;
  others = λ other apart.
      ap (λ (xs : List (Option RowRef)). get_or xs other.slot None) written
      ∙ (get_or-set_other targets from.slot other.slot target None (λ same. apart (ap {B = RowRef} (λ s. record { slot = s }) same))
      ∙ entry_is old targets other view);
}

-- the stored number of a row is the slot of its target
pub record IsTied (numbers : List ℕ) (from : RowRef) (number : ℕ) : Type 0 where
  pub within : from.slot < length numbers
  pub entry : get_or (entries_of numbers) from.slot None ≡ Some (record { slot = number })

-- the number that is read for a row with a target is such a number
pub IsTied-read : (ties : Ties) (numbers : List ℕ) (from : RowRef) (number d : ℕ) → entries_of numbers ≡ ties.targets → HasTarget ties from
    → number ≡ get_or numbers from.slot d → IsTied numbers from number
IsTied-read ties numbers from number d view (to, is) read =
    let entry : get_or (entries_of numbers) from.slot None ≡ Some to = entry_is ties (entries_of numbers) from view ∙ is in
    let within : from.slot < length numbers = omega (arith, entry_within (entries_of numbers) from.slot to entry, as_many_entries numbers) in
    let same : number ≡ to.slot = slot_of_entry number to (ap entry_of read ∙ (sym (entry_at numbers from.slot d within) ∙ entry)) in
    record { within = within; entry = entry ∙ ap {B = Option RowRef} (λ s. Some (record { slot = s })) (sym same) }
