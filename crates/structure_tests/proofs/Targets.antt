-- The targets of other rows after the target of one row changed.
use Rattle.std.proofs.Common.{◌≡◌, ◌≢◌, Option, ap, ◌∙◌}
use Rattle.mm_value.specs.declared.row_ref.RowRef.{RowRef}
use Rattle.mm_foreign_key.specs.Ties.{Ties, target_at, ChangesTarget}

pub stays : {old new : Ties} {from : RowRef} {target : Option RowRef} → ChangesTarget old new from target → (other : RowRef)
    → other.slot ≢ from.slot → {was : Option RowRef} → target_at old other ≡ was → target_at new other ≡ was
stays changes other apart is = changes.others other (λ same. apart (ap (λ (r : RowRef). r.slot) same)) ∙ is
