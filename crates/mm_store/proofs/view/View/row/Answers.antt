use Rattle.std.proofs.Common.{◌≡◌, ap, sym, ◌∙◌, subst}
use Rattle.std.specs.Prelude.{slice_get}
use Rattle.mm_partition.specs.Views.{viewed}
use Rattle.mm_partition.specs.Places.{Live, slot_at}
use Rattle.mm_indexed.specs.Kept.{StoredRows}
use Rattle.mm_store.proofs.Joining.{one_relation}
use Rattle.mm_store.proofs.Shown.{table_seen}
use Rattle.mm_store.specs.Seen.{Seen}
use Rattle.mm_store.proofs.view.View.row.Goals as goal

pub returns-clause-typed : goal.returns-clause-typed
returns-clause-typed c = λ stored at.
    let here = ap (λ (seen : Seen). slice_get seen.store.tables c.args.table) c.self.view_is ∙ at in
    (table_seen c.args.self.now c.args.table stored at).kept.typed c.args.at (viewed c.row.result)
    (subst (λ (s : StoredRows). slot_at s.places c.args.at ≡ Live (viewed c.row.result))
    (one_relation c.table.result.now stored (sym c.table.ensures.at ∙ here)) c.row.ensures)
