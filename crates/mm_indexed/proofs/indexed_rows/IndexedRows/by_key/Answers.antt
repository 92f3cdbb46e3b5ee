use Rattle.std.proofs.Common.{sym, subst}
use Rattle.std.specs.List.{All}
use Rattle.mm_partition.specs.Places.{IsLive, slot_at}
use Rattle.mm_indexed.specs.Kept.{StoredRows}
use Rattle.mm_indexed.proofs.Building.{live_refs}
use Rattle.mm_indexed.proofs.indexed_rows.IndexedRows.by_key.Goals as goal

pub returns-clause-live : goal.returns-clause-live
returns-clause-live c =
    subst (λ (v : StoredRows). All (IsLive v.places) c.iter.result) c.self.view_is
    (subst (All (IsLive c.self.inside.rows)) (sym c.iter.ensures)
    (live_refs c.self.inside.rows.types c.self.inside.key (slot_at c.self.inside.rows) c.self.inside.by_key.refs c.self.inside.indexes.items c.self.invariant))
