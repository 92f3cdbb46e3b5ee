use Rattle.std.proofs.Common.{sym, subst}
use Rattle.std.specs.Prelude.{◌↔◌, IsTrue}
use Rattle.mm_partition.specs.Places.{IsLive, slot_at}
use Rattle.mm_indexed.specs.Kept.{StoredRows}
use Rattle.mm_indexed.specs.Twins.{HasTwin}
use Rattle.mm_indexed.proofs.Steps.{wide_here}
use Rattle.mm_indexed.proofs.indexed_rows.IndexedRows.has_twin.Goals as goal

pub has_twin_in-requires-clause-wide : goal.has_twin_in-requires-clause-wide
has_twin_in-requires-clause-wide c =
    wide_here _ _ _ _ _ c.self.invariant c.args.at (subst (λ (t : StoredRows). IsLive t.places c.args.at) (sym c.self.view_is) c.requires)

pub returns : goal.returns
returns c =
    subst (λ (t : StoredRows). IsTrue c.has_twin_in.result ↔ HasTwin t.key (slot_at t.places) c.args.at) c.self.view_is c.has_twin_in.ensures
