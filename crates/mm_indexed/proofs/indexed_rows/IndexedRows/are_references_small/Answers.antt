use Rattle.std.proofs.Common.{subst}
use Rattle.mm_partition.specs.Places.{AreReferencesSmall}
use Rattle.mm_indexed.specs.Kept.{StoredRows}
use Rattle.mm_indexed.proofs.indexed_rows.IndexedRows.are_references_small.Goals as goal

pub returns : goal.returns
returns c = subst (λ (s : StoredRows). AreReferencesSmall s.places) c.self.view_is c.are_references_small.ensures
