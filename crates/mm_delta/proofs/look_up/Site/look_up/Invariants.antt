use Rattle.std.proofs.Common.{◌≡◌, drop}
use Rattle.mm_query.specs.Queries.{rows_read}
use Rattle.mm_partition.specs.Views.{viewed}
use Rattle.mm_delta.specs.Candidates.{required}
use Rattle.mm_delta.specs.Edited.{has_index}
use Rattle.mm_delta.proofs.look_up.Site.look_up.Given as goal

abbrev pub invariant-loop-atom : goal.invariant-loop-atom
invariant-loop-atom l =
    required (has_index l.self.view.now.store l.self.table) (drop l.atom-index l.atoms) (rows_read viewed l.self.rows.now) l.self.place
    ≡ required (has_index l.self.view.now.store l.self.table) l.atoms (rows_read viewed l.self.rows.now) l.self.place
