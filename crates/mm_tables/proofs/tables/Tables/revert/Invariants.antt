use Rattle.std.proofs.Common.{◌≡◌, ◌≤◌, length, map}
use Rattle.mm_tables.specs.Tables.{back, extents_of, shape_of, state_of}
use Rattle.mm_tables.proofs.Logs.{IsUndoing}
use Rattle.mm_tables.proofs.tables.Tables.revert.Given as goal

abbrev pub invariant-loop-self : goal.invariant-loop-self
invariant-loop-self l = record {
  least : l.mark ≤ length l.self.log;
  undoing : IsUndoing back l.initial.self.log (state_of l.initial.self.tables) l.self.log (state_of l.self.tables);
  extents : extents_of l.self.tables ≡ extents_of l.initial.self.tables;
  shapes : map shape_of l.self.tables ≡ map shape_of l.initial.self.tables;
}

abbrev pub decreases-loop-self : goal.decreases-loop-self
decreases-loop-self l = length l.self.log
