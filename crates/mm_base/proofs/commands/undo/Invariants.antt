use Rattle.std.proofs.Common.{◌≡◌, ◌≤◌, length, map}
use Rattle.std.specs.List.{All}
use Rattle.mm_indexed.specs.Index.{EachTurns}
use Rattle.mm_tables.specs.Tables.{back, extents_of, shape_of, state_of}
use Rattle.mm_tables.proofs.Logs.{IsUndoing}
use Rattle.mm_base.specs.Joined.{IsJoined, KeepsSize}
use Rattle.mm_base.proofs.commands.undo.Given as goal

abbrev pub invariant-loop-tables : goal.invariant-loop-tables
invariant-loop-tables l = record {
  least : l.mark ≤ length l.tables.log;
  undoing : IsUndoing back l.initial.tables.log (state_of l.initial.tables.tables) l.tables.log (state_of l.tables.tables);
  shapes : map shape_of l.tables.tables ≡ map shape_of l.initial.tables.tables;
  extents : extents_of l.tables.tables ≡ extents_of l.initial.tables.tables;
  joined : All (IsJoined l.tables.tables l.tables.log) l.links.items;
  links : EachTurns KeepsSize l.initial.links.items l.links.items;
}

abbrev pub decreases-loop-tables : goal.decreases-loop-tables
decreases-loop-tables l = length l.tables.log
