use Rattle.std.proofs.Common.{◌≡◌, ◌++◌, map, take, vec_capacity}
use Rattle.mm_tables.specs.Tables.{logged}
use Rattle.mm_tables.proofs.bulk.log_all.Given as goal

abbrev pub invariant-loop-edit : goal.invariant-loop-edit
invariant-loop-edit l = record {
  log : l.log.items ≡ l.initial.log.items ++ map (logged l.table) (take l.edit-index l.edits);
  capacity : vec_capacity l.log ≡ vec_capacity l.initial.log;
}
