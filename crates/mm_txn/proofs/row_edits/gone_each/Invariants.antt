use Rattle.std.proofs.Common.{◌≡◌, map, take}
use Rattle.mm_tables.specs.declared.edit.Edit.TheVariants.{Delete}
use Rattle.mm_txn.proofs.row_edits.gone_each.Given as goal

-- the edits of the references so far were made
abbrev pub invariant-loop-at : goal.invariant-loop-at
invariant-loop-at l = l.edits ≡ map Delete (take l.at-index l.refs)
