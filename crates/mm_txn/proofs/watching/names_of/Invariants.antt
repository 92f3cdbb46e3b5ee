use Rattle.std.proofs.Common.{◌≡◌, map, take}
use Rattle.mm_query.specs.declared.query.FromItem.{FromItem}
use Rattle.mm_txn.proofs.watching.names_of.Given as goal

-- the names of the tables so far were copied
abbrev pub invariant-loop-item : goal.invariant-loop-item
invariant-loop-item l = l.names.items ≡ map (λ (item : FromItem). item.table) (take l.item-index l.from)
