use Rattle.std.proofs.Common.{refl, arith}
use Rattle.mm_indexed.proofs.Steps.{IsKept-same, IsKept-grown, table_same, all_same, grown_room, grown_entries, on_ok}
use Rattle.mm_indexed.proofs.indexed_rows.IndexedRows.reserve.Goals as goal

-- the allocation for the rows fails
pub invariant_of-self : goal.invariant_of-self
invariant_of-self c =
    IsKept-same _ _ c.reserve.ensures.types c.self.inside.key c.self.inside.rows c.reserve.new.self c.self.inside.by_key.refs c.self.inside.by_key.refs
    c.self.inside.indexes.items refl c.reserve.ensures.rows c.self.invariant

-- .. or that for the index on the key
pub invariant_of-self-in_err-reserve-2 : goal.invariant_of-self-in_err-reserve-2
invariant_of-self-in_err-reserve-2 c =
    IsKept-same _ _ c.reserve.ensures.types c.self.inside.key c.self.inside.rows c.reserve.new.self c.self.inside.by_key.refs c.reserve-2.new.self.refs
    c.self.inside.indexes.items c.reserve-2.ensures.refs c.reserve.ensures.rows c.self.invariant

-- in the end each index has grown
pub invariant_of-self-2 : goal.invariant_of-self-2
invariant_of-self-2 c =
    IsKept-grown c.reserve.new.self.types c.self.inside.key _ c.reserve-2.new.self.refs c.self.inside.indexes.items c.reserve_all.new.indexes.items
    (IsKept-same _ _ c.reserve.ensures.types c.self.inside.key c.self.inside.rows c.reserve.new.self c.self.inside.by_key.refs c.reserve-2.new.self.refs
    c.self.inside.indexes.items c.reserve-2.ensures.refs c.reserve.ensures.rows c.self.invariant) c.reserve_all.ensures.grown

pub returns-in_err-reserve-clause-table : goal.returns-in_err-reserve-clause-table
returns-in_err-reserve-clause-table c =
    table_same 0 0 _ _ _ _ _ _ _ _ _ _ c.self.view_is c.reserve.ensures.types (omega arith) (all_same _)

pub returns-in_err-reserve-2-clause-table : goal.returns-in_err-reserve-2-clause-table
returns-in_err-reserve-2-clause-table c =
    table_same 0 0 _ _ _ _ _ _ _ _ _ _ c.self.view_is c.reserve.ensures.types (omega (arith, c.reserve-2.ensures.spare)) (all_same _)

pub returns-clause-table : goal.returns-clause-table
returns-clause-table c =
    table_same 0 0 _ _ _ _ _ _ _ _ _ _ c.self.view_is c.reserve.ensures.types (omega (arith, c.reserve-2.ensures.spare))
    (grown_room _ _ c.reserve_all.ensures.grown)

pub returns-clause-entries : goal.returns-clause-entries
returns-clause-entries c = on_ok c.reserve_all.result (grown_entries c.args.m _ _) c.reserve_all.ensures.room
