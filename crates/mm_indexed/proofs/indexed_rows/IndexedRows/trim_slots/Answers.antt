use Rattle.std.proofs.Common.{refl, arith}
use Rattle.mm_indexed.proofs.Steps.{IsKept-same, table_same, all_same}
use Rattle.mm_indexed.proofs.indexed_rows.IndexedRows.trim_slots.Goals as goal

pub invariant_of-self : goal.invariant_of-self
invariant_of-self c =
    IsKept-same _ _ c.trim.ensures.types c.self.inside.key c.self.inside.rows c.trim.new.self c.self.inside.by_key.refs c.self.inside.by_key.refs
    c.self.inside.indexes.items refl c.trim.ensures.slots c.self.invariant

pub returns-then-free_slots-extent-clause-table : goal.returns-then-free_slots-extent-clause-table
returns-then-free_slots-extent-clause-table c =
    table_same 0 0 _ _ _ _ _ _ _ _ _ _ c.self.view_is c.trim.ensures.types (omega arith) (all_same _)
