use Rattle.std.proofs.Common.{arith, sym, ◌∙◌}
use Rattle.mm_indexed.proofs.Steps.{IsKept-aside, table_same, all_same}
use Rattle.mm_indexed.proofs.indexed_rows.IndexedRows.stage.Goals as goal

pub invariant_of-self : goal.invariant_of-self
invariant_of-self c =
    IsKept-aside _ _ c.stage-at.ensures.types c.self.inside.key c.self.inside.rows c.stage-at.new.self c.self.inside.by_key.refs c.self.inside.indexes.items
    c.self.invariant c.have_types.ensures c.stage-at.result _ c.stage-at.ensures.staged (λ row is. cc (sym c.stage-at.ensures.fresh ∙ is)) (λ row is. cc)

pub returns-clause-table : goal.returns-clause-table
returns-clause-table c =
    table_same 0 0 _ _ _ _ _ _ _ _ _ _ c.self.view_is c.stage-at.ensures.types (omega arith) (all_same _)
