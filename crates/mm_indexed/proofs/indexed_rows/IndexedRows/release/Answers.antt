use Rattle.std.proofs.Common.{arith, sym, ◌∙◌, subst}
use Rattle.mm_partition.specs.Places.{IsHidden}
use Rattle.mm_indexed.specs.Kept.{StoredRows}
use Rattle.mm_indexed.proofs.Steps.{IsKept-aside, table_same, all_same}
use Rattle.mm_indexed.proofs.indexed_rows.IndexedRows.release.Goals as goal

pub invariant_of-self : goal.invariant_of-self
invariant_of-self c =
    let hidden : IsHidden c.self.inside.rows c.args.at = subst (λ (t : StoredRows). IsHidden t.places c.args.at) (sym c.self.view_is) c.requires in
    IsKept-aside _ _ c.release.ensures.types c.self.inside.key c.self.inside.rows c.release.new.self c.self.inside.by_key.refs c.self.inside.indexes.items
    c.self.invariant c.have_types.ensures c.args.at _ c.release.ensures.freed (λ row is. cc (sym hidden.1 ∙ is)) (λ row is. cc)

pub returns-clause-table : goal.returns-clause-table
returns-clause-table c =
    table_same 0 0 _ _ _ _ _ _ _ _ _ _ c.self.view_is c.release.ensures.types (omega arith) (all_same _)
