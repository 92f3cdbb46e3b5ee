use Rattle.std.proofs.Common.{sym, subst, arith}
use Rattle.mm_partition.specs.Places.{IsLive}
use Rattle.mm_indexed.specs.Kept.{StoredRows}
use Rattle.mm_indexed.proofs.Steps.{keep_beside, IsKept-hidden, table_same, removed_room}
use Rattle.mm_indexed.proofs.indexed_rows.IndexedRows.hide.Goals as goal

pub remove-requires-clause-held : goal.remove-requires-clause-held
remove-requires-clause-held c =
    let live : IsLive c.self.inside.rows c.args.at = subst (λ (t : StoredRows). IsLive t.places c.args.at) (sym c.self.view_is) c.requires in
    (c.self.invariant.held c.args.at).1 live

pub remove_from_all-requires-clause-keep : goal.remove_from_all-requires-clause-keep
remove_from_all-requires-clause-keep c =
    (c.remove.new.tree.refs, keep_beside _ _ _ _ _ c.self.invariant c.args.at c.remove.new.tree.refs c.remove.ensures.refs)

pub invariant_of-self : goal.invariant_of-self
invariant_of-self c =
    let live : IsLive c.self.inside.rows c.args.at = subst (λ (t : StoredRows). IsLive t.places c.args.at) (sym c.self.view_is) c.requires in
    IsKept-hidden _ _ c.hide.ensures.types c.self.inside.key c.self.inside.rows c.hide.new.self c.self.inside.by_key.refs c.self.inside.indexes.items
    c.self.invariant c.have_types.ensures c.args.at c.remove.new.tree.refs c.remove.ensures.refs c.remove.ensures.absent live.0
    (c.hide.ensures.hidden live.0 live.1) c.remove_from_all.new.indexes.items c.remove.ensures.ordered c.remove_from_all.ensures

pub returns-clause-table : goal.returns-clause-table
returns-clause-table c =
    table_same 0 0 _ _ _ _ _ _ _ _ _ _ c.self.view_is c.hide.ensures.types (omega (arith, c.remove.ensures.spare))
    (removed_room _ _ _ _ _ _ c.remove_from_all.ensures)
