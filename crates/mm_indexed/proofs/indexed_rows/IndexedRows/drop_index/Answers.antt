use Rattle.std.proofs.Common.{List, sym, subst}
use Rattle.mm_partition.specs.Places.{Places, slot_at}
use Rattle.mm_indexed.specs.Kept.{IsKept}
use Rattle.mm_indexed.specs.declared.indexes.index.Index.{Index}
use Rattle.mm_indexed.proofs.Building.{IsKept-removed}
use Rattle.mm_indexed.proofs.indexed_rows.IndexedRows.drop_index.Goals as goal

pub invariant_of-self : goal.invariant_of-self
invariant_of-self c =
    let types = c.self.inside.rows.types in
    let key = c.self.inside.key in
    let refs = c.self.inside.by_key.refs in
    let items : List Index = c.remove-dropped.new.self.items in
    subst (λ (places : Places). IsKept places.types key (slot_at places) refs items) (sym c.untrack_unused.ensures)
    (subst (IsKept types key (slot_at c.self.inside.rows) refs) (sym c.remove-dropped.ensures.items)
    (IsKept-removed types key (slot_at c.self.inside.rows) refs c.self.inside.indexes.items c.self.invariant c.args.index))
