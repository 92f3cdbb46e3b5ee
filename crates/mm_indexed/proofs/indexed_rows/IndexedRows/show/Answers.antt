use Rattle.std.proofs.Common.{arith, sym, subst}
use Rattle.mm_partition.specs.Places.{IsHidden}
use Rattle.mm_indexed.specs.Kept.{StoredRows}
use Rattle.mm_indexed.proofs.Steps.{columns_now, ordered_shown, absent_shown, keep_shown, IsKept-shown, table_same, inserted_room}
use Rattle.mm_indexed.proofs.indexed_rows.IndexedRows.show.Goals as goal

pub insert-requires-clause-ordered : goal.insert-requires-clause-ordered
insert-requires-clause-ordered c =
    let hidden : IsHidden c.self.inside.rows c.args.at = subst (λ (t : StoredRows). IsHidden t.places c.args.at) (sym c.self.view_is) c.requires.hidden in
    ordered_shown _ _ c.unhide.ensures.types c.self.inside.key c.self.inside.rows c.unhide.new.self c.self.inside.by_key.refs c.self.inside.indexes.items
    c.self.invariant c.have_types.ensures c.args.at hidden.0 hidden (c.unhide.ensures.back hidden.0 hidden.1)

pub insert-requires-clause-absent : goal.insert-requires-clause-absent
insert-requires-clause-absent c =
    let hidden : IsHidden c.self.inside.rows c.args.at = subst (λ (t : StoredRows). IsHidden t.places c.args.at) (sym c.self.view_is) c.requires.hidden in
    absent_shown _ _ c.unhide.ensures.types c.self.inside.key c.self.inside.rows c.unhide.new.self c.self.inside.by_key.refs c.self.inside.indexes.items
    c.self.invariant c.have_types.ensures c.args.at hidden.0 hidden (c.unhide.ensures.back hidden.0 hidden.1)

pub insert_into_all-requires-clause-columns : goal.insert_into_all-requires-clause-columns
insert_into_all-requires-clause-columns c =
    columns_now _ _ c.unhide.ensures.types c.self.inside.key c.self.inside.rows c.unhide.new.self c.self.inside.by_key.refs c.self.inside.indexes.items
    c.self.invariant c.have_types.ensures

pub insert_into_all-requires-clause-keep : goal.insert_into_all-requires-clause-keep
insert_into_all-requires-clause-keep c =
    let hidden : IsHidden c.self.inside.rows c.args.at = subst (λ (t : StoredRows). IsHidden t.places c.args.at) (sym c.self.view_is) c.requires.hidden in (
      c.self.inside.by_key.refs,
      absent_shown _ _ c.unhide.ensures.types c.self.inside.key c.self.inside.rows c.unhide.new.self c.self.inside.by_key.refs c.self.inside.indexes.items
          c.self.invariant c.have_types.ensures c.args.at hidden.0 hidden (c.unhide.ensures.back hidden.0 hidden.1),
      keep_shown _ _ c.unhide.ensures.types c.self.inside.key c.self.inside.rows c.unhide.new.self c.self.inside.by_key.refs c.self.inside.indexes.items
          c.self.invariant c.have_types.ensures c.args.at hidden.0 hidden (c.unhide.ensures.back hidden.0 hidden.1),
    )

pub invariant_of-self : goal.invariant_of-self
invariant_of-self c =
    let hidden : IsHidden c.self.inside.rows c.args.at = subst (λ (t : StoredRows). IsHidden t.places c.args.at) (sym c.self.view_is) c.requires.hidden in
    IsKept-shown _ _ c.unhide.ensures.types c.self.inside.key c.self.inside.rows c.unhide.new.self c.self.inside.by_key.refs c.self.inside.indexes.items
    c.self.invariant c.have_types.ensures c.args.at hidden.0 hidden (c.unhide.ensures.back hidden.0 hidden.1)
    c.insert.new.tree.refs c.insert_into_all.new.indexes.items c.insert.ensures.refs c.insert.ensures.ordered c.insert_into_all.ensures

pub returns-clause-table : goal.returns-clause-table
returns-clause-table c =
    table_same 1 1 _ _ _ _ _ _ _ _ _ _ c.self.view_is c.unhide.ensures.types (omega (arith, c.insert.ensures.spare))
    (inserted_room _ _ _ _ _ _ c.insert_into_all.ensures)
