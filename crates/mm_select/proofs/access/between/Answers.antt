use Rattle.std.proofs.Common.{◌∙◌, subst, sym}
use Rattle.std.specs.List.{All}
use Rattle.std.proofs.lemmas.List.Elements.{All-nil}
use Rattle.mm_partition.specs.Places.{IsLive}
use Rattle.mm_select.proofs.Along.{appended}
use Rattle.mm_select.proofs.Found.{range_along}
use Rattle.mm_select.proofs.KeyWalks.{range_in_order}
use Rattle.std.specs.Option.{option_copied}
use Rattle.mm_indexed.specs.Reads.{IsRange}
use Rattle.mm_select.specs.Accesses.{AreAlong}
use Rattle.mm_select.specs.declared.access.Access.TheVariants as access
use Rattle.mm_store.proofs.Shown.{table_seen}
use Rattle.mm_select.proofs.access.between.Goals as goal

pub range-requires-clause-tree : goal.range-requires-clause-tree
range-requires-clause-tree c = λ stored at. let on = c.requires.served stored at in (c.args.column, on.0, on.1)

pub returns-clause-along : goal.returns-clause-along
returns-clause-along c = λ stored at.
    subst (AreAlong stored (access.Range c.args.index c.args.column c.args.low c.args.high)) (sym c.from_vec.ensures.items)
    (range_along stored (table_seen c.args.view.now c.args.table stored at).kept c.args.index c.args.column c.args.low c.args.high c.new-found.result.items
    c.range.new.out.items
    (c.requires.served stored at) c.new-found.ensures.items
    (rw (c.end_ref.ensures, c.end_ref-2.ensures) at (c.in_ok-range.ensures.ok stored c.args.column at (c.requires.served stored at).0)))

pub returns-clause-ordered : goal.returns-clause-ordered
returns-clause-ordered c = λ stored at ordered.
    let on = c.requires.served stored at in
    c.from_vec.ensures.items
    ∙ range_in_order stored (table_seen c.args.view.now c.args.table stored at) c.args.index c.args.column c.args.low c.args.high c.range.new.out.items on
    (appended (IsRange c.args.column stored (option_copied c.args.low) (option_copied c.args.high)) c.new-found.result.items c.range.new.out.items
    c.new-found.ensures.items (rw (c.end_ref.ensures, c.end_ref-2.ensures) at (c.in_ok-range.ensures.ok stored c.args.column at on.0))) ordered

pub returns-clause-live : goal.returns-clause-live
returns-clause-live c = λ stored at.
    subst (All (IsLive stored.places)) (sym c.from_vec.ensures.items)
    (c.in_ok-range.ensures.live stored at (subst (All (IsLive stored.places)) (sym c.new-found.ensures.items) (All-nil (IsLive stored.places))))
