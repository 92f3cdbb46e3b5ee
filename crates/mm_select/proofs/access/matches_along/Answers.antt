use Rattle.std.proofs.Common.{subst, sym}
use Rattle.std.specs.List.{All}
use Rattle.std.proofs.lemmas.List.Elements.{All-nil}
use Rattle.mm_partition.specs.Places.{IsLive}
use Rattle.mm_select.proofs.Found.{equal_along}
use Rattle.mm_select.specs.Accesses.{AreAlong}
use Rattle.mm_select.specs.declared.access.Access.TheVariants as access
use Rattle.mm_store.proofs.Shown.{table_seen}
use Rattle.mm_select.proofs.access.matches_along.Goals as goal

pub matches-requires-clause-index : goal.matches-requires-clause-index
matches-requires-clause-index c = λ stored at. (c.args.column, c.requires.served stored at)

pub returns-clause-along : goal.returns-clause-along
returns-clause-along c = λ stored at.
    subst (AreAlong stored (access.Equal c.args.index c.args.column c.args.value)) (sym c.from_vec.ensures.items)
    (equal_along stored (table_seen c.args.view.now c.args.table stored at).kept c.args.index c.args.column c.args.value c.new-found.result.items
    c.matches.new.out.items (c.requires.served stored at) c.new-found.ensures.items
    (rw c.as_ref.ensures at (c.in_ok-matches.ensures.ok stored c.args.column at (c.requires.served stored at))))

pub returns-clause-live : goal.returns-clause-live
returns-clause-live c = λ stored at.
    subst (All (IsLive stored.places)) (sym c.from_vec.ensures.items)
    (c.in_ok-matches.ensures.live stored at (subst (All (IsLive stored.places)) (sym c.new-found.ensures.items) (All-nil (IsLive stored.places))))
