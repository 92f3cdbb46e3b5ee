-- The prepared changes lead to the lists of the rows after the edits.
use Rattle.std.proofs.Common.{◌≡◌, List, [], sym, ap, ◌∙◌, subst}
use Rattle.mm_multiset.specs.Counts.{Counts}
use Rattle.mm_delta.specs.Edited.{after_at}
use Rattle.mm_standing.specs.Bags.{CanAdd, count_with, undos}
use Rattle.mm_standing.specs.Queries.{AreCounts, RowsByPlace, StandingQuery}
use Rattle.mm_standing.specs.State.{Lists}
use Rattle.mm_standing.specs.declared.change.RowChange.{RowChange}
use Rattle.mm_standing.proofs.Dropping.{lean_sound}
use Rattle.mm_standing.proofs.Ready.{fit_ready}
use Rattle.mm_standing.proofs.Rest.{anyway, none_prepared}
use Rattle.mm_standing.proofs.Stages.{nothing_left, nothing_to_add}
use Rattle.mm_standing.proofs.standing.Standing.prepare.Goals as goal

pub returns-clause-ok : goal.returns-clause-ok
returns-clause-ok c =
    let found : List RowChange = c.in_ok-found.field-0.items in
    let after : RowsByPlace = after_at c.args.view.now.store c.args.changes.now in
    let queries : c.as_slice.result.now ≡ c.put_prepared.new.self.queries =
    c.as_slice.ensures.value ∙ sym (ap (λ (v : Lists). v.queries) c.put_prepared.ensures.rest) in
    let counts : AreCounts (count_with c.self.inside.bags.items found) after c.put_prepared.new.self.queries =
    subst (λ (qs : List StandingQuery). AreCounts (count_with c.self.inside.bags.items found) after qs) queries
    (subst (λ (bags : List Counts). AreCounts (count_with bags found) after c.as_slice.result.now) c.as_slice-2.ensures.value c.in_ok-found.ensures.counts) in
    fit_ready (count_with c.self.inside.bags.items found) (λ list row. count_with c.put_prepared.new.self.bags c.put_prepared.new.self.prepared list row) after
    c.put_prepared.new.self.queries c.in_ok-put_prepared.ensures.ok counts

pub changes_of_lists-found-requires-clause-within : goal.changes_of_lists-found-requires-clause-within
changes_of_lists-found-requires-clause-within c =
    let bags = c.self.inside.bags.items in
    subst (λ (bs : List Counts). CanAdd bs []) (sym c.as_slice-2.ensures.value)
    (nothing_to_add bags (nothing_left bags (undos bags c.self.inside.log.items) c.self.invariant.0.undo))

pub returns-in_err-found-clause-lean : goal.returns-in_err-found-clause-lean
returns-in_err-found-clause-lean c =
    anyway c.from_residual.result (lean_sound c.self.inside.bags.items c.self.inside.log.items
    (none_prepared c.self.inside.bags.items c.self.inside.prepared.items c.self.inside.log.items (ap (λ (v : Lists). v.prepared) c.self.view_is ∙
    c.requires.prepared) c.self.invariant.0))
