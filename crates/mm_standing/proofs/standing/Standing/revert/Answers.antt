-- The log keeps its first changes.
use Rattle.std.proofs.Common.{rules, List, [], take, sym, ap, ◌∙◌, subst}
use Rattle.mm_multiset.specs.Counts.{Counts}
use Rattle.mm_standing.specs.Bags.{IsLean, IsSound, change_of, done_of, undos}
use Rattle.mm_standing.specs.State.{Lists}
use Rattle.mm_standing.specs.declared.change.ListChange.{ListChange}
use Rattle.mm_standing.proofs.Dropping.{lean_sound}
use Rattle.mm_standing.proofs.Rest.{none_from, none_prepared}
use Rattle.mm_standing.proofs.standing.Standing.revert.Goals as goal

pub undo_behind-requires-clause-sound : goal.undo_behind-requires-clause-sound
undo_behind-requires-clause-sound c =
    subst (λ (l : List ListChange). IsSound c.self.inside.bags.items [] l) (sym c.as_slice.ensures.value)
    (none_prepared c.self.inside.bags.items c.self.inside.prepared.items c.self.inside.log.items (ap (λ (v : Lists). v.prepared) c.self.view_is ∙
    c.requires.prepared) c.self.invariant.0)

pub invariant_of-self : goal.invariant_of-self
invariant_of-self c =
    let new = c.undo_behind.new.bags.items in
    let empty = (none_from (change_of c.self.inside.bags.items) c.self.inside.prepared.items (ap (λ (v : Lists). v.prepared) c.self.view_is ∙
    c.requires.prepared)) in
    let kept = ap (λ (l : List ListChange). take c.args.mark l) c.as_slice.ensures.value ∙ sym c.truncate.ensures.items in (
      subst (λ (ps : List ListChange). IsSound new ps c.truncate.new.self.items) (sym empty)
          (subst (λ (l : List ListChange). IsSound new [] l) kept c.undo_behind.ensures.sound),
      search rules,
      c.self.invariant.2 ∙ sym c.undo_behind.ensures.size,
      c.undo_behind.ensures.types ∙ c.self.invariant.3,
    )

pub returns-clause-lean : goal.returns-clause-lean
returns-clause-lean c =
    lean_sound c.undo_behind.new.bags.items c.truncate.new.self.items
    (subst (λ (l : List ListChange). IsSound c.undo_behind.new.bags.items [] l)
    (ap (λ (l : List ListChange). take c.args.mark l) c.as_slice.ensures.value ∙ sym c.truncate.ensures.items) c.undo_behind.ensures.sound)
