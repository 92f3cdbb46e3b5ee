-- Nothing is prepared if an allocation fails.
use Rattle.std.proofs.Common.{List, [], sym, ap, ◌∙◌, subst}
use Rattle.mm_multiset.specs.Counts.{Counts}
use Rattle.mm_standing.specs.Bags.{IsLean, IsSound, change_of, done_of, undos}
use Rattle.mm_standing.specs.State.{Lists}
use Rattle.mm_standing.specs.declared.change.ListChange.{ListChange}
use Rattle.mm_standing.proofs.Dropping.{lean_sound}
use Rattle.mm_standing.proofs.Rest.{anyway, none_prepared}
use Rattle.mm_standing.proofs.standing.Standing.put_prepared.Goals as goal

pub returns-in_err-reserve-clause-lean : goal.returns-in_err-reserve-clause-lean
returns-in_err-reserve-clause-lean c =
    anyway c.from_residual.result (lean_sound c.self.inside.bags.items c.self.inside.log.items
    (none_prepared c.self.inside.bags.items c.self.inside.prepared.items c.self.inside.log.items (ap (λ (v : Lists). v.prepared) c.self.view_is ∙
    c.requires.prepared) c.self.invariant.0))

pub returns-in_err-reserve-2-clause-lean : goal.returns-in_err-reserve-2-clause-lean
returns-in_err-reserve-2-clause-lean c =
    anyway c.from_residual-in_err-reserve-2.result (lean_sound c.self.inside.bags.items c.reserve-2.new.self.items
    (subst (λ (l : List ListChange). IsSound c.self.inside.bags.items [] l) (sym c.reserve-2.ensures.items)
    (none_prepared c.self.inside.bags.items c.self.inside.prepared.items c.self.inside.log.items (ap (λ (v : Lists). v.prepared) c.self.view_is ∙
    c.requires.prepared) c.self.invariant.0)))

pub prepare_each-outcome-requires-clause-sound : goal.prepare_each-outcome-requires-clause-sound
prepare_each-outcome-requires-clause-sound c =
    subst (λ (l : List ListChange). IsSound c.self.inside.bags.items [] l) (sym (c.as_slice.ensures.value ∙ c.reserve-2.ensures.items))
    (none_prepared c.self.inside.bags.items c.self.inside.prepared.items c.self.inside.log.items (ap (λ (v : Lists). v.prepared) c.self.view_is ∙
    c.requires.prepared) c.self.invariant.0)
