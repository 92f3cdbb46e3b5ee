-- With nothing prepared and an empty log everything is sound.
use Rattle.std.proofs.Common.{List, length, sym, ap, ◌∙◌, subst, arith}
use Rattle.mm_multiset.specs.Counts.{Counts}
use Rattle.mm_standing.specs.Bags.{IsLean, IsSound, change_of, done_of, undos}
use Rattle.mm_standing.specs.State.{Lists}
use Rattle.mm_standing.specs.declared.change.ListChange.{ListChange}
use Rattle.mm_standing.proofs.Dropping.{lean_sound}
use Rattle.mm_standing.proofs.Rest.{none_from, none_prepared}
use Rattle.mm_standing.proofs.standing.Standing.settle.Goals as goal

pub purge-requires : goal.purge-requires
purge-requires c = (none_prepared c.self.inside.bags.items c.self.inside.prepared.items c.self.inside.log.items (ap (λ (v : Lists). v.prepared) c.self.view_is
    ∙ c.requires) c.self.invariant.0)

pub invariant_of-self : goal.invariant_of-self
invariant_of-self c =
    let empty = (none_from (change_of c.self.inside.bags.items) c.self.inside.prepared.items (ap (λ (v : Lists). v.prepared) c.self.view_is ∙ c.requires)) in (
      subst (λ (ps : List ListChange). IsSound c.purge.new.bags.items ps c.purge.new.log.items) (sym empty) c.purge.ensures.sound,
      omega (
        arith,
        c.purge.new.log.ok.0,
        ap (λ (l : List ListChange). length l) c.purge.ensures.log,
        c.self.inside.prepared.ok.0,
        ap (λ (l : List ListChange). length l) empty,
      ),
      c.self.invariant.2 ∙ sym c.purge.ensures.size,
      c.purge.ensures.types ∙ c.self.invariant.3,
    )
