-- The log names the rows whose count is 0.
use Rattle.std.proofs.Common.{List, [], subst}
use Rattle.mm_standing.specs.Bags.{IsSound}
use Rattle.mm_standing.specs.declared.change.ListChange.{ListChange}
use Rattle.mm_standing.proofs.Dropping.{lean_sound}
use Rattle.mm_standing.proofs.standing.Standing.discard.Goals as goal

pub returns-clause-lean : goal.returns-clause-lean
returns-clause-lean c =
    lean_sound c.drop_all.new.bags.items c.self.inside.log.items
    (subst (λ (l : List ListChange). IsSound c.drop_all.new.bags.items [] l) c.as_slice.ensures.value c.drop_all.ensures.sound)
