use Rattle.std.proofs.Common.{◌≡◌, drop}
use Rattle.mm_plan.specs.Choosing.{first_from, joined_by}
use Rattle.mm_plan.proofs.choosing.Further.first_by.Given as goal

-- The first step chosen for the remaining atoms is the first one chosen for all atoms.
abbrev pub invariant-loop-place : goal.invariant-loop-place
invariant-loop-place l =
    first_from (joined_by l.rule l.self.chooser.view.now.store l.self.chooser.atoms.now l.self.outers.now l.self.table) l.place
    (drop l.place l.self.chooser.atoms.now)
    ≡ first_from (joined_by l.rule l.self.chooser.view.now.store l.self.chooser.atoms.now l.self.outers.now l.self.table) 0 l.self.chooser.atoms.now
