use Rattle.std.proofs.Common.{◌≡◌, drop}
use Rattle.mm_plan.specs.Choosing.{first_from, first_rule}
use Rattle.mm_plan.proofs.choosing.Chooser.first_by.Given as goal

-- The first step chosen for the remaining atoms is the first one chosen for all atoms.
abbrev pub invariant-loop-place : goal.invariant-loop-place
invariant-loop-place l =
    first_from (first_rule l.rule l.self.view.now.store l.table) l.place (drop l.place l.self.atoms.now)
    ≡ first_from (first_rule l.rule l.self.view.now.store l.table) 0 l.self.atoms.now
