use Rattle.std.proofs.Common.{◌≡◌, ◌++◌, drop}
use Rattle.mm_plan.specs.Naming.{named_from, named_steps, names_in}
use Rattle.mm_plan.proofs.naming.Naming.lines.Given as goal

-- The lines so far, followed by those of the remaining steps, are all lines.
abbrev pub invariant-loop-place : goal.invariant-loop-place
invariant-loop-place l =
    l.lines.items ++ named_from (names_in l.self) l.atoms l.place (drop l.place l.steps) ≡ named_steps (names_in l.self) l.atoms l.steps
