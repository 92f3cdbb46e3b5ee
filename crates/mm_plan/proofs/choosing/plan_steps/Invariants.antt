use Rattle.std.proofs.Common.{◌≡◌, ◌++◌, drop, take}
use Rattle.mm_plan.specs.Choosing.{steps_behind, steps_of}
use Rattle.mm_plan.proofs.choosing.plan_steps.Given as goal

-- The steps so far, followed by those of the remaining tables, are the steps of the query.
abbrev pub invariant-loop-place : goal.invariant-loop-place
invariant-loop-place l =
    l.steps ++ steps_behind l.view.store l.query.atoms (take l.place l.tables) (drop l.place l.tables) ≡ steps_of l.view.store l.query.atoms l.tables
