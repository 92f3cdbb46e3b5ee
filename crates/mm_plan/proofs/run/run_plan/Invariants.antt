use Rattle.std.proofs.Common.{◌≡◌, ◌≤◌, ◌+◌, drop, length, map, take}
use Rattle.mm_plan.specs.Begun.{IsBegun}
use Rattle.mm_plan.specs.Steps.{plan_reads, steps_reads}
use Rattle.mm_store.specs.Tables.{rows_at}
use Rattle.mm_plan.proofs.run.run_plan.Given as goal

-- the list has the fitting combinations of the first tables; the reads so far and those of the remaining steps are within the bound
abbrev pub invariant-loop-place : goal.invariant-loop-place
invariant-loop-place l = record {
  same : l.view.store ≡ l.fn.view.store;
  begun : IsBegun l.fn.view.store l.query l.tables l.list;
  at : length l.list.tables ≡ l.place;
  reads : l.view.reads
      + steps_reads l.query.atoms (map (rows_at l.fn.view.store.tables) (take l.place l.tables)) (drop l.place l.steps)
      (map (rows_at l.fn.view.store.tables) (drop l.place l.tables))
      ≤ l.fn.view.reads + plan_reads l.query.atoms l.steps (map (rows_at l.fn.view.store.tables) l.tables);
}
