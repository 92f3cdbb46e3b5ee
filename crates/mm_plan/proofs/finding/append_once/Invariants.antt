use Rattle.std.proofs.Common.{◌≡◌, ◌++◌, None, drop, map}
use Rattle.mm_plan.specs.Finding.{once}
use Rattle.mm_plan.specs.declared.finding.Keyed.{Keyed}
use Rattle.mm_plan.proofs.finding.append_once.Given as goal

-- the references of the rows so far were appended
abbrev pub invariant-loop-row : goal.invariant-loop-row
invariant-loop-row l =
    l.fn.refs.items ++ once None (map (λ (row : Keyed). row.at) l.rows)
    ≡ l.refs.items ++ once l.before (map (λ (row : Keyed). row.at) (drop l.row-index l.rows))
