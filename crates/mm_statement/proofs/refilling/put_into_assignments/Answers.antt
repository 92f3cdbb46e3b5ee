use Rattle.std.proofs.Common.{◌≡◌, ◌+◌, ◌<◌, ◌≤◌, ap, get_or, length, lit<, subst, sym, ◌∙◌}
use Rattle.mm_statement.specs.Filling.{blank_assignment}
use Rattle.mm_statement.specs.steps.Refills.{RefillsUpTo, source_literals}
use Rattle.mm_statement.proofs.Refillers.{assignment_refilled, still_there, up_to_end, up_to_kept, up_to_next}
use Rattle.mm_statement.proofs.refilling.put_into_assignments.Goals as goal
use Rattle.mm_statement.proofs.refilling.put_into_assignments.Goals.{in-Some, in_default}

pub bounds-as_slice-place : goal.bounds-as_slice-place
bounds-as_slice-place c =
    let i = c.loop-place.place in
    let here : i < length c.args.assignments.now = subst (λ l. i < length l) c.as_slice-place-end.ensures c.loop-place-test.true in
    subst (λ l. i < length l) (sym c.as_slice.ensures)
    (still_there blank_assignment source_literals c.args.assignments.now c.loop-place.assignments i here c.loop-place.invariant.left)

pub set-requires : goal.set-requires
set-requires c =
    let i = c.loop-place.place in
    let here : i < length c.args.assignments.now = subst (λ l. i < length l) c.as_slice-place-end.ensures c.loop-place-test.true in
    (lit< tt, still_there blank_assignment source_literals c.args.assignments.now c.loop-place.assignments i here c.loop-place.invariant.left)

pub loop-place-preserved : goal.loop-place-preserved
loop-place-preserved c =
    let first = c.args.assignments.now in
    let now = c.loop-place.assignments in
    let i = c.loop-place.place in
    let old = c.args.refiller.now in
    let mid = c.loop-place.refiller in
    let new = c.refilled_operand.new.refiller in
    let assignment = c.index-as_slice-place.result in
    let here : i < length first = subst (λ l. i < length l) c.as_slice-place-end.ensures c.loop-place-test.true in
    let there = still_there blank_assignment source_literals first now i here c.loop-place.invariant.left in
    let is : assignment ≡ get_or now i assignment = c.index-as_slice-place.is ∙ ap (λ l. get_or l i assignment) c.as_slice.ensures in
    elim c.match-branch-2.branch [
      | in-Some w ↦
          subst (λ l. RefillsUpTo blank_assignment source_literals old new first l (i + 1)) (sym (w.assignments-is ∙ w.set.ensures))
          (up_to_next blank_assignment source_literals old first mid new now i assignment _ here there c.loop-place.invariant is
          (assignment_refilled mid new assignment w.in-Some.source (rw w.in-Some.is at c.in_ok-source.ensures)))
      | in_default w ↦
          subst (λ l. RefillsUpTo blank_assignment source_literals old new first l (i + 1)) (sym w.assignments-is)
          (up_to_kept blank_assignment source_literals old first mid new now i assignment here there c.loop-place.invariant is
          (assignment_refilled mid new assignment assignment.source (rw w.in_default.is at c.in_ok-source.ensures)))
    ]

pub returns : goal.returns
returns c =
    let i = c.loop-place.place in
    let here : length c.args.assignments.now ≤ i = subst (λ l. length l ≤ i) c.as_slice-place-end.ensures c.loop-place-test.false in
    up_to_end blank_assignment source_literals c.args.refiller.now c.args.assignments.now c.loop-place.refiller c.loop-place.assignments i here
    c.loop-place.invariant
