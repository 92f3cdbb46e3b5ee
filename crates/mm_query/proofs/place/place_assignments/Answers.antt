use Rattle.std.proofs.Common.{Bool, ℕ, List, ◌∷◌, false, map, refl, sym, ap, ◌∙◌}
use Rattle.mm_query.specs.Placing.{assignment_lacks_column, mismatches, placed_assignment, type_named}
use Rattle.mm_query.specs.declared.atom.Assignment.{Assignment}
use Rattle.mm_query.proofs.Fews.{noted_all, noted_next, placed_all, placed_next}
use Rattle.mm_query.proofs.place.place_assignments.Goals as goal

pub loop-assignment-preserved : goal.loop-assignment-preserved
loop-assignment-preserved c =
    let columns = c.args.columns.now in
    let mismatch : Assignment (List ℕ) → Bool = λ x. mismatches (type_named columns) x.column x.source in
    let items = c.loop-assignment.assignment-iterator in
    let rest = c.next.new.self in
    record {
      placed = placed_next (map (placed_assignment columns)) ((map (placed_assignment columns)) c.args.assignments) c.loop-assignment.placed c.push.new.self
          items rest c.in-Some.assignment c.place_assignment.result
          c.loop-assignment.invariant.placed c.in-Some.ensures.steps c.in_ok-push.ensures.ok
          (ap (λ y. y ∷ (map (placed_assignment columns)) rest) (sym c.place_assignment.ensures.place));
      faults = c.loop-assignment.invariant.faults
          ∙ noted_next (assignment_lacks_column columns) mismatch (λ _. false) items rest c.in-Some.assignment false c.loop-assignment.faults
          c.place_assignment.new.faults c.in-Some.ensures.steps refl
          c.place_assignment.ensures.faults;
    }

pub returns-clause-ok : goal.returns-clause-ok
returns-clause-ok c =
    let columns = c.args.columns.now in
    let mismatch : Assignment (List ℕ) → Bool = λ x. mismatches (type_named columns) x.column x.source in
    placed_all (map (placed_assignment columns)) ((map (placed_assignment columns)) c.args.assignments) c.loop-assignment.placed
    c.loop-assignment.assignment-iterator c.loop-assignment.invariant.placed
    c.in-None.ensures.steps.0 refl

pub returns-clause-faults : goal.returns-clause-faults
returns-clause-faults c =
    let columns = c.args.columns.now in
    let mismatch : Assignment (List ℕ) → Bool = λ x. mismatches (type_named columns) x.column x.source in
    sym (c.loop-assignment.invariant.faults ∙ noted_all (assignment_lacks_column columns) mismatch (λ _. false) c.loop-assignment.assignment-iterator
    c.loop-assignment.faults c.in-None.ensures.steps.0 refl)
