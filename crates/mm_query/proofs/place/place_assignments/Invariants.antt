use Rattle.std.proofs.Common.{◌≡◌, ◌++◌, ℕ, List, false, map}
use Rattle.std.specs.List.{list_any}
use Rattle.mm_query.specs.Faults.{noted}
use Rattle.mm_query.specs.Placing.{assignment_lacks_column, mismatches, placed_assignment, type_named}
use Rattle.mm_query.specs.declared.atom.Assignment.{Assignment}
use Rattle.mm_query.proofs.place.place_assignments.Given as goal

abbrev pub invariant-loop-assignment : goal.invariant-loop-assignment
invariant-loop-assignment l = record {
  placed : map (placed_assignment l.columns) l.fn.assignments ≡ l.placed ++ map (placed_assignment l.columns) l.assignment-iterator;
  faults : noted (list_any (assignment_lacks_column l.columns) l.fn.assignments) false
      (list_any (λ (x : Assignment (List ℕ)). mismatches (type_named l.columns) x.column x.source) l.fn.assignments) l.initial.faults
      ≡ noted (list_any (assignment_lacks_column l.columns) l.assignment-iterator) false
      (list_any (λ (x : Assignment (List ℕ)). mismatches (type_named l.columns) x.column x.source) l.assignment-iterator) l.faults;
}
