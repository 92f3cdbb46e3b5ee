use Rattle.std.proofs.Common.{◌≡◌, ◌++◌, ℕ, List, false, map}
use Rattle.std.specs.List.{list_any}
use Rattle.mm_query.specs.Binding.{at_first}
use Rattle.mm_query.specs.Faults.{noted}
use Rattle.mm_query.specs.Placing.{atom_lacks_column, mapped_atom, mismatches, placed_atom, type_named}
use Rattle.mm_query.specs.declared.atom.Atom.{Atom}
use Rattle.mm_query.proofs.place.place_tests.Given as goal

abbrev pub invariant-loop-test : goal.invariant-loop-test
invariant-loop-test l = record {
  placed : map (mapped_atom at_first) (map (placed_atom l.columns) l.fn.tests)
      ≡ l.atoms ++ map (mapped_atom at_first) (map (placed_atom l.columns) l.test-iterator);
  faults : noted (list_any (atom_lacks_column l.columns) l.fn.tests) false
      (list_any (λ (x : Atom (List ℕ)). mismatches (type_named l.columns) x.left x.right) l.fn.tests) l.initial.faults
      ≡ noted (list_any (atom_lacks_column l.columns) l.test-iterator) false
      (list_any (λ (x : Atom (List ℕ)). mismatches (type_named l.columns) x.left x.right) l.test-iterator) l.faults;
}
