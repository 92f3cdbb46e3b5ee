use Rattle.std.proofs.Common.{Bool, ℕ, List, ◌∷◌, false, map, refl, sym, ap, ◌∙◌}
use Rattle.mm_query.specs.Binding.{at_first}
use Rattle.mm_query.specs.Placing.{atom_lacks_column, mapped_atom, mismatches, placed_atom, type_named}
use Rattle.mm_query.specs.declared.atom.Atom.{Atom}
use Rattle.mm_query.specs.declared.bound_query.FieldPlace.{FieldPlace}
use Rattle.mm_query.proofs.Fews.{noted_all, noted_next, placed_all, placed_next}
use Rattle.mm_query.proofs.place.place_tests.Goals as goal

pub loop-test-preserved : goal.loop-test-preserved
loop-test-preserved c =
    let columns = c.args.columns.now in
    let make : List (Atom (List ℕ)) → List (Atom FieldPlace) = λ l. map (mapped_atom at_first) (map (placed_atom columns) l) in
    let mismatch : Atom (List ℕ) → Bool = λ x. mismatches (type_named columns) x.left x.right in
    let items = c.loop-test.test-iterator in
    let rest = c.next.new.self in
    record {
      placed = placed_next make (make c.args.tests) c.loop-test.atoms c.push.new.self items rest c.in-Some.test c.place_test.result
          c.loop-test.invariant.placed c.in-Some.ensures.steps c.in_ok-push.ensures.ok (ap (λ y. y ∷ make rest) (sym c.place_test.ensures.place));
      faults = c.loop-test.invariant.faults
          ∙ noted_next (atom_lacks_column columns) mismatch (λ _. false) items rest c.in-Some.test false c.loop-test.faults c.place_test.new.faults
          c.in-Some.ensures.steps refl
          c.place_test.ensures.faults;
    }

pub returns-clause-ok : goal.returns-clause-ok
returns-clause-ok c =
    let columns = c.args.columns.now in
    let make : List (Atom (List ℕ)) → List (Atom FieldPlace) = λ l. map (mapped_atom at_first) (map (placed_atom columns) l) in
    let mismatch : Atom (List ℕ) → Bool = λ x. mismatches (type_named columns) x.left x.right in
    placed_all make (make c.args.tests) c.loop-test.atoms c.loop-test.test-iterator c.loop-test.invariant.placed
    c.in-None.ensures.steps.0 refl

pub returns-clause-faults : goal.returns-clause-faults
returns-clause-faults c =
    let columns = c.args.columns.now in
    let make : List (Atom (List ℕ)) → List (Atom FieldPlace) = λ l. map (mapped_atom at_first) (map (placed_atom columns) l) in
    let mismatch : Atom (List ℕ) → Bool = λ x. mismatches (type_named columns) x.left x.right in
    sym (c.loop-test.invariant.faults ∙ noted_all (atom_lacks_column columns) mismatch (λ _. false) c.loop-test.test-iterator c.loop-test.faults
    c.in-None.ensures.steps.0 refl)
