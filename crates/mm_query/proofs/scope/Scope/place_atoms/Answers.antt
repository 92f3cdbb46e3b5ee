use Rattle.std.proofs.Common.{Bool, ◌∷◌, map, refl, sym, ap, ◌∙◌}
use Rattle.std.specs.List.{list_any}
use Rattle.mm_query.specs.Placing.{mapped_atom, mismatches}
use Rattle.mm_query.specs.Resolving.{field_lacks_column, field_type, lacks_alias, placed_field, some_side}
use Rattle.mm_query.specs.declared.atom.Atom.{Atom}
use Rattle.mm_query.specs.Fields.{FieldName}
use Rattle.mm_query.proofs.Fews.{noted_all, noted_next, placed_all, placed_next}
use Rattle.mm_query.proofs.scope.Scope.place_atoms.Goals as goal

pub loop-atom-preserved : goal.loop-atom-preserved
loop-atom-preserved c =
    let schema = c.args.self.now.catalog.now in
    let from = c.args.self.now.from in
    let mismatch : Atom FieldName → Bool = λ a. mismatches (field_type schema from) a.left a.right in
    let lacks : Atom FieldName → Bool = some_side (lacks_alias from) in
    let items = c.loop-atom.atom-iterator in
    let rest = c.next.new.self in
    record {
      placed = placed_next (map (mapped_atom (placed_field schema from))) ((map (mapped_atom (placed_field schema from))) c.args.atoms) c.loop-atom.placed
          c.push.new.self items rest c.in-Some.atom c.place_atom.result
          c.loop-atom.invariant.placed c.in-Some.ensures.steps c.in_ok-push.ensures.ok
          (ap (λ y. y ∷ (map (mapped_atom (placed_field schema from))) rest) (sym c.place_atom.ensures.place));
      faults = c.loop-atom.invariant.faults
          ∙ noted_next (some_side (field_lacks_column schema from)) mismatch (list_any lacks) items rest c.in-Some.atom (lacks c.in-Some.atom)
          c.loop-atom.faults c.place_atom.new.faults c.in-Some.ensures.steps refl
          c.place_atom.ensures.faults;
    }

pub returns-clause-ok : goal.returns-clause-ok
returns-clause-ok c =
    let schema = c.args.self.now.catalog.now in
    let from = c.args.self.now.from in
    let mismatch : Atom FieldName → Bool = λ a. mismatches (field_type schema from) a.left a.right in
    let lacks : Atom FieldName → Bool = some_side (lacks_alias from) in
    placed_all (map (mapped_atom (placed_field schema from))) ((map (mapped_atom (placed_field schema from))) c.args.atoms) c.loop-atom.placed
    c.loop-atom.atom-iterator c.loop-atom.invariant.placed
    c.in-None.ensures.steps.0 refl

pub returns-clause-faults : goal.returns-clause-faults
returns-clause-faults c =
    let schema = c.args.self.now.catalog.now in
    let from = c.args.self.now.from in
    let mismatch : Atom FieldName → Bool = λ a. mismatches (field_type schema from) a.left a.right in
    let lacks : Atom FieldName → Bool = some_side (lacks_alias from) in
    sym (c.loop-atom.invariant.faults ∙ noted_all (some_side (field_lacks_column schema from)) mismatch (list_any lacks) c.loop-atom.atom-iterator
    c.loop-atom.faults c.in-None.ensures.steps.0 refl)
