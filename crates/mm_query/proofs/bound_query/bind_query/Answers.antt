use Rattle.std.proofs.Common.{◌-◌, ◌<◌, inl, length, map, sym, ap, subst, ◌∙◌}
use Rattle.std.specs.List.{All}
use Rattle.mm_schema.specs.Schema.{Schema}
use Rattle.mm_query.specs.Placing.{mapped_atom}
use Rattle.mm_query.specs.Resolving.{IsQueryWithin, placed_field}
use Rattle.mm_query.proofs.Bounds.{due_by_faults, places_within}
use Rattle.mm_query.proofs.PlacedQueries.{query_within}
use Rattle.mm_query.proofs.bound_query.bind_query.Goals as goal

pub returns-in-Some-clause-due : goal.returns-in-Some-clause-due
returns-in-Some-clause-due c =
    inl
    (due_by_faults c.args.catalog.now c.args.query c.in_ok-scope.scope.catalog.now c.in_ok-scope.ensures.catalog c.in_ok-scope.scope.from
    c.in_ok-scope.ensures.from c.as_slice.result.now c.as_slice.ensures c.in_ok-scope.scope.there c.form_faults-faults.result c.place_fields.new.faults
    c.place_atoms.new.faults c.form_faults-faults.ensures c.in_ok-fields.ensures.faults c.in_ok-atoms.ensures.faults ∙ sym c.in-Some.ensures)

pub returns-clause-due : goal.returns-clause-due
returns-clause-due c =
    due_by_faults c.args.catalog.now c.args.query c.in_ok-scope.scope.catalog.now c.in_ok-scope.ensures.catalog c.in_ok-scope.scope.from
    c.in_ok-scope.ensures.from c.as_slice.result.now c.as_slice.ensures c.in_ok-scope.scope.there c.form_faults-faults.result c.place_fields.new.faults
    c.place_atoms.new.faults c.form_faults-faults.ensures c.in_ok-fields.ensures.faults c.in_ok-atoms.ensures.faults ∙ sym c.in_default.ensures

pub returns-clause-within : goal.returns-clause-within
returns-clause-within c =
    let schema = c.args.catalog.now in
    let query = c.args.query in
    let catalog_is = c.in_ok-scope.ensures.catalog in
    let from_is = c.in_ok-scope.ensures.from in
    let none =
    due_by_faults schema query c.in_ok-scope.scope.catalog.now catalog_is c.in_ok-scope.scope.from from_is c.as_slice.result.now c.as_slice.ensures
    c.in_ok-scope.scope.there c.form_faults-faults.result c.place_fields.new.faults c.place_atoms.new.faults c.form_faults-faults.ensures
    c.in_ok-fields.ensures.faults c.in_ok-atoms.ensures.faults ∙ sym c.in_default.ensures in
    subst (IsQueryWithin schema)
    (λ i. record {
      distinct = query.distinct;
      fields = sym (c.in_ok-fields.ensures.ok ∙ λ j. map (placed_field (catalog_is j) (from_is j)) (c.as_slice.ensures j)) i;
      from = sym from_is i;
      atoms = sym (c.in_ok-atoms.ensures.ok ∙ λ j. map (mapped_atom (placed_field (catalog_is j) (from_is j))) query.atoms) i;
      order = sym (c.in_ok-order.ensures.ok ∙ ap (map (λ position. position - 1)) c.as_slice-2.ensures) i;
    })
    (query_within schema query none)

pub returns-clause-there : goal.returns-clause-there
returns-clause-there c =
    let scope = c.in_ok-scope.scope in
    subst (λ (s : Schema). All (λ place. place < length s.tables) scope.tables) c.in_ok-scope.ensures.catalog
    (subst (All (λ place. place < length scope.catalog.now.tables)) (sym scope.places) (places_within scope.catalog.now scope.from scope.there))
