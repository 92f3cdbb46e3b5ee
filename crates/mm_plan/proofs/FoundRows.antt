-- The references of the rows of one table that satisfy atoms.
use Rattle.std.proofs.Common.{◌≡◌, ℕ, Bool, List, [], ◌∷◌, Some, length, get_or, refl, sym, ap, ◌∙◌, subst}
use Rattle.std.specs.List.{count_by, filter, list_any}
use Rattle.std.specs.List.Sorted.{IsPermutation}
use Rattle.std.specs.Option.{option_map_or}
use Rattle.std.proofs.lemmas.List.{length-map}
use Rattle.std.proofs.lemmas.List.Elements.{Contains-get_or}
use Rattle.std.proofs.lemmas.List.Sorted.{Contains-permutation, IsPermutation-sym, length_permutation}
use Rattle.std.proofs.lemmas.List.Sums.{length-filter}
use Rattle.mm_partition.specs.Places.{slot_at}
use Rattle.mm_plan.proofs.KeyOrder.{from_filter, passes_in_filter, some_among, some_by_one}
use Rattle.mm_plan.specs.Finding.{among, meeting, meets}
use Rattle.mm_plan.specs.Steps.{may_look}
use Rattle.mm_plan.specs.declared.step.Step.{Step}
use Rattle.mm_query.specs.Queries.{none_fails}
use Rattle.mm_query.specs.declared.atom.Atom.{Atom}
use Rattle.mm_query.specs.declared.bound_query.FieldPlace.{FieldPlace}
use Rattle.mm_indexed.proofs.RefTests.{same_from_test, test_from_same}
use Rattle.mm_tables.specs.Edits.{same_ref}
use Rattle.mm_indexed.specs.Kept.{StoredRows}
use Rattle.mm_row_order.specs.Refs.{row_at}
use Rattle.mm_indexed.specs.RowLists.{rows_of}
use Rattle.mm_schema.proofs.StrictOrder.{Contains-from_IsIn, IsIn, IsIn-from_Contains}
use Rattle.mm_select.proofs.Along.{filter_same}
use Rattle.mm_select.proofs.Fits.{filter-map, row_here}
use Rattle.mm_select.specs.Accesses.{is_along}
use Rattle.mm_select.specs.Matches.{matching}
use Rattle.mm_select.specs.declared.access.Access.{Access}
use Rattle.mm_store.specs.Tables.{IsAt, Tables, rows_at}
use Rattle.mm_value.specs.declared.row_ref.RowRef.{RowRef}
use Rattle.mm_value.specs.declared.values.Value.{Value}
use Rattle.mm_link.proofs.Referring.{agree}

moved : (xs ys : List RowRef) → IsPermutation xs ys → (x : RowRef) → IsIn x xs → IsIn x ys
moved xs ys there x here = IsIn-from_Contains ys x (Contains-permutation xs ys x there (Contains-from_IsIn xs x here))

-- The references of a relation among these are those that pass a test, if these are the references that pass it.
among_passing : (p : RowRef → Bool) (refs : List RowRef) (stored : StoredRows) → IsPermutation refs (filter p stored.refs)
    → among refs stored ≡ filter p stored.refs
among_passing p refs stored same =
    let passing : List RowRef = filter p stored.refs in
    filter_same (λ at. list_any (same_ref at) refs) p stored.refs
    (λ k d within.
    let x : RowRef = get_or stored.refs k d in
    let there : IsIn x stored.refs = IsIn-from_Contains stored.refs x (Contains-get_or stored.refs k d within) in
    agree (list_any (same_ref x) refs) (p x)
    (λ some.
    let (y, in_refs, is) = some_among (same_ref x) refs some in
    ap p (same_from_test x y is) ∙ from_filter p stored.refs y (moved refs passing same y in_refs))
    (λ passes.
    some_by_one (same_ref x) refs x (moved passing refs (IsPermutation-sym refs passing same) x (passes_in_filter p stored.refs x there passes))
    (test_from_same x x refl)))

module _ (store : Tables) (table : ℕ) (stored : StoredRows) (here : IsAt store table stored) (atoms : List (Atom FieldPlace)) where
  -- The matching references are those of the rows that satisfy the atoms.
  pub matching_is : matching store table atoms [] stored.refs ≡ meeting atoms stored
  matching_is = λ i. filter (λ at. none_fails atoms (Some (row_here store table stored here at i) ∷ [])) stored.refs

  module _ (refs : List RowRef) (same : IsPermutation refs (matching store table atoms [] stored.refs)) where
    are : IsPermutation refs (meeting atoms stored)
    are = subst (IsPermutation refs) matching_is same

    -- The references of the relation among these are those of the rows that satisfy the atoms.
    pub among_meeting : among refs stored ≡ meeting atoms stored
    among_meeting = among_passing (λ at. meets atoms (row_at (slot_at stored.places) at)) refs stored are

    -- There are as many references as rows that satisfy the atoms.
    pub refs_counted : length refs ≡ count_by (meets atoms) (rows_at store.tables table)
    refs_counted =
        sym (length_permutation refs (meeting atoms stored) are)
        ∙ sym (length-map (meeting atoms stored) (row_at (slot_at stored.places)))
        ∙ ap length (sym (filter-map (meets atoms) (row_at (slot_at stored.places)) stored.refs))
        ∙ length-filter (meets atoms) (rows_of stored)
        ∙ ap (λ o. count_by (meets atoms) (option_map_or rows_of o [])) (sym here)

-- The rows along an access path are the rows that its step may read.
pub looked_at : (atoms : List (Atom FieldPlace)) (own : Step) (way : Access)
    → ((row : List Value) → is_along way row ≡ may_look atoms 0 own [] row) → (rows : List (List Value))
    → count_by (is_along way) rows ≡ count_by (may_look atoms 0 own []) rows
looked_at atoms own way along rows = λ i. count_by (λ row. along row i) rows
