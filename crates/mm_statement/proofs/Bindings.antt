-- Substituting literals commutes with binding a change.
use Rattle.std.proofs.Common.{◌≡◌, ◌<◌, ℕ, List, ◌++◌, Some, length, map, sym, ap, ◌∙◌, subst}
use Rattle.std.specs.List.{flat_map}
use Rattle.std.proofs.lemmas.List.{length-map}
use Rattle.mm_value.specs.declared.values.Value.{Value}
use Rattle.mm_schema.specs.Schema.{Schema, columns_named, table_place}
use Rattle.mm_query.specs.Atoms.{IsWithin, ReadsWithin}
use Rattle.mm_query.specs.Binding.{AssignmentsWithin, Binds, BindsDelete, BindsUpdate, TestsWithin, assignments_for, at_first, atoms_for, tests_for}
use Rattle.mm_query.specs.Placing.{mapped_atom, placed_atom, placed_assignment, placed}
use Rattle.mm_query.specs.declared.atom.Assignment.{Assignment}
use Rattle.mm_query.specs.declared.atom.Atom.{Atom}
use Rattle.mm_query.specs.declared.atom.Operand.{Operand}
use Rattle.mm_query.specs.declared.atom.Operand.TheVariants.{Literal, Column, Shifted}
use Rattle.mm_query.specs.declared.bind.BoundChange.{BoundChange}
use Rattle.mm_query.specs.declared.bind.BoundChange.TheVariants as bound
use Rattle.mm_query.specs.declared.bound_query.FieldPlace.{FieldPlace}
use Rattle.mm_query.specs.declared.command.Mutation.{Mutation}
use Rattle.mm_query.specs.declared.command.Mutation.TheVariants as written
use Rattle.mm_query.specs.Resolving.{IsAtomWithin, IsFieldWithin, IsQueryWithin, column_of, placed_field, placed_query}
use Rattle.mm_query.specs.declared.query.FromItem.{FromItem}
use Rattle.mm_query.specs.declared.bound_query.BoundQuery.{BoundQuery}
use Rattle.mm_query.specs.declared.query.Query.{Query}
use Rattle.mm_statement.specs.Alike.{AreAlike, AreAlikeChanges, blank_bound_change, blank_bound_query, bound_change_literals, bound_query_literals}
use Rattle.mm_statement.specs.Alike.{change_literals}
use Rattle.mm_statement.specs.Filling.{blank_assignment, blank_atom, blank_operand, blank_value}
use Rattle.mm_lang.specs.Reading.{position_literals, query_literals, test_literals}
use Rattle.mm_statement.proofs.AlikeParts.{assignment_literals_placed, assignment_shape_placed, equal_assignments, equal_atoms, mapped_literals, mapped_shape}
use Rattle.mm_statement.proofs.AlikeParts.{source_count, source_literals, test_count}
use Rattle.mm_statement.proofs.Shapes.{IsCounted, carried_all, each_same, each_same_all, equal_each}

-- ---- properties of columns alone

operand_within : (width : ℕ) (o p : Operand ℕ) → blank_operand o ≡ blank_operand p → IsWithin width o → IsWithin width p
operand_within width (Literal v) (Literal w) h within = tt
operand_within width (Column c) (Column d) h within = let e : c ≡ d = cc in subst (λ n. n < width) e within
operand_within width (Shifted c x) (Shifted d y) h within = let e : c ≡ d = cc in subst (λ n. n < width) e within
operand_within width _ _ h within = absurd (cc)

assignment_within : (width : ℕ) (a b : Assignment ℕ) → blank_assignment a ≡ blank_assignment b → IsWithin width a.source → IsWithin width b.source
assignment_within width a b h within = operand_within width a.source b.source (ap (λ x. x.source) h) within

operand_reads_within : (width left other : ℕ) (o p : Operand ℕ) → left ≡ other → blank_operand o ≡ blank_operand p → ReadsWithin width left o
    → ReadsWithin width other p
operand_reads_within width left other (Literal v) (Literal w) names h within = subst (λ n. n < width) names within
operand_reads_within width left other (Column c) (Column d) names h within =
    let e : c ≡ d = cc in (subst (λ n. n < width) names within.0, subst (λ n. n < width) e within.1)
operand_reads_within width left other (Shifted c x) (Shifted d y) names h within =
    let e : c ≡ d = cc in (subst (λ n. n < width) names within.0, subst (λ n. n < width) e within.1)
operand_reads_within width left other _ _ names h within = absurd (cc)

test_within : (width : ℕ) (a b : Atom ℕ) → blank_atom a ≡ blank_atom b → ReadsWithin width a.left a.right → ReadsWithin width b.left b.right
test_within width a b h within = operand_reads_within width a.left b.left a.right b.right (ap (λ x. x.left) h) (ap (λ x. x.right) h) within

-- ---- positions of names

tests_shape : (schema : Schema) (table name : List ℕ) (tests asked : List (Atom (List ℕ))) → table ≡ name → map blank_atom tests ≡ map blank_atom asked
    → map blank_atom (tests_for table schema tests) ≡ map blank_atom (tests_for name schema asked)
tests_shape schema table name tests asked tables shape =
    sym (mapped_shape (placed (columns_named table schema)) tests)
    ∙ (λ i. map (placed_atom (columns_named (tables i) schema)) (shape i))
    ∙ mapped_shape (placed (columns_named name schema)) asked

atoms_shape : (schema : Schema) (table name : List ℕ) (tests asked : List (Atom (List ℕ))) → table ≡ name → map blank_atom tests ≡ map blank_atom asked
    → map blank_atom (atoms_for table schema tests) ≡ map blank_atom (atoms_for name schema asked)
atoms_shape schema table name tests asked tables shape =
    sym (mapped_shape at_first (tests_for table schema tests))
    ∙ ap (map (mapped_atom at_first)) (tests_shape schema table name tests asked tables shape)
    ∙ mapped_shape at_first (tests_for name schema asked)

assignments_shape : (schema : Schema) (table name : List ℕ) (assignments sets : List (Assignment (List ℕ))) → table ≡ name
    → map blank_assignment assignments ≡ map blank_assignment sets
    → map blank_assignment (assignments_for table schema assignments) ≡ map blank_assignment (assignments_for name schema sets)
assignments_shape schema table name assignments sets tables shape =
    sym (assignment_shape_placed (columns_named table schema) assignments)
    ∙ (λ i. map (placed_assignment (columns_named (tables i) schema)) (shape i))
    ∙ assignment_shape_placed (columns_named name schema) sets

pub atoms_literals : (schema : Schema) (name : List ℕ) (tests : List (Atom (List ℕ)))
    → flat_map test_literals (atoms_for name schema tests) ≡ flat_map test_literals tests
atoms_literals schema name tests =
    mapped_literals at_first (tests_for name schema tests) ∙ mapped_literals (placed (columns_named name schema)) tests

tests_within_too : (schema : Schema) (table name : List ℕ) (tests asked : List (Atom (List ℕ))) → table ≡ name → map blank_atom tests ≡ map blank_atom asked
    → TestsWithin (length (columns_named table schema)) (tests_for table schema tests)
    → TestsWithin (length (columns_named name schema)) (tests_for name schema asked)
tests_within_too schema table name tests asked tables shape within =
    let width = length (columns_named name schema) in
    carried_all blank_atom (λ (t : Atom ℕ). ReadsWithin width t.left t.right) (test_within width) (tests_for table schema tests) (tests_for name schema asked)
    (tests_shape schema table name tests asked tables shape)
    (subst (λ n. TestsWithin (length (columns_named n schema)) (tests_for table schema tests)) tables within)

tuple_counted : IsCounted (map blank_value) (λ (t : List Value). t)
tuple_counted us vs h = sym (length-map us blank_value) ∙ ap length h ∙ length-map vs blank_value

-- ---- the changes

insert_alike : (schema : Schema) (table : List ℕ) (tuples : List (List Value)) (place : ℕ) (rows : List (List Value)) (other : Mutation)
    (changed : BoundChange) → AreAlikeChanges (written.Insert table tuples) other
    → Binds schema (written.Insert table tuples) (bound.Insert place rows) → blank_bound_change changed ≡ blank_bound_change (bound.Insert place rows)
    → bound_change_literals changed ≡ change_literals other → Binds schema other changed
insert_alike schema table tuples place rows (written.Insert name values) (bound.Insert at given) h binds shape literals =
    let tables : table ≡ name = cc in
    let places : at ≡ place = cc in
    let like : map (map blank_value) tuples ≡ map (map blank_value) values = cc in
    let kept : map (map blank_value) given ≡ map (map blank_value) rows = cc in (
      ap (λ n. table_place n schema) (sym tables) ∙ binds.0 ∙ ap Some (sym places),
      equal_each (map blank_value) (λ (t : List Value). t) (λ us vs same. same.values) given values
          (each_same_all (map blank_value) (λ (t : List Value). t) tuple_counted given values (kept ∙ ap (map (map blank_value)) binds.1 ∙ like) literals),
    )
insert_alike schema table tuples place rows _ _ h binds shape literals = absurd (cc)

update_alike : (schema : Schema) (table : List ℕ) (assignments : List (Assignment (List ℕ))) (tests : List (Atom (List ℕ))) (place : ℕ)
    (sets : List (Assignment ℕ)) (atoms : List (Atom FieldPlace)) (other : Mutation) (changed : BoundChange)
    → AreAlikeChanges (written.Update table assignments tests) other
    → BindsUpdate schema table assignments tests place sets atoms → blank_bound_change changed ≡ blank_bound_change (bound.Update place sets atoms)
    → bound_change_literals changed ≡ change_literals other → Binds schema other changed
update_alike schema table assignments tests place sets atoms (written.Update name others asked) (bound.Update at given given_atoms) h binds shape literals =
    let tables : table ≡ name = cc in
    let places : at ≡ place = cc in
    let like : map blank_assignment assignments ≡ map blank_assignment others = cc in
    let like_tests : map blank_atom tests ≡ map blank_atom asked = cc in
    let kept : map blank_assignment given ≡ map blank_assignment sets = cc in
    let kept_atoms : map blank_atom given_atoms ≡ map blank_atom atoms = cc in
    let parts = each_same blank_assignment source_literals source_count given (assignments_for name schema others) (flat_map test_literals given_atoms)
    (flat_map test_literals (atoms_for name schema asked))
    (kept ∙ ap (map blank_assignment) binds.assignments_placed ∙ assignments_shape schema table name assignments others tables like)
    (literals ∙ sym (λ i. assignment_literals_placed (columns_named name schema) others i ++ atoms_literals schema name asked i)) in
    record {
      table = ap (λ n. table_place n schema) (sym tables) ∙ binds.table ∙ ap Some (sym places);
      assignments_placed =
          equal_each blank_assignment source_literals equal_assignments given (assignments_for name schema others) parts.0;
      tests_placed =
          equal_each blank_atom test_literals equal_atoms given_atoms (atoms_for name schema asked)
          (each_same_all blank_atom test_literals test_count given_atoms (atoms_for name schema asked)
          (kept_atoms ∙ ap (map blank_atom) binds.tests_placed ∙ atoms_shape schema table name tests asked tables like_tests) parts.1);
      assignments_within =
          let width = length (columns_named name schema) in
          carried_all blank_assignment (λ (a : Assignment ℕ). IsWithin width a.source) (assignment_within width) sets given (sym kept)
          (subst (λ n. AssignmentsWithin (length (columns_named n schema)) sets) tables binds.assignments_within);
      tests_within = tests_within_too schema table name tests asked tables like_tests binds.tests_within;
    }
update_alike schema table assignments tests place sets atoms _ _ h binds shape literals = absurd (cc)

delete_alike : (schema : Schema) (table : List ℕ) (tests : List (Atom (List ℕ))) (place : ℕ) (atoms : List (Atom FieldPlace)) (other : Mutation)
    (changed : BoundChange) → AreAlikeChanges (written.Delete table tests) other
    → BindsDelete schema table tests place atoms → blank_bound_change changed ≡ blank_bound_change (bound.Delete place atoms)
    → bound_change_literals changed ≡ change_literals other → Binds schema other changed
delete_alike schema table tests place atoms (written.Delete name asked) (bound.Delete at given) h binds shape literals =
    let tables : table ≡ name = cc in
    let places : at ≡ place = cc in
    let like : map blank_atom tests ≡ map blank_atom asked = cc in
    let kept : map blank_atom given ≡ map blank_atom atoms = cc in
    record {
      table = ap (λ n. table_place n schema) (sym tables) ∙ binds.table ∙ ap Some (sym places);
      tests_placed =
          equal_each blank_atom test_literals equal_atoms given (atoms_for name schema asked)
          (each_same_all blank_atom test_literals test_count given (atoms_for name schema asked)
          (kept ∙ ap (map blank_atom) binds.tests_placed ∙ atoms_shape schema table name tests asked tables like)
          (literals ∙ sym (atoms_literals schema name asked)));
      tests_within = tests_within_too schema table name tests asked tables like binds.tests_within;
    }
delete_alike schema table tests place atoms _ _ h binds shape literals = absurd (cc)

pub changes_bind_alike : (schema : Schema) (mutation other : Mutation) (bound changed : BoundChange) → AreAlikeChanges mutation other
    → Binds schema mutation bound → blank_bound_change changed ≡ blank_bound_change bound → bound_change_literals changed ≡ change_literals other
    → Binds schema other changed
changes_bind_alike schema (written.Insert table tuples) other (bound.Insert place rows) changed h binds shape literals =
    insert_alike schema table tuples place rows other changed h binds shape literals
changes_bind_alike schema (written.Update table assignments tests) other (bound.Update place sets atoms) changed h binds shape literals =
    update_alike schema table assignments tests place sets atoms other changed h binds shape literals
changes_bind_alike schema (written.Delete table tests) other (bound.Delete place atoms) changed h binds shape literals =
    delete_alike schema table tests place atoms other changed h binds shape literals
changes_bind_alike schema _ other _ changed h binds shape literals = absurd binds

-- ---- queries

pub queries_placed_alike : (schema : Schema) (query other : Query) (changed : BoundQuery) → AreAlike query other
    → blank_bound_query changed ≡ blank_bound_query (placed_query schema query)
    → query_literals other ≡ bound_query_literals changed ++ flat_map position_literals other.order → changed ≡ placed_query schema other
queries_placed_alike schema query other changed h shape literals =
    let behind = flat_map position_literals other.order in
    let place = placed_field schema other.from in
    let shapes : map blank_atom changed.atoms ≡ map blank_atom (map (mapped_atom place) other.atoms) =
    ap (λ (b : BoundQuery). b.atoms) shape
    ∙ sym (mapped_shape (placed_field schema query.from) query.atoms)
    ∙ ap (λ (q : Query). map (mapped_atom (placed_field schema q.from)) q.atoms) h.same
    ∙ mapped_shape place other.atoms in
    let pairs = each_same blank_atom test_literals test_count changed.atoms (map (mapped_atom place) other.atoms) behind behind shapes
    (sym literals ∙ ap (λ l. l ++ behind) (sym (mapped_literals place other.atoms))) in
    let atoms = equal_each blank_atom test_literals equal_atoms changed.atoms (map (mapped_atom place) other.atoms) pairs.0 in
    ap (λ (b : BoundQuery). record b { atoms = changed.atoms }) shape
    ∙ ap (λ (q : Query). record (placed_query schema q) { atoms = changed.atoms }) h.same
    ∙ λ i. record (placed_query schema other) { atoms = atoms i }

-- ---- reading only existing tables

module _ (schema : Schema) (from : List FromItem) where
  side_within : (o p : Operand FieldPlace) → blank_operand o ≡ blank_operand p
      → ((field : FieldPlace) → column_of o ≡ Some field → IsFieldWithin schema from field) → (field : FieldPlace) → column_of p ≡ Some field
      → IsFieldWithin schema from field
  side_within (Literal v) (Literal w) h within field is = absurd (cc)
  side_within (Column c) (Column d) h within field is = let e : Some c ≡ Some field = cc in within field e
  side_within (Shifted c x) (Shifted d y) h within field is = let e : Some c ≡ Some field = cc in within field e
  side_within _ _ h within field is = absurd (cc)

  atom_within : (a b : Atom FieldPlace) → blank_atom a ≡ blank_atom b → IsAtomWithin schema from a → IsAtomWithin schema from b
  atom_within a b h within = (
    subst (IsFieldWithin schema from) (ap (λ (x : Atom FieldPlace). x.left) h) within.0,
    side_within a.right b.right (ap (λ (x : Atom FieldPlace). x.right) h) within.1,
  )

pub query_within : (schema : Schema) (query changed : BoundQuery) → blank_bound_query changed ≡ blank_bound_query query → IsQueryWithin schema query
    → IsQueryWithin schema changed
query_within schema query changed shape within =
    let same : changed ≡ record query { atoms = changed.atoms } = ap (λ (b : BoundQuery). record b { atoms = changed.atoms }) shape in
    subst (IsQueryWithin schema) (sym same)
    (record {
      tables = within.tables;
      fields = within.fields;
      atoms =
          carried_all blank_atom (IsAtomWithin schema query.from) (atom_within schema query.from) query.atoms changed.atoms
          (sym (ap (λ (b : BoundQuery). b.atoms) shape)) within.atoms;
      order = within.order;
    })
