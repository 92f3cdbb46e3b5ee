-- Commands that differ only in their literals have the same refusals.
use Rattle.std.proofs.Common.{◌≡◌, ℕ, Bool, false, not, ◌||◌, ◌==◌, List, [], ◌∷◌, Option, length, map, nat_lt, refl, sym, ap, ◌∙◌}
use Rattle.std.specs.List.{flat_map, list_any}
use Rattle.std.specs.Option.{option_map_or}
use Rattle.std.proofs.lemmas.List.{length-map}
use Rattle.mm_value.specs.Types.{type_of}
use Rattle.mm_value.specs.declared.col_type.ColType.{ColType}
use Rattle.mm_value.specs.declared.refusal.Refusal.TheVariants.{AliasTaken, NameTaken, NoSuchAlias, NoSuchColumn, NoSuchTable, TooMany, TypeMismatch}
use Rattle.mm_value.specs.declared.refusal.Refusal.TheVariants.{WrongNumberOfValues}
use Rattle.mm_value.specs.declared.values.Value.{Value}
use Rattle.mm_schema.specs.Columns.{same_type}
use Rattle.mm_schema.specs.Name.{same_name}
use Rattle.mm_schema.specs.Refused.{Condition, first_refusal}
use Rattle.mm_schema.specs.Schema.{Schema, columns_named, lacks_table, table_passes}
use Rattle.mm_schema.specs.declared.column.Column.{Column as Col}
use Rattle.mm_query.specs.Binding.{binding_conditions, has_other_length, has_type_mismatch}
use Rattle.mm_query.specs.Fields.{FieldName}
use Rattle.mm_query.specs.Placing.{assignment_lacks_column, atom_lacks_column, column_conditions, has_duplicate_targets, lacks_column, mismatches}
use Rattle.mm_query.specs.Placing.{operand_lacks_column, type_named}
use Rattle.mm_query.specs.Resolving.{column_of, field_lacks_column, field_type, has_duplicate_aliases, lacks_alias, lacks_position}
use Rattle.mm_query.specs.Resolving.{query_conditions, some_side}
use Rattle.mm_query.specs.declared.atom.Assignment.{Assignment}
use Rattle.mm_query.specs.declared.atom.Atom.{Atom}
use Rattle.mm_query.specs.declared.atom.Operand.{Operand}
use Rattle.mm_query.specs.declared.atom.Operand.TheVariants.{Literal, Column, Shifted}
use Rattle.mm_query.specs.declared.command.Mutation.{Mutation}
use Rattle.mm_query.specs.declared.command.Mutation.TheVariants.{Insert, Update, Delete}
use Rattle.mm_query.specs.declared.query.FromItem.{FromItem}
use Rattle.mm_query.specs.declared.query.Query.{Query}
use Rattle.mm_statement.specs.Alike.{AreAlike, AreAlikeChanges}
use Rattle.mm_statement.specs.Filling.{blank_assignment, blank_atom, blank_operand, blank_value}
use Rattle.mm_lang.specs.Reading.{position_literals, test_literals}
use Rattle.mm_statement.proofs.AlikeParts.{same_mismatches, source_types, source_types_count, test_types, test_types_count, source_literals}
use Rattle.mm_statement.proofs.Shapes.{EachSame, IsCounted, Same, any_same, as_many, each_same, each_same_all, map_all, map_each}

-- ---- queries

-- An operand without its literal has the same column.
blank_column : {F : Type 0} (o : Operand F) → column_of (blank_operand o) ≡ column_of o
blank_column (Literal v) = refl
blank_column (Column c) = refl
blank_column (Shifted c x) = refl

same_side : (test : FieldName → Bool) (a b : Atom FieldName) → Same blank_atom test_types a b → some_side test a ≡ some_side test b
same_side test a b h =
    let columns = sym (blank_column a.right) ∙ ap (λ x. column_of x.right) h.shape ∙ blank_column b.right in
    λ i. test (ap (λ x. x.left) h.shape i) || option_map_or test (columns i) false

same_types : {F : Type 0} (type_at : F → Option ColType) (a b : Atom F) → Same blank_atom test_types a b
    → mismatches type_at a.left a.right ≡ mismatches type_at b.left b.right
same_types type_at a b h = same_mismatches type_at a.left b.left a.right b.right (ap (λ x. x.left) h.shape) (ap (λ x. x.right) h.shape) h.values

-- the conditions that refuse a query, by properties of its atoms
abbrev conditions_by : Schema → Query → Bool → Bool → Bool → ℕ → List Condition
conditions_by schema query columns aliases types count =
    record { holds = list_any (λ (item : FromItem). lacks_table item.table schema) query.from; refusal = NoSuchTable }
    ∷ record {
      holds = (list_any (field_lacks_column schema query.from) query.fields || columns) || list_any (lacks_position query.fields) query.order;
      refusal = NoSuchColumn;
    }
    ∷ record { holds = has_duplicate_aliases query.from; refusal = AliasTaken }
    ∷ record { holds = list_any (lacks_alias query.from) query.fields || aliases; refusal = NoSuchAlias }
    ∷ record { holds = types; refusal = TypeMismatch }
    ∷ record {
      holds = ((nat_lt 4 (length query.from) || nat_lt 16 (length query.fields)) || nat_lt 16 count) || nat_lt 16 (length query.order);
      refusal = TooMany;
    }
    ∷ []

other_atoms : (schema : Schema) (query : Query) (es bs : List (Atom FieldName)) → EachSame blank_atom test_types es bs
    → first_refusal (query_conditions (record query { atoms = es }) schema) ≡ first_refusal (query_conditions (record query { atoms = bs }) schema)
other_atoms schema query es bs h =
    let columns =
    any_same blank_atom test_types (some_side (field_lacks_column schema query.from)) (same_side (field_lacks_column schema query.from)) es bs h in
    let aliases = any_same blank_atom test_types (some_side (lacks_alias query.from)) (same_side (lacks_alias query.from)) es bs h in
    let types =
    any_same blank_atom test_types (λ (a : Atom FieldName). mismatches (field_type schema query.from) a.left a.right)
    (same_types (field_type schema query.from)) es bs h in
    let count = as_many blank_atom test_types es bs h in
    λ i. first_refusal (conditions_by schema query (columns i) (aliases i) (types i) (count i))

pub queries_refused_alike : (schema : Schema) (query other : Query) → AreAlike query other
    → first_refusal (query_conditions query schema) ≡ first_refusal (query_conditions other schema)
queries_refused_alike schema query other h =
    ap (λ (q : Query). first_refusal (query_conditions (record q { atoms = query.atoms }) schema)) h.same
    ∙ other_atoms schema other query.atoms other.atoms
    (each_same blank_atom test_types test_types_count query.atoms other.atoms (map type_of (flat_map position_literals query.order))
    (map type_of (flat_map position_literals other.order)) (ap (λ q. q.atoms) h.same)
    (sym (map_all type_of test_literals query.atoms (flat_map position_literals query.order)) ∙ h.types
    ∙ map_all type_of test_literals other.atoms (flat_map position_literals other.order))).0

-- ---- changes

-- Values of the same types have the same mismatches.
mismatch_by_types : (columns : List Col) (us vs : List Value) → map type_of us ≡ map type_of vs → has_type_mismatch columns us ≡ has_type_mismatch columns vs
mismatch_by_types [] us vs h = refl
mismatch_by_types (c ∷ cs) [] [] h = refl
mismatch_by_types (c ∷ cs) [] (v ∷ vs) h = absurd (cc)
mismatch_by_types (c ∷ cs) (u ∷ us) [] h = absurd (cc)
mismatch_by_types (c ∷ cs) (u ∷ us) (v ∷ vs) h =
    let here : type_of u ≡ type_of v = cc in
    let rest : map type_of us ≡ map type_of vs = cc in
    λ i. not (same_type c.col_type (here i)) || mismatch_by_types cs us vs rest i

length_by_types : (columns : List Col) (us vs : List Value) → map type_of us ≡ map type_of vs → has_other_length columns us ≡ has_other_length columns vs
length_by_types columns us vs h =
    ap (λ n. not (n == length columns)) (sym (length-map us type_of) ∙ ap length h ∙ length-map vs type_of)

pub tuple_count : IsCounted (map blank_value) (map type_of)
tuple_count us vs h = length-map us type_of ∙ sym (length-map us blank_value) ∙ ap length h ∙ length-map vs blank_value ∙ sym (length-map vs type_of)

blank_lacks_column : (columns : List Col) (o : Operand (List ℕ)) → operand_lacks_column columns (blank_operand o) ≡ operand_lacks_column columns o
blank_lacks_column columns (Literal v) = refl
blank_lacks_column columns (Column c) = refl
blank_lacks_column columns (Shifted c x) = refl

module _ (columns : List Col) where
  test_columns : (a b : Atom (List ℕ)) → Same blank_atom test_types a b → atom_lacks_column columns a ≡ atom_lacks_column columns b
  test_columns a b h =
      let operands = sym (blank_lacks_column columns a.right) ∙ ap (λ x. operand_lacks_column columns x.right) h.shape ∙ blank_lacks_column columns b.right in
      λ i. lacks_column columns (ap (λ x. x.left) h.shape i) || operands i

  assignment_columns : (a b : Assignment (List ℕ)) → Same blank_assignment source_types a b
      → assignment_lacks_column columns a ≡ assignment_lacks_column columns b
  assignment_columns a b h =
      let operands =
      sym (blank_lacks_column columns a.source) ∙ ap (λ x. operand_lacks_column columns x.source) h.shape ∙ blank_lacks_column columns b.source in
      λ i. lacks_column columns (ap (λ x. x.column) h.shape i) || operands i

  assignment_types : (a b : Assignment (List ℕ)) → Same blank_assignment source_types a b
      → mismatches (type_named columns) a.column a.source ≡ mismatches (type_named columns) b.column b.source
  assignment_types a b h =
      same_mismatches (type_named columns) a.column b.column a.source b.source (ap (λ x. x.column) h.shape) (ap (λ x. x.source) h.shape) h.values

same_target : (name other : List ℕ) → name ≡ other → (a b : Assignment (List ℕ)) → Same blank_assignment source_types a b
    → same_name name a.column ≡ same_name other b.column
same_target name other names a b h = λ i. same_name (names i) (ap (λ x. x.column) h.shape i)

same_targets : (es bs : List (Assignment (List ℕ))) → EachSame blank_assignment source_types es bs → has_duplicate_targets es ≡ has_duplicate_targets bs
same_targets [] [] h = refl
same_targets [] (b ∷ bs) h = absurd h
same_targets (a ∷ es) [] h = absurd h
same_targets (a ∷ es) (b ∷ bs) h =
    let names : a.column ≡ b.column = ap (λ x. x.column) h.0.shape in
    let others =
    any_same blank_assignment source_types (λ (x : Assignment (List ℕ)). same_name a.column x.column) (same_target a.column a.column refl) es bs h.1
    ∙ ap (λ n. list_any (λ (x : Assignment (List ℕ)). same_name n x.column) bs) names in
    λ i. others i || same_targets es bs h.1 i

same_column_conditions : (columns : List Col) (es bs : List (Assignment (List ℕ))) (ts us : List (Atom (List ℕ)))
    → EachSame blank_assignment source_types es bs → EachSame blank_atom test_types ts us
    → column_conditions columns es ts ≡ column_conditions columns bs us
same_column_conditions columns es bs ts us assignments tests =
    let missing = any_same blank_assignment source_types (assignment_lacks_column columns) (assignment_columns columns) es bs assignments in
    let missing_in_tests = any_same blank_atom test_types (atom_lacks_column columns) (test_columns columns) ts us tests in
    let twice = same_targets es bs assignments in
    let types =
    any_same blank_assignment source_types (λ (a : Assignment (List ℕ)). mismatches (type_named columns) a.column a.source) (assignment_types columns) es bs
    assignments in
    let types_of_tests =
    any_same blank_atom test_types (λ (t : Atom (List ℕ)). mismatches (type_named columns) t.left t.right) (same_types (type_named columns)) ts us tests in
    let count = as_many blank_atom test_types ts us tests in
    λ i. record { holds = missing i || missing_in_tests i; refusal = NoSuchColumn }
    ∷ record { holds = twice i; refusal = NameTaken }
    ∷ record { holds = types i || types_of_tests i; refusal = TypeMismatch }
    ∷ record { holds = nat_lt 16 (count i); refusal = TooMany }
    ∷ []

-- the conditions that refuse a change of a table, before those of its columns
abbrev behind_table : Schema → List ℕ → List Condition → List Condition
behind_table schema table conditions = record { holds = lacks_table table schema; refusal = NoSuchTable } ∷ conditions

pub changes_refused_alike : (schema : Schema) (mutation other : Mutation) → AreAlikeChanges mutation other
    → first_refusal (binding_conditions mutation schema) ≡ first_refusal (binding_conditions other schema)
changes_refused_alike schema (Insert table tuples) (Insert name rows) h =
    let tables : table ≡ name = cc in
    let shape : map (map blank_value) tuples ≡ map (map blank_value) rows = cc in
    let pairs = each_same_all (map blank_value) (map type_of) tuple_count tuples rows shape
    (sym (map_each type_of (λ (t : List Value). t) tuples) ∙ h.types ∙ map_each type_of (λ (t : List Value). t) rows) in
    λ i. first_refusal (behind_table schema (tables i)
    (record {
      holds = table_passes (λ t. any_same (map blank_value) (map type_of) (has_type_mismatch t.definition.columns)
          (λ us vs same. mismatch_by_types t.definition.columns us vs same.values) tuples rows pairs i) (tables i) schema;
      refusal = TypeMismatch;
    }
    ∷ record {
      holds = table_passes (λ t. any_same (map blank_value) (map type_of) (has_other_length t.definition.columns)
          (λ us vs same. length_by_types t.definition.columns us vs same.values) tuples rows pairs i) (tables i) schema;
      refusal = WrongNumberOfValues;
    }
    ∷ []))
changes_refused_alike schema (Update table assignments tests) (Update name sets asked) h =
    let tables : table ≡ name = cc in
    let shape : map blank_assignment assignments ≡ map blank_assignment sets = cc in
    let shape_of_tests : map blank_atom tests ≡ map blank_atom asked = cc in
    let parts = each_same blank_assignment source_types source_types_count assignments sets (map type_of (flat_map test_literals tests))
    (map type_of (flat_map test_literals asked)) shape
    (sym (map_all type_of source_literals assignments (flat_map test_literals tests)) ∙ h.types
    ∙ map_all type_of source_literals sets (flat_map test_literals asked)) in
    let pairs = each_same_all blank_atom test_types test_types_count tests asked shape_of_tests
    (sym (map_each type_of test_literals tests) ∙ parts.1 ∙ map_each type_of test_literals asked) in
    ap (λ t. first_refusal (behind_table schema t (column_conditions (columns_named t schema) assignments tests))) tables
    ∙ ap (λ l. first_refusal (behind_table schema name l)) (same_column_conditions (columns_named name schema) assignments sets tests asked parts.0 pairs)
changes_refused_alike schema (Delete table tests) (Delete name asked) h =
    let tables : table ≡ name = cc in
    let shape : map blank_atom tests ≡ map blank_atom asked = cc in
    let pairs = each_same_all blank_atom test_types test_types_count tests asked shape
    (sym (map_each type_of test_literals tests) ∙ h.types ∙ map_each type_of test_literals asked) in
    ap (λ t. first_refusal (behind_table schema t (column_conditions (columns_named t schema) [] tests))) tables
    ∙ ap (λ l. first_refusal (behind_table schema name l)) (same_column_conditions (columns_named name schema) [] [] tests asked tt pairs)
changes_refused_alike schema _ _ h = absurd (cc)
