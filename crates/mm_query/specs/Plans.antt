-- The plan of a query: a line for each table of FROM (the access paths and join methods of Lehman and Carey, SIGMOD 1986). The rules are
-- fixed. Each uses the first atom in written order to which it applies, and the oldest index for that atom.
use Rattle.std.specs.Prelude.{ℕ, ◌*◌, Bool, true, false, not, ◌&&◌, if◌then◌else◌, List, [], ◌∷◌, ◌++◌, Option, Some, None, get_or, nat_lt}
use Rattle.std.specs.List.{filter_map, list_all, list_any}
use Rattle.std.specs.Option.{option_and_then, option_map, option_map_or, unwrap_or}
use Rattle.mm_schema.specs.Name.{same_name}
use Rattle.mm_schema.specs.Schema.{Schema, table_place}
use Rattle.mm_query.specs.Choosing.{first_given, first_there}
use Rattle.mm_query.specs.Serving.{hash_on, is_key_field, refers_to_table, tree_on}
use Rattle.mm_query.specs.declared.atom.Atom.{Atom}
use Rattle.mm_query.specs.declared.atom.Comparison.{Comparison}
use Rattle.mm_query.specs.declared.atom.Comparison.TheVariants.{Equal, Less, LessOrEqual, Greater, GreaterOrEqual}
use Rattle.mm_query.specs.declared.atom.Operand.{Operand}
use Rattle.mm_query.specs.declared.atom.Operand.TheVariants.{Literal, Column, Shifted}
use Rattle.mm_query.specs.declared.plan_line.JoinEquality.{JoinEquality}
use Rattle.mm_query.specs.declared.plan_line.PlanLine.{PlanLine}
use Rattle.mm_query.specs.declared.plan_line.PlanLine.TheVariants as line
use Rattle.mm_query.specs.Fields.{FieldName}
use Rattle.mm_query.specs.declared.query.FromItem.{FromItem}
use Rattle.mm_query.specs.declared.query.Query.{Query}

-- The comparison is `=`.
abbrev pub is_equality : Comparison → Bool
is_equality Equal = true
is_equality Less = false
is_equality LessOrEqual = false
is_equality Greater = false
is_equality GreaterOrEqual = false

-- ---- the first table

-- The field belongs to the alias.
abbrev pub is_of : List ℕ → FieldName → Bool
is_of alias field = same_name alias field.alias

-- The field of an alias that is compared with a value.
abbrev pub compared_field : List ℕ → FieldName → Operand FieldName → Option FieldName
compared_field alias field (Literal value) = if is_of alias field then Some field else None
compared_field alias field (Column other) = None
compared_field alias field (Shifted other by) = None

-- The field of an alias that an atom requires to equal a value.
abbrev pub constant_equality : List ℕ → Atom FieldName → Option FieldName
constant_equality alias atom = if is_equality atom.comparison then compared_field alias atom.left atom.right else None

-- The field of an alias that an atom requires to be on one side of a value.
abbrev pub constant_bound : List ℕ → Atom FieldName → Option FieldName
constant_bound alias atom = if is_equality atom.comparison then None else compared_field alias atom.left atom.right

-- `a hash i`: a constant equality whose column has a HASH index.
abbrev pub hash_line : Schema → List FromItem → List ℕ → Atom FieldName → Option PlanLine
hash_line schema from alias atom = option_map (line.Hash alias) (option_and_then (hash_on schema from) (constant_equality alias atom))

-- `a tree i =`: a constant equality whose column has a tree.
abbrev pub tree_line : Schema → List FromItem → List ℕ → Atom FieldName → Option PlanLine
tree_line schema from alias atom = option_map (line.TreeEqual alias) (option_and_then (tree_on schema from) (constant_equality alias atom))

-- `a tree i range`: a constant bound whose column has a tree.
abbrev pub range_line : Schema → List FromItem → List ℕ → Atom FieldName → Option PlanLine
range_line schema from alias atom = option_map (line.TreeRange alias) (option_and_then (tree_on schema from) (constant_bound alias atom))

-- The line of the first table: by the first rule that applies to an atom, or else `a scan`.
abbrev pub first_line : Schema → Query → FromItem → PlanLine
first_line schema query item =
    unwrap_or (first_there (
    first_given (hash_line schema query.from item.alias) query.atoms
    ∷ first_given (tree_line schema query.from item.alias) query.atoms
    ∷ first_given (range_line schema query.from item.alias) query.atoms
    ∷ [])) (line.Scan item.alias)

-- ---- join equalities

-- The field belongs to one of the tables.
abbrev pub is_of_some : List FromItem → FieldName → Bool
is_of_some items field = list_any (λ (item : FromItem). is_of item.alias field) items

-- Two equal fields, one of which may be shifted: one of the alias, and one of an earlier table.
abbrev pub joined_fields : List FromItem → List ℕ → Bool → FieldName → FieldName → Option JoinEquality
joined_fields earlier alias is_shifted left right =
    if is_of alias left && is_of_some earlier right then Some (record { own = left; earlier = right; is_shifted = is_shifted })
    else if is_of alias right && is_of_some earlier left then Some (record { own = right; earlier = left; is_shifted = is_shifted })
    else None

-- The same for a field and an operand. A shift of 0 is a shift.
abbrev pub joined_sides : List FromItem → List ℕ → FieldName → Operand FieldName → Option JoinEquality
joined_sides earlier alias left (Literal value) = None
joined_sides earlier alias left (Column right) = joined_fields earlier alias false left right
joined_sides earlier alias left (Shifted right by) = joined_fields earlier alias true left right

-- The join equality of an alias that an atom is: `=` between one of its columns and one of an earlier table.
abbrev pub join_equality : List FromItem → List ℕ → Atom FieldName → Option JoinEquality
join_equality earlier alias atom = if is_equality atom.comparison then joined_sides earlier alias atom.left atom.right else None

-- The join equalities of an alias, in written order.
abbrev pub join_equalities : List FromItem → List ℕ → List (Atom FieldName) → List JoinEquality
join_equalities earlier alias atoms = filter_map (join_equality earlier alias) atoms

-- ---- later tables

-- The number of rows of the table with a name, by the numbers of rows of all tables.
abbrev pub count_of : Schema → List ℕ → List ℕ → ℕ
count_of schema counts table = option_map_or (λ place. get_or counts place 0) (table_place table schema) 0

-- The line is `a scan`.
abbrev pub is_scan : PlanLine → Bool
is_scan (line.Scan alias) = true
is_scan _ = false

-- There is exactly one earlier table, and it is scanned.
abbrev pub follows_scan : Schema → Query → List FromItem → Bool
follows_scan schema query (first ∷ []) = is_scan (first_line schema query first)
follows_scan schema query _ = false

-- There is exactly one earlier table, and it has less than half as many rows as this one.
abbrev pub follows_shorter : Schema → List ℕ → List FromItem → FromItem → Bool
follows_shorter schema counts (first ∷ []) item = nat_lt (2 * count_of schema counts first.table) (count_of schema counts item.table)
follows_shorter schema counts _ item = false

-- Neither field is shifted, the table's column is its key, and the earlier column refers to the table with this name.
abbrev pub is_precomputed : Schema → List FromItem → List ℕ → JoinEquality → Bool
is_precomputed schema from table join =
    not join.is_shifted && is_key_field schema from join.own && refers_to_table schema from table join.earlier

-- `b precomputed e.f`: neither field is shifted, b's column is its key, and the earlier column refers to b's table.
abbrev pub precomputed_line : Schema → List FromItem → FromItem → JoinEquality → Option PlanLine
precomputed_line schema from item join =
    if is_precomputed schema from item.table join then Some (line.Precomputed item.alias join.earlier) else None

-- `b tree merge i j`: both columns have trees, and b directly follows a first table that is scanned.
abbrev pub tree_merge_line : Schema → Query → List FromItem → FromItem → JoinEquality → Option PlanLine
tree_merge_line schema query earlier item join =
    if follows_scan schema query earlier
    then option_and_then (λ outer. option_map (line.TreeMerge item.alias outer) (tree_on schema query.from join.own)) (tree_on schema query.from join.earlier)
    else None

-- `b tree join i`: b's column has a tree, and b directly follows a first table that has less than half as many rows.
abbrev pub tree_join_line : Schema → List ℕ → List FromItem → List FromItem → FromItem → JoinEquality → Option PlanLine
tree_join_line schema counts from earlier item join =
    if follows_shorter schema counts earlier item then option_map (line.TreeJoin item.alias) (tree_on schema from join.own) else None

-- `b hash join i`: b's column has a HASH index.
abbrev pub hash_join_line : Schema → List FromItem → FromItem → JoinEquality → Option PlanLine
hash_join_line schema from item join = option_map (line.HashJoin item.alias) (hash_on schema from join.own)

-- `b built hash c`: any join equality.
abbrev pub built_hash_line : FromItem → JoinEquality → Option PlanLine
built_hash_line item join = Some (line.BuiltHash item.alias join.own.column)

-- The line of a later table: by the first rule that applies to one of its join equalities, or else `b nested loops`.
abbrev pub joined_line : Schema → List ℕ → Query → List FromItem → FromItem → List JoinEquality → PlanLine
joined_line schema counts query earlier item joins =
    unwrap_or (first_there (
    first_given (precomputed_line schema query.from item) joins
    ∷ first_given (tree_merge_line schema query earlier item) joins
    ∷ first_given (tree_join_line schema counts query.from earlier item) joins
    ∷ first_given (hash_join_line schema query.from item) joins
    ∷ first_given (built_hash_line item) joins
    ∷ [])) (line.NestedLoops item.alias)

-- ---- plans

-- The line of a table, given the tables before it.
abbrev pub line_for : Schema → List ℕ → Query → List FromItem → FromItem → PlanLine
line_for schema counts query [] item = first_line schema query item
line_for schema counts query (first ∷ others) item =
    joined_line schema counts query (first ∷ others) item (join_equalities (first ∷ others) item.alias query.atoms)

-- The lines of the tables after some others.
abbrev pub lines_behind : Schema → List ℕ → Query → List FromItem → List FromItem → List PlanLine
lines_behind schema counts query earlier [] = []
lines_behind schema counts query earlier (item ∷ items) =
    line_for schema counts query earlier item ∷ lines_behind schema counts query (earlier ++ item ∷ []) items

-- The plan of a query, given the numbers of rows of all tables.
abbrev pub plan_of : Schema → List ℕ → Query → List PlanLine
plan_of schema counts query = lines_behind schema counts query [] query.from

-- ---- the form of a plan

-- The alias of a line's table.
abbrev pub line_alias : PlanLine → List ℕ
line_alias (line.Scan alias) = alias
line_alias (line.Hash alias index) = alias
line_alias (line.TreeEqual alias index) = alias
line_alias (line.TreeRange alias index) = alias
line_alias (line.Precomputed alias field) = alias
line_alias (line.TreeMerge alias outer inner) = alias
line_alias (line.TreeJoin alias index) = alias
line_alias (line.HashJoin alias index) = alias
line_alias (line.BuiltHash alias column) = alias
line_alias (line.NestedLoops alias) = alias

-- The line joins its table with the earlier ones.
abbrev pub is_join : PlanLine → Bool
is_join (line.Scan alias) = false
is_join (line.Hash alias index) = false
is_join (line.TreeEqual alias index) = false
is_join (line.TreeRange alias index) = false
is_join (line.Precomputed alias field) = true
is_join (line.TreeMerge alias outer inner) = true
is_join (line.TreeJoin alias index) = true
is_join (line.HashJoin alias index) = true
is_join (line.BuiltHash alias column) = true
is_join (line.NestedLoops alias) = true

-- Every line but the first is a join.
abbrev pub joins_behind_first : List PlanLine → Bool
joins_behind_first [] = true
joins_behind_first (first ∷ others) = not (is_join first) && list_all is_join others
