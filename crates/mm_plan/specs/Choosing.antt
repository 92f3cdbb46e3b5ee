-- The steps of a query, chosen by fixed rules: one for each table of FROM. Of the atoms that satisfy a rule, the first written is used, and
-- for it the index created first. The tree on the key counts as the first. Lehman and Carey (SIGMOD 1986) describe the access paths and
-- join methods.
use Rattle.std.specs.Prelude.{ℕ, suc, ◌*◌, ◌==◌, ◌&&◌, Bool, true, false, not, if◌then◌else◌, List, [], ◌∷◌, ◌++◌, Option, Some, None, get_or, length, nat_lt}
use Rattle.std.specs.Prelude.{position, slice_get}
use Rattle.std.specs.List.{list_any}
use Rattle.std.specs.Option.{option_and_then, option_map, unwrap_or}
use Rattle.mm_join.specs.Keys.{key_of}
use Rattle.mm_join.specs.declared.key.JoinKey.{JoinKey}
use Rattle.mm_query.specs.Choosing.{first_there}
use Rattle.mm_query.specs.Plans.{is_equality}
use Rattle.mm_query.specs.declared.atom.Atom.{Atom}
use Rattle.mm_query.specs.declared.atom.Operand.{Operand}
use Rattle.mm_query.specs.declared.atom.Operand.TheVariants.{Literal, Column, Shifted}
use Rattle.mm_query.specs.declared.bound_query.FieldPlace.{FieldPlace}
use Rattle.mm_indexed.specs.Kept.{StoredRows}
use Rattle.mm_indexed.specs.Served.{is_on}
use Rattle.mm_schema.specs.declared.index.IndexKind.TheVariants as kind
use Rattle.mm_schema.specs.declared.reference.Reference.{Reference}
use Rattle.mm_base.specs.Columns.{differs_in_target, same_reference}
use Rattle.mm_store.specs.Tables.{Tables, key_at, rows_at}
use Rattle.mm_store.specs.declared.index_ref.IndexRef.{IndexRef}
use Rattle.mm_store.specs.declared.index_ref.IndexRef.TheVariants as index
use Rattle.mm_plan.specs.declared.choosing.FirstRule.{FirstRule}
use Rattle.mm_plan.specs.declared.choosing.FirstRule.TheVariants as first
use Rattle.mm_plan.specs.declared.choosing.JoinRule.{JoinRule}
use Rattle.mm_plan.specs.declared.choosing.JoinRule.TheVariants as join
use Rattle.mm_plan.specs.declared.step.Step.{Step}
use Rattle.mm_plan.specs.declared.step.Step.TheVariants as step

-- ---- indexes, references and row counts

-- The tree on a column that was created first: the tree on the key is before all others.
abbrev pub first_tree : ℕ → StoredRows → Option IndexRef
first_tree column stored = if column == stored.key then Some index.Key else option_map index.Tree (position (is_on column kind.Tree) stored.indexes)

-- The HASH index on a column that was created first.
abbrev pub first_hash : ℕ → StoredRows → Option IndexRef
first_hash column stored = option_map index.Hash (position (is_on column kind.Hash) stored.indexes)

-- The first tree, or the first HASH index, on a column of the table at a position.
abbrev pub tree_at : Tables → ℕ → ℕ → Option IndexRef
tree_at store table column = option_and_then (first_tree column) (slice_get store.tables table)

abbrev pub hash_at : Tables → ℕ → ℕ → Option IndexRef
hash_at store table column = option_and_then (first_hash column) (slice_get store.tables table)

-- The column of a table refers to another table, and to no other.
abbrev pub refers_only : Tables → Reference → Bool
refers_only store reference = list_any (same_reference reference) store.links && not (list_any (differs_in_target reference) store.links)

-- The number of rows of the table at a position.
abbrev pub count_at : Tables → ℕ → ℕ
count_at store table = length (rows_at store.tables table)

-- The first step that is chosen for an atom, where the first of these atoms has this position.
abbrev pub first_from : (ℕ → Atom FieldPlace → Option Step) → ℕ → List (Atom FieldPlace) → Option Step
first_from give place [] = None
first_from give place (atom ∷ atoms) = first_there (give place atom ∷ first_from give (suc place) atoms ∷ [])

-- ---- the first table

-- The column of the first table that is compared with a literal.
abbrev pub compared_column : FieldPlace → Operand FieldPlace → Option ℕ
compared_column left (Literal value) = if left.place == 0 then Some left.column else None
compared_column left (Column right) = None
compared_column left (Shifted right by) = None

-- The column of the first table that an atom requires to equal a literal.
abbrev pub equated_column : Atom FieldPlace → Option ℕ
equated_column atom = if is_equality atom.comparison then compared_column atom.left atom.right else None

-- The column of the first table that an atom requires to be above or below a literal.
abbrev pub bounded_column : Atom FieldPlace → Option ℕ
bounded_column atom = if is_equality atom.comparison then None else compared_column atom.left atom.right

-- The step that a rule chooses for the atom at a position. It uses a HASH index or a tree if the column must equal a value, and a tree if
-- the column is bounded.
abbrev pub first_rule : FirstRule → Tables → ℕ → ℕ → Atom FieldPlace → Option Step
first_rule first.Hash store table place atom = option_map (λ index. step.LookUp index place) (option_and_then (hash_at store table) (equated_column atom))
first_rule first.Tree store table place atom = option_map (λ index. step.LookUp index place) (option_and_then (tree_at store table) (equated_column atom))
first_rule first.Range store table place atom = option_map (λ index. step.Range index place) (option_and_then (tree_at store table) (bounded_column atom))

-- The step of the first table: by the first rule that an atom satisfies, and otherwise a scan.
abbrev pub first_step : Tables → List (Atom FieldPlace) → ℕ → Step
first_step store atoms table =
    unwrap_or (first_there (
    first_from (first_rule first.Hash store table) 0 atoms
    ∷ first_from (first_rule first.Tree store table) 0 atoms
    ∷ first_from (first_rule first.Range store table) 0 atoms
    ∷ [])) step.Scan

-- ---- further tables

-- The operand is a column without a shift.
abbrev pub is_plain : Operand FieldPlace → Bool
is_plain (Literal value) = false
is_plain (Column field) = true
is_plain (Shifted field by) = false

-- The step is a scan.
abbrev pub is_scan : Step → Bool
is_scan step.Scan = true
is_scan _ = false

-- Exactly one table precedes, and it is scanned.
abbrev pub follows_scan : Tables → List (Atom FieldPlace) → List ℕ → Bool
follows_scan store atoms (first ∷ []) = is_scan (first_step store atoms first)
follows_scan store atoms _ = false

-- Exactly one table precedes, and it has less than half as many rows as this one.
abbrev pub follows_shorter : Tables → List ℕ → ℕ → Bool
follows_shorter store (first ∷ []) table = nat_lt (2 * count_at store first) (count_at store table)
follows_shorter store _ table = false

-- The key's column is the key of the table, and the key's field refers only to that table.
abbrev pub is_referred : Tables → List ℕ → ℕ → JoinKey → Bool
is_referred store outers table key = (key.column == key_at store.tables table)
    && refers_only store (record { from = get_or outers key.field.place 0; column = key.field.column; to = table })

-- The tree merge along the trees on both columns of a key.
abbrev pub merge_of : Tables → List ℕ → ℕ → ℕ → JoinKey → Option Step
merge_of store outers table place key =
    option_and_then (λ outer. option_map (λ inner. step.TreeMerge outer inner place) (tree_at store table key.column))
    (tree_at store (get_or outers key.field.place 0) key.field.column)

-- The step that a rule chooses for the key of the atom at a position.
abbrev pub join_rule : JoinRule → Tables → List (Atom FieldPlace) → List ℕ → ℕ → ℕ → Operand FieldPlace → JoinKey → Option Step
join_rule join.Precomputed store atoms outers table place right key =
    if is_plain right && is_referred store outers table key then Some (step.Precomputed place) else None
join_rule join.TreeMerge store atoms outers table place right key =
    if follows_scan store atoms outers then merge_of store outers table place key else None
join_rule join.TreeJoin store atoms outers table place right key =
    if follows_shorter store outers table then option_map (λ index. step.TreeJoin index place) (tree_at store table key.column) else None
join_rule join.HashJoin store atoms outers table place right key = option_map (λ index. step.HashJoin index place) (hash_at store table key.column)
join_rule join.BuiltHash store atoms outers table place right key = Some (step.BuiltHash place)

-- The step that a rule chooses for the atom at a position, if the atom is a join equality of the table.
abbrev pub joined_by : JoinRule → Tables → List (Atom FieldPlace) → List ℕ → ℕ → ℕ → Atom FieldPlace → Option Step
joined_by rule store atoms outers table place atom =
    option_and_then (join_rule rule store atoms outers table place atom.right) (key_of (length outers) atom)

-- The step of a further table: by the first rule that a join equality satisfies, and otherwise nested loops.
abbrev pub next_step : Tables → List (Atom FieldPlace) → List ℕ → ℕ → Step
next_step store atoms outers table =
    unwrap_or (first_there (
    first_from (joined_by join.Precomputed store atoms outers table) 0 atoms
    ∷ first_from (joined_by join.TreeMerge store atoms outers table) 0 atoms
    ∷ first_from (joined_by join.TreeJoin store atoms outers table) 0 atoms
    ∷ first_from (joined_by join.HashJoin store atoms outers table) 0 atoms
    ∷ first_from (joined_by join.BuiltHash store atoms outers table) 0 atoms
    ∷ [])) step.NestedLoops

-- ---- all tables

-- The step of a table, given the tables before it.
abbrev pub step_for : Tables → List (Atom FieldPlace) → List ℕ → ℕ → Step
step_for store atoms [] table = first_step store atoms table
step_for store atoms (first ∷ others) table = next_step store atoms (first ∷ others) table

-- The steps of tables after some others.
abbrev pub steps_behind : Tables → List (Atom FieldPlace) → List ℕ → List ℕ → List Step
steps_behind store atoms outers [] = []
steps_behind store atoms outers (table ∷ tables) =
    step_for store atoms outers table ∷ steps_behind store atoms (outers ++ table ∷ []) tables

-- The steps of a query of these tables.
abbrev pub steps_of : Tables → List (Atom FieldPlace) → List ℕ → List Step
steps_of store atoms tables = steps_behind store atoms [] tables
