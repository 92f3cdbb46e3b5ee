-- The steps of a plan: which steps a query allows, and how many rows they may read.
use Rattle.std.specs.Prelude.{◌≡◌, ℕ, suc, ◌+◌, ◌==◌, ◌++◌, ◌∷◌, ◌&&◌, not, pos, if◌then◌else◌, Bool, true, List, [], Option, Some, None, length, slice_get}
use Rattle.std.specs.Prelude.{slice_index, take}
use Rattle.std.specs.List.{sum_by}
use Rattle.std.specs.Option.{option_map_or}
use Rattle.std.specs.declared.cmp.Ordering.{Ordering}
use Rattle.std.specs.declared.cmp.Ordering.TheVariants as ordering
use Rattle.mm_join.specs.Equated.{added}
use Rattle.mm_join.specs.Keys.{key_of}
use Rattle.mm_join.specs.Reads.{has_hash, has_prefix, has_sought, reads_behind}
use Rattle.mm_join.specs.declared.key.JoinKey.{JoinKey}
use Rattle.mm_plan.specs.declared.step.Step.{Step}
use Rattle.mm_plan.specs.declared.step.Step.TheVariants as step
use Rattle.mm_query.specs.Atoms.{holds, stands}
use Rattle.mm_query.specs.Choosing.{first_given}
use Rattle.mm_query.specs.Queries.{Partial, value_at}
use Rattle.mm_query.specs.declared.atom.Atom.{Atom}
use Rattle.mm_query.specs.declared.atom.Comparison.{Comparison}
use Rattle.mm_query.specs.declared.atom.Comparison.TheVariants.{Equal}
use Rattle.mm_query.specs.declared.atom.Operand.{Operand}
use Rattle.mm_query.specs.declared.atom.Operand.TheVariants.{Literal}
use Rattle.mm_query.specs.declared.bound_query.FieldPlace.{FieldPlace}
use Rattle.mm_indexed.specs.Kept.{StoredRows}
use Rattle.mm_select.specs.Accesses.{lies_between}
use Rattle.mm_select.specs.Asked.{compares}
use Rattle.mm_select.specs.Fitting.{fitting}
use Rattle.mm_base.specs.Columns.{IsReference}
use Rattle.mm_store.specs.Looked.{IsHash, IsIndexOn, IsTree}
use Rattle.mm_store.specs.Tables.{IsAt, Tables}
use Rattle.mm_store.specs.declared.index_ref.IndexRef.{IndexRef}
use Rattle.mm_value.specs.declared.values.Value.{Value}

-- ---- steps that a query allows

-- The step can find the rows of the first table: its index exists, on the column that the atom compares with a literal.
abbrev pub Reaches : StoredRows → List (Atom FieldPlace) → Step → Type 0
Reaches stored atoms step.Scan = Unit {0}
Reaches stored atoms (step.LookUp index atom) =
    (column : ℕ) × (value : Value) × (slice_get atoms atom ≡ Some (compares column Equal value)) × IsIndexOn stored column index
Reaches stored atoms (step.Range index atom) = (column : ℕ) × (comparison : Comparison) × (value : Value)
    × (slice_get atoms atom ≡ Some (compares column comparison value)) × IsIndexOn stored column index × IsTree index
Reaches stored atoms _ = ⊥

-- The atom at a position is a join equality of the table at a position in FROM, and this holds for its key.
abbrev pub HasKey : List (Atom FieldPlace) → ℕ → ℕ → (JoinKey → Type 0) → Type 0
HasKey atoms place atom Holds = (own : Atom FieldPlace) × (key : JoinKey)
    × (slice_get atoms atom ≡ Some own) × (key_of place own ≡ Some key) × Holds key

-- The table at a position in the store has the index on the column.
abbrev pub HasIndexAt : Tables → ℕ → ℕ → IndexRef → Type 0
HasIndexAt store table column index = (stored : StoredRows) → IsAt store table stored → IsIndexOn stored column index

-- The key requires the value of its field, without a shift, in the key column of the table at a position, and its field refers to that
-- table.
abbrev pub RefersPlainly : Tables → List ℕ → ℕ → JoinKey → Type 0
RefersPlainly store outers table key = (added key.shift ≡ pos 0)
    × ((stored : StoredRows) → IsAt store table stored → key.column ≡ stored.key)
    × IsReference store.links (slice_index outers key.field.place) key.field.column table

-- The step can join a further table to these: its index or reference exists, and an atom requires the key.
abbrev pub Joins : Tables → List (Atom FieldPlace) → List ℕ → ℕ → Step → Type 0
Joins store atoms outers table step.NestedLoops = Unit {0}
Joins store atoms outers table (step.BuiltHash atom) = HasKey atoms (length outers) atom (λ key. Unit {0})
Joins store atoms outers table (step.HashJoin index atom) = HasKey atoms (length outers) atom (λ key. HasIndexAt store table key.column index × IsHash index)
Joins store atoms outers table (step.TreeJoin index atom) = HasKey atoms (length outers) atom (λ key. HasIndexAt store table key.column index × IsTree index)
Joins store atoms outers table (step.TreeMerge outer inner atom) = HasKey atoms (length outers) atom (λ key.
    (first : ℕ) × (outers ≡ first ∷ []) × HasIndexAt store first key.field.column outer × IsTree outer
    × HasIndexAt store table key.column inner × IsTree inner)
Joins store atoms outers table (step.Precomputed atom) = HasKey atoms (length outers) atom (λ key. RefersPlainly store outers table key)
Joins store atoms outers table _ = ⊥

-- Each table of a query has an allowed step.
pub record AreSteps (store : Tables) (atoms : List (Atom FieldPlace)) (tables : List ℕ) (steps : List Step) : Type 0 where
  pub each : length steps ≡ length tables
  pub first : (table : ℕ) (own : Step) (stored : StoredRows) → slice_get tables 0 ≡ Some table → slice_get steps 0 ≡ Some own
      → IsAt store table stored → Reaches stored atoms own
  pub further : (place table : ℕ) (own : Step) → slice_get tables (suc place) ≡ Some table → slice_get steps (suc place) ≡ Some own
      → Joins store atoms (take (suc place) tables) table own

-- ---- how many rows steps read

-- The value of a literal.
abbrev pub literal_of : Operand FieldPlace → Option Value
literal_of (Literal value) = Some value
literal_of _ = None

-- The literal with which the atom compares the column of the first table, if the atom is false for every value on this side of it.
abbrev pub end_of : Ordering → ℕ → Atom FieldPlace → Option Value
end_of beyond column atom =
    if (atom.left.place == 0) && (atom.left.column == column) && not (stands atom.comparison beyond) then literal_of atom.right else None

-- The first lower bound that the atoms set for the column of the first table.
abbrev pub low_end : List (Atom FieldPlace) → ℕ → Option Value
low_end atoms column = first_given (end_of ordering.Less column) atoms

-- The first upper bound that the atoms set for the column of the first table.
abbrev pub high_end : List (Atom FieldPlace) → ℕ → Option Value
high_end atoms column = first_given (end_of ordering.Greater column) atoms

-- The atom at a position passes the test, or there is no such atom.
abbrev pub passes_atom : (Atom FieldPlace → Bool) → List (Atom FieldPlace) → ℕ → Bool
passes_atom test atoms atom = option_map_or test (slice_get atoms atom) true

-- The key of the atom for the table at a position in FROM passes the test, or there is no such key.
abbrev pub passes_key : (JoinKey → Bool) → List (Atom FieldPlace) → ℕ → ℕ → Bool
passes_key test atoms place atom = passes_atom (λ own. option_map_or test (key_of place own) true) atoms atom

-- The step for the table at a position in FROM may read the row, given the rows of the tables before.
abbrev pub may_look : List (Atom FieldPlace) → ℕ → Step → Partial → List Value → Bool
may_look atoms place (step.LookUp index atom) rows row = passes_atom (holds (value_at (Some row ∷ []))) atoms atom
may_look atoms place (step.Range index atom) rows row =
    passes_atom (λ own. lies_between own.left.column (low_end atoms own.left.column) (high_end atoms own.left.column) row) atoms atom
may_look atoms place (step.TreeMerge outer inner atom) rows row = passes_key (λ key. has_prefix key rows row) atoms place atom
may_look atoms place (step.TreeJoin index atom) rows row = passes_key (λ key. has_sought key rows row) atoms place atom
may_look atoms place (step.HashJoin index atom) rows row = passes_key (λ key. has_sought key rows row) atoms place atom
may_look atoms place (step.BuiltHash atom) rows row = passes_key (λ key. has_hash key rows row) atoms place atom
may_look atoms place _ rows row = true

-- The most rows that the step reads for a combination of the tables before: the rows of the combination, and the rows of its own table that
-- may follow them. Along a foreign key one row follows. A merge also reads a prefix of the combination.
abbrev pub reads_each : List (Atom FieldPlace) → ℕ → Step → List (List Value) → List (List Value) → ℕ
reads_each atoms place (step.Precomputed atom) rows combination = length combination + 1
reads_each atoms place (step.TreeMerge outer inner atom) rows combination =
    1 + reads_behind (may_look atoms place (step.TreeMerge outer inner atom)) rows combination
reads_each atoms place own rows combination = reads_behind (may_look atoms place own) rows combination

-- The most rows that the step reads once, whatever the combinations: all rows of its table for a built hash table or a merge.
abbrev pub reads_once : Step → List (List Value) → ℕ
reads_once (step.TreeMerge outer inner atom) rows = length rows
reads_once (step.BuiltHash atom) rows = length rows
reads_once _ rows = 0

-- The most rows that the step reads in all, where its table has these rows and the tables before have these combinations.
abbrev pub step_reads : List (Atom FieldPlace) → ℕ → Step → List (List Value) → List (List (List Value)) → ℕ
step_reads atoms place own rows outers = reads_once own rows + sum_by (reads_each atoms place own rows) outers

-- The most rows that all steps read, each after the fitting combinations of the tables before it.
abbrev pub steps_reads : List (Atom FieldPlace) → List (List (List Value)) → List Step → List (List (List Value)) → ℕ
steps_reads atoms before [] tables = 0
steps_reads atoms before (own ∷ steps) [] = 0
steps_reads atoms before (own ∷ steps) (rows ∷ tables) =
    step_reads atoms (length before) own rows (fitting atoms before) + steps_reads atoms (before ++ rows ∷ []) steps tables

-- The most rows that a plan with these steps reads, where its tables have these rows.
abbrev pub plan_reads : List (Atom FieldPlace) → List Step → List (List (List Value)) → ℕ
plan_reads atoms steps tables = steps_reads atoms [] steps tables
