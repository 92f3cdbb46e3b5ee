-- The number of rows that a join reads.
use Rattle.std.specs.Prelude.{ℕ, ◌+◌, ◌==◌, Bool, true, List, Some, length, map}
use Rattle.std.specs.List.{count_by, sum_by}
use Rattle.std.specs.Ordering.{is_eq}
use Rattle.mm_query.specs.Atoms.{value_in}
use Rattle.mm_query.specs.Queries.{Partial}
use Rattle.mm_store.specs.Tables.{Tables, rows_at}
use Rattle.mm_templist.specs.Combos.{combo_rows}
use Rattle.mm_value.specs.Hash.{value_hash}
use Rattle.mm_value.specs.Order.{value_cmp}
use Rattle.mm_value.specs.Prefix.{order_prefix}
use Rattle.mm_value.specs.declared.values.Value.{Value}
use Rattle.mm_join.specs.Equated.{sought}
use Rattle.mm_join.specs.declared.join.Join.{Join}
use Rattle.mm_join.specs.declared.key.JoinKey.{JoinKey}

-- ---- rows that may match a combination

-- Every row may match.
abbrev pub any_row : Partial → List Value → Bool
any_row rows row = true

-- The row has, in the key's column, the value that the key requires.
abbrev pub has_sought : JoinKey → Partial → List Value → Bool
has_sought key rows row = is_eq (value_cmp (value_in key.column row) (sought key rows))

-- The row has, in the key's column, a value with the same hash.
abbrev pub has_hash : JoinKey → Partial → List Value → Bool
has_hash key rows row = value_hash (value_in key.column row) == value_hash (sought key rows)

-- The row has, in the key's column, a value with the same prefix.
abbrev pub has_prefix : JoinKey → Partial → List Value → Bool
has_prefix key rows row = order_prefix (value_in key.column row) == order_prefix (sought key rows)

-- ---- numbers of rows

-- The most rows read for a combination: its own rows, and the rows of the further table that may match it.
abbrev pub reads_behind : (Partial → List Value → Bool) → List (List Value) → List (List Value) → ℕ
reads_behind may_follow rows combination = length combination + count_by (may_follow (map Some combination)) rows

-- The most rows read for a combination of a merge: also the prefix of the value that is looked up.
abbrev pub merge_reads : JoinKey → List (List Value) → List (List Value) → ℕ
merge_reads key rows combination = 1 + reads_behind (has_prefix key) rows combination

-- The most rows read for all combinations of the outer list.
abbrev pub reads_of : Tables → Join → ℕ → (Partial → List Value → Bool) → ℕ
reads_of store join table may_follow = sum_by (reads_behind may_follow (rows_at store.tables table)) (combo_rows store join.outer.now)
