-- Lists of the combinations of the first tables of a query.
use Rattle.std.specs.Prelude.{◌≡◌, ℕ, zero, suc, ◌*◌, ◌≤◌, ◌++◌, List, All, length}
use Rattle.mm_plan.specs.Growing.{NoneLost}
use Rattle.mm_query.specs.declared.bound_query.BoundQuery.{BoundQuery}
use Rattle.mm_select.specs.Fitting.{AreFitting}
use Rattle.mm_store.specs.Tables.{Tables}
use Rattle.mm_templist.specs.Combos.{AreLive, Combos}
use Rattle.mm_schema.specs.Rows.{most_rows}

-- The most combinations of this many tables, each with at most 1,048,576 rows.
abbrev pub most_combinations : ℕ → ℕ
most_combinations zero = 1
most_combinations (suc tables) = most_combinations tables * most_rows

-- The list has the fitting combinations of the first of these tables and can be joined to the rest. If each of its combinations is part of
-- one that fits the query, the list is within the limit of a result.
pub record IsBegun (store : Tables) (query : BoundQuery) (tables : List ℕ) (list : Combos) : Type 0 where
  pub rest : List ℕ
  pub first : tables ≡ list.tables ++ rest
  pub fields : list.fields ≡ query.fields
  pub fitting : AreFitting store query.atoms list
  pub live : All (AreLive store list.tables) list.combos
  pub bounded : length list.combos ≤ most_combinations (length list.tables)
  pub capped : NoneLost store query.atoms (length list.tables) rest → length list.combos ≤ most_rows
