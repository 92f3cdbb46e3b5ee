-- The contract of a join.
use Rattle.std.specs.Prelude.{◌≡◌, ℕ, List, Result, All, IfOk, IsPermutation}
use Rattle.mm_schema.specs.Refused.{AnswersDue, first_refusal}
use Rattle.mm_store.specs.Tables.{Tables, rows_at}
use Rattle.mm_templist.specs.Combos.{AreLive, Combos, combo_rows}
use Rattle.mm_value.specs.declared.refusal.Refusal.{Refusal}
use Rattle.mm_value.specs.declared.values.Value.{Value}
use Rattle.mm_join.specs.Caps.{cap_conditions}
use Rattle.mm_join.specs.Joined.{IsNext, joined}
use Rattle.mm_join.specs.declared.join.Join.{Join}

-- The table follows those of the outer list, and the references of the outer list are live.
abbrev pub CanJoin : Tables → Join → ℕ → Type 0
CanJoin store join table = IsNext store join.outer.now.tables join.descriptor.tables.now table
    × All (AreLive store join.outer.now.tables) join.outer.now.combos

-- The combinations of the outer list with the rows of a table for which no atom is false.
abbrev pub found : Tables → Join → ℕ → List (List (List Value))
found store join table = joined join.atoms.now (combo_rows store join.outer.now) (rows_at store.tables table)

-- The call returns these combinations, as references to live rows, or fails because there are more than the cap or an allocation failed.
pub record Joins (store : Tables) (join : Join) (table : ℕ) (result : Result Combos Refusal) : Type 0 where
  pub due : AnswersDue (first_refusal (cap_conditions join.cap (found store join table))) result
  pub joined : IfOk result (λ list. IsPermutation (combo_rows store list) (found store join table))
  pub live : IfOk result (λ list. All (AreLive store list.tables) list.combos)
  pub tables : IfOk result (λ list. list.tables ≡ join.descriptor.tables.now)
  pub fields : IfOk result (λ list. list.fields ≡ join.descriptor.fields.now)
