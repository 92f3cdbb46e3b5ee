-- The contents of a database between commands, and their changes by edits.
use Rattle.std.specs.Prelude.{◌≡◌, ℕ, ◌<◌, ◌≤◌, List, ◌∷◌, ◌++◌, Result, All, OnErr, OnOk, length}
use Rattle.mm_indexed.specs.Kept.{StoredRows}
use Rattle.mm_query.specs.State.{State}
use Rattle.mm_schema.specs.Refused.{AnswersDue, first_refusal}
use Rattle.mm_schema.specs.Schema.{Schema}
use Rattle.mm_schema.specs.declared.reference.Reference.{Reference}
use Rattle.mm_standing.specs.Queries.{RowsByPlace, change_conditions as list_conditions}
use Rattle.mm_standing.specs.State.{AreServed, Lists, count_at}
use Rattle.mm_store.specs.Marks.{KeepsMarks, mark_of}
use Rattle.mm_store.specs.Tables.{IsAt, Tables}
use Rattle.mm_value.specs.declared.refusal.Refusal.{Refusal}
use Rattle.mm_value.specs.declared.values.Value.{Value}
use Rattle.mm_plan.specs.Kept.{instance_of}
use Rattle.mm_txn.specs.Rest.{AreAtRest, state_at_rest}
use Rattle.mm_txn.specs.PlacedEdits.{AreEdits, HaveRows, PlacedEdits, edits_conditions, rows_edited}
use Rattle.mm_txn.specs.Listed.{AreListed, IsTested, rows_by_place}

-- A catalog, the rows of its tables, and the lists of its standing queries.
pub record Holdings : Type 0 where
  pub schema : Schema
  pub store : Tables
  pub lists : Lists

-- Catalog, store and lists agree, and no change of the lists is prepared.
abbrev pub IsAtRest : Holdings → Type 0
IsAtRest held = AreAtRest held.schema held.store held.lists

-- The state outside a transaction.
abbrev pub state_held : Holdings → State
state_held held = state_at_rest held.schema held.store held.lists

-- ---- changes by edits

-- Edits may be made. Their tables exist, and each table refers to older ones. The lists fit the rows. No standing query adds a number to a
-- text, neither before the edits nor after them.
pub record MayMake (store : Tables) (lists : Lists) (changes : List PlacedEdits) : Type 0 where
  pub are : AreEdits store changes
  pub back : All (λ (reference : Reference). reference.to < reference.from) store.links
  pub served : AreServed store lists.queries
  pub listed : AreListed (instance_of store.tables) lists
  pub typed : All (IsTested (rows_by_place (instance_of store.tables)) (rows_edited store changes)) lists.queries

-- The first refusal of edits, by the rows and then by the lists. The first edits are those of the table that a change names.
abbrev pub IsDue : Tables → Lists → PlacedEdits → List PlacedEdits → Result Unit Refusal → Type 0
IsDue store lists own cascaded result = (stored : StoredRows) → IsAt store own.0 stored
    → AnswersDue (first_refusal (edits_conditions store stored own cascaded ++ list_conditions (rows_edited store (own ∷ cascaded)) lists.queries)) result

-- If the result is a success, each relation has these rows; otherwise all relations have their old rows. The log and the lists follow. Each
-- older mark still leads to the same rows and lists.
pub record Makes (rows : RowsByPlace) (old new : Tables) (lists followed : Lists) (result : Result Unit Refusal) : Type 0 where
  pub ok : OnOk result (HaveRows rows old new)
  pub err : OnErr result (HaveRows (rows_by_place (instance_of old.tables)) old new)
  pub links : new.links ≡ old.links
  pub kept : OnErr result (mark_of new ≡ mark_of old)
  pub longer : mark_of old ≤ mark_of new
  pub marks : (mark : ℕ) → mark ≤ mark_of old → KeepsMarks old new mark
  pub listed : AreListed (instance_of new.tables) followed
  pub queries : followed.queries ≡ lists.queries
  pub log : OnErr result (followed.log ≡ lists.log)
  pub log_longer : length lists.log ≤ length followed.log
  pub undone : (mark : ℕ) → mark ≤ length lists.log → (list : ℕ) (row : List Value) → count_at mark list row followed ≡ count_at mark list row lists
