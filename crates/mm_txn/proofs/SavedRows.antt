-- Changes of rows do not depend on the saved rows, and keep them.
use Rattle.std.proofs.Common.{◌≡◌, Result, List, Option, refl, ap, subst, ◌∙◌}
use Rattle.mm_query.specs.Edits.{edits, own_pairs, value_conditions}
use Rattle.mm_query.specs.Machine.{after_change, change_conditions}
use Rattle.mm_query.specs.State.{Saved, State}
use Rattle.mm_query.specs.declared.bound_query.BoundQuery.{BoundQuery}
use Rattle.mm_query.specs.declared.command.Mutation.{Mutation}
use Rattle.mm_query.specs.declared.command.Mutation.TheVariants.{Insert, Update, Delete}
use Rattle.mm_indexed.specs.Kept.{StoredRows}
use Rattle.mm_schema.specs.Refused.{AnswersDue, Condition, first_refusal}
use Rattle.mm_schema.specs.Schema.{Schema}
use Rattle.mm_value.specs.declared.refusal.Refusal.{Refusal}
use Rattle.mm_txn.specs.Kept.{state_of, watched_state}

-- The state with these saved rows.
abbrev pub state_with : Schema → List StoredRows → List BoundQuery → Option Saved → State
state_with schema rs queries saved = record (watched_state schema rs queries) { saved = saved }

module _ (schema : Schema) (rs : List StoredRows) (queries : List BoundQuery) where
  -- The edits of a change do not depend on the standing queries.
  pub edits_watched : (mutation : Mutation) → edits mutation (state_of schema rs) ≡ edits mutation (watched_state schema rs queries)
  edits_watched (Insert table tuples) = refl
  edits_watched (Update table assignments tests) = refl
  edits_watched (Delete table tests) = refl

  pub values_watched : (mutation : Mutation) → value_conditions mutation (state_of schema rs) ≡ value_conditions mutation (watched_state schema rs queries)
  values_watched (Insert table tuples) = refl
  values_watched (Update table assignments tests) = refl
  values_watched (Delete table tests) = refl

module _ (schema : Schema) (rs : List StoredRows) (queries : List BoundQuery) (saved : Option Saved) where
  pub pairs_beside : (mutation : Mutation) → own_pairs mutation (state_of schema rs) ≡ own_pairs mutation (state_with schema rs queries saved)
  pairs_beside (Insert table tuples) = refl
  pairs_beside (Update table assignments tests) = refl
  pairs_beside (Delete table tests) = refl

  conditions_beside : (mutation : Mutation)
      → change_conditions mutation (watched_state schema rs queries) ≡ change_conditions mutation (state_with schema rs queries saved)
  conditions_beside (Insert table tuples) = refl
  conditions_beside (Update table assignments tests) = refl
  conditions_beside (Delete table tests) = refl

  after_beside : (mutation : Mutation)
      → record (after_change mutation (watched_state schema rs queries)) { saved = saved } ≡ after_change mutation (state_with schema rs queries saved)
  after_beside (Insert table tuples) = refl
  after_beside (Update table assignments tests) = refl
  after_beside (Delete table tests) = refl

  module _ (mutation : Mutation) (state : State) (is : state_with schema rs queries saved ≡ state) where
    -- The refusal of a change outside a transaction is also due with saved rows, ..
    pub due_beside : {T : Type 0} (result : Result T Refusal) → AnswersDue (first_refusal (change_conditions mutation (watched_state schema rs queries))) result
        → AnswersDue (first_refusal (change_conditions mutation state)) result
    due_beside {T} result due =
        subst (λ (s : State). AnswersDue {T = T} (first_refusal (change_conditions mutation s)) result) is
        (subst (λ (cs : List Condition). AnswersDue {T = T} (first_refusal cs) result) (conditions_beside mutation) due)

    -- .. and the rows after the change are the same.
    pub done_beside : (new : List StoredRows) (left : List BoundQuery) (later : Option Saved) → left ≡ queries
        → watched_state schema new queries ≡ after_change mutation (watched_state schema rs queries)
        → later ≡ saved → state_with schema new left later ≡ after_change mutation state
    done_beside new left later kept done same =
        ap (λ qs. state_with schema new qs later) kept
        ∙ (λ i. record (done i) { saved = same i }) ∙ after_beside mutation ∙ ap (after_change mutation) is
