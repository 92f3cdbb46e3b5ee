-- Commands after a release, up to a ROLLBACK TO an earlier savepoint, lead where they lead without the release.
use Rattle.std.proofs.Common.{◌≡◌, ◌&&◌, ℕ, Bool, true, false, if◌then◌else◌, not, List, [], ◌∷◌, ◌++◌, Option, Some, None, drop, refl, sym, ap}
use Rattle.std.proofs.Common.{◌∙◌, arith, subst}
use Rattle.std.specs.List.{list_all}
use Rattle.std.proofs.lemmas.Bool.{and_parts, false≢true}
use Rattle.mm_schema.specs.Name.{same_name}
use Rattle.mm_schema.specs.Refused.{first_refusal}
use Rattle.mm_value.specs.declared.refusal.Refusal.{Refusal}
use Rattle.mm_value.specs.declared.refusal.Refusal.TheVariants.{NotInTransaction}
use Rattle.mm_query.specs.Machine.{Outcome, after_all, after_savepoint, back_to, conditions, is_of_index, reply_to, step, unless_refused}
use Rattle.mm_query.specs.State.{Saved, State, has_transaction}
use Rattle.mm_query.specs.Transactions.{is_done_alike, leaves_savepoint}
use Rattle.mm_query.specs.declared.command.Command.{Command}
use Rattle.mm_query.specs.declared.command.Command.TheVariants.{Nothing, Define, Change, Scan, ScanIndex, Select, Explain, Show, Tables, Begin, Commit}
use Rattle.mm_query.specs.declared.command.Command.TheVariants.{Rollback, Savepoint as SetSavepoint, RollbackTo}
use Rattle.mm_query.specs.declared.command.Definition.{Definition}
use Rattle.mm_query.specs.declared.reply.Reply.TheVariants.{Refused}
use Rattle.mm_txn.specs.Releasing.{IsSetBefore}
use Rattle.mm_txn.proofs.ReleaseLaws.{GoBackAlike, back_alike, has_some, release_alike, released, there_where_granted}

abbrev with_saved : State → Saved → State
with_saved state saved = record state { saved = Some saved }

-- The laws on commands that are done alike, and on changes of the catalog in a transaction.
abbrev pub AreDoneAlike : Type 0
AreDoneAlike = (commands : List Command) (state : State) (saved : Option Saved) → list_all is_done_alike commands ≡ true
    → after_all commands (record state { saved = saved }) ≡ record (after_all commands state) { saved = saved }

abbrev pub AreRefused : Type 0
AreRefused = (definition : Definition) (state : State) → has_transaction state ≡ true → is_of_index definition ≡ false
    → step (Define definition) state ≡ record { reply = Some (Refused NotInTransaction); state = state }

module _ (alike_law : AreDoneAlike) (refused_law : AreRefused) (earlier : List ℕ) where
  -- The state that a command leads to, without the saved rows.
  record LeadsTo (command : Command) (state : State) (saved : Saved) (to : State) : Type 0 where
    left : Saved
    leads : (step command (with_saved state saved)).state ≡ with_saved to left
    stays : GoBackAlike earlier left saved

  leads_alike : (command : Command) (state : State) (saved : Saved) → is_done_alike command ≡ true
      → LeadsTo command state saved (step command state).state
  leads_alike command state saved free = record {
    left = saved;
    leads = alike_law (command ∷ []) state (Some saved) (ap (λ (b : Bool). b && true) free);
    stays = record { at_begin = refl; back = refl };
  }

  leads_refused : (definition : Definition) (state : State) (saved : Saved) → is_of_index definition ≡ false → LeadsTo (Define definition) state saved state
  leads_refused definition state saved of_none = record {
    left = saved;
    leads = ap (λ (o : Outcome). o.state) (refused_law definition (with_saved state saved) refl of_none);
    stays = record { at_begin = refl; back = refl };
  }

  module _ (other : List ℕ) (state : State) (saved : Saved) (apart : same_name earlier other ≡ false) where
    abbrev further : Saved
    further = record saved { savepoints = record { name = other; rows = state.rows } ∷ saved.savepoints }

    abbrev outcome : Option Refusal → Outcome
    outcome due =
        unless_refused due (with_saved state saved)
        (record { reply = reply_to (SetSavepoint other) (with_saved state saved); state = after_savepoint other (with_saved state saved) })

    leads_further : LeadsTo (SetSavepoint other) state saved state
    leads_further = by (first_refusal (conditions (SetSavepoint other) (with_saved state saved))) refl
      where
        by : (due : Option Refusal) → first_refusal (conditions (SetSavepoint other) (with_saved state saved)) ≡ due
            → LeadsTo (SetSavepoint other) state saved state
        by (Some refusal) is = record {
          left = saved;
          leads = ap (λ (d : Option Refusal). (outcome d).state) is;
          stays = record { at_begin = refl; back = refl };
        }
        by None is = record {
          left = further;
          leads = ap (λ (d : Option Refusal). (outcome d).state) is;
          stays = record {
            at_begin = refl;
            back = ap (λ (b : Bool). if b then further.savepoints else back_to earlier saved.savepoints) apart;
          };
        }

  -- the state that a command leads to, whatever is saved
  to_state : Command → State → State
  to_state (SetSavepoint other) state = state
  to_state (Define definition) state = if is_of_index definition then (step (Define definition) state).state else state
  to_state command state = (step command state).state

  not_true : (b : Bool) → not b ≡ true → b ≡ false
  not_true true is = absurd (false≢true is)
  not_true false is = refl

  leads_by : (command : Command) (state : State) (saved : Saved) → leaves_savepoint earlier command ≡ true
      → LeadsTo command state saved (to_state command state)
  unfolding to_state
  leads_by Nothing state saved leaves = leads_alike Nothing state saved refl
  leads_by (Define definition) state saved leaves = by (is_of_index definition) refl
    where
      by : (b : Bool) → is_of_index definition ≡ b
          → LeadsTo (Define definition) state saved (if is_of_index definition then (step (Define definition) state).state else state)
      by true is =
          subst (λ (b : Bool). LeadsTo (Define definition) state saved (if b then (step (Define definition) state).state else state)) (sym is)
          (leads_alike (Define definition) state saved is)
      by false is =
          subst (λ (b : Bool). LeadsTo (Define definition) state saved (if b then (step (Define definition) state).state else state)) (sym is)
          (leads_refused definition state saved is)
  leads_by (Change mutation) state saved leaves = leads_alike (Change mutation) state saved refl
  leads_by (Scan table) state saved leaves = leads_alike (Scan table) state saved refl
  leads_by (ScanIndex index) state saved leaves = leads_alike (ScanIndex index) state saved refl
  leads_by (Select query) state saved leaves = leads_alike (Select query) state saved refl
  leads_by (Explain query) state saved leaves = leads_alike (Explain query) state saved refl
  leads_by (Show name) state saved leaves = leads_alike (Show name) state saved refl
  leads_by Tables state saved leaves = leads_alike Tables state saved refl
  leads_by Begin state saved leaves = absurd (false≢true leaves)
  leads_by Commit state saved leaves = absurd (false≢true leaves)
  leads_by Rollback state saved leaves = absurd (false≢true leaves)
  leads_by (SetSavepoint other) state saved leaves = leads_further other state saved (not_true (same_name earlier other) leaves)
  leads_by (RollbackTo other) state saved leaves = absurd (false≢true leaves)

  record Both (command : Command) (state : State) (one other : Saved) : Type 0 where
    to : State
    one_left : Saved
    other_left : Saved
    one_leads : (step command (with_saved state one)).state ≡ with_saved to one_left
    other_leads : (step command (with_saved state other)).state ≡ with_saved to other_left
    alike : GoBackAlike earlier one_left other_left
    there : has_some (back_to earlier other_left.savepoints) ≡ true

  -- Transactions that roll back alike still do so after each such command, ..
  both_lead : (command : Command) (state : State) (one other : Saved) → leaves_savepoint earlier command ≡ true → GoBackAlike earlier one other
      → has_some (back_to earlier other.savepoints) ≡ true → Both command state one other
  both_lead command state one other leaves alike there =
      let first = leads_by command state one leaves in
      let second = leads_by command state other leaves in
      record {
        to = to_state command state;
        one_left = first.left;
        other_left = second.left;
        one_leads = first.leads;
        other_leads = second.leads;
        alike = record {
          at_begin = first.stays.at_begin ∙ (alike.at_begin ∙ sym second.stays.at_begin);
          back = first.stays.back ∙ (alike.back ∙ sym second.stays.back);
        };
        there = ap has_some second.stays.back ∙ there;
      }

  -- .. and ROLLBACK TO at the end leads to one state.
  pub back_at_last : (commands : List Command) (state : State) (one other : Saved) → list_all (leaves_savepoint earlier) commands ≡ true
      → GoBackAlike earlier one other → has_some (back_to earlier other.savepoints) ≡ true
      → after_all (commands ++ RollbackTo earlier ∷ []) (with_saved state one) ≡ after_all (commands ++ RollbackTo earlier ∷ []) (with_saved state other)
  back_at_last [] state one other leave alike there = ap (λ (o : Outcome). o.state) (back_alike earlier state one other alike there)
  back_at_last (command ∷ commands) state one other leave alike there =
      let each = and_parts (leaves_savepoint earlier command) (list_all (leaves_savepoint earlier) commands) leave in
      let both = both_lead command state one other each.0 alike there in
      ap (after_all (commands ++ RollbackTo earlier ∷ [])) both.one_leads
      ∙ (back_at_last commands both.to both.one_left both.other_left each.1 both.alike both.there
      ∙ sym (ap (after_all (commands ++ RollbackTo earlier ∷ [])) both.other_leads))

  pub later_after_release : (name : List ℕ) (commands : List Command) (state : State) (saved : Option Saved)
      → IsSetBefore earlier name (record state { saved = saved })
      → first_refusal (conditions (RollbackTo earlier) (record state { saved = saved })) ≡ None → list_all (leaves_savepoint earlier) commands ≡ true
      → after_all (commands ++ RollbackTo earlier ∷ []) (record state { saved = released name saved })
      ≡ after_all (commands ++ RollbackTo earlier ∷ []) (record state { saved = saved })
  later_after_release name commands state None before due leave = absurd (omega (arith, before))
  later_after_release name commands state (Some saved) before due leave =
      back_at_last commands state (record saved { savepoints = drop 1 (back_to name saved.savepoints) }) saved leave
      (release_alike name earlier saved before) (there_where_granted earlier state saved due)
