-- A release keeps the savepoints before it, and ROLLBACK TO one of these does the same as without the release.
use Rattle.std.proofs.Common.{◌≡◌, ◌⊎◌, ◌||◌, ◌<◌, ◌≤◌, ℕ, Bool, true, false, cond, if◌then◌else◌, not, List, [], ◌∷◌, ◌++◌, Option, Some, None, inl, inr}
use Rattle.std.proofs.Common.{drop, length, suc, refl, sym, ap, ◌∙◌, arith}
use Rattle.std.specs.List.{list_all, list_any}
use Rattle.std.specs.Option.{option_map, option_map_or}
use Rattle.std.proofs.lemmas.Bool.{false≢true}
use Rattle.mm_schema.specs.Name.{same_name}
use Rattle.mm_schema.specs.Refused.{first_refusal}
use Rattle.mm_schema.proofs.NameLemmas.{same_name_refl}
use Rattle.mm_schema.proofs.References.{first_none}
use Rattle.mm_value.specs.declared.refusal.Refusal.{Refusal}
use Rattle.mm_value.specs.declared.refusal.Refusal.TheVariants.{NoSuchSavepoint, NoTransaction}
use Rattle.mm_query.specs.Machine.{Outcome, after_all, after_rollback_to, after_savepoint, back_to, conditions, lacks_savepoint, reply_to, rows_at_latest}
use Rattle.mm_query.specs.Machine.{state_after, step, unless_refused}
use Rattle.mm_query.specs.State.{Saved, Savepoint, State, has_transaction}
use Rattle.mm_query.specs.Transactions.{leaves_savepoint}
use Rattle.mm_query.specs.declared.command.Command.{Command}
use Rattle.mm_query.specs.declared.command.Command.TheVariants.{Commit, Rollback, RollbackTo, Savepoint as SetSavepoint}
use Rattle.mm_query.specs.declared.reply.Reply.TheVariants.{Done}
use Rattle.mm_query.proofs.Due.{step-done}
use Rattle.mm_txn.specs.Releasing.{IsSetBefore, after_release}
use Rattle.mm_laws.proofs.StillFound.{not_false}
use Rattle.mm_laws.proofs.Transactions.{after_both, open_saved}

-- The savepoints after ROLLBACK TO, after a release, and after SAVEPOINT.
abbrev pub kept_back : List ℕ → Option Saved → Option Saved
kept_back name saved = option_map (λ (saved : Saved). record saved { savepoints = back_to name saved.savepoints }) saved

abbrev pub released : List ℕ → Option Saved → Option Saved
released name saved = option_map (λ (saved : Saved). record saved { savepoints = drop 1 (back_to name saved.savepoints) }) saved

abbrev pub less_one : Option Saved → Option Saved
less_one saved = option_map (λ (saved : Saved). record saved { savepoints = drop 1 saved.savepoints }) saved

abbrev pub saved_further : Savepoint → Option Saved → Option Saved
saved_further savepoint saved = option_map (λ (saved : Saved). record saved { savepoints = savepoint ∷ saved.savepoints }) saved

-- ---- a released savepoint leaves no trace

released_is : (name : List ℕ) (saved : Option Saved) → released name saved ≡ less_one (kept_back name saved)
released_is name None = refl
released_is name (Some saved) = refl

without_latest : (savepoint : Savepoint) (saved : Option Saved) → less_one (saved_further savepoint saved) ≡ saved
without_latest savepoint None = refl
without_latest savepoint (Some saved) = refl

latest_kept : (name : List ℕ) (savepoint : Savepoint) (saved : Option Saved) → same_name name savepoint.name ≡ true
    → kept_back name (saved_further savepoint saved) ≡ saved_further savepoint saved
latest_kept name savepoint None is = refl
latest_kept name savepoint (Some saved) is =
    ap (λ (b : Bool). Some (record saved { savepoints = if b then savepoint ∷ saved.savepoints else back_to name saved.savepoints })) is

either_saved : (due : Option Refusal) (old : State) (done : Outcome) (at : Option Saved) → (unless_refused due old done).state.saved ≡ at
    → (done.state.saved ≡ at) ⊎ (old.saved ≡ at)
either_saved None old done at is = inl is
either_saved (Some refusal) old done at is = inr is

module _ (name : List ℕ) (state : State) (due : first_refusal (conditions (SetSavepoint name) state) ≡ None) where
  abbrev own : Savepoint
  own = record { name = name; rows = state.rows }

  -- the state after the SAVEPOINT
  abbrev marked : State
  marked = (step (SetSavepoint name) state).state

  marked_is : marked.saved ≡ saved_further own state.saved
  marked_is = ap (λ (o : Outcome). o.state.saved) (step-done (SetSavepoint name) state due)

  module _ (commands : List Command)
      (law : after_all (SetSavepoint name ∷ commands ++ RollbackTo name ∷ []) state
      ≡ record (after_all (SetSavepoint name ∷ commands) state) { rows = state.rows; saved = marked.saved }) where
    abbrev reached : State
    reached = after_all commands marked

    -- ROLLBACK TO leaves what the SAVEPOINT saved.
    pub kept_of_reached : kept_back name reached.saved ≡ marked.saved
    kept_of_reached =
        by (either_saved (first_refusal (conditions (RollbackTo name) reached)) reached
        (record { reply = reply_to (RollbackTo name) reached; state = state_after (RollbackTo name) reached }) marked.saved
        (ap (λ (s : State). s.saved) (sym (after_both commands (RollbackTo name ∷ []) marked) ∙ law)))
      where
        by : ((after_rollback_to name reached).saved ≡ marked.saved) ⊎ (reached.saved ≡ marked.saved) → kept_back name reached.saved ≡ marked.saved
        by (inl is) = is
        by (inr is) =
            ap (kept_back name) (is ∙ marked_is) ∙ (latest_kept name own state.saved (same_name_refl name) ∙ sym marked_is)

    pub no_trace : after_release name reached ≡ record reached { saved = state.saved }
    no_trace =
        let is : released name reached.saved ≡ state.saved =
        released_is name reached.saved
        ∙ (ap less_one (kept_of_reached ∙ marked_is) ∙ without_latest own state.saved) in
        λ i. record reached { saved = is i }

-- ---- COMMIT and ROLLBACK

pub commit_beside : (name : List ℕ) (state : State) (saved : Option Saved)
    → step Commit (record state { saved = released name saved }) ≡ step Commit (record state { saved = saved })
commit_beside name state None = refl
commit_beside name state (Some saved) = refl

pub rollback_beside : (name : List ℕ) (state : State) (saved : Option Saved)
    → step Rollback (record state { saved = released name saved }) ≡ step Rollback (record state { saved = saved })
rollback_beside name state None = refl
rollback_beside name state (Some saved) = refl

-- ---- savepoints before the released one

length_back : (name : List ℕ) (savepoints : List Savepoint) → length (back_to name savepoints) ≤ length savepoints
length_back name [] = omega arith
length_back name (s ∷ ss) = by (same_name name s.name) (length_back name ss)
  where
    by : (b : Bool) → length (back_to name ss) ≤ length ss → length (if b then s ∷ ss else back_to name ss) ≤ suc (length ss)
    by true behind = omega arith
    by false behind = omega (arith, behind)

-- If a savepoint was set before another one, a release of the other one keeps it, and those before it.
pub earlier_stay : (earlier name : List ℕ) (savepoints : List Savepoint) → length (back_to earlier savepoints) < length (back_to name savepoints)
    → back_to earlier (drop 1 (back_to name savepoints)) ≡ back_to earlier savepoints
earlier_stay earlier name [] before = absurd (omega (arith, before))
earlier_stay earlier name (s ∷ ss) before =
    by (same_name earlier s.name) (same_name name s.name) refl before (earlier_stay earlier name ss)
  where
    by : (a b : Bool) → same_name earlier s.name ≡ a
        → length (if a then s ∷ ss else back_to earlier ss) < length (if b then s ∷ ss else back_to name ss)
        → (length (back_to earlier ss) < length (back_to name ss) → back_to earlier (drop 1 (back_to name ss)) ≡ back_to earlier ss)
        → back_to earlier (drop 1 (if b then s ∷ ss else back_to name ss)) ≡ (if a then s ∷ ss else back_to earlier ss)
    by true true is before behind = absurd (omega (arith, before))
    by true false is before behind = absurd (omega (arith, before, length_back name ss))
    by false true is before behind = refl
    by false false is before behind = behind before

-- Each existing savepoint with another name was set before one that is set now.
pub before_new : (earlier name : List ℕ) (state : State) (saved : Option Saved) → lacks_savepoint earlier (record state { saved = saved }) ≡ false
    → same_name earlier name ≡ false → IsSetBefore earlier name (after_savepoint name (record state { saved = saved }))
before_new earlier name state None there apart = absurd (false≢true (sym there))
before_new earlier name state (Some saved) there apart =
    let new : Savepoint = record { name = name; rows = state.rows } in
    let others : back_to earlier (new ∷ saved.savepoints) ≡ back_to earlier saved.savepoints =
    ap (λ (b : Bool). if b then new ∷ saved.savepoints else back_to earlier saved.savepoints) apart in
    let own : back_to name (new ∷ saved.savepoints) ≡ new ∷ saved.savepoints =
    ap (λ (b : Bool). if b then new ∷ saved.savepoints else back_to name saved.savepoints) (same_name_refl name) in
    omega (arith, ap length others, ap length own, length_back earlier saved.savepoints)

-- Some savepoint has a name if a rollback to the name leaves one.
abbrev pub has_some : List Savepoint → Bool
has_some [] = false
has_some (s ∷ ss) = true

any_named : (name : List ℕ) (savepoints : List Savepoint) → list_any (λ (s : Savepoint). same_name name s.name) savepoints ≡ has_some (back_to name savepoints)
any_named name [] = refl
any_named name (s ∷ ss) = by (same_name name s.name) (any_named name ss)
  where
    by : (b : Bool) → list_any (λ (t : Savepoint). same_name name t.name) ss ≡ has_some (back_to name ss)
        → (b || list_any (λ (t : Savepoint). same_name name t.name) ss) ≡ has_some (if b then s ∷ ss else back_to name ss)
    by true behind = refl
    by false behind = behind

-- Two transactions roll back alike to one name.
pub record GoBackAlike (name : List ℕ) (one : Saved) (other : Saved) : Type 0 where
  pub at_begin : one.at_begin ≡ other.at_begin
  pub back : back_to name one.savepoints ≡ back_to name other.savepoints

module _ (name : List ℕ) (state : State) where
  abbrev with_saved : Saved → State
  with_saved saved = record state { saved = Some saved }

  -- The savepoint exists if nothing refuses ROLLBACK TO, ..
  pub there_where_granted : (saved : Saved) → first_refusal (conditions (RollbackTo name) (with_saved saved)) ≡ None
      → has_some (back_to name saved.savepoints) ≡ true
  there_where_granted saved due =
      sym (any_named name saved.savepoints)
      ∙ not_false (list_any (λ (s : Savepoint). same_name name s.name) saved.savepoints)
      (first_none (not (list_any (λ (s : Savepoint). same_name name s.name) saved.savepoints)) NoSuchSavepoint None due)

  -- .. and conversely.
  granted_where_there : (saved : Saved) → has_some (back_to name saved.savepoints) ≡ true
      → first_refusal (conditions (RollbackTo name) (with_saved saved)) ≡ None
  granted_where_there saved there = ap (λ (b : Bool). cond (not b) (Some NoSuchSavepoint) None) (any_named name saved.savepoints ∙ there)

  -- ROLLBACK TO the name does the same in both.
  pub back_alike : (one other : Saved) → GoBackAlike name one other → has_some (back_to name other.savepoints) ≡ true
      → step (RollbackTo name) (with_saved one) ≡ step (RollbackTo name) (with_saved other)
  back_alike one other alike there =
      step-done (RollbackTo name) (with_saved one) (granted_where_there one (ap has_some alike.back ∙ there))
      ∙ ((λ i. record {
        reply = Some Done;
        state = record state {
          rows = rows_at_latest (alike.back i) state.rows;
          saved = Some (record { at_begin = alike.at_begin i; savepoints = alike.back i });
        };
      }) ∙ sym (step-done (RollbackTo name) (with_saved other) (granted_where_there other there)))

module _ (name earlier : List ℕ) where
  pub release_alike : (saved : Saved) → length (back_to earlier saved.savepoints) < length (back_to name saved.savepoints)
      → GoBackAlike earlier (record saved { savepoints = drop 1 (back_to name saved.savepoints) }) saved
  release_alike saved before = record { at_begin = refl; back = earlier_stay earlier name saved.savepoints before }

  pub due_after_release : (state : State) (saved : Option Saved) → IsSetBefore earlier name (record state { saved = saved })
      → first_refusal (conditions (RollbackTo earlier) (record state { saved = released name saved }))
      ≡ first_refusal (conditions (RollbackTo earlier) (record state { saved = saved }))
  due_after_release state None before = absurd (omega (arith, before))
  due_after_release state (Some saved) before =
      ap (λ (b : Bool). cond (not b) (Some NoSuchSavepoint) None)
      (any_named earlier (drop 1 (back_to name saved.savepoints))
      ∙ (ap has_some (earlier_stay earlier name saved.savepoints before) ∙ sym (any_named earlier saved.savepoints)))

  pub back_after_release : (state : State) (saved : Option Saved) → IsSetBefore earlier name (record state { saved = saved })
      → first_refusal (conditions (RollbackTo earlier) (record state { saved = saved })) ≡ None
      → step (RollbackTo earlier) (record state { saved = released name saved }) ≡ step (RollbackTo earlier) (record state { saved = saved })
  back_after_release state None before due = absurd (omega (arith, before))
  back_after_release state (Some saved) before due =
      back_alike earlier state (record saved { savepoints = drop 1 (back_to name saved.savepoints) }) saved (release_alike saved before)
      (there_where_granted earlier state saved due)

-- ---- one name used twice

back_to_kept : (name : List ℕ) (state : State) (saved : Option Saved) (at : Saved) (savepoint : Savepoint) (earlier : List Savepoint)
    → at.savepoints ≡ savepoint ∷ earlier → kept_back name saved ≡ Some at
    → step (RollbackTo name) (record state { saved = saved })
    ≡ record { reply = Some Done; state = record state { rows = savepoint.rows; saved = Some at } }
back_to_kept name state None at savepoint earlier latest is = absurd (cc)
back_to_kept name state (Some saved) at savepoint earlier latest is =
    let back : back_to name saved.savepoints ≡ savepoint ∷ earlier =
    ap (λ (kept : Option Saved). option_map_or (λ (s : Saved). s.savepoints) kept []) is ∙ latest in
    step-done (RollbackTo name) (record state { saved = Some saved }) (granted_where_there name state saved (ap has_some back))
    ∙ (λ i. record { reply = Some Done; state = record state { rows = rows_at_latest (back i) state.rows; saved = is i } })

-- After the release of the later of two savepoints with one name, ROLLBACK TO the name restores the earlier one.
pub earlier_again : (law : (name : List ℕ) (commands : List Command) (state : State) → first_refusal (conditions (SetSavepoint name) state) ≡ None
    → list_all (leaves_savepoint name) commands ≡ true → after_all (SetSavepoint name ∷ commands ++ RollbackTo name ∷ []) state
    ≡ record (after_all (SetSavepoint name ∷ commands) state) { rows = state.rows; saved = (step (SetSavepoint name) state).state.saved })
    → (name : List ℕ) (before after : List Command) (state : State) → first_refusal (conditions (SetSavepoint name) state) ≡ None
    → list_all (leaves_savepoint name) before ≡ true
    → first_refusal (conditions (SetSavepoint name) (after_all (SetSavepoint name ∷ before) state)) ≡ None → list_all (leaves_savepoint name) after ≡ true
    → let reached = after_all (SetSavepoint name ∷ before ++ SetSavepoint name ∷ after) state in
    step (RollbackTo name) (after_release name reached)
    ≡ record { reply = Some Done; state = record reached { rows = state.rows; saved = (step (SetSavepoint name) state).state.saved } }
earlier_again law name before after state due leave again leave_again =
    let first : State = (step (SetSavepoint name) state).state in
    let between : State = after_all before first in
    let reached : State = after_all (before ++ SetSavepoint name ∷ after) first in
    let same : reached ≡ after_all (SetSavepoint name ∷ after) between = after_both before (SetSavepoint name ∷ after) first in
    let open_now = open_saved state.saved
    (not_false (has_transaction state) (first_none (not (has_transaction state)) NoTransaction _ due)) in
    let own : Savepoint = record { name = name; rows = state.rows } in
    let at : Saved = record open_now.0 { savepoints = own ∷ open_now.0.savepoints } in
    let saved_there : first.saved ≡ Some at = marked_is name state due ∙ ap (saved_further own) open_now.1 in
    ap (λ (s : State). step (RollbackTo name) (after_release name s)) same
    ∙ (ap (step (RollbackTo name)) (no_trace name between again after (law name after between again leave_again))
    ∙ (back_to_kept name (after_all (SetSavepoint name ∷ after) between) between.saved at own open_now.0.savepoints refl
    (kept_of_reached name state due before (law name before state due leave) ∙ saved_there)
    ∙ (λ i. record { reply = Some Done; state = record (sym same i) { rows = state.rows; saved = sym saved_there i } })))
