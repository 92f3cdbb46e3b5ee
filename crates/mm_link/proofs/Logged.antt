-- Records of the log that keep a link, and their undo.
use Rattle.std.proofs.Common.{◌≡◌, ◌≢◌, ℕ, ◌<◌, ⊎_elim, List, [], ◌∷◌, ◌++◌, length, map, set, refl, sym, ap, ◌∙◌, subst}
use Rattle.std.specs.Prelude.{slice_index}
use Rattle.std.specs.List.{All}
use Rattle.std.proofs.lemmas.Bool.{cases_eq}
use Rattle.std.proofs.lemmas.List.{get_or-set_same, get_or-set_other}
use Rattle.std.proofs.lemmas.List.Elements.{All-head}
use Rattle.mm_foreign_key.specs.Ties.{Ties}
use Rattle.mm_partition.specs.Places.{Free, Live, Hidden}
use Rattle.mm_row_order.specs.Refs.{Slots}
use Rattle.mm_indexed.specs.Twins.{AreApart}
use Rattle.mm_schema.specs.declared.reference.Reference.{Reference}
use Rattle.mm_tables.specs.Commands.{after, IsCommand, LeavesOut}
use Rattle.mm_tables.specs.Edits.{put, step, step_back, Fits, Stands}
use Rattle.mm_tables.specs.Log.{before, StandsBack}
use Rattle.mm_tables.specs.Tables.{back, Holds, logged, no_slots}
use Rattle.mm_tables.specs.declared.edit.Edit.{Edit}
use Rattle.mm_tables.specs.declared.edit.Edit.TheVariants.{Stage}
use Rattle.mm_tables.specs.declared.log_record.LogRecord.{LogRecord}
use Rattle.mm_tables.proofs.InTables.{state_next}
use Rattle.mm_tables.proofs.Logs.{before-append}
use Rattle.mm_tables.proofs.Slots.{put_here, put_other, same_or_apart}
use Rattle.mm_value.specs.declared.row_ref.RowRef.{RowRef}
use Rattle.mm_value.specs.declared.values.Value.{Value}
use Rattle.mm_link.specs.Edited.{IsTakenBack}
use Rattle.mm_link.specs.Links.{Follows, HaveTargets, RefersTo}
use Rattle.mm_link.specs.Logged.{KeepsLink, slots_at}
use Rattle.mm_link.specs.Targets.{BringsUnreferred, SparesReferred}
use Rattle.mm_link.proofs.Slots.{after_leaves, all_leave, before-after, first_apart, IsCommand-rest, back_step, leaves_or_names, step_leaves}
use Rattle.mm_link.proofs.Targets.{Brings-command, Follows-step_back}

-- ---- one table of the state

pub at_same : (s : List Slots) (t : ℕ) (x : Slots) → t < length s → slots_at (set s t x) t ≡ x
at_same s t x within = get_or-set_same s t x no_slots within

pub at_other : (s : List Slots) (t other : ℕ) (x : Slots) → other ≢ t → slots_at (set s t x) other ≡ slots_at s other
at_other s t other x apart = get_or-set_other s t other x no_slots apart

-- more records
module _ {E S : Type 0} (back_one : E → S → S) (Stays : S → E → Type 0) where
  pub StandsBack-append : (es fs : List E) (now : S) → StandsBack back_one Stays es (before back_one fs now) → StandsBack back_one Stays fs now
      → StandsBack back_one Stays (es ++ fs) now
  StandsBack-append [] fs now first rest = rest
  StandsBack-append (e ∷ es) fs now (first, here) rest =
      (StandsBack-append es fs now first rest, subst (λ (s : S). Stays s e) (sym (before-append back_one es fs now)) here)

-- the edits of one table in the log of all
module _ (P : Slots → Edit → Type 0) (Q : List Slots → LogRecord → Type 0) (t : ℕ) (s : List Slots) (within : t < length s)
    (turn : (x : Slots) (e : Edit) → P x e → Q (set s t x) (logged t e)) where
  before-logged : (es : List Edit) (x : Slots) → before back (map (logged t) es) (set s t x) ≡ set s t (before step_back es x)
  before-logged [] x = refl
  before-logged (e ∷ es) x =
      ap (back (logged t e)) (before-logged es x)
      ∙ state_next s (set s t (before step_back es x)) t (before step_back es x) (step_back e) within refl

  pub StandsBack-logged : (es : List Edit) (x : Slots) → StandsBack step_back P es x → StandsBack back Q (map (logged t) es) (set s t x)
  StandsBack-logged [] x stands = tt
  StandsBack-logged (e ∷ es) x (rest, here) = (
    StandsBack-logged es x rest,
    subst (λ (y : List Slots). Q y (logged t e)) (sym (before-logged es x)) (turn (before step_back es x) e here),
  )

-- ---- the records of a command in the referring table

module _ (column key : ℕ) (then : Slots) where
  targets_between : (e : Edit) (now last : Slots) → ((at : RowRef) → (LeavesOut e at → ⊥) → last at ≡ step e now at)
      → HaveTargets column key now then → HaveTargets column key last then → HaveTargets column key (step e now) then
  targets_between e now last stays first second at row is =
      ⊎_elim
      (λ (out : LeavesOut e at). first at row (sym (step_leaves e now at out) ∙ is))
      (λ (named : LeavesOut e at → ⊥). second at row (stays at named ∙ is))
      (leaves_or_names e at)

  pub HaveTargets-command : (own_key : ℕ) (es : List Edit) (now : Slots) → IsCommand own_key es now → HaveTargets column key now then
      → HaveTargets column key (after es now) then → StandsBack step_back (λ x e. HaveTargets column key (step_back e x) then) es (after es now)
  HaveTargets-command own_key [] now command first last = tt
  HaveTargets-command own_key (e ∷ es) now command first last =
      let mid : Slots = step e now in
      let rest : IsCommand own_key es mid = IsCommand-rest own_key e es now command in
      let mid_targets : HaveTargets column key mid then =
      targets_between e now (after es mid) (λ at named. after_leaves es mid at (all_leave e es at (first_apart e es command.apart) named)) first last in
      let was : step_back e (before step_back es (after es mid)) ≡ now =
      ap (step_back e) (before-after own_key es mid rest) ∙ back_step own_key e now (All-head (Fits own_key now) e es command.fits) in (
        HaveTargets-command own_key es mid rest mid_targets last,
        subst (λ (x : Slots). HaveTargets column key x then) (sym was) first,
      )

module _ (reference : Reference) (key : ℕ) (apart : reference.from ≢ reference.to) where
  abbrev from : List Slots → Slots
  from s = slots_at s reference.from

  abbrev to : List Slots → Slots
  to s = slots_at s reference.to

  keeps_source : (s : List Slots) → reference.from < length s → (x : Slots) (e : Edit) → HaveTargets reference.column key (step_back e x) (to s)
      → KeepsLink reference key (set s reference.from x) (logged reference.from e)
  keeps_source s within x e targets = record {
    as_source = λ is.
        subst (λ (y : Slots). HaveTargets reference.column key (step_back e y) (to (set s reference.from x))) (sym (at_same s reference.from x within))
        (subst (λ (y : Slots). HaveTargets reference.column key (step_back e x) y) (sym (at_other s reference.from reference.to x (λ same. apart (sym same))))
        targets);
    as_target = λ is. absurd (apart is);
  }

  keeps_target : (s : List Slots) → reference.to < length s → (x : Slots) (e : Edit) → BringsUnreferred reference.column key (from s) x e
      → KeepsLink reference key (set s reference.to x) (logged reference.to e)
  keeps_target s within x e brings = record {
    as_source = λ is. absurd (apart (sym is));
    as_target = λ is.
        subst (λ (y : Slots). BringsUnreferred reference.column key (from (set s reference.to x)) y e) (sym (at_same s reference.to x within))
        (subst (λ (y : Slots). BringsUnreferred reference.column key y x e) (sym (at_other s reference.to reference.from x apart)) brings);
  }

  -- the records of a command keep the link: in the referring table, ..
  pub KeepsLink-source : (s : List Slots) (own_key : ℕ) (es : List Edit) → reference.from < length s → IsCommand own_key es (from s)
      → HaveTargets reference.column key (from s) (to s) → HaveTargets reference.column key (after es (from s)) (to s)
      → StandsBack back (KeepsLink reference key) (map (logged reference.from) es) (set s reference.from (after es (from s)))
  KeepsLink-source s own_key es within command first last =
      StandsBack-logged (λ x e. HaveTargets reference.column key (step_back e x) (to s)) (KeepsLink reference key) reference.from s within
      (keeps_source s within) es (after es (from s)) (HaveTargets-command reference.column key (to s) own_key es (from s) command first last)

  -- .. in the target table, ..
  pub KeepsLink-target : (s : List Slots) (ties : Ties) (es : List Edit) → reference.to < length s → IsCommand key es (to s)
      → All (SparesReferred reference.column key (from s) (to s)) es → Follows reference.column key (from s) (to s) ties
      → AreApart key (after es (to s))
      → StandsBack back (KeepsLink reference key) (map (logged reference.to) es) (set s reference.to (after es (to s)))
  KeepsLink-target s ties es within command spares follows keys_apart =
      StandsBack-logged (BringsUnreferred reference.column key (from s)) (KeepsLink reference key) reference.to s within
      (keeps_target s within) es (after es (to s)) (Brings-command reference.column key (from s) (to s) ties es command spares follows keys_apart)

  -- .. and in any other one
  pub KeepsLink-other : (t : ℕ) (es : List Edit) (s : List Slots) → t ≢ reference.from → t ≢ reference.to
      → StandsBack back (KeepsLink reference key) (map (logged t) es) s
  KeepsLink-other t [] s not_from not_to = tt
  KeepsLink-other t (e ∷ es) s not_from not_to = (
    KeepsLink-other t es s not_from not_to,
    record { as_source = λ is. absurd (not_from is); as_target = λ is. absurd (not_to is) },
  )

  -- the record of a staged row keeps the link too
  pub KeepsLink-staged : (s : List Slots) (t : ℕ) (r : RowRef) (row : List Value) → t < length s → slots_at s t r ≡ Free
      → HaveTargets reference.column key (from s) (to s)
      → KeepsLink reference key (set s t (put r (Hidden row) (slots_at s t))) (logged t (Stage r))
  KeepsLink-staged s t r row within free targets = record {
    as_source = λ is.
        let x : Slots = put r (Hidden row) (slots_at s t) in
        let own : slots_at (set s t x) reference.from ≡ x =
        subst (λ (n : ℕ). slots_at (set s t x) n ≡ x) is (at_same s t x within) in
        let other : to (set s t x) ≡ to s = at_other s t reference.to x (λ same. apart (sym (same ∙ is))) in
        λ at y live.
        ⊎_elim
        (λ (here : r ≡ at).
        let both : Free ≡ Live y = sym (put_here r at Free (from (set s t x)) here) ∙ live in let no : ⊥ = cc in absurd no)
        (λ (away : r ≢ at).
        let was : from s at ≡ Live y =
        ap (λ (n : ℕ). slots_at s n at) (sym is)
        ∙ (sym (put_other r at (Hidden row) (slots_at s t) away)
        ∙ (ap (λ (z : Slots). z at) (sym own) ∙ (sym (put_other r at Free (from (set s t x)) away) ∙ live))) in
        let (target, refers) = targets at y was in
        (target, subst (λ (z : Slots). RefersTo reference.column key z y target) (sym other) refers))
        (same_or_apart r at);
    as_target = λ is. tt;
  }

  -- ---- the undo of one record

  module _ (keys : List ℕ) (s : List Slots) (r : LogRecord) (ties : Ties) (holds : Holds keys s r) (keeps : KeepsLink reference key s r)
      (follows : Follows reference.column key (from s) (to s) ties) where
    -- of the referring table: the ties can be updated
    pub IsTakenBack-record : r.table ≡ reference.from
        → IsTakenBack reference.column key (slice_index keys reference.from) (from (back r s)) (to (back r s)) r.edit ties
    IsTakenBack-record is =
        let x : Slots = step_back r.edit (slots_at s r.table) in
        let here : from (back r s) ≡ step_back r.edit (from s) =
        subst (λ (n : ℕ). slots_at (set s r.table x) n ≡ step_back r.edit (slots_at s n)) is (at_same s r.table x holds.within) in
        let there : to (back r s) ≡ to s = at_other s r.table reference.to x (λ same. apart (sym (same ∙ is))) in
        record {
          was = from s;
          stands = subst (λ (n : ℕ). Stands (slice_index keys n) (slots_at s n) r.edit) is holds.stands;
          back = here;
          follows = subst (λ (y : Slots). Follows reference.column key (from s) y ties) (sym there) follows;
          targets = subst (λ (y : Slots). HaveTargets reference.column key y (to (back r s))) (sym here)
              (subst (λ (y : Slots). HaveTargets reference.column key (step_back r.edit (from s)) y) (sym there) (keeps.as_source is));
        }

    -- of the target table: the ties follow it unchanged
    pub Follows-target_back : r.table ≡ reference.to → key ≡ slice_index keys reference.to
        → Follows reference.column key (from (back r s)) (to (back r s)) ties
    Follows-target_back is own =
        let x : Slots = step_back r.edit (slots_at s r.table) in
        let here : to (back r s) ≡ step_back r.edit (to s) =
        subst (λ (n : ℕ). slots_at (set s r.table x) n ≡ step_back r.edit (slots_at s n)) is (at_same s r.table x holds.within) in
        let there : from (back r s) ≡ from s = at_other s r.table reference.from x (λ same. apart (same ∙ is)) in
        let stands : Stands key (to s) r.edit =
        subst (λ (k : ℕ). Stands k (to s) r.edit) (sym own)
        (subst (λ (n : ℕ). Stands (slice_index keys n) (slots_at s n) r.edit) is holds.stands) in
        subst (λ (y : Slots). Follows reference.column key (from (back r s)) y ties) (sym here)
        (subst (λ (y : Slots). Follows reference.column key y (step_back r.edit (to s)) ties) (sym there)
        (Follows-step_back reference.column key (from s) (to s) ties r.edit stands (keeps.as_target is) follows))

    -- of any other table
    pub Follows-other_back : r.table ≢ reference.from → r.table ≢ reference.to
        → Follows reference.column key (from (back r s)) (to (back r s)) ties
    Follows-other_back not_from not_to =
        let x : Slots = step_back r.edit (slots_at s r.table) in
        subst (λ (y : Slots). Follows reference.column key (from (back r s)) y ties)
        (sym (at_other s r.table reference.to x (λ same. not_to (sym same))))
        (subst (λ (y : Slots). Follows reference.column key y (to s) ties) (sym (at_other s r.table reference.from x (λ same. not_from (sym same)))) follows)

    pub FollowsUndo-record : key ≡ slice_index keys reference.to
        → (r.table ≡ reference.from → IsTakenBack reference.column key (slice_index keys reference.from) (from (back r s)) (to (back r s)) r.edit ties)
        × (r.table ≢ reference.from → Follows reference.column key (from (back r s)) (to (back r s)) ties)
    FollowsUndo-record own = (
      IsTakenBack-record,
      λ not_from.
          ⊎_elim
          (λ (is : r.table ≡ reference.to). Follows-target_back is own)
          (λ (not_to : r.table ≢ reference.to). Follows-other_back not_from not_to)
          (cases_eq r.table reference.to),
    )
