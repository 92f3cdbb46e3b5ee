-- Updating ties after edits of the referring table.
use Rattle.std.proofs.Common.{◌≡◌, ◌≢◌, ℕ, suc, ◌+◌, ◌<◌, ⊎_elim, List, [], ◌∷◌, length, get_or, drop, Option, Some, None, refl, sym, ap, ◌∙◌, subst}
use Rattle.std.proofs.Common.{arith, drop-cons}
use Rattle.std.specs.Prelude.{slice_get}
use Rattle.std.specs.List.{All}
use Rattle.std.proofs.lemmas.List.Elements.{All-head, All-tail, All-cons}
use Rattle.mm_foreign_key.specs.Ties.{ChangesTarget, Ties, target_at}
use Rattle.mm_partition.specs.Places.{Content, Free, Live, Hidden, row_in}
use Rattle.mm_row_order.specs.Refs.{Slots, HasRow, row_at}
use Rattle.mm_tables.specs.Commands.{IsApart, LeavesOut}
use Rattle.mm_tables.specs.declared.edit.Edit.{Edit}
use Rattle.mm_tables.specs.declared.edit.Edit.TheVariants.{Stage, Insert, Update, Move, Delete}
use Rattle.mm_value.specs.declared.row_ref.RowRef.{RowRef}
use Rattle.mm_value.specs.declared.values.Value.{Value}
use Rattle.mm_schema.specs.declared.reference.Reference.{Reference}
use Rattle.mm_link.specs.Edited.{Exchanges, IsBehind, IsMade, IsOut, IsPending, IsTakenBack, Switches, TiesNamed, TiesSlot, Turns}
use Rattle.mm_link.specs.Links.{Follows, HaveTargets, IsTied, RefersTo}
use Rattle.mm_link.proofs.Coming.{HaveTargets-after, HaveTargets-follows}
use Rattle.mm_link.proofs.Slots.{after_leaves, all_leave, back_leaves, first_apart, leaves_or_names, named_one, named_two, out_hidden}
use Rattle.mm_link.proofs.Slots.{live_apart_hidden, rest_apart, Turns-after, Turns-back}

module _ (column key : ℕ) (then : Slots) where
  -- a slot without a row in use is tied to none
  pub tied_none : (content : Content) (target : Option RowRef) → IsOut content → IsTied column key then content target → target ≡ None
  tied_none Free target out tied = tied
  tied_none (Live row) target out tied = absurd out
  tied_none (Hidden row) target out tied = tied

  pub none_tied : (content : Content) (target : Option RowRef) → IsOut content → target ≡ None → IsTied column key then content target
  none_tied Free target out none = none
  none_tied (Live row) target out none = absurd out
  none_tied (Hidden row) target out none = none

  -- .. and a row in use to the row that it refers to
  pub tied_live : (content : Content) (row : List Value) (target : Option RowRef) → content ≡ Live row → IsTied column key then content target
      → IsTied column key then (Live row) target
  tied_live content row target is tied = subst (λ (c : Content). IsTied column key then c target) is tied

  pub live_tied : (now : Slots) (at : RowRef) (target : Option RowRef) (live : HasRow now at) → IsTied column key then (Live live.0) target
      → IsTied column key then (now at) target
  live_tied now at target live tied = subst (λ (c : Content). IsTied column key then c target) (sym live.1) tied

  module _ (was now : Slots) (at : RowRef) (target : Option RowRef) (switches : Switches was now at) (tied : IsTied column key then (was at) target) where
    -- a row that was tied to none was brought into use
    pub has_come : target ≡ None → HasRow now at
    has_come none =
        ⊎_elim
        (λ (comes : IsOut (was at) × HasRow now at). comes.1)
        (λ (goes : HasRow was at × IsOut (now at)).
        let before : IsTied column key then (Live goes.0.0) target = tied_live (was at) goes.0.0 target goes.0.1 tied in
        let both : Some before.0 ≡ None = sym before.1 ∙ none in let no : ⊥ = cc in absurd no)
        switches

    -- and a row that was tied to another one is out of use
    pub has_gone : (to : RowRef) → target ≡ Some to → IsOut (now at)
    has_gone to some =
        ⊎_elim
        (λ (comes : IsOut (was at) × HasRow now at).
        let none : target ≡ None = tied_none (was at) target comes.0 tied in
        let both : Some to ≡ None = sym some ∙ none in let no : ⊥ = cc in absurd no)
        (λ (goes : HasRow was at × IsOut (now at)). goes.1)
        switches

  -- ---- one slot

  module _ (now : Slots) (at : RowRef) (old new : Ties) where
    pub TiesSlot-tied : HasRow now at → (to : RowRef) → ChangesTarget old new at (Some to) → RefersTo column key then (row_at now at) to
        → TiesSlot column key now then at old new
    TiesSlot-tied live to changes refers = record {
      tied = live_tied now at (target_at new at) live
          (to, changes.changed, subst (λ (c : Content). RefersTo column key then (row_in c) to) live.1 refers);
      others = λ other apart. changes.others other apart;
    }

    pub TiesSlot-untied : IsOut (now at) → ChangesTarget old new at None → TiesSlot column key now then at old new
    TiesSlot-untied out changes = record {
      tied = none_tied (now at) (target_at new at) out changes.changed;
      others = λ other apart. changes.others other apart;
    }

  pub TiesSlot-twice : (now : Slots) (at : RowRef) (old mid new : Ties) (target : Option RowRef) → ChangesTarget old mid at target
      → TiesSlot column key now then at mid new → TiesSlot column key now then at old new
  TiesSlot-twice now at old mid new target one two = record {
    tied = two.tied;
    others = λ other apart. two.others other apart ∙ one.others other apart;
  }

  -- a row that has the value of the row before it keeps its tie
  pub TiesSlot-same : (now : Slots) (at : RowRef) (other : List Value) (ties : Ties) (live : HasRow now at)
      → IsTied column key then (Live other) (target_at ties at) → slice_get live.0 column ≡ slice_get other column
      → TiesSlot column key now then at ties ties
  TiesSlot-same now at other ties live tied same =
      let refers : RefersTo column key then live.0 tied.0 = record { live = tied.2.live; same = same ∙ tied.2.same } in
      record {
        tied = live_tied now at (target_at ties at) live (tied.0, tied.1, refers);
        others = λ x apart. refl;
      }

  -- ---- the slots of one edit

  module _ (now : Slots) (old new : Ties) where
    abbrev Rest : RowRef → Type 0
    Rest at = (other : RowRef) → (other ≡ at → ⊥) → target_at new other ≡ target_at old other

    one_named : (s : RowRef) → TiesSlot column key now then s old new → (at : RowRef) → (s ≢ at → ⊥) → IsTied column key then (now at) (target_at new at)
    one_named s slot at named = subst (λ (r : RowRef). IsTied column key then (now r) (target_at new r)) (named_one s at named) slot.tied

    one_other : (s : RowRef) → TiesSlot column key now then s old new → (at : RowRef) → s ≢ at → target_at new at ≡ target_at old at
    one_other s slot at out = slot.others at (λ same. out (sym same))

    pub TiesNamed-insert : (s : RowRef) → TiesSlot column key now then s old new → TiesNamed column key now then (Insert s) old new
    TiesNamed-insert s slot = record { named = one_named s slot; others = one_other s slot }

    pub TiesNamed-delete : (s : RowRef) → TiesSlot column key now then s old new → TiesNamed column key now then (Delete s) old new
    TiesNamed-delete s slot = record { named = one_named s slot; others = one_other s slot }

    module _ (was : Slots) (a b : RowRef) (turned : Exchanges was now a b) (before : IsTied column key then (was b) (target_at old b))
        (slot : TiesSlot column key now then a old new) where
      two_named : (at : RowRef) → (((a ≢ at) × (b ≢ at)) → ⊥) → IsTied column key then (now at) (target_at new at)
      two_named at named =
          ⊎_elim
          (λ (same : a ≡ at). subst (λ (r : RowRef). IsTied column key then (now r) (target_at new r)) same slot.tied)
          (λ (same : b ≡ at).
          let apart : a ≢ b = live_apart_hidden was a b turned.live turned.hidden in
          let none : target_at new b ≡ None = slot.others b (λ e. apart (sym e))
          ∙ tied_none (was b) (target_at old b) (out_hidden was b turned.hidden) before in
          subst (λ (r : RowRef). IsTied column key then (now r) (target_at new r)) same
          (none_tied (now b) (target_at new b) (out_hidden now b (row_at was a, turned.went)) none))
          (named_two a b at named)

      two_other : (at : RowRef) → (a ≢ at) × (b ≢ at) → target_at new at ≡ target_at old at
      two_other at out = slot.others at (λ same. out.0 (sym same))

      pub TiesNamed-update : TiesNamed column key now then (Update a b) old new
      TiesNamed-update = record { named = two_named; others = two_other }

      pub TiesNamed-move : TiesNamed column key now then (Move a b) old new
      TiesNamed-move = record { named = two_named; others = two_other }

  pub TiesNamed-stage : (was now : Slots) (s : RowRef) (ties : Ties) → Turns was now (Stage s) → IsTied column key then (was s) (target_at ties s)
      → TiesNamed column key now then (Stage s) ties ties
  TiesNamed-stage was now s ties turned before = record {
    named = λ at named.
        subst (λ (r : RowRef). IsTied column key then (now r) (target_at ties r)) (named_one s at named)
        (none_tied (now s) (target_at ties s) turned.1 (tied_none (was s) (target_at ties s) turned.0 before));
    others = λ at out. refl;
  }

  -- ---- one edit after another

  pub IsBehind-made : (own_key : ℕ) (now : Slots) (edits : List Edit) (ties : Ties) → IsMade column key own_key now then edits ties
      → IsBehind column key now then edits ties
  IsBehind-made own_key now edits ties made = record {
    was = made.was;
    turned = subst (λ (s : Slots). All (Turns made.was s) edits) (sym made.made) (Turns-after own_key edits made.was made.command);
    apart = made.command.apart;
    pending = λ at here. made.follows at;
    done = λ at out.
        subst (λ (c : Content). IsTied column key then c (target_at ties at))
        (sym (ap (λ (s : Slots). s at) made.made ∙ after_leaves edits made.was at out)) (made.follows at);
    targets = subst (λ (s : Slots). HaveTargets column key s then) (sym made.made)
        (HaveTargets-after column key then own_key edits made.was made.command made.targets
        (HaveTargets-follows column key then made.was ties made.follows));
  }

  module _ (now : Slots) (e : Edit) (rest : List Edit) (ties : Ties) (behind : IsBehind column key now then (e ∷ rest) ties) where
    pub IsPending-first : IsPending column key now then ties e
    IsPending-first = record {
      was = behind.was;
      turned = All-head (Turns behind.was now) e rest behind.turned;
      tied = λ at named. behind.pending at (λ out. named (All-head (λ f. LeavesOut f at) e rest out));
    }

    pub IsBehind-next : (new : Ties) → TiesNamed column key now then e ties new → IsBehind column key now then rest new
    IsBehind-next new one =
        let apart : All (IsApart e) rest = first_apart e rest behind.apart in
        record {
          was = behind.was;
          turned = All-tail (Turns behind.was now) e rest behind.turned;
          apart = rest_apart e rest behind.apart;
          pending = λ at here.
              ⊎_elim
              (λ (out : LeavesOut e at).
              subst (IsTied column key then (behind.was at)) (sym (one.others at out))
              (behind.pending at (λ all. here (All-tail (λ f. LeavesOut f at) e rest all))))
              (λ (named : LeavesOut e at → ⊥). absurd (here (all_leave e rest at apart named)))
              (leaves_or_names e at);
          done = λ at none.
              ⊎_elim
              (λ (out : LeavesOut e at).
              subst (IsTied column key then (now at)) (sym (one.others at out))
              (behind.done at (All-cons (λ f. LeavesOut f at) e rest out none)))
              (λ (named : LeavesOut e at → ⊥). one.named at named)
              (leaves_or_names e at);
          targets = behind.targets;
        }

  -- the edits from one on
  pub IsBehind-at : (now : Slots) (es : List Edit) (i : ℕ) (d : Edit) (ties : Ties) → i < length es
      → IsBehind column key now then (drop i es) ties → IsBehind column key now then (get_or es i d ∷ drop (i + 1) es) ties
  IsBehind-at now es i d ties within behind =
      let more : suc i ≡ i + 1 = omega arith in
      let split : drop i es ≡ get_or es i d ∷ drop (i + 1) es =
      drop-cons es i d within ∙ ap (λ (n : ℕ). get_or es i d ∷ drop n es) more in
      subst (λ (xs : List Edit). IsBehind column key now then xs ties) split behind

  -- without remaining edits, the ties follow the content of the slots
  pub Follows-done : (now : Slots) (ties : Ties) → IsBehind column key now then [] ties → Follows column key now then ties
  Follows-done now ties behind at = behind.done at (λ k d within. absurd (let no : ⊥ = omega arith in no))

  -- ---- the undo of one edit

  pub IsPending-back : (own_key : ℕ) (now : Slots) (e : Edit) (ties : Ties) → IsTakenBack column key own_key now then e ties
      → IsPending column key now then ties e
  IsPending-back own_key now e ties undone = record {
    was = undone.was;
    turned = subst (λ (s : Slots). Turns undone.was s e) (sym undone.back) (Turns-back own_key e undone.was undone.stands);
    tied = λ at named. undone.follows at;
  }

  pub Follows-back : (own_key : ℕ) (now : Slots) (e : Edit) (old new : Ties) → IsTakenBack column key own_key now then e old
      → TiesNamed column key now then e old new → Follows column key now then new
  Follows-back own_key now e old new undone one at =
      ⊎_elim
      (λ (out : LeavesOut e at).
      subst (IsTied column key then (now at)) (sym (one.others at out))
      (subst (λ (c : Content). IsTied column key then c (target_at old at))
      (sym (ap (λ (s : Slots). s at) undone.back ∙ back_leaves e undone.was at out)) (undone.follows at)))
      (λ (named : LeavesOut e at → ⊥). one.named at named)
      (leaves_or_names e at)

-- ---- one edit after another, of a link

module _ (key : ℕ) (now then : Slots) (start here : Reference) (same : here ≡ start) (es : List Edit) (i : ℕ) (within : i < length es) (old : Ties)
    (behind : IsBehind start.column key now then (drop i es) old) where
  pub IsPending-at : (d : Edit) → IsPending here.column key now then old (get_or es i d)
  IsPending-at d =
      subst (λ (r : Reference). IsPending r.column key now then old (get_or es i d)) (sym same)
      (IsPending-first start.column key then now (get_or es i d) (drop (i + 1) es) old (IsBehind-at start.column key then now es i d old within behind))

  pub IsBehind-more : (d : Edit) (new : Ties) → TiesNamed here.column key now then (get_or es i d) old new
      → IsBehind start.column key now then (drop (i + 1) es) new
  IsBehind-more d new one =
      IsBehind-next start.column key then now (get_or es i d) (drop (i + 1) es) old
      (IsBehind-at start.column key then now es i d old within behind) new
      (subst (λ (r : Reference). TiesNamed r.column key now then (get_or es i d) old new) same one)
