-- Each row in use has a target after a command if each new row has one.
use Rattle.std.proofs.Common.{◌≡◌, ◌≢◌, ℕ, ⊎_elim, List, [], ◌∷◌, get_or, sym, ap, ◌∙◌, subst}
use Rattle.std.specs.List.{All}
use Rattle.std.proofs.lemmas.List.Elements.{All-head, All-tail}
use Rattle.mm_foreign_key.specs.Ties.{Ties, target_at}
use Rattle.mm_partition.specs.Places.{Content, Live, Hidden, row_in}
use Rattle.mm_row_order.specs.Refs.{Slots, HasHidden, HasRow, row_at}
use Rattle.mm_tables.specs.Commands.{after, IsApart, IsCommand, LeavesOut}
use Rattle.mm_tables.specs.Edits.{exchanged, step, Fits}
use Rattle.mm_tables.specs.declared.edit.Edit.{Edit}
use Rattle.mm_tables.specs.declared.edit.Edit.TheVariants.{Stage, Insert, Update, Move, Delete}
use Rattle.mm_tables.proofs.Slots.{put_here}
use Rattle.mm_value.specs.declared.row_ref.RowRef.{RowRef}
use Rattle.mm_value.specs.declared.values.Value.{Value}
use Rattle.mm_link.specs.Edited.{coming}
use Rattle.mm_link.specs.Links.{Follows, HasTargetRow, HaveTargets, IsTied}
use Rattle.mm_link.proofs.Slots.{first_apart, first_exchanged, IsCommand-rest, leaves_or_names, live_apart_hidden, named_one, named_two, second_exchanged}
use Rattle.mm_link.proofs.Slots.{step_leaves}

pub same_row : (x y : List Value) → Live x ≡ Live y → x ≡ y
same_row x y is = ap (λ (c : Content). row_in c) is

not_both : (x y : List Value) → Hidden x ≡ Live y → ⊥
not_both x y is = let no : ⊥ = cc in no

module _ (column key : ℕ) (then : Slots) where
  abbrev Has : List Value → Type 0
  Has = HasTargetRow column key then

  pub HaveTargets-follows : (now : Slots) (ties : Ties) → Follows column key now then ties → HaveTargets column key now then
  HaveTargets-follows now ties follows at row is =
      let tied : IsTied column key then (Live row) (target_at ties at)
      = subst (λ (c : Content). IsTied column key then c (target_at ties at)) is (follows at) in
      (tied.0, tied.2)

  coming_two : (now : Slots) (a b at : RowRef) (row : List Value) → HasRow now a → HasHidden now b → Has (row_at now b)
      → (((a ≢ at) × (b ≢ at)) → ⊥) → exchanged a b now at ≡ Live row → Has row
  coming_two now a b at row live hidden comes named is =
      ⊎_elim
      (λ (here : a ≡ at).
      subst Has (same_row (row_at now b) row (sym (first_exchanged a b now) ∙ (ap (exchanged a b now) here ∙ is))) comes)
      (λ (here : b ≡ at).
      absurd (not_both (row_at now a) row
      (sym (second_exchanged a b now (live_apart_hidden now a b live hidden)) ∙ (ap (exchanged a b now) here ∙ is))))
      (named_two a b at named)

  coming_named : (own_key : ℕ) (e : Edit) (now : Slots) (at : RowRef) (row : List Value) → Fits own_key now e → All Has (coming now e)
      → (LeavesOut e at → ⊥) → step e now at ≡ Live row → Has row
  coming_named own_key (Stage r) now at row fits comes named is = absurd fits
  coming_named own_key (Insert r) now at row fits comes named is =
      subst Has (same_row (row_at now r) row (sym (put_here r at (Live (row_at now r)) now (named_one r at named)) ∙ is))
      (All-head Has (row_at now r) [] comes)
  coming_named own_key (Update a b) now at row (live, hidden, same) comes named is =
      coming_two now a b at row live hidden (All-head Has (row_at now b) [] comes) named is
  coming_named own_key (Move a b) now at row (live, hidden) comes named is =
      coming_two now a b at row live hidden (All-head Has (row_at now b) [] comes) named is
  coming_named own_key (Delete r) now at row fits comes named is =
      absurd (not_both (row_at now r) row (sym (put_here r at (Hidden (row_at now r)) now (named_one r at named)) ∙ is))

  targets_step : (own_key : ℕ) (e : Edit) (now : Slots) → Fits own_key now e → All Has (coming now e) → HaveTargets column key now then
      → HaveTargets column key (step e now) then
  targets_step own_key e now fits comes targets at row is =
      ⊎_elim
      (λ (out : LeavesOut e at). targets at row (sym (step_leaves e now at out) ∙ is))
      (λ (named : LeavesOut e at → ⊥). coming_named own_key e now at row fits comes named is)
      (leaves_or_names e at)

  one_still : (was now : Slots) (r : RowRef) → now r ≡ was r → All Has (row_at was r ∷ []) → All Has (row_at now r ∷ [])
  one_still was now r same all = subst (λ (x : List Value). All Has (x ∷ [])) (ap (λ (c : Content). row_in c) (sym same)) all

  coming_still : (e f : Edit) (now : Slots) → IsApart e f → All Has (coming now f) → All Has (coming (step e now) f)
  coming_still e (Stage r) now apart all = all
  coming_still e (Insert r) now apart all = one_still now (step e now) r (step_leaves e now r apart) all
  coming_still e (Update a b) now apart all = one_still now (step e now) b (step_leaves e now b apart.1) all
  coming_still e (Move a b) now apart all = one_still now (step e now) b (step_leaves e now b apart.1) all
  coming_still e (Delete r) now apart all = all

  pub HaveTargets-after : (own_key : ℕ) (es : List Edit) (now : Slots) → IsCommand own_key es now → All (λ e. All Has (coming now e)) es
      → HaveTargets column key now then → HaveTargets column key (after es now) then
  HaveTargets-after own_key [] now command comes targets = targets
  HaveTargets-after own_key (e ∷ es) now command comes targets =
      HaveTargets-after own_key es (step e now) (IsCommand-rest own_key e es now command)
      (λ k d within. coming_still e (get_or es k d) now (first_apart e es command.apart k d within)
      (All-tail (λ f. All Has (coming now f)) e es comes k d within))
      (targets_step own_key e now (All-head (Fits own_key now) e es command.fits) (All-head (λ f. All Has (coming now f)) e es comes) targets)
