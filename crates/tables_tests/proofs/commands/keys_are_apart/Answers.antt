use Rattle.std.proofs.Common.{◌≡◌, ⊎_elim, inl, inr, List, true, false, sym, ◌∙◌, subst}
use Rattle.std.specs.List.{All, Contains}
use Rattle.std.proofs.lemmas.List.Elements.{All-tail}
use Rattle.mm_value.specs.declared.row_ref.RowRef.{RowRef}
use Rattle.mm_partition.specs.Places.{IsLive, slot_at}
use Rattle.mm_indexed.specs.Twins.{HasTwin}
use Rattle.tables_tests.proofs.Headings.{contains_cases, contains_none}
use Rattle.tables_tests.proofs.commands.keys_are_apart.Goals as goal

pub loop-at-init : goal.loop-at-init
loop-at-init c = record {
  live = subst (All (IsLive c.args.rows.now.places)) (sym c.into_iter-at-iterator.ensures.into_iter_gives) c.by_key-at-items.ensures.live;
  seen = λ at has. inr (subst (λ (xs : List RowRef). Contains xs at)
      (sym (c.into_iter-at-iterator.ensures.into_iter_gives ∙ c.by_key-at-items.ensures.refs)) has);
}

pub loop-at-preserved : goal.loop-at-preserved
loop-at-preserved c =
    let at = c.in-Some.at in
    let rest = c.next.new.self in
    let rows = c.args.rows.now in
    let alone : HasTwin rows.key (slot_at rows.places) at → ⊥ =
    λ twin. (let yes : c.has_twin.result ≡ true = c.has_twin.ensures.1 twin in let no : true ≡ false = sym yes ∙ c.if-has_twin.false in cc) in
    record {
      live = All-tail (IsLive rows.places) at rest (subst (All (IsLive rows.places)) c.in-Some.ensures.steps c.loop-at.invariant.live);
      seen = λ r has.
          ⊎_elim
          (λ (none : HasTwin rows.key (slot_at rows.places) r → ⊥). inl none)
          (λ (left : Contains c.loop-at.at-iterator r).
          ⊎_elim
          (λ (same : at ≡ r). inl (subst (λ (x : RowRef). HasTwin rows.key (slot_at rows.places) x → ⊥) same alone))
          (λ (more : Contains rest r). inr more)
          (contains_cases at rest r (subst (λ (xs : List RowRef). Contains xs r) c.in-Some.ensures.steps left)))
          (c.loop-at.invariant.seen r has);
    }

pub returns : goal.returns
returns c at row =
    ⊎_elim
    (λ (none : HasTwin c.args.rows.now.key (slot_at c.args.rows.now.places) at → ⊥). none)
    (λ (left : Contains c.loop-at.at-iterator at). absurd (contains_none at (subst (λ (xs : List RowRef). Contains xs at) c.in-None.ensures.steps.0 left)))
    (c.loop-at.invariant.seen at ((c.is_kept.ensures.held at).1 row))
