-- All references with the hash are compared.
use Rattle.std.proofs.Common.{◌≡◌, ◌∷◌, ◌++◌, [], true≢false, sym, ap, ◌∙◌, subst}
use Rattle.std.specs.List.{All, Contains}
use Rattle.std.proofs.lemmas.List.{append-nil, append_assoc}
use Rattle.std.proofs.lemmas.List.Elements.{All-contains, All-push, Contains-append_left, Contains-append_right, Contains-push}
use Rattle.mm_partition.specs.Places.{IsLive, Live, slot_at}
use Rattle.mm_partition.specs.Views.{viewed}
use Rattle.mm_multiset.proofs.Found.{found_live, none_found}
use Rattle.mm_multiset.proofs.bag.finding.find.Goals as goal

pub get-requires : goal.get-requires
get-requires c =
    let all : c.matching-at-items.result ≡ c.loop-at.yielded ++ c.in-Some.at ∷ c.next.new.self =
    sym c.into_iter-at-iterator.ensures.into_iter_gives ∙ (c.loop-at.invariant.split ∙ ap (λ l. c.loop-at.yielded ++ l) c.in-Some.ensures.steps)
    in
    All-contains (IsLive c.args.rows.now) c.matching-at-items.result c.in-Some.at
    (found_live c.args.rows.now c.args.by_hash.now.entries c.requires.hashed c.args.hash c.matching-at-items.result c.matching-at-items.ensures)
    (subst (λ l. Contains l c.in-Some.at) (sym all)
    (Contains-append_right c.loop-at.yielded (c.in-Some.at ∷ c.next.new.self) c.in-Some.at
    (Contains-append_left (c.in-Some.at ∷ []) c.next.new.self c.in-Some.at (Contains-push [] c.in-Some.at))))

pub loop-at-preserved : goal.loop-at-preserved
loop-at-preserved c = record {
  split = c.loop-at.invariant.split
      ∙ (ap (λ l. c.loop-at.yielded ++ l) c.in-Some.ensures.steps ∙ sym (append_assoc c.loop-at.yielded (c.in-Some.at ∷ []) c.next.new.self));
  none = All-push (λ at. slot_at c.args.rows.now at ≡ Live c.args.row.now → ⊥) c.loop-at.yielded c.in-Some.at c.loop-at.invariant.none
      (λ here.
      let read : Live (viewed c.get.result) ≡ Live c.args.row.now = sym c.get.ensures ∙ here in
      let same : viewed c.get.result ≡ c.args.row.now = cc in
      true≢false (sym (c.is_same.ensures.1 same) ∙ c.if-is_same.false));
}

pub returns-clause-none : goal.returns-clause-none
returns-clause-none c =
    let whole : c.matching-at-items.result ≡ c.loop-at.yielded =
    sym c.into_iter-at-iterator.ensures.into_iter_gives
    ∙ (c.loop-at.invariant.split ∙ (ap (λ l. c.loop-at.yielded ++ l) c.in-None.ensures.steps.0 ∙ append-nil c.loop-at.yielded))
    in
    none_found c.args.rows.now c.args.by_hash.now.entries c.requires.hashed c.args.hash c.matching-at-items.result c.matching-at-items.ensures
    c.args.row.now c.requires.hash
    (subst (All (λ at. slot_at c.args.rows.now at ≡ Live c.args.row.now → ⊥)) (sym whole) c.loop-at.invariant.none)
