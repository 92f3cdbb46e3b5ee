use Rattle.std.proofs.Common.{◌≡◌, ◌∷◌, ◌++◌, length, sym, ap, ◌∙◌, subst, arith}
use Rattle.std.specs.Prelude.{IsPermutation}
use Rattle.std.specs.List.{All, filter}
use Rattle.std.proofs.lemmas.Bool.{false≢true}
use Rattle.std.proofs.lemmas.List.{append-nil}
use Rattle.std.proofs.lemmas.List.Elements.{All-head}
use Rattle.std.proofs.lemmas.List.Sorted.{length_permutation}
use Rattle.mm_order.proofs.Pairs.{All-append_right}
use Rattle.mm_value.specs.Views.{value_of}
use Rattle.mm_partition.specs.Places.{slot_at}
use Rattle.mm_row_order.specs.InOrder.{HasColumn}
use Rattle.mm_indexed.specs.Reads.{has_value}
use Rattle.mm_indexed.proofs.Matches.{All-found, filter_found, filter_passed, matches_found, more_pass, split_next}
use Rattle.mm_indexed.proofs.indexes.hash_reads.find_matches.Goals as goal

pub is_match-requires : goal.is_match-requires
is_match-requires c =
    let now = slot_at c.args.rows.now in
    let all : c.matching-at-items.result ≡ c.loop-at.yielded ++ c.in-Some.at ∷ c.next.new.self =
    sym c.into_iter-at-iterator.ensures.into_iter_gives ∙ (c.loop-at.invariant.split ∙ ap (λ l. c.loop-at.yielded ++ l) c.in-Some.ensures.steps)
    in
    All-head (HasColumn c.args.column now) c.in-Some.at c.next.new.self
    (All-append_right (HasColumn c.args.column now) c.loop-at.yielded (c.in-Some.at ∷ c.next.new.self)
    (subst (All (HasColumn c.args.column now)) all
    (All-found c.args.column now c.args.pairs.now.entries c.requires.0 c.requires.2 c.hash64.result c.matching-at-items.result
    c.matching-at-items.ensures (HasColumn c.args.column now) c.requires.1)))

pub loop-at-preserved-in-Continue-1 : goal.loop-at-preserved-in-Continue-1
loop-at-preserved-in-Continue-1 c =
    let test = has_value c.args.column (slot_at c.args.rows.now) (value_of c.args.value) in
    let room = c.loop-at.invariant.room in
    record {
      split = split_next c.into_iter-at-iterator.result c.loop-at.yielded c.loop-at.at-iterator c.next.new.self c.in-Some.at
          c.loop-at.invariant.split c.in-Some.ensures.steps;
      found = c.in_ok-push.ensures.ok
          ∙ filter_found test c.loop-at.yielded c.in-Some.at c.loop-at.found.items c.loop-at.invariant.found (sym c.is_match.ensures ∙ c.if-is_match.true);
      room = omega (arith, c.push.ensures.capacity);
    }

pub loop-at-preserved : goal.loop-at-preserved
loop-at-preserved c =
    let test = has_value c.args.column (slot_at c.args.rows.now) (value_of c.args.value) in
    record {
      split = split_next c.into_iter-at-iterator.result c.loop-at.yielded c.loop-at.at-iterator c.next.new.self c.in-Some.at
          c.loop-at.invariant.split c.in-Some.ensures.steps;
      found = filter_passed test c.loop-at.yielded c.in-Some.at c.loop-at.found.items c.loop-at.invariant.found (sym c.is_match.ensures ∙ c.if-is_match.false);
      room = c.loop-at.invariant.room;
    }

pub returns-clause-found : goal.returns-clause-found
returns-clause-found c = λ refs all.
    let now = slot_at c.args.rows.now in
    let test = has_value c.args.column now (value_of c.args.value) in
    let whole : c.matching-at-items.result ≡ c.loop-at.yielded =
    sym c.into_iter-at-iterator.ensures.into_iter_gives
    ∙ (c.loop-at.invariant.split ∙ (ap (λ l. c.loop-at.yielded ++ l) c.in-None.ensures.steps.0 ∙ append-nil c.loop-at.yielded))
    in
    subst (λ l. IsPermutation l (filter test refs)) (ap (filter test) whole ∙ sym c.loop-at.invariant.found)
    (matches_found c.args.column now c.args.pairs.now.entries refs all c.hash64.result c.matching-at-items.result c.matching-at-items.ensures
    (value_of c.args.value) c.hash64.ensures)

pub returns-in_err-push-clause-few : goal.returns-in_err-push-clause-few
returns-in_err-push-clause-few c = λ refs all few.
    let now = slot_at c.args.rows.now in
    let test = has_value c.args.column now (value_of c.args.value) in
    let whole : c.matching-at-items.result ≡ c.loop-at.yielded ++ c.in-Some.at ∷ c.next.new.self =
    sym c.into_iter-at-iterator.ensures.into_iter_gives ∙ (c.loop-at.invariant.split ∙ ap (λ l. c.loop-at.yielded ++ l) c.in-Some.ensures.steps)
    in
    let same =
    length_permutation (filter test c.matching-at-items.result) (filter test refs)
    (matches_found c.args.column now c.args.pairs.now.entries refs all c.hash64.result c.matching-at-items.result c.matching-at-items.ensures
    (value_of c.args.value) c.hash64.ensures)
    in
    let more = more_pass test c.loop-at.yielded c.in-Some.at c.next.new.self (sym c.is_match.ensures ∙ c.if-is_match.true) in
    absurd (false≢true (c.in_err-push.ensures.succeeds
    (omega (arith, few, same, more, ap (λ l. length (filter test l)) whole, ap length c.loop-at.invariant.found, c.loop-at.invariant.room))))
