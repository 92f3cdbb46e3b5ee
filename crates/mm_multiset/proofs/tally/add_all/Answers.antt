use Rattle.std.proofs.Common.{◌≡◌, ◌<ℤ◌, ◌≤ℤ◌, ℤ, pos, ◌+ℤ◌, List, [], ◌∷◌, cond, length, sym, ap, subst, arith}
use Rattle.std.proofs.lemmas.Int.{ints}
use Rattle.std.proofs.lemmas.List.Elements.{All-head}
use Rattle.mm_value.specs.Equality.{same_row}
use Rattle.mm_multiset.specs.Counts.{count_in, signed_count}
use Rattle.mm_multiset.specs.Tally.{AreListed, IsSmall}
use Rattle.mm_multiset.specs.declared.signed.Signed.{Signed}
use Rattle.mm_multiset.proofs.Merging.{nothing, rest_listed}
use Rattle.mm_multiset.proofs.tally.add_all.Goals as goal

pub loop-change-init : goal.loop-change-init
loop-change-init c =
    let given = c.into_iter-change-iterator.ensures.into_iter_gives in
    let sizes : length c.into_iter-change-iterator.result.rest.items ≡ length c.args.few.items = ap (λ (xs : List Signed). length xs) given.0 in
    record {
      goes = tt;
      ends = tt;
      size = omega (arith, sizes, given.1);
      left = subst (λ (xs : List Signed). AreListed xs) (sym given.0) c.requires;
      sum = λ row. ap (λ (xs : List Signed). pos (count_in row c.args.many.now.entries) +ℤ signed_count row xs) given.0;
    }

not_less : (z : ℤ) → pos 0 <ℤ z → pos 0 ≤ℤ z
not_less z h = omega (arith, ints, h)

pub add_counts-requires-clause-least : goal.add_counts-requires-clause-least
add_counts-requires-clause-least c =
    let all = subst (λ (xs : List Signed). AreListed xs) c.in-Some.ensures.steps.0 c.loop-change.invariant.left in
    not_less c.in-Some.change.count (All-head (λ (x : Signed). pos 0 <ℤ x.count) c.in-Some.change c.next.new.self.rest.items all.some)

pub add_counts-requires-clause-small : goal.add_counts-requires-clause-small
add_counts-requires-clause-small c =
    let all = subst (λ (xs : List Signed). AreListed xs) c.in-Some.ensures.steps.0 c.loop-change.invariant.left in
    All-head (λ (x : Signed). IsSmall x.count) c.in-Some.change c.next.new.self.rest.items all.are.small

moved : (f g h s d t : ℤ) → f +ℤ s ≡ t → s ≡ d +ℤ g → h ≡ f +ℤ (d +ℤ pos 0) → h +ℤ g ≡ t
moved f g h s d t e split sum = omega (arith, ints, e, split, sum)

pub loop-change-preserved : goal.loop-change-preserved
loop-change-preserved c =
    let steps = c.in-Some.ensures.steps in
    let change = c.in-Some.change in
    let left = c.next.new.self.rest.items in
    let sizes : length c.loop-change.change-iterator.rest.items ≡ length (change ∷ left) = ap (λ (xs : List Signed). length xs) steps.0 in
    record {
      goes = tt;
      ends = tt;
      size = omega (arith, sizes, steps.1, c.loop-change.invariant.size);
      left = rest_listed change left (subst (λ (xs : List Signed). AreListed xs) steps.0 c.loop-change.invariant.left);
      sum = λ row.
          moved (pos (count_in row c.loop-change.many.entries)) (signed_count row left) (pos (count_in row c.add_counts.new.many.entries))
          (signed_count row c.loop-change.change-iterator.rest.items) (cond (same_row row change.row) change.count (pos 0))
          (pos (count_in row c.args.many.now.entries) +ℤ signed_count row c.args.few.items) (c.loop-change.invariant.sum row)
          (ap (λ (xs : List Signed). signed_count row xs) steps.0) (c.in_ok-add_counts.ensures.counts row);
    }

all_added : (f s t : ℤ) → f +ℤ s ≡ t → s ≡ pos 0 → f ≡ t
all_added f s t e none = omega (arith, ints, e, none)

pub returns : goal.returns
returns c = λ row.
    let steps = c.in-None.ensures.steps in
    let none : c.loop-change.change-iterator.rest.items ≡ [] = nothing c.loop-change.change-iterator.rest.items
    (omega (arith, steps.0, c.loop-change.invariant.size)) in
    all_added (pos (count_in row c.loop-change.many.entries)) (signed_count row c.loop-change.change-iterator.rest.items)
    (pos (count_in row c.args.many.now.entries) +ℤ signed_count row c.args.few.items) (c.loop-change.invariant.sum row)
    (ap (λ (xs : List Signed). signed_count row xs) none)
