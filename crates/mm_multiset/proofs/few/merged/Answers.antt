use Rattle.std.proofs.Common.{◌≡◌, ℤ, pos, ◌+ℤ◌, List, [], ◌∷◌, cond, All, length, sym, ap, ◌∙◌, subst, arith}
use Rattle.std.proofs.lemmas.Int.{ints}
use Rattle.std.proofs.lemmas.List.Elements.{All-head, All-tail}
use Rattle.std.specs.List.{IsDistinct}
use Rattle.mm_value.specs.Equality.{same_row}
use Rattle.mm_multiset.specs.Counts.{IsNet, signed_count}
use Rattle.mm_multiset.specs.Tally.{IsSmall, rows_changed}
use Rattle.mm_multiset.specs.declared.signed.Signed.{Signed}
use Rattle.mm_multiset.proofs.Adding.{once_with, signed_with}
use Rattle.mm_multiset.proofs.Merging.{net_some, nothing, signed_some}
use Rattle.mm_multiset.proofs.few.merged.Goals as goal

abbrev small : Signed → Type 0
small change = IsSmall change.count

pub loop-change-init : goal.loop-change-init
loop-change-init c =
    let given = c.into_iter-change-iterator.ensures.into_iter_gives in
    let sizes : length c.into_iter-change-iterator.result.rest.items ≡ length c.args.more.items = ap (λ (xs : List Signed). length xs) given.0 in
    record {
      goes = tt;
      ends = tt;
      size = omega (arith, sizes, given.1);
      are = c.requires.first;
      left = subst (λ (xs : List Signed). All small xs) (sym given.0) c.requires.more;
      sum = λ row. ap (λ (xs : List Signed). signed_count row c.args.first.items +ℤ signed_count row xs) given.0;
    }

pub add_change-requires-clause-known : goal.add_change-requires-clause-known
add_change-requires-clause-known c = c.loop-change.invariant.are.small

pub add_change-requires-clause-change : goal.add_change-requires-clause-change
add_change-requires-clause-change c =
    All-head small c.in-Some.change c.next.new.self.rest.items
    (subst (λ (xs : List Signed). All small xs) c.in-Some.ensures.steps.0 c.loop-change.invariant.left)

moved : (f g h s d t : ℤ) → f +ℤ s ≡ t → s ≡ d +ℤ g → h ≡ f +ℤ (d +ℤ pos 0) → h +ℤ g ≡ t
moved f g h s d t e split sum = omega (arith, ints, e, split, sum)

pub loop-change-preserved : goal.loop-change-preserved
loop-change-preserved c =
    let steps = c.in-Some.ensures.steps in
    let change = c.in-Some.change in
    let left = c.next.new.self.rest.items in
    let sizes : length c.loop-change.change-iterator.rest.items ≡ length (change ∷ left) = ap (λ (xs : List Signed). length xs) steps.0 in
    let added = c.in_ok-add_change.ensures.added in
    record {
      goes = tt;
      ends = tt;
      size = omega (arith, sizes, steps.1, c.loop-change.invariant.size);
      are = record {
        once = subst (λ (xs : List Signed). IsDistinct same_row (rows_changed xs)) (sym added)
            (once_with change c.loop-change.found.items c.loop-change.invariant.are.once);
        small = c.in_ok-add_change.ensures.small;
      };
      left = All-tail small change left (subst (λ (xs : List Signed). All small xs) steps.0 c.loop-change.invariant.left);
      sum = λ row.
          moved (signed_count row c.loop-change.found.items) (signed_count row left) (signed_count row c.add_change.new.changes.items)
          (signed_count row c.loop-change.change-iterator.rest.items) (cond (same_row row change.row) change.count (pos 0))
          (signed_count row c.args.first.items +ℤ signed_count row c.args.more.items) (c.loop-change.invariant.sum row)
          (ap (λ (xs : List Signed). signed_count row xs) steps.0)
          (ap (λ (xs : List Signed). signed_count row xs) added ∙ signed_with row change c.loop-change.found.items);
    }

all_found : (f s t : ℤ) → f +ℤ s ≡ t → s ≡ pos 0 → f ≡ t
all_found f s t e none = omega (arith, ints, e, none)

pub returns-clause-change : goal.returns-clause-change
returns-clause-change c = λ row.
    let steps = c.in-None.ensures.steps in
    let none : c.loop-change.change-iterator.rest.items ≡ [] = nothing c.loop-change.change-iterator.rest.items
    (omega (arith, steps.0, c.loop-change.invariant.size)) in
    ap (λ (xs : List Signed). signed_count row xs) c.drop_nothings.ensures
    ∙ signed_some row c.loop-change.found.items
    ∙ all_found (signed_count row c.loop-change.found.items) (signed_count row c.loop-change.change-iterator.rest.items)
    (signed_count row c.args.first.items +ℤ signed_count row c.args.more.items) (c.loop-change.invariant.sum row)
    (ap (λ (xs : List Signed). signed_count row xs) none)

pub returns-clause-net : goal.returns-clause-net
returns-clause-net c = subst IsNet (sym c.drop_nothings.ensures) (net_some c.loop-change.found.items c.loop-change.invariant.are)
