-- One more change has its place.
use Rattle.std.proofs.Common.{◌≡◌, ◌<◌, ◌≤ℤ◌, pos, length, get_or, ◌∙◌, subst, arith}
use Rattle.std.proofs.lemmas.Int.{ints}
use Rattle.std.proofs.lemmas.List.{get_or_default}
use Rattle.std.proofs.lemmas.List.Sorted.{IsPermutation-refl, IsPermutation-swap, IsPermutation-trans, length_permutation}
use Rattle.mm_multiset.specs.declared.signed.Signed.{Signed}
use Rattle.mm_standing.proofs.Gains.{parted_all, parted_gain, parted_loss, parted_none}
use Rattle.mm_standing.proofs.prepare.put_gains_first.Goals as goal

pub loop-i-init : goal.loop-i-init
loop-i-init c = record {
  moved = IsPermutation-refl c.args.changes.now.items;
  parted = parted_none c.args.changes.now.items;
  behind = omega arith;
}

pub loop-i-preserved : goal.loop-i-preserved
loop-i-preserved c =
    let changes = c.loop-i.changes.items in
    let so_far = c.loop-i.invariant in
    let behind = so_far.behind in
    let long = length_permutation c.args.changes.now.items changes so_far.moved in
    let test = c.loop-i-test.true in
    let end = c.len-i-end.ensures in
    let within : c.loop-i.i < length changes = omega (arith, long, test, end) in
    let is : (d : Signed) → c.index.result.now ≡ get_or changes c.loop-i.i d =
    λ d. c.index.ensures ∙ get_or_default changes c.loop-i.i c.index.result.now d within in
    elim c.if-index-gt0.branch [
      | goal.then-index-gt0 w ↦ rw (w.changes-is, w.gains-is) (record {
        moved = IsPermutation-trans _ _ _ so_far.moved (IsPermutation-swap changes w.swap.new.self.items c.loop-i.gains c.loop-i.i
            (omega (arith, behind, within)) within w.swap.ensures.items);
        parted = parted_gain changes w.swap.new.self.items c.loop-i.gains c.loop-i.i behind w.swap.ensures.by_index
            (λ d. subst (λ (x : Signed). pos 0 ≤ℤ x.count) (is d) (let pass = w.if-index-gt0.true in omega (arith, ints, pass))) so_far.parted;
        behind = omega (arith, behind);
      })
      | goal.else-index-gt0 w ↦ rw (w.changes-is, w.gains-is) (record {
        moved = so_far.moved;
        parted = parted_loss changes c.loop-i.gains c.loop-i.i
            (λ d. subst (λ (x : Signed). x.count ≤ℤ pos 0) (is d) (let pass = w.if-index-gt0.false in omega (arith, ints, pass))) so_far.parted;
        behind = omega (arith, behind);
      })
    ]

pub returns-clause-order : goal.returns-clause-order
returns-clause-order c =
    let so_far = c.loop-i.invariant in
    let long = length_permutation c.args.changes.now.items c.loop-i.changes.items so_far.moved in
    let test = c.loop-i-test.false in
    let end = c.len-i-end.ensures in
    parted_all c.loop-i.changes.items c.loop-i.gains c.loop-i.i (omega (arith, long, test, end)) so_far.parted
