-- One more change is in the sum.
use Rattle.std.proofs.Common.{◌≡◌, ◌+◌, ◌^◌, ◌+ℤ◌, ◌<ℤ◌, neg_ℤ, pos, take, sym, ap, ◌∙◌, subst, arith, add-one}
use Rattle.std.proofs.lemmas.Int.{ints}
use Rattle.mm_multiset.specs.declared.signed.Signed.{Signed}
use Rattle.mm_standing.proofs.Net.{sum_of}
use Rattle.mm_standing.proofs.Segments.{sum_more}
use Rattle.mm_standing.proofs.prepare.new_total.Goals as goal

pub loop-change-preserved : goal.loop-change-preserved
loop-change-preserved c =
    let changes = c.args.changes.now in
    let i = c.loop-change.change-index in
    let item = c.change-item.result in
    let so_far = c.loop-change.invariant in
    let small : (neg_ℤ (pos (2 ^ 64)) <ℤ item.count) × (item.count <ℤ pos (2 ^ 64)) =
    subst (λ (x : Signed). (neg_ℤ (pos (2 ^ 64)) <ℤ x.count) × (x.count <ℤ pos (2 ^ 64))) (sym c.change-item.is) (c.requires i item c.loop-change-test.true) in
    let more : sum_of (take (i + 1) changes) ≡ sum_of (take i changes) +ℤ item.count =
    ap (λ n. sum_of (take n changes)) (add-one i) ∙ sum_more (λ (x : Signed). x.count) changes i item c.loop-change-test.true
    ∙ ap (λ (x : Signed). sum_of (take i changes) +ℤ x.count) (sym c.change-item.is) in
    record {
      sum = let e = so_far.sum in let a = so_far.least in let b = so_far.most in let x = small.0 in let y = small.1 in omega (arith, ints, more, e, a, b, x, y);
      least = let a = so_far.least in let b = so_far.most in let x = small.0 in let y = small.1 in omega (arith, ints, a, b, x, y);
      most = let a = so_far.least in let b = so_far.most in let x = small.0 in let y = small.1 in omega (arith, ints, a, b, x, y);
    }
