use Rattle.std.proofs.Common.{◌≡◌, List, length, sym, ◌∙◌, arith}
use Rattle.std.specs.Ordering.{nat_cmp}
use Rattle.std.proofs.lemmas.List.{length-map}
use Rattle.mm_value.specs.Views.{value_of}
use Rattle.mm_value.specs.declared.values.Value.{Value}
use Rattle.mm_templist.specs.Runs.{referred}
use Rattle.std.proofs.lemmas.Bool.{ltb-false, ltb-true}
use Rattle.mm_templist.proofs.RowOrder.{AreEqualTo-more, differing_decide, lengths_decide, longer_is_greater}
use Rattle.mm_templist.proofs.row_order.compare_values.Goals as goal

pub returns-in_default : goal.returns-in_default
returns-in_default c =
    longer_is_greater c.args.a.now c.args.b.now c.loop-i.i c.index-a-i.result c.loop-i.invariant c.loop-i-test.true c.index-a-i.is
    (ltb-false c.loop-i.i (length c.args.b.now) (sym c.in_default.ensures.lookup.0))

pub returns-in_default-compare : goal.returns-in_default-compare
returns-in_default-compare c =
    c.compare.ensures
    ∙ differing_decide c.args.a.now c.args.b.now c.loop-i.i c.index-a-i.result c.loop-i.invariant c.loop-i-test.true c.index-a-i.is c.in-Some.right.now
    (ltb-true c.loop-i.i (length c.args.b.now) (sym c.in-Some.ensures.lookup.0)) c.in-Some.ensures.lookup.1
    (λ tie. c.in_default-compare.not-Equal (c.compare.ensures ∙ tie))

pub loop-i-preserved : goal.loop-i-preserved
loop-i-preserved c =
    AreEqualTo-more c.args.a.now c.args.b.now c.loop-i.i c.index-a-i.result c.loop-i.invariant c.loop-i-test.true c.index-a-i.is c.in-Some.right.now
    (ltb-true c.loop-i.i (length c.args.b.now) (sym c.in-Some.ensures.lookup.0)) c.in-Some.ensures.lookup.1
    (sym c.compare.ensures ∙ c.in-Equal.is)

pub returns : goal.returns
returns c =
    let a : List Value = referred c.args.a.now in
    let b : List Value = referred c.args.b.now in
    let long_a : length a ≡ length c.args.a.now = length-map c.args.a.now value_of in
    let long_b : length b ≡ length c.args.b.now = length-map c.args.b.now value_of in
    c.cmp.ensures
    ∙ ((λ k. nat_cmp (sym long_a k) (sym long_b k))
    ∙ lengths_decide c.loop-i.i a b c.loop-i.invariant (omega (arith, long_a, c.loop-i.auto.i-end)) (omega (arith, long_a, c.loop-i-test.false)))
