-- Different prefixes compare as the values do.
use Rattle.std.proofs.Common.{sym, ap, ◌∙◌, arith}
use Rattle.std.specs.Ordering.{ordering_reverse}
use Rattle.mm_value.proofs.Orders.{value_cmp_total}
use Rattle.mm_value.proofs.Prefixes.{prefixes_tell}
use Rattle.mm_value.specs.Views.{value_of}
use Rattle.mm_row_order.proofs.sort_value.PrefixedSortValue.compare_to.Goals as goal

pub returns-then-self-other : goal.returns-then-self-other
returns-then-self-other c =
    let here = value_of c.args.self.now.value in
    let there = value_of c.args.other.now.value in
    sym (prefixes_tell here there (omega (arith, c.args.self.now.same, c.args.other.now.same, c.if-self-other.true)))

pub returns-then-other-self : goal.returns-then-other-self
returns-then-other-self c =
    let here = value_of c.args.self.now.value in
    let there = value_of c.args.other.now.value in
    sym (value_cmp_total.antisymm here there
    ∙ ap ordering_reverse (prefixes_tell there here (omega (arith, c.args.self.now.same, c.args.other.now.same, c.if-other-self.true))))
