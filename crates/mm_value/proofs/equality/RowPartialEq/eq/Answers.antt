-- Rows with the same values tie.
use Rattle.std.proofs.Common.{◌∙◌}
use Rattle.mm_value.specs.Equality.{same_row}
use Rattle.mm_value.specs.EqualityLaws.{rows_by_values}
use Rattle.mm_value.proofs.equality.RowPartialEq.eq.Goals as goal

pub returns : goal.returns
returns c =
    c.eq.ensures ∙ rows_by_values c.values.result.now c.values-2.result.now ∙ (λ i. same_row (c.values.ensures i) (c.values-2.ensures i))
