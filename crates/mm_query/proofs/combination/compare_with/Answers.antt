-- The row exists, and a number is added to its value.
use Rattle.std.proofs.Common.{rules, ◌≡◌, FitsSigned, Some, of_z, to_z, sym, ap, ◌∙◌}
use Rattle.std.proofs.lemmas.Int.{to_z-of_z}
use Rattle.std.specs.Int.{w64}
use Rattle.std.specs.Option.{option_map}
use Rattle.mm_value.specs.Order.{value_cmp}
use Rattle.mm_value.specs.Views.{value_of}
use Rattle.mm_query.specs.Atoms.{operand_of, shifted, value_in}
use Rattle.mm_query.specs.Queries.{rows_read, value_at}
use Rattle.mm_query.proofs.combination.compare_with.Goals as goal

pub returns-in_ok-row-in-Shifted : goal.returns-in_ok-row-in-Shifted
returns-in_ok-row-in-Shifted g c =
    let left = value_of c.args.left in
    let by = c.in-Shifted.shift in
    let column = c.in-Shifted.field.column in
    let fits : FitsSigned w64 by = search rules in
    let number : to_z w64 (of_z w64 by) ≡ by = to_z-of_z w64 by fits in
    ap Some (c.compare_shifted.ensures ∙ (λ i. value_cmp left (shifted (number i) (c.value_in-right.ensures i))))
    ∙ (ap (λ o. option_map (value_cmp left) (option_map (shifted by) (option_map (value_in column) o))) c.in_ok-row-in-Shifted.ensures
    ∙ ap (λ operand. option_map (value_cmp left) (operand_of (value_at (rows_read g.R.AsRow.row c.args.rows.now)) operand)) (sym c.in-Shifted.is))
