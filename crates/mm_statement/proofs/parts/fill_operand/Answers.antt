use Rattle.std.proofs.Common.{rules, FitsSigned, of_z, refl, to_z, w64, ◌≡◌}
use Rattle.std.proofs.lemmas.Int.{to_z-of_z}
use Rattle.std.proofs.lemmas.Result.{err_from_is_err_and}
use Rattle.mm_query.specs.declared.atom.Operand.TheVariants.{Column, Shifted}
use Rattle.mm_lang.specs.Reading.{operand_literals}
use Rattle.mm_statement.specs.Filling.{blank_operand}
use Rattle.mm_statement.specs.steps.Fills.{blank_number, only_number}
use Rattle.mm_statement.proofs.Fills.{fills_nothing, fills_value, operand_literal, operand_shift, shift_stuck, stuck_with}
use Rattle.mm_statement.proofs.parts.fill_operand.Goals as goal

pub returns-in_err-number-in-Shifted : goal.returns-in_err-number-in-Shifted
returns-in_err-number-in-Shifted g c =
    let p = err_from_is_err_and c.from_residual.result c.from_residual.ensures.1 in
    let old = c.args.filler.now in
    let new = c.fill_number.new.filler in
    let fits : FitsSigned w64 c.in-Shifted.by = search rules in
    let by : to_z w64 (of_z w64 c.in-Shifted.by) ≡ c.in-Shifted.by = to_z-of_z w64 c.in-Shifted.by fits in
    rw (p.1, p.2, c.in-Shifted.is)
    (stuck_with blank_number only_number blank_operand operand_literals old old new new c.in-Shifted.by (Shifted c.in-Shifted.column c.in-Shifted.by) _
    (shift_stuck old c.in-Shifted.column c.in-Shifted.by) (rw by at c.in_err-number-in-Shifted.ensures))

pub returns-in-Literal : goal.returns-in-Literal
returns-in-Literal g c =
    rw c.in-Literal.is
    (operand_literal c.args.filler.now c.next-value.new.self c.in-Literal.literal c.unwrap_or.result
    (fills_value c.args.filler.now c.next-value.new.self c.in-Literal.literal c.next-value.result c.unwrap_or.result c.next-value.ensures
    c.unwrap_or.ensures))

pub returns-in-Column : goal.returns-in-Column
returns-in-Column g c = rw c.in-Column.is (fills_nothing blank_operand operand_literals c.args.filler.now (Column c.in-Column.column) refl)

pub returns-in_ok-number-in-Shifted : goal.returns-in_ok-number-in-Shifted
returns-in_ok-number-in-Shifted g c =
    let number = c.in_ok-number-in-Shifted.number in
    let fits : FitsSigned w64 c.in_ok-number-in-Shifted.number = search rules in
    let own : FitsSigned w64 c.in-Shifted.by = search rules in
    let by : to_z w64 (of_z w64 c.in-Shifted.by) ≡ c.in-Shifted.by = to_z-of_z w64 c.in-Shifted.by own in
    rw (to_z-of_z w64 number fits, c.in-Shifted.is)
    (operand_shift c.args.filler.now c.fill_number.new.filler c.in-Shifted.column c.in-Shifted.by number (rw by at c.in_ok-number-in-Shifted.ensures))
