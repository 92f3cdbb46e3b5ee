use Rattle.std.proofs.Common.{Some, subst, sym}
use Rattle.std.specs.Prelude.{FitsSigned}
use Rattle.std.specs.Int.{w64}
use Rattle.std.proofs.lemmas.Int.{to_z-of_z}
use Rattle.mm_lang.specs.Grammar.{behind_sign}
use Rattle.mm_lang.specs.steps.Parsing.{Gives, shift_literals}
use Rattle.mm_lang.proofs.Operands.{digits_read, hole_given, unit_fits}
use Rattle.mm_lang.proofs.read.reader.Reader.behind_sign.Goals as goal

pub returns-then-skip_hole : goal.returns-then-skip_hole
returns-then-skip_hole c =
    let unit = c.unit_shift.result in
    let fits = subst (FitsSigned w64) (sym c.unit_shift.ensures) (unit_fits c.args.is_negative) in
    subst (λ n. Gives (behind_sign c.args.is_negative) shift_literals c.args.self.now c.skip_hole.new.self (Some n)) (sym (to_z-of_z w64 unit fits))
    (hole_given c.args.is_negative c.args.self.now c.skip_hole.new.self unit c.if-skip_hole.ensures c.unit_shift.ensures)

pub returns : goal.returns
returns c =
    digits_read c.args.is_negative c.args.self.now c.skip_hole.new.self c.digits.new.self c.digits.result c.if-skip_hole.ensures c.digits.ensures
