use Rattle.std.proofs.Common.{arith}
use Rattle.std.proofs.lemmas.List.{get_or_past}
use Rattle.mm_template.proofs.Pieces.{comparison_alone, comparison_joined, not_joined}
use Rattle.mm_template.proofs.piece.comparison.Goals as goal

pub returns-in-61 : goal.returns-in-61
returns-in-61 c = comparison_joined c.args.bytes.now (omega arith) c.requires.comparison (omega arith)

pub returns-in_default : goal.returns-in_default
returns-in_default c =
    let bytes = c.args.bytes.now in
    comparison_alone bytes c.requires.some c.requires.comparison
    (not_joined bytes (λ e. absurd (omega (arith, e, get_or_past bytes 1 0 (omega arith)))))

pub returns-in_default-2 : goal.returns-in_default-2
returns-in_default-2 c =
    let bytes = c.args.bytes.now in
    comparison_alone bytes c.requires.some c.requires.comparison (not_joined bytes (λ e. absurd (omega arith)))
