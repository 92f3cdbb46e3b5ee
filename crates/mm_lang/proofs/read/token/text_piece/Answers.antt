use Rattle.std.proofs.Common.{arith}
use Rattle.std.proofs.lemmas.List.{get_or_past}
use Rattle.mm_lang.proofs.Texts.{piece_quotes, piece_byte, piece_end, piece_fault}
use Rattle.mm_lang.proofs.read.token.text_piece.Goals as goal

pub returns-in-39 : goal.returns-in-39
returns-in-39 c = piece_quotes c.args.rest.now (omega arith) (omega arith) (omega arith)

pub returns-in-39-2 : goal.returns-in-39-2
returns-in-39-2 c =
    piece_end c.args.rest.now (omega arith) (omega arith) (λ e. absurd (omega (arith, get_or_past c.args.rest.now 1 0 (omega arith))))

pub returns-in-39-2-2 : goal.returns-in-39-2-2
returns-in-39-2-2 c = piece_end c.args.rest.now (omega arith) (omega arith) (λ e. absurd (omega arith))

pub returns-in_default : goal.returns-in_default
returns-in_default c = piece_byte c.args.rest.now (omega arith) (λ e. absurd (omega arith)) (λ e. absurd (omega arith))

pub returns-in_default-2 : goal.returns-in_default-2
returns-in_default-2 c = piece_byte c.args.rest.now (omega arith) (λ e. absurd (omega arith)) (λ e. absurd (omega arith))

pub returns-in-empty : goal.returns-in-empty
returns-in-empty c = piece_fault c.args.rest.now (λ some. absurd (omega arith))

pub returns-in-empty-2 : goal.returns-in-empty-2
returns-in-empty-2 c = piece_fault c.args.rest.now (λ some. omega arith)

pub returns-in-empty-3 : goal.returns-in-empty-3
returns-in-empty-3 c = piece_fault c.args.rest.now (λ some. omega arith)
