use Rattle.std.proofs.Common.{arith, length, drop, get_or}
use Rattle.mm_lang.specs.Tokens.{tokens}
use Rattle.mm_lang.proofs.Fronts.{splits_unreadable}
use Rattle.mm_lang.proofs.read.token.split_symbol.Goals as goal

pub returns-in_default : goal.returns-in_default
returns-in_default c =
    let bytes = c.args.bytes.now in
    splits_unreadable (get_or bytes 0 0) (drop 1 bytes) (tokens (drop 1 bytes)) (length bytes) (λ e. absurd (omega arith))
    (λ e. absurd (omega arith)) (λ e. absurd (omega arith)) (λ e. absurd (omega arith)) (λ e. absurd (omega arith)) (λ e. absurd (omega arith))
    (λ e. absurd (omega arith)) (λ e. absurd (omega arith)) (λ e. absurd (omega arith)) (λ e. absurd (omega arith)) c.requires
