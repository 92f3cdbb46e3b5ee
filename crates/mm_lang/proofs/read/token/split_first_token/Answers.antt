use Rattle.std.proofs.Common.{sym, ◌∙◌}
use Rattle.mm_lang.proofs.Fronts.{splits_text, splits_symbol, splits_word}
use Rattle.mm_lang.proofs.read.token.split_first_token.Goals as goal

pub returns-then-bytes-eq39 : goal.returns-then-bytes-eq39
returns-then-bytes-eq39 c =
    splits_text c.args.bytes.now c.split_text.result.0 c.split_text.result.1.now c.requires.nonempty c.if-bytes-eq39.true c.split_text.ensures

pub returns-then-not-is_word_byte : goal.returns-then-not-is_word_byte
returns-then-not-is_word_byte c =
    splits_symbol c.args.bytes.now c.split_symbol.result.0 c.split_symbol.result.1.now c.requires.nonempty c.requires.visible c.if-bytes-eq39.false
    (sym c.is_word_byte.ensures ∙ c.if-not-is_word_byte.true) c.split_symbol.ensures

pub returns : goal.returns
returns c =
    splits_word c.args.bytes.now c.split_at.result.0 c.split_at.result.1.now c.word_len.result
    (sym c.is_word_byte.ensures ∙ c.if-not-is_word_byte.false) c.word_len.ensures.run c.requires.nonempty c.split_at.ensures.front c.split_at.ensures.back
