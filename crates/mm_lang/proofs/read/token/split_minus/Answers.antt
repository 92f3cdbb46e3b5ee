use Rattle.std.proofs.Common.{arith}
use Rattle.mm_lang.proofs.Fronts.{minus_in_range, splits_minus, splits_signed}
use Rattle.mm_lang.proofs.read.token.split_minus.Goals as goal

pub overflow_add-word : goal.overflow_add-word
overflow_add-word c =
    let fits = minus_in_range c.args.bytes.now c.word_len-word.result c.requires.nonempty c.word_len-word.ensures.run in omega arith

pub split_at-requires : goal.split_at-requires
split_at-requires c = minus_in_range c.args.bytes.now c.word_len-word.result c.requires.nonempty c.word_len-word.ensures.run

pub returns-then-word-eq0 : goal.returns-then-word-eq0
returns-then-word-eq0 c =
    splits_minus c.args.bytes.now c.word_len-word.result c.split_at.result.1.now c.requires.nonempty c.word_len-word.ensures.run c.if-word-eq0.true
    c.split_at.ensures.back

pub returns-else-word-eq0 : goal.returns-else-word-eq0
returns-else-word-eq0 c =
    splits_signed c.args.bytes.now c.word_len-word.result c.split_at.result.0 c.split_at.result.1.now c.requires.nonempty c.requires.minus
    c.word_len-word.ensures.run c.if-word-eq0.false c.split_at.ensures.front c.split_at.ensures.back
