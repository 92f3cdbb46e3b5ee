use Rattle.std.proofs.Common.{ap, arith, ◌∙◌}
use Rattle.std.specs.List.{prefix_len}
use Rattle.std.proofs.lemmas.List.{take_rest}
use Rattle.mm_lang.specs.Tokens.{is_word_byte}
use Rattle.mm_template.proofs.Pieces.{minus_operator}
use Rattle.mm_template.proofs.piece.minus.Goals as goal

pub returns : goal.returns
returns c =
    let bytes = c.args.bytes.now in
    minus_operator bytes c.word_len-word.result c.requires.some c.requires.minus
    (c.word_len-word.ensures.run ∙ ap (prefix_len is_word_byte) (take_rest bytes 1)) (omega (arith, c.word_len-word.ensures.in_range))
