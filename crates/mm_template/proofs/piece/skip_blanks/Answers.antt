use Rattle.std.proofs.Common.{◌∙◌, ap, drop}
use Rattle.std.proofs.lemmas.List.{take_rest}
use Rattle.mm_template.proofs.piece.skip_blanks.Goals as goal

pub returns-clause-rest : goal.returns-clause-rest
returns-clause-rest c =
    let bytes = c.args.bytes.now in
    take_rest bytes c.blank_len.result ∙ ap (λ n. drop n bytes) c.blank_len.ensures.run
