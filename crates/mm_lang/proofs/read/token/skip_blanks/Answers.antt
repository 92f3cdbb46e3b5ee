use Rattle.std.proofs.Common.{◌∙◌, ap}
use Rattle.std.proofs.lemmas.List.{take_rest}
use Rattle.std.proofs.Common.{drop}
use Rattle.mm_lang.specs.Tokens.{tokens}
use Rattle.mm_lang.proofs.Lexing.{tokens_blanks, visible_behind_blanks}
use Rattle.mm_lang.specs.steps.Splitting.{begins_blank}
use Rattle.mm_lang.proofs.read.token.skip_blanks.Goals as goal

pub returns-clause-tokens : goal.returns-clause-tokens
returns-clause-tokens c =
    let bytes = c.args.bytes.now in
    ap tokens (take_rest bytes c.blank_len.result) ∙ ap (λ n. tokens (drop n bytes)) c.blank_len.ensures.run ∙ tokens_blanks bytes

pub returns-clause-visible : goal.returns-clause-visible
returns-clause-visible c =
    let bytes = c.args.bytes.now in
    ap begins_blank (take_rest bytes c.blank_len.result) ∙ ap (λ n. begins_blank (drop n bytes)) c.blank_len.ensures.run ∙ visible_behind_blanks bytes
