use Rattle.std.proofs.Common.{sym, ap, ◌∙◌}
use Rattle.std.proofs.lemmas.List.{nil_from_length}
use Rattle.std.proofs.lemmas.Bool.{eqb-true}
use Rattle.mm_lang.specs.Tokens.{tokens}
use Rattle.mm_lang.proofs.Lexing.{tokens_none}
use Rattle.mm_lang.proofs.read.token.split_token.Goals as goal

pub returns-then-is_empty : goal.returns-then-is_empty
returns-then-is_empty c =
    sym c.skip_blanks-bytes.ensures.tokens ∙ ap tokens
    (nil_from_length c.skip_blanks-bytes.result.now (eqb-true _ 0 (sym c.is_empty.ensures ∙ c.if-is_empty.true))) ∙ tokens_none
