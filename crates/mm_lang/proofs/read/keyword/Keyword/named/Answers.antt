use Rattle.std.proofs.Common.{sym, ap, ◌∙◌}
use Rattle.std.specs.List.{find}
use Rattle.mm_lang.specs.Words.{is_word}
use Rattle.mm_lang.proofs.Keywords.{named_among, named_none}
use Rattle.mm_lang.proofs.read.keyword.Keyword.named.Goals as goal

pub returns-then-is_empty : goal.returns-then-is_empty
returns-then-is_empty c = named_none c.args.word.now (sym c.is_empty.ensures ∙ c.if-is_empty.true)

pub returns : goal.returns
returns c =
    let word = c.args.word.now in
    c.written_as.ensures ∙ ap (find (λ k. is_word k word)) c.beginning_with.ensures ∙ named_among word (sym c.is_empty.ensures ∙ c.if-is_empty.false)
