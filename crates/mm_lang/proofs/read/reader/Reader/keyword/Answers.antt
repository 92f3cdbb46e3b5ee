use Rattle.std.proofs.Common.{◌∙◌, ap, sym, subst}
use Rattle.std.specs.Option.{ok_or}
use Rattle.mm_value.specs.declared.refusal.Refusal.TheVariants.{Syntax}
use Rattle.mm_lang.specs.Phrases.{one_word}
use Rattle.mm_lang.specs.Words.{keyword_named}
use Rattle.mm_lang.specs.steps.Parsing.{ReadsWithoutMemory, no_literals}
use Rattle.mm_lang.proofs.Readings.{word_reads}
use Rattle.mm_lang.proofs.read.reader.Reader.keyword.Goals as goal

pub returns : goal.returns
returns c =
    let answer = c.ok_or.ensures.value ∙ ap (λ o. ok_or o Syntax) c.named.ensures in
    subst (ReadsWithoutMemory (one_word keyword_named) no_literals c.args.self.now c.word.new.self) (sym answer)
    (word_reads keyword_named c.args.self.now c.word.new.self c.in_ok-word.word.now c.in_ok-word.ensures)
