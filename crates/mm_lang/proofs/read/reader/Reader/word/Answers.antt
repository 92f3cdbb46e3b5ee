use Rattle.std.proofs.Common.{refl, subst, sym}
use Rattle.mm_lang.specs.Tokens.{Word}
use Rattle.mm_lang.specs.steps.Parsing.{Follows}
use Rattle.mm_lang.proofs.Readings.{word_given}
use Rattle.mm_lang.proofs.read.reader.Reader.word.Goals as goal

pub returns-in-Some : goal.returns-in-Some
returns-in-Some c =
    let old = c.args.self.now in
    let word = c.in-Some.word.now in
    word_given old _ word (subst (Follows old.rest (Word word)) (sym c.new-self.ensures) c.in-Some.ensures) refl
