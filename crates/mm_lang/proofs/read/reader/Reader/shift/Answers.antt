use Rattle.std.proofs.Common.{true, false, refl, subst, sym, ◌∙◌}
use Rattle.mm_lang.specs.declared.read.reader.Reader.{Reader}
use Rattle.mm_lang.specs.declared.read.token.Symbol.TheVariants as symbol
use Rattle.mm_lang.specs.Grammar.{behind_sign, numbered}
use Rattle.mm_lang.specs.Phrases.{the_symbol}
use Rattle.mm_lang.specs.Tokens.{Signed}
use Rattle.mm_lang.specs.steps.Parsing.{Follows, Skips}
use Rattle.mm_lang.proofs.Operands.{plus_goes_on, minus_goes_on, signed_goes_on, shift_reads, shift_none}
use Rattle.mm_lang.proofs.read.reader.Reader.shift.Goals as goal

pub returns-then-skip : goal.returns-then-skip
returns-then-skip c =
    shift_reads c.args.self.now c.skip.new.self c.behind_sign.new.self (behind_sign false) c.behind_sign.result
    (plus_goes_on c.args.self.now c.skip.new.self c.if-skip.ensures) c.behind_sign.ensures

pub returns-then-skip-2 : goal.returns-then-skip-2
returns-then-skip-2 c =
    let plus : Skips (the_symbol symbol.Plus) c.args.self.now c.skip.new.self false = c.if-skip.ensures in
    shift_reads c.args.self.now c.skip-2.new.self c.behind_sign-then-skip-2.new.self (behind_sign true) c.behind_sign-then-skip-2.result
    (minus_goes_on c.args.self.now c.skip.new.self c.skip-2.new.self plus.1 c.if-skip-2.ensures) c.behind_sign-then-skip-2.ensures

pub returns-in-Some : goal.returns-in-Some
returns-in-Some c =
    let plus : Skips (the_symbol symbol.Plus) c.args.self.now c.skip.new.self false = c.if-skip.ensures in
    let minus : Skips (the_symbol symbol.Minus) c.skip.new.self c.skip-2.new.self false = c.if-skip-2.ensures in
    let mid : Reader = record c.skip-2.new.self { rest = c.new-self.result } in
    let word = c.in-Some.word.now in
    let follows = subst (Follows c.skip-2.new.self.rest (Signed word)) (sym c.new-self.ensures) c.in-Some.ensures in
    shift_reads c.args.self.now mid c.number.new.self (numbered true word) c.number.result
    (signed_goes_on c.args.self.now c.skip-2.new.self mid (minus.1 ∙ plus.1) word follows refl) c.number.ensures

pub returns-in-None : goal.returns-in-None
returns-in-None c = shift_none c.args.self.now c.skip.new.self c.skip-2.new.self c.if-skip.ensures c.if-skip-2.ensures c.in-None.ensures
