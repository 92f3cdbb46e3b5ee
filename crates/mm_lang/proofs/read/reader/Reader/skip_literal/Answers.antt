use Rattle.std.proofs.Common.{length, pos, subst, sym, ◌∙◌}
use Rattle.mm_value.specs.declared.values.Value.TheVariants.{Int}
use Rattle.mm_lang.specs.Tokens.{tokens}
use Rattle.mm_lang.specs.steps.Splitting.{Splits}
use Rattle.mm_lang.proofs.Literals.{literal_past}
use Rattle.mm_lang.proofs.read.reader.Reader.skip_literal.Goals as goal

pub returns-in-Err : goal.returns-in-Err
returns-in-Err c =
    let old = c.args.self.now in
    let s = subst (Splits (tokens old.rest) (length old.rest) c.in-Some.token) (sym c.new-self-in-Err.ensures) c.in-Some.ensures in
    literal_past old c.in-Some.token c.new-self-in-Err.result c.in-Err.fault s (c.in-Err.ensures s.first s.shows)
    (sym c.is_limit.ensures ∙ c.if-is_limit.true) (Int (pos 0)) c.or-self.result c.or-self.ensures
