use Rattle.std.proofs.Common.{sym, ◌∙◌}
use Rattle.mm_session.proofs.LineReadings.{fills_plain}
use Rattle.mm_session.proofs.reading.read_filled.Goals as goal

pub returns-then-holes-eq0 : goal.returns-then-holes-eq0
returns-then-holes-eq0 c =
    fills_plain c.args.line.now c.requires.reads.0 c.args.values.now c.requires.reads.1 c.requires.values c.parse.result
    (c.templates_read_as_lines.ensures.plain c.args.line.now) (sym c.requires.holes ∙ c.if-holes-eq0.true) c.parse.ensures
