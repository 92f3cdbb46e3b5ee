use Rattle.std.proofs.Common.{sym, ◌∙◌}
use Rattle.mm_template.proofs.Cuts.{keeps_nothing}
use Rattle.mm_template.proofs.cutter.Cutter.keep.Goals as goal

pub returns-then-is_empty : goal.returns-then-is_empty
returns-then-is_empty c = keeps_nothing c.args.self.now c.args.bytes.now (sym c.is_empty.ensures ∙ c.if-is_empty.true)
