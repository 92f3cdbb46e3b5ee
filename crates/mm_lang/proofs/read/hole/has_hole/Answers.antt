use Rattle.std.proofs.Common.{sym, ◌∙◌}
use Rattle.mm_lang.proofs.HoleBytes.{unasked_free}
use Rattle.mm_lang.proofs.read.hole.has_hole.Goals as goal

pub returns-then-not-contains : goal.returns-then-not-contains
returns-then-not-contains c = sym (unasked_free c.args.line.now (sym c.contains.ensures.value ∙ c.if-not-contains.true))
