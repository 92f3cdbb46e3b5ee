use Rattle.std.proofs.Common.{sym, ap}
use Rattle.mm_lang.specs.Grammar.{on_delete_of}
use Rattle.mm_lang.proofs.read.columns.on_delete_of.Goals as goal

pub returns-then-cascades : goal.returns-then-cascades
returns-then-cascades c = sym (ap on_delete_of c.if-cascades.true)

pub returns-else-cascades : goal.returns-else-cascades
returns-else-cascades c = sym (ap on_delete_of c.if-cascades.false)
