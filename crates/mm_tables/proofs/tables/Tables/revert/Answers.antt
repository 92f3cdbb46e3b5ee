use Rattle.std.proofs.Common.{length, ap, arith}
use Rattle.mm_tables.specs.Tables.{Stored, back}
use Rattle.mm_tables.proofs.Logs.{undone_marks}
use Rattle.mm_tables.proofs.tables.Tables.revert.Goals as goal

pub returns-clause-marks : goal.returns-clause-marks
returns-clause-marks c =
    undone_marks back c.args.self.now.log _ _ _ c.args.mark
    (omega (arith, ap (λ (s : Stored). length s.log) c.self.view_is)) c.loop-self.invariant.undoing
