use Rattle.std.proofs.Common.{refl}
use Rattle.mmdb_core.proofs.Inputs.{Advances-then}
use Rattle.mmdb_core.proofs.input.Input.find_line.Goals as goal

pub returns-in_err-fill-clause-advances : goal.returns-in_err-fill-clause-advances
returns-in_err-fill-clause-advances g c = Advances-then refl c.loop-next.invariant c.fill.ensures.advances

pub loop-next-preserved : goal.loop-next-preserved
loop-next-preserved g c = Advances-then refl c.loop-next.invariant c.fill.ensures.advances
