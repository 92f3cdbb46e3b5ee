use Rattle.std.proofs.Common.{length}
use Rattle.mm_session.proofs.LoadedScripts.{Loaded}
use Rattle.mm_session.proofs.session.Session.load.Given as goal

-- the lines before the rest were executed
abbrev pub invariant-loop-line : goal.invariant-loop-line
invariant-loop-line l = Loaded l.fn.script l.rest l.lines l.fn.self l.self

abbrev pub decreases-loop-line : goal.decreases-loop-line
decreases-loop-line l = length l.rest
