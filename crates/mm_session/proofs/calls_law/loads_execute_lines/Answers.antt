use Rattle.mm_session.proofs.LoadedScripts.{load_leads}
use Rattle.mm_session.proofs.calls_law.loads_execute_lines.Goals as goal

pub returns : goal.returns
returns c = load_leads
