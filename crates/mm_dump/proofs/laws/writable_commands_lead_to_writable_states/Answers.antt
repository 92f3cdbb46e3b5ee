use Rattle.mm_dump.proofs.WritableStates.{all_writable, first_writable, step_writable}
use Rattle.mm_dump.proofs.laws.writable_commands_lead_to_writable_states.Goals as goal

pub returns-clause-first : goal.returns-clause-first
returns-clause-first c = first_writable

pub returns-clause-step : goal.returns-clause-step
returns-clause-step c = step_writable

pub returns-clause-all : goal.returns-clause-all
returns-clause-all c = all_writable
