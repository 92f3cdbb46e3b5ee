use Rattle.std.proofs.Common.{◌∙◌}
use Rattle.mm_session.specs.Calls.{first_session}
use Rattle.mm_session.proofs.CallStates.{calls_left, refused_append_stays, refused_line_stays, refused_run_stays}
use Rattle.mm_session.proofs.calls_law.calls_lead_to_states_of_commands.Goals as goal

pub returns-clause-states : goal.returns-clause-states
returns-clause-states c = calls_left

pub returns-clause-reached : goal.returns-clause-reached
returns-clause-reached c calls new leads =
    let left = calls_left calls first_session new leads in
    let reached = c.releases_lead_to_no_other_states.ensures.reached left.0 in
    (reached.0, left.2 ∙ reached.1)

pub returns-clause-refused_line : goal.returns-clause-refused_line
returns-clause-refused_line c = refused_line_stays

pub returns-clause-refused_append : goal.returns-clause-refused_append
returns-clause-refused_append c = refused_append_stays

pub returns-clause-refused_run : goal.returns-clause-refused_run
returns-clause-refused_run c = refused_run_stays
