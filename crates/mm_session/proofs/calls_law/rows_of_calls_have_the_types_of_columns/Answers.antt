use Rattle.std.proofs.Common.{sym, subst}
use Rattle.mm_session.proofs.CallRows.{line_rows, run_rows}
use Rattle.mm_session.proofs.ReachedStates.{IsSound, reached_sound}
use Rattle.mm_session.proofs.calls_law.rows_of_calls_have_the_types_of_columns.Goals as goal

pub returns-clause-lines : goal.returns-clause-lines
returns-clause-lines c calls old new line columns rows leads are answers replied =
    let reached = c.calls_lead_to_states_of_commands.ensures.reached calls old leads in
    line_rows line old new columns rows (subst IsSound (sym reached.1) (reached_sound reached.0))
    (c.templates_read_as_lines.ensures.plain line) are answers replied

pub returns-clause-statements : goal.returns-clause-statements
returns-clause-statements c calls old new number values columns rows leads found runs replied =
    let reached = c.calls_lead_to_states_of_commands.ensures.reached calls old leads in
    run_rows number values old new columns rows (subst IsSound (sym reached.1) (reached_sound reached.0)) found runs replied
