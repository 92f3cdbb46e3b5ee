use Rattle.mmdb_c.proofs.RunExamples.{all_done, is_stopped, none_run}
use Rattle.mmdb_c.proofs.calls_laws.rows_of_cells_are_run_in_order.Goals as goal

pub returns-clause-all : goal.returns-clause-all
returns-clause-all c = all_done

pub returns-clause-stopped : goal.returns-clause-stopped
returns-clause-stopped c = is_stopped

pub returns-clause-none : goal.returns-clause-none
returns-clause-none c = none_run
