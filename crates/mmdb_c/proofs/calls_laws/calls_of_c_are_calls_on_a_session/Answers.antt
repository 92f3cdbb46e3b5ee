use Rattle.mmdb_c.proofs.CallSequences.{append_leads, execute_leads, explain_leads, finalize_leads, load_script_leads, prepare_leads, release_leads}
use Rattle.mmdb_c.proofs.CallSequences.{run_leads, run_many_leads}
use Rattle.mmdb_c.proofs.calls_laws.calls_of_c_are_calls_on_a_session.Goals as goal

pub returns-clause-execute : goal.returns-clause-execute
returns-clause-execute c = execute_leads

pub returns-clause-load : goal.returns-clause-load
returns-clause-load c = load_script_leads

pub returns-clause-append : goal.returns-clause-append
returns-clause-append c = append_leads

pub returns-clause-prepare : goal.returns-clause-prepare
returns-clause-prepare c = prepare_leads

pub returns-clause-run : goal.returns-clause-run
returns-clause-run c = run_leads

pub returns-clause-run_many : goal.returns-clause-run_many
returns-clause-run_many c = run_many_leads

pub returns-clause-explain : goal.returns-clause-explain
returns-clause-explain c = explain_leads

pub returns-clause-finalize : goal.returns-clause-finalize
returns-clause-finalize c = finalize_leads

pub returns-clause-release : goal.returns-clause-release
returns-clause-release c = release_leads
