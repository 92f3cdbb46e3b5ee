use Rattle.mm_txn.proofs.ReachedReleases.{kept_where_refused, reached_by_calls, released_where_granted}
use Rattle.mm_txn.proofs.release_laws.releases_lead_to_no_other_states.Goals as goal

pub returns-clause-done : goal.returns-clause-done
returns-clause-done c = released_where_granted

pub returns-clause-refused : goal.returns-clause-refused
returns-clause-refused c = kept_where_refused

pub returns-clause-reached : goal.returns-clause-reached
returns-clause-reached c = reached_by_calls
