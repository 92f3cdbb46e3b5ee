use Rattle.mm_txn.proofs.Releases.{typed_after_release}
use Rattle.mm_txn.proofs.release_laws.releases_keep_types_and_standing_queries.Goals as goal

pub returns-clause-types : goal.returns-clause-types
returns-clause-types c = typed_after_release

pub returns-clause-queries : goal.returns-clause-queries
returns-clause-queries c name state held = held

pub returns-clause-bound : goal.returns-clause-bound
returns-clause-bound c name state held = held
