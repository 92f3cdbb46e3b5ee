use Rattle.mm_laws.proofs.Transactions.{catalog_is_alike, rolled_back}
use Rattle.mm_laws.proofs.laws.rollback_restores_the_rows_at_begin.Goals as goal

pub returns-clause-state : goal.returns-clause-state
returns-clause-state c commands state closed free = rolled_back state closed commands free

pub returns-clause-catalog : goal.returns-clause-catalog
returns-clause-catalog c commands state closed free = catalog_is_alike state closed commands free
