use Rattle.mm_laws.proofs.Transactions.{committed}
use Rattle.mm_laws.proofs.laws.commit_keeps_the_rows.Goals as goal

pub returns : goal.returns
returns c commands state closed free = committed state closed commands free
