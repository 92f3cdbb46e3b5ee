use Rattle.mm_dump.proofs.AllRestored.{all_restored}
use Rattle.mm_dump.proofs.laws.dumps_restore.Goals as goal

pub returns : goal.returns
returns c = λ commands entries dump. all_restored commands (c.rows_keep_their_targets.ensures.rows commands) entries dump
