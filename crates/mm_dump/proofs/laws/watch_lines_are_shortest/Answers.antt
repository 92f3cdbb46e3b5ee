use Rattle.mm_dump.proofs.Readings.{watch_is_shortest}
use Rattle.mm_dump.proofs.laws.watch_lines_are_shortest.Goals as goal

pub returns : goal.returns
returns c = watch_is_shortest
