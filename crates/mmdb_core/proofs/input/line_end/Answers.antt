use Rattle.mmdb_core.proofs.FeedLemmas.{line_end_is}
use Rattle.mmdb_core.proofs.input.line_end.Goals as goal

pub returns : goal.returns
returns c = line_end_is c.args.bytes.now c.find_byte.result c.find_byte.ensures
