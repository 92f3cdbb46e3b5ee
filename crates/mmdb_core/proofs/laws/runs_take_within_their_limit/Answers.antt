use Rattle.mm_value.specs.Watched.{inner_of}
use Rattle.mmdb_core.proofs.LawLemmas.{taken_within}
use Rattle.mmdb_core.proofs.laws.runs_take_within_their_limit.Goals as goal

pub returns : goal.returns
returns g c input left before after takes =
    taken_within (g.R.Read.remaining (inner_of c.args._before.now)) (g.R.Read.remaining (inner_of c.args._after.now)) input left takes.bytes c.args._limits
    before after takes.consumed takes.within
