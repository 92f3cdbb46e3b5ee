use Rattle.mm_lang.proofs.Commands.{control_takes_none, takes}
use Rattle.mmdb_core.proofs.LawLemmas.{long_takes_none, nothing_takes_none}
use Rattle.mmdb_core.proofs.laws.commands_take_memory.Goals as goal

pub returns-clause-long : goal.returns-clause-long
returns-clause-long c = long_takes_none

pub returns-clause-nothing : goal.returns-clause-nothing
returns-clause-nothing c = nothing_takes_none

pub returns-clause-transactions : goal.returns-clause-transactions
returns-clause-transactions c = control_takes_none

pub returns-clause-others : goal.returns-clause-others
returns-clause-others c = takes
