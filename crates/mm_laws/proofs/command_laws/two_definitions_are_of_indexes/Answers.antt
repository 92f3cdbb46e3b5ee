use Rattle.mm_laws.proofs.Commands.{index_is, of_an_index}
use Rattle.mm_laws.proofs.command_laws.two_definitions_are_of_indexes.Goals as goal

pub returns : goal.returns
returns c = λ definition. (of_an_index definition, index_is definition)
