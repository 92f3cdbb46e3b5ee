use Rattle.mm_laws.proofs.Commands.{four_without_memory, is_of_four}
use Rattle.mm_laws.proofs.command_laws.four_commands_are_done_without_memory.Goals as goal

pub returns : goal.returns
returns c = λ command. (is_of_four command, four_without_memory command)
