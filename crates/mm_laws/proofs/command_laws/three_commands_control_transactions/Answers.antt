use Rattle.mm_laws.proofs.Commands.{is_of_three, three_control}
use Rattle.mm_laws.proofs.command_laws.three_commands_control_transactions.Goals as goal

pub returns : goal.returns
returns c = λ command. (is_of_three command, three_control command)
