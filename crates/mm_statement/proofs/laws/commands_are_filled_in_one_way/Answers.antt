use Rattle.mm_statement.proofs.SameCommands.{filled_once, filling_once}
use Rattle.mm_statement.proofs.laws.commands_are_filled_in_one_way.Goals as goal

pub returns-clause-filled : goal.returns-clause-filled
returns-clause-filled c = filled_once

pub returns-clause-results : goal.returns-clause-results
returns-clause-results c = filling_once
