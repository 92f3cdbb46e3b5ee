-- The two definitions of the grammar agree.
use Rattle.mm_lang.proofs.SpelledCommands.{command_read, command_spelled, command_one}
use Rattle.mm_lang.proofs.grammar.grammar_is_exact.Goals as goal

pub returns-clause-reads : goal.returns-clause-reads
returns-clause-reads c = command_read

pub returns-clause-spelled : goal.returns-clause-spelled
returns-clause-spelled c = command_spelled

pub returns-clause-one_reading : goal.returns-clause-one_reading
returns-clause-one_reading c = command_one
