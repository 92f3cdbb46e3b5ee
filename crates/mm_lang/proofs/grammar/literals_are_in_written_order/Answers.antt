-- A command's literals are those among its tokens.
use Rattle.mm_lang.proofs.LiteralOrder.{read_literals, first_past}
use Rattle.mm_lang.proofs.grammar.literals_are_in_written_order.Goals as goal

pub returns-clause-order : goal.returns-clause-order
returns-clause-order c = read_literals

pub returns-clause-first : goal.returns-clause-first
returns-clause-first c = first_past
