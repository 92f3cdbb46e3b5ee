-- A value's text spells it, and no bytes spell two values.
use Rattle.mm_value.proofs.Spelling.{Spells-unique, value_text-spells}
use Rattle.mm_value.proofs.literals.literals_are_exact.Goals as goal

pub returns-clause-text : goal.returns-clause-text
returns-clause-text c = value_text-spells

pub returns-clause-unique : goal.returns-clause-unique
returns-clause-unique c = Spells-unique
