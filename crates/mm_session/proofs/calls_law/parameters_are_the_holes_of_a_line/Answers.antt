use Rattle.std.proofs.Common.{refl}
use Rattle.mm_lang.specs.Tokens.{lexed}
use Rattle.mm_session.proofs.ParameterCounts.{parameters_counted}
use Rattle.mm_session.proofs.calls_law.parameters_are_the_holes_of_a_line.Goals as goal

pub returns-clause-holes : goal.returns-clause-holes
returns-clause-holes c = parameters_counted

pub returns-clause-example : goal.returns-clause-example
unfolding lexed
returns-clause-example c = refl
