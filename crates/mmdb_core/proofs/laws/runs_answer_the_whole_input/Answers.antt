use Rattle.mm_value.specs.Watched.{inner_of}
use Rattle.mmdb_core.specs.Run.{Answers}
use Rattle.mmdb_core.proofs.LawLemmas.{all_taken, nothing_left, within_known}
use Rattle.mmdb_core.proofs.laws.runs_answer_the_whole_input.Goals as goal

pub returns-clause-taken : goal.returns-clause-taken
returns-clause-taken g c before after limit old new totals input known reached =
    nothing_left (g.R.Read.remaining (inner_of before)) (g.R.Read.remaining (inner_of after)) input reached.input known reached.consumed reached.at_end

pub returns-clause-within : goal.returns-clause-within
returns-clause-within g c before after limit old new totals input known reached =
    within_known (g.R.Read.remaining (inner_of before)) (g.R.Read.remaining (inner_of after)) input reached.input limit known reached.consumed
    reached.at_end reached.within

pub returns-clause-answered : goal.returns-clause-answered
returns-clause-answered g c before after limit old new totals reached =
    all_taken (g.R.Read.remaining (inner_of before)) (g.R.Read.remaining (inner_of after)) reached.input reached.consumed reached.at_end
    (λ input. Answers input old new totals) reached.answers
