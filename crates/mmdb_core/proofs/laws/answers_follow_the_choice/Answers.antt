use Rattle.mm_reply.proofs.Delivered.{refused_memory}
use Rattle.mmdb_core.proofs.LawLemmas.{same_answer}
use Rattle.mmdb_core.proofs.laws.answers_follow_the_choice.Goals as goal

pub returns-clause-refused : goal.returns-clause-refused
returns-clause-refused c = refused_memory

pub returns-clause-untouched : goal.returns-clause-untouched
returns-clause-untouched c = same_answer
