use Rattle.mm_statement.proofs.Bindings.{queries_placed_alike, query_within}
use Rattle.mm_statement.proofs.laws.alike_queries_are_placed_alike.Goals as goal

pub returns-clause-placed : goal.returns-clause-placed
returns-clause-placed c = λ schema. queries_placed_alike schema

pub returns-clause-within : goal.returns-clause-within
returns-clause-within c = λ schema. query_within schema
