use Rattle.mm_relevance.proofs.Exact.{exact}
use Rattle.mm_relevance.proofs.law.edges_say_what_atoms_say.Goals as goal

pub returns : goal.returns
returns c query place row combination conjunct atom with is numbers = exact query place row combination with conjunct atom is numbers
