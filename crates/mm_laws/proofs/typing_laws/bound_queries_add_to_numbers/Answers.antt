use Rattle.mm_laws.proofs.TypedNumbers.{adds_to_numbers}
use Rattle.mm_laws.proofs.typing_laws.bound_queries_add_to_numbers.Goals as goal

pub returns : goal.returns
returns c schema rows query typed = adds_to_numbers schema rows typed query
