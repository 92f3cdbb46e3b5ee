use Rattle.mm_delta.proofs.ReadLaws.{none_past}
use Rattle.mm_delta.proofs.read_laws.no_row_has_a_number_past_64_bits.Goals as goal

pub returns : goal.returns
returns c = none_past
