use Rattle.mm_dump.proofs.Remaining.{pieces_dump, start_rest}
use Rattle.mm_dump.proofs.laws.pieces_are_the_dump.Goals as goal

pub returns : goal.returns
returns c = record {
  start = start_rest;
  pieces = pieces_dump;
}
