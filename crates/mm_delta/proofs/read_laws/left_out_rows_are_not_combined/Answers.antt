use Rattle.std.proofs.Common.{cond, length, ap}
use Rattle.mm_delta.specs.Steps.{reads_for}
use Rattle.mm_delta.specs.Walk.{one_row, other_places}
use Rattle.mm_delta.proofs.read_laws.left_out_rows_are_not_combined.Goals as goal

pub returns-clause-left_out : goal.returns-clause-left_out
returns-clause-left_out c query store changes tables skipped k row h =
    ap (λ b. cond b 0 (reads_for query store changes tables k (other_places (length tables) k) (one_row (length tables) k row))) h

pub returns-clause-others : goal.returns-clause-others
returns-clause-others c query store changes tables skipped k row h =
    ap (λ b. cond b 0 (reads_for query store changes tables k (other_places (length tables) k) (one_row (length tables) k row))) h
