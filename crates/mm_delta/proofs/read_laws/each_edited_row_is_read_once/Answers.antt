use Rattle.std.proofs.Common.{◌+◌, ◌++◌, length, get_or, ap, ◌∙◌, arith}
use Rattle.std.specs.List.{sum_by}
use Rattle.mm_delta.specs.Edited.{come_at, gone_at}
use Rattle.mm_delta.specs.Steps.{reads_for, row_reads}
use Rattle.mm_delta.specs.Walk.{one_row, other_places}
use Rattle.mm_delta.proofs.ReadLaws.{left_out_counted}
use Rattle.mm_delta.proofs.read_laws.each_edited_row_is_read_once.Goals as goal

pub returns-clause-unedited : goal.returns-clause-unedited
returns-clause-unedited c query store changes tables skipped k gone come =
    λ i. sum_by (λ row. 1 + row_reads query store changes tables skipped k row) (gone i ++ come i)

pub returns-clause-left_out : goal.returns-clause-left_out
returns-clause-left_out c query store changes tables skipped k all =
    left_out_counted (skipped k)
    (λ row. reads_for query store changes tables k (other_places (length tables) k) (one_row (length tables) k row))
    (gone_at store changes (get_or tables k 0)) (come_at store changes (get_or tables k 0)) all

pub returns-clause-single : goal.returns-clause-single
returns-clause-single c query store changes tables skipped k row single =
    ap (λ rows. sum_by (λ row. 1 + row_reads query store changes tables skipped k row) rows) single
    ∙ omega arith
