use Rattle.std.proofs.Common.{List, ap, ◌∙◌, ℕ}
use Rattle.mm_query.specs.State.{first_state}
use Rattle.mm_lang.specs.Lines.{lines_of}
use Rattle.mm_dump.specs.Dumps.{after_lines}
use Rattle.mm_dump.proofs.laws.pieces_restore.Goals as goal

pub returns : goal.returns
returns c lines pieces place are ended =
    let state = after_lines lines first_state in
    ap (λ (bytes : List ℕ). after_lines (lines_of bytes) first_state) (c.pieces_are_the_dump.ensures.pieces state pieces place are ended)
    ∙ c.written_dumps_restore.ensures.lines lines
