use Rattle.std.proofs.Common.{ap, ◌∙◌}
use Rattle.std.proofs.lemmas.List.Elements.{recursion_from_All}
use Rattle.mm_query.specs.State.{first_state}
use Rattle.mm_dump.specs.Dumps.{after_lines}
use Rattle.mm_dump.specs.Entries.{IsPrintable}
use Rattle.mm_dump.proofs.Scripts.{script_lines}
use Rattle.mm_dump.proofs.laws.dumped_scripts_restore.Goals as goal

pub returns-clause-lines : goal.returns-clause-lines
returns-clause-lines c = λ entries printable. script_lines entries (recursion_from_All IsPrintable entries printable)

pub returns-clause-state : goal.returns-clause-state
returns-clause-state c = λ commands entries dump printable short.
    ap (λ lines. after_lines lines first_state) (script_lines entries (recursion_from_All IsPrintable entries printable))
    ∙ c.dumped_lines_restore.ensures commands entries dump printable short
