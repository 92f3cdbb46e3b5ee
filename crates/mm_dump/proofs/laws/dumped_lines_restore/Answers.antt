use Rattle.std.proofs.Common.{◌≡◌, List, [], ◌∷◌, Ok, map, refl, ap, ◌∙◌}
use Rattle.std.specs.List.{AllByRecursion}
use Rattle.std.proofs.lemmas.List.Elements.{recursion_from_All}
use Rattle.mm_query.specs.Machine.{after_all}
use Rattle.mm_query.specs.State.{State, first_state}
use Rattle.mm_lang.specs.Answering.{outcome_of}
use Rattle.mm_lang.specs.Reading.{reading}
use Rattle.mm_dump.specs.Dumps.{after_lines}
use Rattle.mm_dump.specs.Entries.{Entry, FitsLine, IsPrintable, entry_command, entry_text}
use Rattle.mm_dump.proofs.laws.dumped_lines_restore.Goals as goal

-- Lines that read as commands have the effects of these commands.
lines_done : ((entry : Entry) → IsPrintable entry → FitsLine entry → reading (entry_text entry) ≡ Ok (entry_command entry))
    → (entries : List Entry) → AllByRecursion IsPrintable entries → AllByRecursion FitsLine entries → (state : State)
    → after_lines (map entry_text entries) state ≡ after_all (map entry_command entries) state
lines_done reads [] printable short state = refl
lines_done reads (e ∷ es) printable short state =
    ap (λ r. after_lines (map entry_text es) (outcome_of r state).state) (reads e printable.0 short.0)
    ∙ lines_done reads es printable.1 short.1 (outcome_of (Ok (entry_command e)) state).state

pub returns : goal.returns
returns c = λ commands entries dump printable short.
    lines_done c.entries_read_as_commands.ensures entries (recursion_from_All IsPrintable entries printable) (recursion_from_All FitsLine entries short)
    first_state
    ∙ c.dumps_restore.ensures commands entries dump
