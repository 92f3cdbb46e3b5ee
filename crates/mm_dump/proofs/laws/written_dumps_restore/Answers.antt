use Rattle.std.proofs.Common.{◌≡◌, List, None, ap, ◌∙◌, sym, subst}
use Rattle.std.proofs.lemmas.List.Elements.{All-from_recursion}
use Rattle.mm_query.specs.Machine.{after_all}
use Rattle.mm_query.specs.State.{State, first_state}
use Rattle.mm_query.specs.declared.command.Command.{Command}
use Rattle.mm_lang.specs.Lines.{lines_of}
use Rattle.mm_dump.specs.DumpText.{dump_text}
use Rattle.mm_dump.specs.Dumps.{after_lines}
use Rattle.mm_dump.specs.Writable.{IsWritable, IsWritableState}
use Rattle.mm_dump.proofs.LinesRead.{all_read, commands_read, lines_lead}
use Rattle.mm_dump.proofs.laws.written_dumps_restore.Goals as goal

restores : (c : goal.After-dumped_scripts_restore) (commands : List Command) → let state = after_all commands first_state in
    IsWritableState state → after_lines (lines_of (dump_text state)) first_state ≡ record state { saved = None }
restores c commands writable =
    let is = c.written_bytes_are_a_dump.ensures commands in
    let good = is.3 writable in
    ap (λ bytes. after_lines (lines_of bytes) first_state) is.2 ∙ c.dumped_scripts_restore.ensures.state commands is.0 is.1 good.0 good.1

pub returns-clause-state : goal.returns-clause-state
returns-clause-state c = restores c

pub returns-clause-lines : goal.returns-clause-lines
returns-clause-lines c = λ lines.
    let commands = commands_read lines in
    let writable = c.writable_commands_lead_to_writable_states.ensures.all commands
    (All-from_recursion IsWritable commands (all_read IsWritable c.lines_read_as_writable_commands.ensures.lines lines)) in
    let Restores : State → Type 0 = λ state. after_lines (lines_of (dump_text state)) first_state ≡ record state { saved = None } in
    subst Restores (sym (lines_lead lines first_state)) (restores c commands writable)
