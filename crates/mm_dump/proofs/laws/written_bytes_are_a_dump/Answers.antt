use Rattle.mm_schema.proofs.Instances.{beside_from_order}
use Rattle.mm_query.specs.Machine.{after_all}
use Rattle.mm_query.specs.State.{first_state}
use Rattle.mm_dump.proofs.Asked.{sound_after, sound_at_first}
use Rattle.mm_dump.proofs.DumpTexts.{dumped, entries_fit}
use Rattle.mm_dump.proofs.Printable.{dump_printable}
use Rattle.mm_dump.proofs.Reached.{reached_restorable}
use Rattle.mm_dump.proofs.laws.written_bytes_are_a_dump.Goals as goal

pub returns : goal.returns
returns c = λ commands.
    let state = after_all commands first_state in
    let sound = sound_after commands first_state sound_at_first in
    let restorable = reached_restorable commands (c.rows_keep_their_targets.ensures.rows commands) in
    let is = dumped state (beside_from_order state.schema.tables state.rows sound.rows.rows.order) sound.rows.rows.distinct sound.has sound.kept.names in (
      is.entries,
      is.dump,
      is.text_is,
      (λ writable. (
        dump_printable state writable.printable restorable.typed is.entries is.dump,
        entries_fit state is writable restorable.creatable restorable.typed,
      )),
    )
