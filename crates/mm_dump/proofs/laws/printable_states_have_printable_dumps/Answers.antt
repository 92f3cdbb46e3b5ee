use Rattle.mm_query.specs.Machine.{after_all}
use Rattle.mm_query.specs.State.{first_state}
use Rattle.mm_dump.proofs.Printable.{dump_printable}
use Rattle.mm_dump.proofs.Reached.{reached_restorable}
use Rattle.mm_dump.proofs.laws.printable_states_have_printable_dumps.Goals as goal

pub returns : goal.returns
returns c = λ commands entries printable dump.
    let state = after_all commands first_state in
    let restorable = reached_restorable commands (c.rows_keep_their_targets.ensures.rows commands) in
    dump_printable state printable restorable.typed entries dump
