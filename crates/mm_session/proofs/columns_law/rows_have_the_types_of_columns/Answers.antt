use Rattle.mm_query.specs.Machine.{after_all}
use Rattle.mm_query.specs.State.{first_state}
use Rattle.mm_session.proofs.ColumnTypes.{reply_typed}
use Rattle.mm_session.proofs.ReachedStates.{reached_sound}
use Rattle.mm_session.proofs.columns_law.rows_have_the_types_of_columns.Goals as goal

pub returns : goal.returns
returns c commands command rows is =
    let sound = reached_sound commands in
    reply_typed (after_all commands first_state) sound.typed.rows sound.bound command rows is
