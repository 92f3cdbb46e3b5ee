-- The initial state of a session.
use Rattle.std.specs.Prelude.{[], None}
use Rattle.mm_query.specs.State.{first_state}
use Rattle.mm_session.specs.Session.{SessionState}

-- A session with an empty database, no statements, no reply, and no changed rows.
abbrev pub new_session : SessionState
new_session = record { state = first_state; lines = []; reply = None; changes = 0 }
