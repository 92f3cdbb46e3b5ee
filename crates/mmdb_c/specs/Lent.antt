-- Handles whose session is borrowed.
use base.Fml.{Fml}
use Rattle.std.specs.Prelude.{Option, Some, None, cond}
use Rattle.std.specs.Borrow.{MutBor, follows}
use Rattle.mm_session.specs.Session.{SessionState}
use Rattle.mmdb_c.specs.declared.handle.Handle.{Handle}
use Rattle.mmdb_c.specs.contracts.handle.Handle as handle
use Rattle.mmdb_c.specs.contracts.library.Library as library

-- The session's state if the handle is open, and None if it is closed.
abbrev pub held : Handle → Option SessionState
held h = cond h.is_open (Some h.value) None

-- The handle h with the session's state w.
abbrev pub with_value : Handle → SessionState → Handle
with_value h w = record { at = h.at; is_open = h.is_open; heap = h.heap; value = w }

-- When the borrow r ends, the handle h has the state that was last written through r.
abbrev pub handle_follows : MutBor Handle → MutBor SessionState → Fml
handle_follows h r = follows handle.the_row library.the_row h.ghost_name r.ghost_name (with_value h.now)
