-- Loading a script.
use Rattle.std.specs.Prelude.{◌≡◌, ℕ, List, Result, Ok, Err}
use Rattle.mm_value.specs.Refusals.{refusal_number}
use Rattle.mm_session.specs.Loading.{Loads}
use Rattle.mm_session.specs.Session.{SessionState}
use Rattle.mm_session.specs.declared.loading.LoadError.{LoadError}
use Rattle.mmdb_c.specs.Statuses.{done}

-- The number of lines that were executed before the refused one: of all lines, if none was refused.
abbrev pub lines_done : Result ℕ LoadError → ℕ
lines_done (Ok lines) = lines
lines_done (Err error) = error.lines

-- The status of a load: done, or the number of the refusal.
abbrev pub status_of_load : Result ℕ LoadError → ℕ
status_of_load (Ok lines) = done
status_of_load (Err error) = refusal_number error.refusal

-- The lines of the script were executed up to the first that was refused, and the number of those before it was written.
pub record LoadsScript (script : List ℕ) (lines status : ℕ) (old new : SessionState) : Type 0 where
  pub result : Result ℕ LoadError
  pub loads : Loads script old new result
  pub lines_are : lines ≡ lines_done result
  pub status_is : status ≡ status_of_load result
