-- The exit status of a program, by the result of its run.
use Rattle.std.specs.Prelude.{ℕ, Result, Ok, Err}
use Rattle.mmdb_core.specs.declared.run_error.RunError.{RunError}
use Rattle.mmdb_core.specs.declared.run_error.RunError.TheVariants.{Read, Write, TooLong}
use Rattle.mmdb_core.specs.declared.limits.Totals.{Totals}

-- 0 for the end of the input, 2 for a failed device, 3 for an input beyond its limit.
abbrev pub status_of : Result Totals RunError → ℕ
status_of (Ok totals) = 0
status_of (Err Read) = 2
status_of (Err Write) = 2
status_of (Err TooLong) = 3
