-- The input, line by line.
use Rattle.std.specs.Prelude.{◌≡◌, ◌⊎◌, ℕ, ◌+◌, ◌-◌, ◌<◌, ◌≤◌, List, [], ◌∷◌, ◌++◌, length, take, true, false, Option, if◌then◌else◌}
use Rattle.std.specs.Io.KnownBytes.{Consumes, IsAtEnd}
use Rattle.mm_lang.specs.Lines.{without_return, HasNoFeed}
use Rattle.mm_value.specs.Watched.{inner_of, has_failed}
use Rattle.mm_value.specs.declared.device.Watched.{Watched}
use Rattle.mmdb_core.specs.steps.Feeds.{EndsLine}
use Rattle.mmdb_core.specs.declared.run_error.RunError.{RunError}
use Rattle.mmdb_core.specs.declared.run_error.RunError.TheVariants.{Read, Write, TooLong}
use Rattle.mmdb_core.specs.declared.input.Input.{Input}
use Rattle.mmdb_core.specs.declared.input.Next.{Next}
use Rattle.mmdb_core.specs.declared.input.Next.TheVariants.{Line, Long, End}

-- An upper bound of the number of remaining bytes.
abbrev pub bytes_to_come : Input → ℕ
bytes_to_come input = length input.window.bytes + input.still

-- An upper bound of the number of remaining reads: one for each byte that may be read, and one for the end.
abbrev pub fills_to_come : Input → ℕ
fills_to_come input = if input.is_ended then 0 else input.still + 1

-- If the input is known to have ended, the reader has nothing left, and no more than the limit was read.
abbrev pub KnowsEnd : {R : Type 0} → (R → Option (List ℕ)) → Watched R → Input → Type 0
KnowsEnd remaining reader input = input.is_ended ≡ true → (0 < input.still) × IsAtEnd (remaining (inner_of reader))

-- The reader returned bytes. Those within the limit were appended to the earlier ones, and some bytes were dropped from the front.
pub record Advances {R : Type 0} (remaining : R → Option (List ℕ)) (reader after : Watched R) (old new : Input) (gone : List ℕ) : Type 0 where
  pub given : List ℕ
  pub consumed : Consumes (remaining (inner_of reader)) (remaining (inner_of after)) given
  pub counted : length given + new.still ≡ old.still
  pub kept : old.window.bytes ++ take (old.still - 1) given ≡ gone ++ new.window.bytes
  -- an input that has ended remains so, and nothing more is read
  pub ended : old.is_ended ≡ true → (given ≡ []) × (new.is_ended ≡ true)
  pub at_end : KnowsEnd remaining reader old → KnowsEnd remaining after new

-- A last line of this length, with no line feed, is the rest of the input.
pub record IsLastLine (input : Input) (len step : ℕ) : Type 0 where
  pub some : 0 < len
  pub all : len ≡ length input.window.bytes
  pub no_more : step ≡ len
  pub no_feed : HasNoFeed input.window.bytes
  pub ended : input.is_ended ≡ true

-- What was found at the front of the rest of the input.
abbrev pub Finds : Input → Next → Type 0
Finds input (Line len step) =
    (step ≤ length input.window.bytes) × (len ≤ step) × ((EndsLine input.window.bytes len × (step ≡ len + 1)) ⊎ IsLastLine input len step)
Finds input Long = HasNoFeed input.window.bytes × (4097 < length input.window.bytes)
Finds input End = (input.window.bytes ≡ []) × (input.is_ended ≡ true)

-- The bytes are a line with its line feed, or a last line after which nothing is left.
pub record IsLine (gone line : List ℕ) (after : Input) : Type 0 where
  pub no_feed : HasNoFeed line
  pub end : (gone ≡ line ++ 10 ∷ []) ⊎ ((gone ≡ line) × (0 < length line) × (after.window.bytes ≡ []) × (after.is_ended ≡ true))

-- A line was dropped from the front of the input.
pub record PassesLine {R : Type 0} (remaining : R → Option (List ℕ)) (reader after : Watched R) (old new : Input) (line : List ℕ) : Type 0 where
  pub gone : List ℕ
  pub advances : Advances remaining reader after old new gone
  pub is_line : IsLine gone line new

-- The next item of an input.
abbrev pub Comes : {R : Type 0} → (R → Option (List ℕ)) → Watched R → Watched R → Input → Input → Next → Type 0
Comes remaining reader after old new (Line len step) = Advances remaining reader after old new [] × Finds new (Line len step)
Comes remaining reader after old new Long = (line : List ℕ) × PassesLine remaining reader after old new line × (4096 < length (without_return line))
Comes remaining reader after old new End = Advances remaining reader after old new [] × Finds new End

-- Why an input ends early: its reader failed, or returned more than the limit.
abbrev pub IsFault : {R : Type 0} → Input → Watched R → RunError → Type 0
IsFault input reader Read = (input.is_ended ≡ false) × (has_failed reader ≡ true) × (0 < input.still)
IsFault input reader Write = ⊥
IsFault input reader TooLong = (input.is_ended ≡ false) × (input.still ≡ 0)

-- An input ends early, before the end of its next line.
pub record StopsInLine {R : Type 0} (remaining : R → Option (List ℕ)) (reader after : Watched R) (old new : Input) (fault : RunError) : Type 0 where
  pub gone : List ℕ
  pub advances : Advances remaining reader after old new gone
  pub no_feed : HasNoFeed (gone ++ new.window.bytes)
  pub why : IsFault new after fault
