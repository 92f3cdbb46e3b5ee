-- Bytes that were read.
use Rattle.std.specs.Prelude.{◌≡◌, ℕ, List, ◌++◌, length, Option}
use Rattle.std.specs.Io.KnownBytes.{Consumes, IsAtEnd}
use Rattle.mm_value.specs.Watched.{inner_of}
use Rattle.mm_value.specs.declared.device.Watched.{Watched}

-- n bytes were read and appended to the earlier ones; 0 only at the end.
pub record Takes {R : Type 0} (remaining : R → Option (List ℕ)) (reader after : Watched R) (old new : List ℕ) (n : ℕ) : Type 0 where
  pub given : List ℕ
  pub count : length given ≡ n
  pub behind : new ≡ old ++ given
  pub consumed : Consumes (remaining (inner_of reader)) (remaining (inner_of after)) given
  pub at_end : n ≡ 0 → IsAtEnd (remaining (inner_of after))
