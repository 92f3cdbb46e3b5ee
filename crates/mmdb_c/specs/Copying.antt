-- Copying bytes into the caller's memory.
use Rattle.std.specs.Prelude.{◌≡◌, ◌++◌, ℕ, List, drop, length, take}

-- As many bytes as fit were copied, and the rest of the output is unchanged.
abbrev pub CopiesFront : List ℕ → List ℕ → List ℕ → Type 0
CopiesFront bytes old new = new ≡ take (length old) bytes ++ drop (length bytes) old
