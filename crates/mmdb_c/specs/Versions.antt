-- The version of the library.
use Rattle.std.specs.Prelude.{ℕ}

-- Version 1.1.0: the major version times 1000000, the minor version times 1000, and the patch.
abbrev pub version : ℕ
version = 1001000
