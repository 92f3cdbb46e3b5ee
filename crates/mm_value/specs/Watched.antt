-- Watched devices: the device itself, and whether its last call failed.
use Rattle.std.specs.Prelude.{Bool}
use Rattle.mm_value.specs.declared.device.Watched.{Watched}

-- The device itself.
abbrev pub inner_of : {T : Type 0} → Watched T → T
inner_of watched = watched.inner

-- Whether its last call failed: returned an error, or accepted 0 of some bytes.
abbrev pub has_failed : {T : Type 0} → Watched T → Bool
has_failed watched = watched.failed
