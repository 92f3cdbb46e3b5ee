-- The ownership of an allocation, and of a shared reference to it.
use mir.Syntax.{Ty}
use mir.Raw.{raw}
use base.Fml.{Fml, Lft, fsep, ftrue}
use base.Fraction.{full_share}
use denote.RattleType.{RattleType}
use denote.Memory.{lone}
use denote.RawPtr.{Ptr, lies_at}
use denote.Struct.Lending.{lent_at}
use Rattle.std.specs.Prelude.{Option, None, Some}

-- the value x of type R at p, and the right to free its block
abbrev pub block_owns : (Ty → Ptr → Fml) → (R : RattleType) → Ptr → R.Denot → Fml
block_owns may_free R p x = fsep (lies_at R full_share p x) (may_free (raw (lone R.mir)) p)

-- a shared reference to the value x of type R at p
abbrev pub block_lends : (R : RattleType) → Ptr → R.Denot → Lft → Fml
block_lends R p x κ = lent_at R p x κ

-- the same for a value that may be missing: then p is any pointer
abbrev pub maybe_owns : (Ty → Ptr → Fml) → (R : RattleType) → Ptr → Option R.Denot → Fml
maybe_owns may_free R p None = ftrue
maybe_owns may_free R p (Some x) = block_owns may_free R p x

-- a shared reference to a value that may be missing
abbrev pub maybe_lends : (R : RattleType) → Ptr → Option R.Denot → Lft → Fml
maybe_lends R p None κ = ftrue
maybe_lends R p (Some x) κ = block_lends R p x κ
