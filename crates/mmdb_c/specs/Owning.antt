-- The ownership of a block and a handle.
use mir.Syntax.{Ty}
use mir.Raw.{raw}
use base.Fml.{Fml, fsep, ftrue}
use base.Fraction.{full_share}
use denote.RattleType.{RattleType}
use denote.Memory.{lone}
use denote.RawPtr.{Ptr, lies_at}
use Rattle.std.specs.Prelude.{Bool, cond}
use Rattle.std.specs.declared.alloc.Global.{Global}
use Rattle.std.specs.contracts.impls.GlobalAllocator.TheImpl.{ghosts}

-- The value x of type R is at p, and its block may be freed.
abbrev pub block_owns : (Ty → Ptr → Fml) → (R : RattleType) → Ptr → R.Denot → Fml
block_owns may_free R p x = fsep (lies_at R full_share p x) (may_free (raw (lone R.mir)) p)

-- An open handle owns its block on the heap, and a closed handle owns nothing.
abbrev pub handle_owns : Global → (R : RattleType) → Bool → Ptr → R.Denot → Fml
handle_owns heap R is_open p x = cond is_open (block_owns (ghosts.dealloc_token heap) R p x) ftrue
