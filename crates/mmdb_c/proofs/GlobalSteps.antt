-- A block of the heap that has the target of a handle.
use mir.Syntax.{impl, tnil, dnil}
use mathlib.Core.List.{[]}
use denote.RattleType.{RattleType}
use Rattle.std.proofs.BoxSteps.Form.{Bx}
use Rattle.std.specs.contracts.alloc.Global as global
use Rattle.std.proofs.alloc.Global.TheLaws as global_laws
use Rattle.std.specs.contracts.impls.GlobalAllocator.TheImpl.{ghosts, dict}
use Rattle.mmdb_c.specs.contracts.library.Library as library
use Rattle.mmdb_c.specs.contracts.block.Block as block
use Rattle.mmdb_c.proofs.library.Library.TheLaws as library_laws

-- the heap, a block of it, and a box of it, as rows
abbrev pub Heap : RattleType
Heap = global.the_row

abbrev pub Held : RattleType
Held = block.the_row library.the_row Heap ghosts

abbrev pub Boxed : Bx
Boxed = record {
  row = library.the_row;
  laws = library_laws.the_row_laws;
  al = record { row = Heap; laws = global_laws.the_row_laws; g = ghosts; d = dict; drops = impl [] tnil dnil };
}
