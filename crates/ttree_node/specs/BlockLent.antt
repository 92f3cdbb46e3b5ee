-- An owner after a mutable borrow of its value.
use base.Fml.{Fml}
use denote.RattleType.{RattleType}
use Rattle.std.specs.Borrow.{MutBor, follows}
use Rattle.std.specs.declared.alloc.Allocator.{Ghosts}
use Rattle.std.specs.Prelude.{Some}
use Rattle.ttree_node.specs.declared.owned.Owned.{Owned}
use Rattle.ttree_node.specs.declared.owned.MaybeOwned.{MaybeOwned}
use Rattle.ttree_node.specs.contracts.owned.Owned.{the_row}
use Rattle.ttree_node.specs.contracts.owned.MaybeOwned as maybe

-- the owner o with the value w
abbrev pub with_value : {X Z : Type 0} → Owned X Z → X → Owned X Z
with_value o w = record { at = o.at; alloc = o.alloc; value = w }

-- after the borrow r ends, the owner has the value that was last written through r
abbrev pub owner_follows : (R Z : RattleType) (g : Ghosts Z.Denot) → MutBor (Owned R.Denot Z.Denot) → MutBor R.Denot → Fml
owner_follows R Z g o r = follows (the_row R Z g) R o.ghost_name r.ghost_name (with_value o.now)

-- the owner o, perhaps without a value, with the value w
abbrev pub with_some : {X Z : Type 0} → MaybeOwned X Z → X → MaybeOwned X Z
with_some o w = record { at = o.at; alloc = o.alloc; value = Some w }

-- the same for an owner that may have no value
abbrev pub maybe_follows : (R Z : RattleType) (g : Ghosts Z.Denot) → MutBor (MaybeOwned R.Denot Z.Denot) → MutBor R.Denot → Fml
maybe_follows R Z g o r = follows (maybe.the_row R Z g) R o.ghost_name r.ghost_name (with_some o.now)
