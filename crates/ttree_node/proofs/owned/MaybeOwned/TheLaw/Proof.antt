-- A borrow of a `MaybeOwned` shares its value too.
use mathlib.Core.List.{[], ◌++◌}
use mir.Syntax.{Ty}
use mir.Raw.{raw}
use seplogic.Ra.Ura.{Ura}
use base.Fraction.{full_share}
use base.Fml.{Fml, Lft, Incl-trans, ftrue}
use contract.BorrowLft.{meet_⊑_left}
use types.Logic.{Logic}
use denote.RattleType.{RattleType}
use denote.Memory.{lone, shared_of}
use denote.RawPtr.{Ptr, lies_at}
use denote.Shares.{SharesAt, Shares-less}
use denote.Param.Laws.{Laws, row_shared}
use denote.Param.Shared.{copy_shared}
use denote.Struct.Field.{RawPtr-field}
use denote.Struct.Laws.{RawPtr-copy}
use denote.Struct.Lending.{Lends, lent_at, Lends-lies, Lends-first, Lends-nothing, of_Lends}
use Rattle.std.specs.Prelude.{Option, None, Some}
use Rattle.std.specs.declared.alloc.Allocator.{Ghosts}
use Rattle.ttree_node.specs.Block.{maybe_owns, maybe_lends}
use Rattle.ttree_node.specs.contracts.owned.MaybeOwned as owner
use Rattle.ttree_node.proofs.owned.MaybeOwned.TheLaw.Statement.{statement}
use Rattle.ttree_node.proofs.MaybeOwnerSteps.{maybe_shr_laws}

maybe_Lends : {M : Type 1} {𝓤 : Ura M} (𝓛 : Logic 𝓤) (f : Ty → Ptr → Fml) (T : RattleType) (l : Lft) (p : Ptr) (x : Option T.Denot)
    → ((d : T.Denot) → SharesAt 𝓛 T d (shared_of T d) l) → Lends 𝓛 (maybe_owns f T p x) (maybe_lends T p x) l
maybe_Lends 𝓛 f T l p None shares = Lends-nothing 𝓛 ftrue l
maybe_Lends 𝓛 f T l p (Some d) shares =
    Lends-first 𝓛 (lies_at T full_share p d) (f (raw (lone T.mir)) p) (lent_at T p d) l (Lends-lies 𝓛 T l p d (shares d))

pub shares : (T A : RattleType) (g : Ghosts A.Denot) (L : Laws T) (K : Laws A) → statement T A g L K
shares T A g L K =
    let both = T.lives ++ (A.lives ++ []) in
    let whole = (owner.the_row T A g).lives in
    of_Lends (owner.struct T A g) (owner.the_codes T.Denot A.Denot T.coded A.coded) (owner.the_heap T A g) (owner.the_lent T A g)
    (λ o p. maybe_shr_laws T L.shr_laws o.at o.value) (copy_shared RawPtr-field RawPtr-copy, (row_shared A K, tt))
    (λ M 𝓤 𝓛 o p.
    let shorter = Incl-trans (meet_⊑_left both _) (meet_⊑_left T.lives (A.lives ++ [])) in
    maybe_Lends 𝓛 (g.dealloc_token o.alloc) T whole o.at o.value (Shares-less 𝓛 T T.lives whole shorter (L.shares 𝓛)))
