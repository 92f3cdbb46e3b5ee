-- A borrow of an owner shares its value too.
use mathlib.Core.List.{[], ◌++◌}
use mir.Raw.{raw}
use base.Fraction.{full_share}
use base.Fml.{Incl-trans}
use contract.BorrowLft.{meet_⊑_left}
use denote.RattleType.{RattleType}
use denote.Memory.{lone}
use denote.RawPtr.{lies_at}
use denote.Shares.{Shares-less}
use denote.Param.Laws.{Laws, row_shared}
use denote.Param.Shared.{copy_shared}
use denote.Struct.Field.{RawPtr-field}
use denote.Struct.Laws.{RawPtr-copy}
use denote.Struct.Lending.{lent_at, lent_at_shr_laws, Lends-lies, Lends-first, of_Lends}
use Rattle.std.specs.declared.alloc.Allocator.{Ghosts}
use Rattle.ttree_node.specs.contracts.owned.Owned as owner
use Rattle.ttree_node.proofs.owned.Owned.TheLaw.Statement.{statement}

pub shares : (T A : RattleType) (g : Ghosts A.Denot) (L : Laws T) (K : Laws A) → statement T A g L K
shares T A g L K =
    let both = T.lives ++ (A.lives ++ []) in
    let whole = (owner.the_row T A g).lives in
    of_Lends (owner.struct T A g) (owner.the_codes T.Denot A.Denot T.coded A.coded) (owner.the_heap T A g) (owner.the_lent T A g)
    (λ o p. lent_at_shr_laws T L.shr_laws o.at o.value) (copy_shared RawPtr-field RawPtr-copy, (row_shared A K, tt))
    (λ M 𝓤 𝓛 o p.
    let shorter = Incl-trans (meet_⊑_left both _) (meet_⊑_left T.lives (A.lives ++ [])) in
    Lends-first 𝓛 (lies_at T full_share o.at o.value) (g.dealloc_token o.alloc (raw (lone T.mir)) o.at) (lent_at T o.at o.value) whole
    (Lends-lies 𝓛 T whole o.at o.value (Shares-less 𝓛 T T.lives whole shorter (L.shares 𝓛) o.value)))
