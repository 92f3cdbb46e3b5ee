-- Parts shared by the proofs about a block.
use mathlib.Core.Path.{◌≡◌, refl, sym, ap, subst}
use mathlib.Core.List.{List, [], ◌∷◌, ◌++◌}
use Prim.Native.Nat.{ℕ}
use seplogic.Ra.Ura.{Ura}
use mir.Raw.{raw as bare}
use mir.Syntax.{Args, Dict, a_type, dcons, dnil}
use mir.Val.{Val, vptr, vstruct, vcons, vnil, of_list}
use base.Fraction.{full_share}
use base.Logic.{fst∗, never}
use base.Fml.{Fml}
use types.Logic.{Logic, sem}
use types.Kit.{Goal, Seq, Step, step, Item, ‵, ◌$◌, move, drop, rewrite, fsplit, fjoin, fpack, fpick, feq_l, feq_i}
use denote.RattleType.{RattleType, Valss}
use denote.Memory.{part_at}
use denote.Param.{bounded, param, layout}
use denote.Param.Laws.{Laws}
use denote.RawPtr.{Ptr, RawPtr, ptr_val, block_ptr, null_ptr, in_a_block}
use denote.Steps.{nothing}
use denote.Struct.Struct.{within}
use denote.Struct.Owning.{shape}
use Rattle.std.specs.declared.alloc.Allocator.{Ghosts}
use Rattle.std.proofs.alloc.Calls.{Al, Fits, handle_tells}
use Rattle.mmdb_c.specs.declared.block.Block.{Block}
use Rattle.mmdb_c.specs.Owning.{block_owns}
use Rattle.mmdb_c.specs.contracts.block.Block as block

-- the arguments of a call for the two type parameters, the first of which can be dropped
abbrev pub passed : RattleType → RattleType → Dict → Dict → Dict → Args
passed T A d dx dd = bounded (a_type ∷ a_type ∷ []) (T, (A, tt)) (dcons d (dcons dx (dcons dd dnil)))

-- the machine value of a block: its pointer, and its allocator's
abbrev pub word : Val → ℕ → ℕ → Val
word h b at = vstruct (vcons (vptr b at) (vcons h vnil))

-- a block as a row
abbrev pub Kept : (T A : RattleType) → Ghosts A.Denot → RattleType
Kept T A g = block.the_row (param 0 T) (param 1 A) g

module _ (T A : RattleType) (g : Ghosts A.Denot) (K : Laws A) (d dd : Dict) where
  -- the allocator, with the assumptions of a statement about it
  abbrev pub allocator : Al
  allocator = record { row = A; laws = K; g = g; d = d; drops = dd }

  -- the right to free the memory at p
  abbrev pub may_free : A.Denot → Ptr → Fml
  may_free a p = g.dealloc_token a (bare (layout T)) p

  module _ {M : Type 1} {𝓤 : Ura M} {𝓛 : Logic 𝓤} {J : Type 0} {Γ : List (Item 𝓤)} {G : Goal 𝓤 𝓛.H} where
    -- a block taken apart: the value in it, the right to free it, and the allocator's resources
    pub block_out : J → (o : Block T.Denot A.Denot) (vs : List Val)
        → ((b at : ℕ) (h : Val) → o.at ≡ block_ptr b at → vs ≡ word h b at ∷ [] → Fits allocator h
        → Seq J 𝓛 (‵ (part_at (param 0 T) full_share o.value b at) ∷ ‵ (may_free o.alloc (block_ptr b at)) ∷ ‵ ((param 1 A).own_val o.alloc (h ∷ [])) ∷ Γ) G)
        → Seq J 𝓛 (‵ ((Kept T A g).own_val o vs) ∷ Γ) G
    block_out t o vs k =
        fsplit t $ fpick t (λ vss. fsplit t $ feq_l t
        (λ whole. fsplit t $ feq_l t (λ pointer. fsplit t $ handle_tells allocator t o.alloc vss.1.0
        (λ h handle fits. move t (1 ∷ []) $ drop t $ move t (1 ∷ []) $
        in_a_block t o.at (λ p. block_owns (g.dealloc_token o.alloc) (param 0 T) p o.value) (fst∗ 𝓤 (never 𝓤) (sem 𝓛 (may_free o.alloc null_ptr)))
        (λ b at e. fsplit t $
        let by_pointer = subst (λ (ps : List Val). vs ≡ vstruct (of_list (ps ++ (vss.1.0 ++ []))) ∷ []) pointer whole in
        let by_handle = subst (λ (hs : List Val). vs ≡ vstruct (of_list (ptr_val o.at ∷ (hs ++ []))) ∷ []) handle by_pointer in
        k b at h e (subst (λ (p : Ptr). vs ≡ vstruct (of_list (ptr_val p ∷ h ∷ [])) ∷ []) e by_handle) fits)))))

    -- and put together again
    pub block_in : J → {h : Val} (o : Block T.Denot A.Denot) (b at : ℕ) → o.at ≡ block_ptr b at
        → Step J 𝓛 (‵ ((Kept T A g).own_val o (word h b at ∷ [])) ∷ Γ) G
        (‵ (part_at (param 0 T) full_share o.value b at) ∷ ‵ (may_free o.alloc (block_ptr b at)) ∷ ‵ ((param 1 A).own_val o.alloc (h ∷ [])) ∷ Γ) G
    block_in t {h} o b at e = step (λ s.
        fjoin t $ rewrite t 0 (λ (p : Ptr). ‵ (block_owns (g.dealloc_token o.alloc) (param 0 T) p o.value)) (sym e) refl $
        nothing t $ move t (2 ∷ 0 ∷ []) $ fjoin t $ feq_i t (List Val) (vptr b at ∷ []) (ptr_val o.at ∷ [])
        (ap (λ (p : Ptr). ptr_val p ∷ []) (sym e)) $ fjoin t $
        feq_i t (List Val) (word h b at ∷ []) (word h b at ∷ []) refl $ fjoin t $
        fpack t (Valss (RawPtr ∷ param 1 A ∷ [])) (within (shape (block.the_type (param 0 T) (param 1 A) g)) (o.at, (o.alloc, tt)) (word h b at ∷ []))
        (vptr b at ∷ [], (h ∷ [], tt)) $ fjoin t $ s)
