-- Shared steps of the proofs on `MaybeOwned`.
use mathlib.Core.Path.{◌≡◌, refl, sym, ap, subst}
use mathlib.Core.List.{List, [], ◌∷◌, ◌++◌}
use Prim.Native.Nat.{ℕ, ◌+◌}
use seplogic.Ra.Ura.{Ura}
use lib.Dec.{T as IsTrue}
use mir.Syntax.{Dict}
use mir.Val.{Val, vptr, vstruct, of_list}
use base.Fraction.{full_share}
use base.Logic.{ent, sep, fst∗, never}
use base.Fml.{Lft, Fml, fsep, ftrue}
use types.Logic.{Logic, sem}
use types.Kit.{Goal, Seq, Step, step, Item, ‵, ◌$◌, ◌∵◌, !, qed, move, keep, drop, rewrite, fsplit, fjoin, fpick, fpack, feq_l, feq_i, done}
use denote.RattleType.{RattleType, RowLaws, Valss}
use denote.Memory.{hidden_shr, part_at, part_of, mem, cell_at}
use denote.Opens.{shr_dup, unhide, hide}
use denote.Param.{param}
use denote.Param.Laws.{Laws, param_laws}
use denote.RawPtr.{Ptr, RawPtr, ptr_row_laws, ptr_val, block_ptr, null_ptr, in_a_block}
use denote.Sharing.{ShrLaws}
use denote.SharingLaws.{said_shr_laws, beside_shr_laws}
use denote.Steps.{nothing}
use denote.Struct.Struct.{Struct, Struct-row_laws, within}
use denote.Struct.Lending.{lent_at_shr_laws}
use denote.Struct.Owning.{shape}
use Rattle.std.specs.Prelude.{Option, None, Some, IsSome}
use Rattle.std.specs.declared.alloc.Allocator.{Ghosts}
use Rattle.std.proofs.alloc.Calls.{Fits, handle_tells}
use Rattle.ttree_node.specs.declared.owned.MaybeOwned.{MaybeOwned}
use Rattle.ttree_node.specs.Block.{block_owns, maybe_owns, maybe_lends}
use Rattle.ttree_node.specs.BlockLent.{with_some}
use Rattle.ttree_node.specs.contracts.owned.MaybeOwned as owner
use Rattle.ttree_node.proofs.OwnerSteps.{word, may_free, allocator}

-- the rights of a shared reference to the value can be copied
abbrev pub maybe_shr_laws : (T : RattleType) → RowLaws T → (p : Ptr) (x : Option T.Denot) → ShrLaws (maybe_lends T p x)
maybe_shr_laws T L p None = said_shr_laws ftrue tt
maybe_shr_laws T L p (Some d) = lent_at_shr_laws T L p d

-- the value, which exists
pub value_of : {X : Type 0} (x : Option X) → IsSome x → (d : X) × (x ≡ Some d)
value_of None there = absurd (subst IsTrue (sym there) tt)
value_of (Some d) there = (d, refl)

module _ (T A : RattleType) (g : Ghosts A.Denot) where
  -- a `MaybeOwned` as a row
  abbrev pub Maybe : RattleType
  Maybe = owner.the_row (param 0 T) (param 1 A) g

  -- its two fields as a row
  abbrev pub Fields : RattleType
  Fields = Struct (shape (owner.the_type (param 0 T) (param 1 A) g))

  module _ (L : Laws T) (K : Laws A) where
    fields_laws : RowLaws Fields
    fields_laws = Struct-row_laws (shape (owner.the_type (param 0 T) (param 1 A) g)) (ptr_row_laws, ((param_laws 1 A K).shr_laws, tt))

    -- the rights of a shared reference to a `MaybeOwned` can be copied
    pub maybe_laws : RowLaws Maybe
    maybe_laws o b at =
        beside_shr_laws (Fields.shr_at (o.at, (o.alloc, tt)) b at) (maybe_lends (param 0 T) o.at o.value)
        (fields_laws (o.at, (o.alloc, tt)) b at) (maybe_shr_laws (param 0 T) (param_laws 0 T L).shr_laws o.at o.value)

    -- a shared reference to the fields shows one to the pointer
    pub shows_pointer : {M : Type 1} {𝓤 : Ura M} (𝓛 : Logic 𝓤) (κ : Lft) (b at : ℕ) (o : MaybeOwned T.Denot A.Denot)
        → ent 𝓤 (sem 𝓛 (hidden_shr Fields κ (o.at, (o.alloc, tt)) b at))
        (sep 𝓤 (sem 𝓛 (hidden_shr RawPtr κ o.at b (at + 0))) (sem 𝓛 (hidden_shr Fields κ (o.at, (o.alloc, tt)) b at)))
    shows_pointer 𝓛 κ b at o =
        qed 𝓛 (‵ (hidden_shr Fields κ (o.at, (o.alloc, tt)) b at) ∷ []) ∵
        shr_dup ! Fields fields_laws (o.at, (o.alloc, tt)) b at κ $ unhide ! $ fsplit ! $ fsplit ! $ hide ! $ keep ! (0 ∷ 3 ∷ []) $ done !

module _ (T A : RattleType) (g : Ghosts A.Denot) (K : Laws A) (d dd : Dict) where
  module _ {M : Type 1} {𝓤 : Ura M} {𝓛 : Logic 𝓤} {J : Type 0} {Γ : List (Item 𝓤)} {G : Goal 𝓤 𝓛.H} where
    -- a `MaybeOwned` with a value, taken apart: the value in its block, the right to free the block, and what the allocator owns
    pub maybe_out : J → (o : MaybeOwned T.Denot A.Denot) (x : T.Denot) → o.value ≡ Some x → (vs : List Val)
        → ((b at : ℕ) (h : Val) → o.at ≡ block_ptr b at → vs ≡ word h b at ∷ [] → Fits (allocator T A g K d dd) h
        → Seq J 𝓛 (‵ (part_at (param 0 T) full_share x b at) ∷ ‵ (may_free T A g K d dd o.alloc (block_ptr b at)) ∷ ‵
        ((param 1 A).own_val o.alloc (h ∷ [])) ∷ Γ) G)
        → Seq J 𝓛 (‵ ((Maybe T A g).own_val o vs) ∷ Γ) G
    maybe_out t o x is vs k =
        fsplit t $ fpick t (λ vss. fsplit t $ feq_l t
        (λ whole. fsplit t $ feq_l t (λ pointer. fsplit t $ handle_tells (allocator T A g K d dd) t o.alloc vss.1.0
        (λ h handle fits. move t (1 ∷ []) $ drop t $ move t (1 ∷ []) $
        rewrite t 0 (λ (y : Option T.Denot). ‵ (maybe_owns (g.dealloc_token o.alloc) (param 0 T) o.at y)) is refl $
        in_a_block t o.at (λ p. block_owns (g.dealloc_token o.alloc) (param 0 T) p x) (fst∗ 𝓤 (never 𝓤) (sem 𝓛 (may_free T A g K d dd o.alloc null_ptr)))
        (λ b at e. fsplit t $
        let by_pointer = subst (λ (ps : List Val). vs ≡ vstruct (of_list (ps ++ (vss.1.0 ++ []))) ∷ []) pointer whole in
        let by_handle = subst (λ (hs : List Val). vs ≡ vstruct (of_list (ptr_val o.at ∷ (hs ++ []))) ∷ []) handle by_pointer in
        k b at h e (subst (λ (p : Ptr). vs ≡ vstruct (of_list (ptr_val p ∷ h ∷ [])) ∷ []) e by_handle) fits)))))

    -- the parts put together again, with any value in the block
    pub maybe_in : J → {h : Val} (o : MaybeOwned T.Denot A.Denot) (x : T.Denot) (b at : ℕ) → o.at ≡ block_ptr b at
        → Step J 𝓛 (‵ ((Maybe T A g).own_val (with_some o x) (word h b at ∷ [])) ∷ Γ) G
        (‵ (part_at (param 0 T) full_share x b at) ∷ ‵ (may_free T A g K d dd o.alloc (block_ptr b at)) ∷ ‵ ((param 1 A).own_val o.alloc (h ∷ [])) ∷ Γ) G
    maybe_in t {h} o x b at e = step (λ s.
        fjoin t $ rewrite t 0 (λ (p : Ptr). ‵ (block_owns (g.dealloc_token o.alloc) (param 0 T) p x)) (sym e) refl $
        nothing t $ move t (2 ∷ 0 ∷ []) $ fjoin t $ feq_i t (List Val) (vptr b at ∷ []) (ptr_val o.at ∷ [])
        (ap (λ (p : Ptr). ptr_val p ∷ []) (sym e)) $ fjoin t $
        feq_i t (List Val) (word h b at ∷ []) (word h b at ∷ []) refl $ fjoin t $
        fpack t (Valss (RawPtr ∷ param 1 A ∷ [])) (within (shape (owner.the_type (param 0 T) (param 1 A) g)) (o.at, (o.alloc, tt)) (word h b at ∷ []))
        (vptr b at ∷ [], (h ∷ [], tt)) $ fjoin t $ s)

  module _ (o : MaybeOwned T.Denot A.Denot) (h : Val) (b at rb ro : ℕ) where
    -- all parts of a `MaybeOwned` at (rb, ro) except its value
    abbrev pub Shell : Fml
    Shell = fsep (fsep (may_free T A g K d dd o.alloc (block_ptr b at)) ((param 1 A).own_val o.alloc (h ∷ [])))
        (cell_at full_share (Maybe T A g).mir (word h b at ∷ []) rb ro)

    -- with any value, these parts are a `MaybeOwned` with that value
    pub refilled : {M : Type 1} {𝓤 : Ura M} (𝓛 : Logic 𝓤) → o.at ≡ block_ptr b at → (w : T.Denot)
        → ent 𝓤 (sep 𝓤 (sem 𝓛 ((mem (param 0 T)).own_at w b at)) (sem 𝓛 Shell)) (sem 𝓛 ((mem (Maybe T A g)).own_at (with_some o w) rb ro))
    unfolding part_of
    refilled 𝓛 e w =
        qed 𝓛 (‵ (part_at (param 0 T) full_share w b at) ∷ ‵ Shell ∷ []) ∵ move ! (1 ∷ []) $ fsplit ! $ fsplit ! $ move ! (3 ∷ 0 ∷ 1 ∷ []) $
        maybe_in ! o w b at e $ move ! (1 ∷ 0 ∷ []) $ fjoin ! $
        fpack ! (List Val) (λ us. fsep (cell_at full_share (Maybe T A g).mir us rb ro) ((Maybe T A g).own_val (with_some o w) us)) (word h b at ∷ []) $ done !
