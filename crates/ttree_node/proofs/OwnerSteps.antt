-- Shared steps of the proofs on `Owned`.
use mathlib.Core.Path.{◌≡◌, refl, sym, ap, subst}
use mathlib.Core.List.{List, [], ◌∷◌, ◌++◌}
use Prim.Native.Nat.{ℕ, ◌+◌}
use seplogic.Ra.Ura.{Ura}
use mir.Raw.{raw as bare}
use mir.Syntax.{Args, Dict, a_type, dcons, dnil}
use mir.Val.{Val, vptr, vstruct, vcons, vnil, of_list}
use base.Fraction.{full_share}
use base.Logic.{ent, sep, fst∗, never}
use base.Fml.{Lft, Fml, fsep}
use types.Logic.{Logic, sem}
use types.Kit.{Goal, Seq, Step, step, Item, ‵, ◌$◌, ◌∵◌, !, qed, move, keep, drop, rewrite, fsplit, fjoin, fpick, fpack, feq_l, feq_i, done}
use denote.RattleType.{RattleType, RowLaws, Valss}
use denote.Memory.{hidden_shr, part_at, part_of, mem, cell_at}
use denote.Opens.{shr_dup, unhide, hide}
use denote.Param.{bounded, param, layout}
use denote.Param.Laws.{Laws, param_laws}
use denote.RawPtr.{Ptr, RawPtr, ptr_row_laws, ptr_val, block_ptr, null_ptr, in_a_block}
use denote.Steps.{nothing}
use denote.SharingLaws.{beside_shr_laws}
use denote.Struct.Struct.{Struct, Struct-row_laws, within}
use denote.Struct.Lending.{lent_at, lent_at_shr_laws}
use denote.Struct.Owning.{shape}
use Rattle.std.specs.declared.alloc.Allocator.{Ghosts}
use Rattle.std.proofs.alloc.Calls.{Al, Fits, handle_tells}
use Rattle.ttree_node.specs.declared.owned.Owned.{Owned}
use Rattle.ttree_node.specs.Block.{block_owns}
use Rattle.ttree_node.specs.BlockLent.{with_value}
use Rattle.ttree_node.specs.contracts.owned.Owned as owner

-- the arguments of a call for the two type parameters
abbrev pub passed : RattleType → RattleType → Dict → Dict → Args
passed T A d dd = bounded (a_type ∷ a_type ∷ []) (T, (A, tt)) (dcons d (dcons dd dnil))

-- the arguments of a call that also drops the value
abbrev pub passed_with_drop : RattleType → RattleType → Dict → Dict → Dict → Args
passed_with_drop T A d dx dd = bounded (a_type ∷ a_type ∷ []) (T, (A, tt)) (dcons d (dcons dx (dcons dd dnil)))

module _ (T A : RattleType) (g : Ghosts A.Denot) where
  -- an owner as a row
  abbrev pub Owner : RattleType
  Owner = owner.the_row (param 0 T) (param 1 A) g

  -- its two fields as a row
  abbrev pub Fields : RattleType
  Fields = Struct (shape (owner.the_type (param 0 T) (param 1 A) g))

  module _ (L : Laws T) (K : Laws A) where
    fields_laws : RowLaws Fields
    fields_laws = Struct-row_laws (shape (owner.the_type (param 0 T) (param 1 A) g)) (ptr_row_laws, ((param_laws 1 A K).shr_laws, tt))

    -- the rights of a shared reference to an owner can be copied
    pub owner_laws : RowLaws Owner
    owner_laws o b at =
        beside_shr_laws (Fields.shr_at (o.at, (o.alloc, tt)) b at) (lent_at (param 0 T) o.at o.value)
        (fields_laws (o.at, (o.alloc, tt)) b at) (lent_at_shr_laws (param 0 T) (param_laws 0 T L).shr_laws o.at o.value)

    -- a shared reference to the fields shows one to the pointer
    pub shows_pointer : {M : Type 1} {𝓤 : Ura M} (𝓛 : Logic 𝓤) (κ : Lft) (b at : ℕ) (o : Owned T.Denot A.Denot)
        → ent 𝓤 (sem 𝓛 (hidden_shr Fields κ (o.at, (o.alloc, tt)) b at))
        (sep 𝓤 (sem 𝓛 (hidden_shr RawPtr κ o.at b (at + 0))) (sem 𝓛 (hidden_shr Fields κ (o.at, (o.alloc, tt)) b at)))
    shows_pointer 𝓛 κ b at o =
        qed 𝓛 (‵ (hidden_shr Fields κ (o.at, (o.alloc, tt)) b at) ∷ []) ∵
        shr_dup ! Fields fields_laws (o.at, (o.alloc, tt)) b at κ $ unhide ! $ fsplit ! $ fsplit ! $ hide ! $ keep ! (0 ∷ 3 ∷ []) $ done !

-- the machine value of an owner: its pointer, and its allocator
abbrev pub word : Val → ℕ → ℕ → Val
word h b at = vstruct (vcons (vptr b at) (vcons h vnil))

module _ (T A : RattleType) (g : Ghosts A.Denot) (K : Laws A) (d dd : Dict) where
  -- the allocator, with the assumptions of a statement on it
  abbrev pub allocator : Al
  allocator = record { row = A; laws = K; g = g; d = d; drops = dd }

  -- the right to free the block
  abbrev pub may_free : A.Denot → Ptr → Fml
  may_free a p = g.dealloc_token a (bare (layout T)) p

  module _ {M : Type 1} {𝓤 : Ura M} {𝓛 : Logic 𝓤} {J : Type 0} {Γ : List (Item 𝓤)} {G : Goal 𝓤 𝓛.H} where
    -- an owner, taken apart: the value in its block, the right to free the block, and what the allocator owns
    pub owner_out : J → (o : Owned T.Denot A.Denot) (vs : List Val)
        → ((b at : ℕ) (h : Val) → o.at ≡ block_ptr b at → vs ≡ word h b at ∷ [] → Fits allocator h
        → Seq J 𝓛 (‵ (part_at (param 0 T) full_share o.value b at) ∷ ‵ (may_free o.alloc (block_ptr b at)) ∷ ‵ ((param 1 A).own_val o.alloc (h ∷ [])) ∷ Γ) G)
        → Seq J 𝓛 (‵ ((Owner T A g).own_val o vs) ∷ Γ) G
    owner_out t o vs k =
        fsplit t $ fpick t (λ vss. fsplit t $ feq_l t
        (λ whole. fsplit t $ feq_l t (λ pointer. fsplit t $ handle_tells allocator t o.alloc vss.1.0
        (λ h handle fits. move t (1 ∷ []) $ drop t $ move t (1 ∷ []) $
        in_a_block t o.at (λ p. block_owns (g.dealloc_token o.alloc) (param 0 T) p o.value) (fst∗ 𝓤 (never 𝓤) (sem 𝓛 (may_free o.alloc null_ptr)))
        (λ b at e. fsplit t $
        let by_pointer = subst (λ (ps : List Val). vs ≡ vstruct (of_list (ps ++ (vss.1.0 ++ []))) ∷ []) pointer whole in
        let by_handle = subst (λ (hs : List Val). vs ≡ vstruct (of_list (ptr_val o.at ∷ (hs ++ []))) ∷ []) handle by_pointer in
        k b at h e (subst (λ (p : Ptr). vs ≡ vstruct (of_list (ptr_val p ∷ h ∷ [])) ∷ []) e by_handle) fits)))))

    -- the parts put together again, with any value in the block
    pub owner_in : J → {h : Val} (o : Owned T.Denot A.Denot) (b at : ℕ) → o.at ≡ block_ptr b at
        → Step J 𝓛 (‵ ((Owner T A g).own_val o (word h b at ∷ [])) ∷ Γ) G
        (‵ (part_at (param 0 T) full_share o.value b at) ∷ ‵ (may_free o.alloc (block_ptr b at)) ∷ ‵ ((param 1 A).own_val o.alloc (h ∷ [])) ∷ Γ) G
    owner_in t {h} o b at e = step (λ s.
        fjoin t $ rewrite t 0 (λ (p : Ptr). ‵ (block_owns (g.dealloc_token o.alloc) (param 0 T) p o.value)) (sym e) refl $
        nothing t $ move t (2 ∷ 0 ∷ []) $ fjoin t $ feq_i t (List Val) (vptr b at ∷ []) (ptr_val o.at ∷ [])
        (ap (λ (p : Ptr). ptr_val p ∷ []) (sym e)) $ fjoin t $
        feq_i t (List Val) (word h b at ∷ []) (word h b at ∷ []) refl $ fjoin t $
        fpack t (Valss (RawPtr ∷ param 1 A ∷ [])) (within (shape (owner.the_type (param 0 T) (param 1 A) g)) (o.at, (o.alloc, tt)) (word h b at ∷ []))
        (vptr b at ∷ [], (h ∷ [], tt)) $ fjoin t $ s)

  module _ (o : Owned T.Denot A.Denot) (h : Val) (b at rb ro : ℕ) where
    -- all parts of an owner at (rb, ro) except its value
    abbrev pub Shell : Fml
    Shell = fsep (fsep (may_free o.alloc (block_ptr b at)) ((param 1 A).own_val o.alloc (h ∷ [])))
        (cell_at full_share (Owner T A g).mir (word h b at ∷ []) rb ro)

    -- with any value, these parts are an owner of that value
    pub refilled : {M : Type 1} {𝓤 : Ura M} (𝓛 : Logic 𝓤) → o.at ≡ block_ptr b at → (w : T.Denot)
        → ent 𝓤 (sep 𝓤 (sem 𝓛 ((mem (param 0 T)).own_at w b at)) (sem 𝓛 Shell)) (sem 𝓛 ((mem (Owner T A g)).own_at (with_value o w) rb ro))
    unfolding part_of
    refilled 𝓛 e w =
        qed 𝓛 (‵ (part_at (param 0 T) full_share w b at) ∷ ‵ Shell ∷ []) ∵ move ! (1 ∷ []) $ fsplit ! $ fsplit ! $ move ! (3 ∷ 0 ∷ 1 ∷ []) $
        owner_in ! (with_value o w) b at e $ move ! (1 ∷ 0 ∷ []) $ fjoin ! $
        fpack ! (List Val) (λ us. fsep (cell_at full_share (Owner T A g).mir us rb ro) ((Owner T A g).own_val (with_value o w) us)) (word h b at ∷ []) $ done !
