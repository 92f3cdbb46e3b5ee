-- Parts shared by the proofs about a handle.
use mathlib.Core.Path.{◌≡◌, refl, sym, ap, ◌∙◌}
use mathlib.Core.List.{List, [], ◌∷◌, ◌++◌}
use Prim.Native.Nat.{ℕ}
use seplogic.Ra.Ura.{Ura}
use mir.Raw.{raw as bare}
use mir.Val.{Val, vbool, vstruct, vcons, vnil, of_list}
use base.Fraction.{full_share}
use base.Logic.{ent, fst∗, never, sep}
use base.Fml.{Fml, fsep}
use types.Logic.{Logic, sem}
use types.Kit.{Goal, Seq, Step, step, Item, ‵, ◌$◌, ◌∵◌, !, qed, move, drop, rewrite, fsplit, fjoin, fpick, fpack, feq_l, feq_i, done}
use denote.RattleType.{RattleType, Valss}
use denote.Builtin.{bool}
use denote.Memory.{lone, part_at, part_of, mem, cell_at}
use denote.RawPtr.{Ptr, RawPtr, ptr_val, block_ptr, null_ptr, in_a_block}
use denote.Steps.{nothing}
use denote.Struct.Struct.{within}
use denote.Struct.Owning.{shape}
use Rattle.std.specs.Prelude.{Bool, true}
use Rattle.std.specs.declared.alloc.Global.{Global}
use Rattle.std.specs.contracts.impls.GlobalAllocator.TheImpl.{ghosts}
use Rattle.mm_session.specs.Session.{SessionState}
use Rattle.mmdb_c.specs.Owning.{block_owns, handle_owns}
use Rattle.mmdb_c.specs.Lent.{with_value}
use Rattle.mmdb_c.specs.declared.handle.Handle.{Handle}
use Rattle.mmdb_c.specs.contracts.handle.Handle as handle
use Rattle.mmdb_c.specs.contracts.library.Library as library

-- a handle, and the content of its block, as rows
abbrev pub H : RattleType
H = handle.the_row

abbrev pub L : RattleType
L = library.the_row

-- the right to free the block at p
abbrev pub may_free : Global → Ptr → Fml
may_free heap p = ghosts.dealloc_token heap (bare (lone L.mir)) p

-- the machine value of a handle: its pointer, and whether it is opened
abbrev pub word : Bool → Ptr → Val
word is_open p = vstruct (vcons (ptr_val p) (vcons (vbool is_open) vnil))

module _ {M : Type 1} {𝓤 : Ura M} {𝓛 : Logic 𝓤} {J : Type 0} {Γ : List (Item 𝓤)} {G : Goal 𝓤 𝓛.H} where
  -- a handle taken apart: its resources
  pub handle_out : J → (h : Handle) (vs : List Val)
      → (vs ≡ word h.is_open h.at ∷ [] → Seq J 𝓛 (‵ (handle_owns h.heap L h.is_open h.at h.value) ∷ Γ) G)
      → Seq J 𝓛 (‵ (H.own_val h vs) ∷ Γ) G
  handle_out t h vs k =
      fsplit t $ fpick t (λ vss. fsplit t $ feq_l t (λ whole. fsplit t $ feq_l t (λ pointer. fsplit t $ feq_l t (λ flag. drop t $
      k (whole ∙ ap (λ (ps : List Val). vstruct (of_list (ps ++ (vss.1.0 ++ []))) ∷ []) pointer
      ∙ ap (λ (ts : List Val). vstruct (of_list (ptr_val h.at ∷ (ts ++ []))) ∷ []) flag)))))

  -- and put together again
  pub handle_in : J → (h : Handle)
      → Step J 𝓛 (‵ (H.own_val h (word h.is_open h.at ∷ [])) ∷ Γ) G (‵ (handle_owns h.heap L h.is_open h.at h.value) ∷ Γ) G
  handle_in t h = step (λ s.
      nothing t $ feq_i t (List Val) (vbool h.is_open ∷ []) (vbool h.is_open ∷ []) refl $ fjoin t $
      feq_i t (List Val) (ptr_val h.at ∷ []) (ptr_val h.at ∷ []) refl $ fjoin t $
      feq_i t (List Val) (word h.is_open h.at ∷ []) (word h.is_open h.at ∷ []) refl $ fjoin t $
      fpack t (Valss (RawPtr ∷ bool ∷ [])) (within (shape handle.the_type) (h.at, (h.is_open, tt)) (word h.is_open h.at ∷ []))
      (ptr_val h.at ∷ [], (vbool h.is_open ∷ [], tt)) $ fjoin t $ s)

  -- the resources of an open handle: the value in its block, and the right to free that
  pub block_out : J → (h : Handle) → h.is_open ≡ true
      → ((b at : ℕ) → h.at ≡ block_ptr b at → Seq J 𝓛 (‵ (part_at L full_share h.value b at) ∷ ‵ (may_free h.heap (block_ptr b at)) ∷ Γ) G)
      → Seq J 𝓛 (‵ (handle_owns h.heap L h.is_open h.at h.value) ∷ Γ) G
  block_out t h opened k =
      rewrite t 0 (λ (y : Bool). ‵ (handle_owns h.heap L y h.at h.value)) opened refl $
      in_a_block t h.at (λ p. block_owns (ghosts.dealloc_token h.heap) L p h.value) (fst∗ 𝓤 (never 𝓤) (sem 𝓛 (may_free h.heap null_ptr)))
      (λ b at e. fsplit t $ k b at e)

  pub block_in : J → (h : Handle) (b at : ℕ) → h.is_open ≡ true → h.at ≡ block_ptr b at
      → Step J 𝓛 (‵ (handle_owns h.heap L h.is_open h.at h.value) ∷ Γ) G (‵ (part_at L full_share h.value b at) ∷ ‵ (may_free h.heap (block_ptr b at)) ∷ Γ) G
  block_in t h b at opened e = step (λ s.
      fjoin t $ rewrite t 0 (λ (p : Ptr). ‵ (block_owns (ghosts.dealloc_token h.heap) L p h.value)) (sym e) refl $
      rewrite t 0 (λ (y : Bool). ‵ (handle_owns h.heap L y h.at h.value)) (sym opened) refl $ s)

module _ (h : Handle) (b at rb ro : ℕ) where
  -- all of an open handle that lies at (rb, ro) but its value
  abbrev pub Shell : Fml
  Shell = fsep (may_free h.heap (block_ptr b at)) (cell_at full_share H.mir (word h.is_open h.at ∷ []) rb ro)

  -- with any value it is a handle of that value
  pub refilled : {M : Type 1} {𝓤 : Ura M} (𝓛 : Logic 𝓤) → h.is_open ≡ true → h.at ≡ block_ptr b at → (w : SessionState)
      → ent 𝓤 (sep 𝓤 (sem 𝓛 ((mem L).own_at w b at)) (sem 𝓛 Shell)) (sem 𝓛 ((mem H).own_at (with_value h w) rb ro))
  unfolding part_of
  refilled 𝓛 opened e w =
      qed 𝓛 (‵ (part_at L full_share w b at) ∷ ‵ Shell ∷ []) ∵ move ! (1 ∷ []) $ fsplit ! $ move ! (2 ∷ 0 ∷ []) $
      block_in ! (with_value h w) b at opened e $ handle_in ! (with_value h w) $ move ! (1 ∷ 0 ∷ []) $ fjoin ! $
      fpack ! (List Val) (λ us. fsep (cell_at full_share H.mir us rb ro) (H.own_val (with_value h w) us)) (word h.is_open h.at ∷ []) $ done !
