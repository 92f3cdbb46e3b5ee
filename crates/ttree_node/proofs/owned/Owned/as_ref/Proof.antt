-- The value is read through the pointer.
use mathlib.Core.Path.{refl}
use Prim.Native.Nat.{◌+◌}
use mathlib.Core.List.{List, [], ◌∷◌}
use mir.Syntax.{named}
use mir.Val.{Val, vptr}
use mir.MapTy.{inst_fn}
use base.Logic.{SProp}
use base.Fml.{ftrue, fhide, flft}
use types.Kit.{‵, raw, ◌⊛◌, at_ret, ◌$◌, ◌∵◌, !, qed, move, keep, drop, use1, split, join, fsplit, fjoin, feq_i, suffices, frame, done}
use types.Run.{enter, addr, look, stop, hop, fld, of_opd, first, blocks, exec, returns}
use types.ByLocal.{alloc_all, pass_all, free_all, look_at, get, through, sets, sets_last, env}
use contract.Monad.{fact}
use contract.Running.{tables}
use denote.Exit.{yes}
use denote.RattleType.{owns}
use denote.Memory.{hidden_shr}
use denote.Opens.{shr_dup, unhide, hide}
use denote.Param.{param}
use denote.RawPtr.{InBlock, block_of, count_of}
use denote.Ref.{ShrRef, shr_vals, shr_Tells}
use denote.Signature.{plain}
use denote.Steps.{heard, nothing}
use denote.Struct.Lending.{in_block_says, lent_out}
use denote.Triple.Walked.{Stays, stay_none_ref, walk_of, says, ends_at, Goes-none_ref}
use Rattle.std.proofs.raw_atomic.Walks.{proved}
use Rattle.std.proofs.VecSteps.Shapes.{after}
use Rattle.std.proofs.Words.{pointer_in, pointer_out}
use Rattle.ttree_node.specs.contracts.owned.Owned as owner
use Rattle.ttree_node.specs.contracts.owned.Owned.as_ref as f
use Rattle.ttree_node.specs.contracts.owned.Owned.as_ref.Key.{name as #self}
use Rattle.ttree_node.proofs.owned.Owned.as_ref.Statement.{statement}
use Rattle.ttree_node.proofs.owned.Owned.as_ref.Code as code
use Rattle.ttree_node.proofs.OwnerSteps.{passed, Owner, Fields, owner_laws, shows_pointer}

pub as_ref_spec : {M : Type 1} → statement M
as_ref_spec 𝓤 𝓛 𝓜 𝓡 wired T A L K g d dd met glue =
    let 𝓣 = tables 𝓤 𝓛.H 𝓜 𝓡 𝓡.env in
    let O = Owner T A g in
    let R = param 0 T in
    let En = f.ended T A g d dd in
    let c = f.clauses T A g d dd 𝓛 𝓜.mem 𝓡.returns in
    let fn = inst_fn (passed T A d dd) code.function in
    let hs : Stays En.signature.params En.kept = (stay_none_ref (0 ∷ []) tt (plain (λ _. O)) yes, tt) in
    proved 𝓛 En hs c 𝓜 𝓡 (Goes-none_ref 𝓛 3 (0 ∷ []) tt (plain (λ _. O)) yes, tt) (#self (passed T A d dd)) fn (code.unfolded 𝓤 𝓛.H 𝓜 𝓡 wired (T, (A, tt)) d dd)
    (λ κs. (shr_vals, tt)) (λ κs. (shr_Tells (named 0) κs.0 O, tt)) (λ κs qs bounds a gh are.
    let κ = κs.0 in let b = a.0.ref_ptr.0 in let at = a.0.ref_ptr.1 in let o = a.0.now in
    let y : (walk_of 𝓛 En hs c).Ghost = ((κs, qs, bounds, a, (vptr b at ∷ [], tt)), gh) in
    let Post : Val → SProp 𝓤 = (walk_of 𝓛 En hs c).post y in
    qed 𝓛 (((‵ (flft κ qs.0) ⊛ ‵ (flft κs.1.0 qs.1.0) ⊛ ‵ (flft κs.1.1.0 qs.1.1.0) ⊛ ‵ ftrue) ⊛ ‵
    (owns (ShrRef (named 0) κ O ∷ []) a (vptr b at ∷ [], tt))) ∷ raw ((c κs a).requires gh) ∷ []) ∵
    split ! $ split ! $ move ! (2 ∷ []) $ fsplit ! $ fsplit ! $ drop ! $ shr_dup ! O (owner_laws T A g L K) o b at κ $
    use1 𝓛 (‵ (hidden_shr (Fields T A g) κ (o.at, (o.alloc, tt)) b at) ⊛ ‵ (fhide (owner.the_lent R (param 1 A) g o o.at κ)))
    (lent_out 𝓛 (owner.struct R (param 1 A) g) (owner.the_codes R.Denot A.Denot R.coded (param 1 A).coded) (owner.the_heap R (param 1 A) g)
    (owner.the_lent R (param 1 A) g) κ o b at) $ split ! $
    move ! (1 ∷ []) $ unhide ! $ fsplit ! $ use1 𝓛 (raw (fact 𝓤 (InBlock o.at))) (in_block_says 𝓛 o.at) $ heard ! (InBlock o.at) (λ inside. hide ! $
    -- [a shared reference to the value; one to the fields; one to the owner; nothing; the token; the other tokens; the `requires`]
    move ! (1 ∷ 4 ∷ []) $ enter ! _ _ _ _ _ $ alloc_all ! (λ l. pass_all ! refl ((tt, tt), tt) $ first ! $ blocks ! $
    pointer_in ! tt o.at inside b (at + 0) (shows_pointer T A g L K 𝓛 κ b at o) (λ q.
    sets_last ! (addr ! (through ! refl (fld ! refl (hop ! (look ! 1 refl) (stop !))))) refl (tt, tt) $
    exec ! 𝓣.C 𝓣.Λ (env fn.locals l) (after 1 fn.body) (at_ret _ Post) $
    pointer_out ! tt o.at inside b (at + 0) $
    sets ! (of_opd ! (get ! refl)) refl (tt, tt) $
    returns ! (look_at ! 0 refl) $ free_all ! refl $
    keep ! (0 ∷ 5 ∷ 3 ∷ 2 ∷ []) $ join ! $
    let word = vptr (block_of o.at) (count_of o.at) in
    move ! (1 ∷ []) $ feq_i ! (List Val) (vptr b at ∷ []) (vptr b at ∷ []) refl $ fjoin ! $ nothing ! $ move ! (1 ∷ 0 ∷ []) $ fjoin ! $
    move ! (2 ∷ []) $ feq_i ! (List Val) (word ∷ []) (word ∷ []) refl $ fjoin ! $
    suffices ! _ (ends_at 𝓛 En hs c y word (record { ref_ptr = (block_of o.at, count_of o.at); now = o.value }) (tt, tt) (tt, tt)) $ says ! refl $
    move ! (2 ∷ 1 ∷ 0 ∷ []) $ frame ! $ frame ! $ done !))))
