-- The value is borrowed through the pointer.
use mathlib.Core.Path.{refl}
use mathlib.Core.List.{List, [], ◌∷◌}
use mir.Syntax.{named}
use mir.Val.{Val, vptr}
use mir.MapTy.{inst_fn}
use base.Fraction.{full_share}
use base.Logic.{SProp}
use base.Fml.{Fml, GName, ftrue, flft}
use types.Logic.{sem}
use types.Kit.{‵, raw, ◌⊛◌, some, later, at_ret, ◌$◌, ◌∵◌, !, qed, move, keep, use1, split, split3, join, pick, fsplit, fsplit3, fjoin, rewrite, suffices}
use types.Kit.{frame, group, await, done}
use types.Part.{whole, sub, look_in}
use types.Run.{enter, addr, stop, hop, fld, of_opd, first, blocks, exec, returns}
use types.ByLocal.{alloc_all, pass_all, free_all, look_at, get, through, sets, sets_last, env}
use contract.Running.{tables}
use denote.Exit.{no}
use denote.RattleType.{owns}
use denote.Memory.{part_of, cell_at}
use denote.Follow.{follows, lends_Part}
use denote.Param.{param}
use denote.Ref.{MutRef, mut_vals, mut_Tells}
use denote.Signature.{plain, mut_ref_to}
use denote.Steps.{opens, nothing}
use denote.Triple.Walked.{Stays, stay_dropped, walk_of, says, ends_at, Goes-spent_ref}
use Rattle.std.proofs.raw_atomic.Walks.{proved}
use Rattle.std.proofs.VecSteps.Shapes.{after}
use Rattle.ttree_node.specs.contracts.owned.Owned.as_mut as f
use Rattle.ttree_node.specs.contracts.owned.Owned.as_mut.Key.{name as #self}
use Rattle.ttree_node.specs.BlockLent.{with_value}
use Rattle.ttree_node.proofs.owned.Owned.as_mut.Statement.{statement}
use Rattle.ttree_node.proofs.owned.Owned.as_mut.Code as code
use Rattle.ttree_node.proofs.OwnerSteps.{passed, Owner, Shell, owner_out, refilled}

pub as_mut_spec : {M : Type 1} → statement M
unfolding part_of
as_mut_spec 𝓤 𝓛 𝓜 𝓡 wired T A L K g d dd met glue =
    let 𝓣 = tables 𝓤 𝓛.H 𝓜 𝓡 𝓡.env in
    let O = Owner T A g in
    let R = param 0 T in
    let En = f.ended T A g d dd in
    let c = f.clauses T A g d dd 𝓛 𝓜.mem 𝓡.returns in
    let fn = inst_fn (passed T A d dd) code.function in
    let hs : Stays En.signature.params En.kept = (stay_dropped (mut_ref_to (0 ∷ []) tt (plain (λ _. O))) no, tt) in
    proved 𝓛 En hs c 𝓜 𝓡 (Goes-spent_ref 𝓛 3 (0 ∷ []) tt (plain (λ _. O)), tt) (#self (passed T A d dd)) fn (code.unfolded 𝓤 𝓛.H 𝓜 𝓡 wired (T, (A, tt)) d dd)
    (λ κs. (mut_vals, tt)) (λ κs. (mut_Tells (named 0) κs.0 O, tt)) (λ κs qs bounds a gh are.
    let κ = κs.0 in let rb = a.0.ref_ptr.0 in let ro = a.0.ref_ptr.1 in let γ = a.0.ghost_name in let o = a.0.now in
    let y : (walk_of 𝓛 En hs c).Ghost = ((κs, qs, bounds, a, (vptr rb ro ∷ [], tt)), gh) in
    let Post : Val → SProp 𝓤 = (walk_of 𝓛 En hs c).post y in
    qed 𝓛 (((‵ (flft κ qs.0) ⊛ ‵ (flft κs.1.0 qs.1.0) ⊛ ‵ (flft κs.1.1.0 qs.1.1.0) ⊛ ‵ ftrue) ⊛ ‵
    (owns (MutRef (named 0) κ O ∷ []) a (vptr rb ro ∷ [], tt))) ∷ raw ((c κs a).requires gh) ∷ []) ∵
    split ! $ split ! $ move ! (2 ∷ []) $ fsplit ! $ enter ! _ _ _ _ _ $ alloc_all ! (λ l. pass_all ! refl ((tt, tt), tt) $
    fsplit3 ! $ move ! (1 ∷ 2 ∷ 4 ∷ []) $ opens ! tt O rb ro (λ us. move ! (1 ∷ []) $ owner_out T A g K d dd ! o us (λ b at h e ws fits.
    rewrite ! 3 (λ (xs : List Val). ‵ (cell_at full_share O.mir xs rb ro)) ws refl $
    -- [the value; the right to free it; the allocator's part; the cell; the open borrow, in three entries]
    first ! $ blocks ! $
    sets_last ! (addr ! (through ! refl (fld ! refl (hop ! (look_in ! 3 (sub ! 0 refl (whole !))) (stop !))))) refl (tt, tt) $
    exec ! 𝓣.C 𝓣.Λ (env fn.locals l) (after 1 fn.body) (at_ret _ Post) $
    sets ! (of_opd ! (get ! refl)) refl (tt, tt) $
    let Shell : Fml = Shell T A g K d dd o h b at rb ro in
    let back = refilled T A g K d dd o h b at rb ro 𝓛 e in
    let Lent = λ (γ' : GName). (MutRef (named 0) κ R).own_val (record { ref_ptr = (b, at); ghost_name = γ'; now = o.value }) (vptr b at ∷ []) in
    move ! (1 ∷ 2 ∷ []) $ fjoin ! $ move ! (0 ∷ 2 ∷ []) $ fjoin ! $ move ! (2 ∷ 3 ∷ 4 ∷ 1 ∷ 0 ∷ []) $ group ! 5 $
    use1 𝓛 (later (some (λ (γ' : GName). ‵ (Lent γ') ⊛ ‵ (flft κ qs.0) ⊛ ‵ (follows O R γ γ' (with_value o)))))
    (lends_Part 𝓛 O R (with_value o) (named 0) κ qs.0 rb ro b at γ (sem 𝓛 Shell) back (O.coded.code o) (O.coded.code o) o.value) $ await ! tt $ pick !
    (λ γ'. split3 ! $
    returns ! (look_at ! 0 refl) $ free_all ! refl $ keep ! (1 ∷ 5 ∷ 0 ∷ 2 ∷ []) $ join ! $
    nothing ! $ nothing ! $ fjoin ! $ move ! (1 ∷ 0 ∷ []) $
    suffices ! _ (ends_at 𝓛 En hs c y (vptr b at) (record { ref_ptr = (b, at); ghost_name = γ'; now = o.value }) (tt, tt) (tt, tt)) $
    group ! 3 $ frame ! $ says ! refl $ done !)))))
