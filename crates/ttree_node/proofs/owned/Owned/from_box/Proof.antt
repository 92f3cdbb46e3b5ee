-- A box is taken apart, and its parts stay owned.
use mathlib.Core.Path.{◌≡◌, refl, sym, ap, ◌∙◌, subst}
use mathlib.Core.List.{List, [], ◌∷◌, ◌++◌}
use mir.Val.{Val, vstruct, of_list}
use mir.MapTy.{inst_fn}
use base.Logic.{SProp, ent, never, id⊢, fst∗}
use base.Fml.{ftrue, fsep, flft}
use prog.Wp.{WpFn}
use types.Logic.{sem}
use types.Kit.{‵, raw, ◌⊛◌, some, later, ◌$◌, ◌∵◌, !, qed, move, keep, drop, split, split3, join, fsplit, fjoin, fpick, pick, suffices, use1, await, rewrite}
use types.Kit.{feq_l, frame, done}
use types.Run.{enter, stop, fld, of_opd, no_more, and_then, returns}
use types.Part.{agg, sub, whole}
use types.ByLocal.{alloc_all, pass_all, free_all, look_at, get, get_in, sets, lands_as}
use contract.Monad.{fact}
use contract.Running.{tables}
use denote.Exit.{no}
use denote.RattleType.{owns}
use denote.Signature.{types_at, plain}
use denote.RawPtr.{Ptr, RawPtr, block_ptr, null_ptr, ptr_val, in_a_block}
use denote.Steps.{nothing, only, heard}
use denote.Param.{param}
use denote.Struct.Tuple.{Tuple}
use denote.Triple.Spec.{triple_of}
use denote.Triple.Call.{calls_at}
use denote.Triple.Table.{framed}
use denote.Triple.Walked.{Stays, stay_dropped, walk_of, says, ends_at}
use Rattle.std.proofs.alloc.Calls.{Goes-blank, handle_tells}
use Rattle.std.proofs.BoxSteps.Form as box
use Rattle.std.proofs.BoxSteps.Steps.{box_out, box_in}
use Rattle.std.proofs.raw_atomic.Walks.{proved_at}
use Rattle.std.specs.contracts.boxed.Box.into_raw_with_allocator as callee
use Rattle.std.proofs.boxed.Box.into_raw_with_allocator.Met.{met}
use Rattle.ttree_node.specs.Block.{block_owns}
use Rattle.ttree_node.specs.declared.owned.Owned.{Owned}
use Rattle.ttree_node.specs.contracts.owned.Owned.from_box as f
use Rattle.ttree_node.specs.contracts.owned.Owned.from_box.Key.{name as #self}
use Rattle.ttree_node.proofs.owned.Owned.from_box.Statement.{statement}
use Rattle.ttree_node.proofs.owned.Owned.from_box.Code as code
use Rattle.ttree_node.proofs.OwnerSteps.{passed_with_drop, word, may_free, allocator, owner_in}

pub from_box_spec : {M : Type 1} → statement M
from_box_spec 𝓤 𝓛 𝓜 𝓡 wired T A L K g d dx dd allocates glue glued =
    let 𝓣 = tables 𝓤 𝓛.H 𝓜 𝓡 𝓡.env in
    let E : box.Bx = record { row = T; laws = L; al = allocator T A g K d dd } in
    let En = f.ended T A g d dx dd in
    let c = f.clauses T A g d dx dd 𝓛 𝓜.mem 𝓡.returns in
    let args = passed_with_drop T A d dx dd in
    let fn = inst_fn args code.function in
    let hs : Stays En.signature.params En.kept = (stay_dropped (plain (λ _. box.B E)) no, tt) in
    proved_at 𝓛 En hs c 𝓜 𝓡 (Goes-blank 𝓛 2 (plain (λ _. box.B E)) no (λ κs x u. tt), tt) (#self args) fn (code.unfolded 𝓤 𝓛.H 𝓜 𝓡 wired (T, (A, tt)) d dx dd)
    (λ y are.
    let κs = y.0.0 in let qs = y.0.1 in let v = y.0.3.0 in let a = v.alloc in
    let Post : Val → SProp 𝓤 = (walk_of 𝓛 En hs c).post y in
    let Run : List Val → SProp 𝓤 = λ ws. WpFn 𝓤 𝓛.H 𝓣.C 𝓣.Λ fn ws Post in
    let alive = ‵ (flft κs.0 qs.0) ⊛ ‵ (flft κs.1.0 qs.1.0) ⊛ ‵ ftrue in
    let Called = triple_of 𝓛 (callee.signature T A g d dd dx) (callee.spec T A g d dd dx 𝓛 𝓜.mem 𝓡.returns) in
    let Pair = Tuple (RawPtr ∷ param 1 A ∷ []) in
    qed 𝓛 ((alive ⊛ ‵ (owns (types_at En.signature.params κs) y.0.3 y.0.4)) ∷ raw ((c κs y.0.3).requires y.1) ∷ []) ∵
    split ! $ move ! (1 ∷ []) $ fsplit ! $ box_out E ! v y.0.4.0 (λ b at h e ws fits.
    box_in E ! v b at v.value e refl $
    let w = word h b at in let typed = box.box_typed E h b at fits in
    let z : Called.Ghost = ((κs, qs, tt, (v, tt), (w ∷ [], tt)), tt) in
    fjoin ! $ move ! (1 ∷ 0 ∷ []) $ join ! $ join ! $ use1 𝓛 (raw (Called.pre z)) (id⊢ 𝓤 _) $
    suffices ! (Run (w ∷ [])) (subst (λ (us : List Val). ent 𝓤 (Run (w ∷ [])) (Run us)) (sym (λ i. ws i ++ [])) (id⊢ 𝓤 (Run (w ∷ [])))) $
    enter ! 𝓣.C 𝓣.Λ fn (w ∷ []) Post $ alloc_all ! (λ l. pass_all ! refl (typed, tt) $
    sets ! (of_opd ! (get ! refl)) refl typed $
    calls_at ! (framed 𝓤 𝓛.H 𝓜 𝓣) Called (met 𝓤 𝓛 𝓜 𝓡 (code.calls-std::boxed::Box::into_raw_with_allocator 𝓡.env wired) T A L K g d dd dx allocates glued glue)
    z
    (and_then ! (get ! refl) (no_more !)) (λ u.
    use1 𝓛 (later (some (λ (r : Ptr × A.Denot). (alive ⊛ ‵ (Pair.own_val r (u ∷ []))) ⊛
    some (λ (_ : (Unit {0} × (Unit {0} × Unit {0})) × Unit {0}).
    ‵ (fsep (fsep ftrue (fsep ftrue ftrue)) ftrue) ⊛ (raw (fact 𝓤 (r.1 ≡ a)) ⊛ ‵ (block_owns (g.dealloc_token a) (param 0 T) r.0 v.value)))))) (id⊢ 𝓤 _) $
    await ! tt $ pick ! (λ r.
    split ! $ move ! (1 ∷ []) $ pick ! (λ _. split3 ! $ drop ! $ heard ! (r.1 ≡ a) (λ same.
    in_a_block ! r.0 (λ p. block_owns (g.dealloc_token a) (param 0 T) p v.value) (fst∗ 𝓤 (never 𝓤) (sem 𝓛 (may_free T A g K d dd a null_ptr))) (λ b' at' e'.
    move ! (1 ∷ []) $ split ! $ move ! (1 ∷ []) $ fpick ! (λ vss. fsplit ! $ feq_l ! (λ pair. fsplit ! $ feq_l ! (λ pointer. fsplit ! $
    rewrite ! 0 (λ (s : A.Denot). ‵ (A.own_val s vss.1.0)) same refl $ handle_tells (allocator T A g K d dd) ! a vss.1.0 (λ h' handle fits'.
    -- [the allocator's part; nothing; the tokens; the block]
    let made = box.box_typed E h' b' at' fits' in
    let at_block = pointer ∙ ap (λ (p : Ptr). ptr_val p ∷ []) e' in
    lands_as ! (ap only (pair ∙ (λ j. vstruct (of_list (at_block j ++ (handle j ++ []))) ∷ []))) refl made $
    sets ! (of_opd ! (get_in ! (fld ! refl (stop !)) (sub ! 0 refl (whole !)))) refl (tt, tt) $
    sets ! (of_opd ! (get_in ! (fld ! refl (stop !)) (sub ! 1 refl (whole !)))) refl fits' $
    sets ! (of_opd ! (get ! refl)) refl fits' $
    sets ! (agg ! (and_then ! (get ! refl) (and_then ! (get ! refl) (no_more !)))) refl made $
    let o : Owned T.Denot A.Denot = record { at = block_ptr b' at'; alloc = a; value = v.value } in
    move ! (3 ∷ []) $ fsplit ! $ move ! (0 ∷ 1 ∷ 2 ∷ []) $ owner_in T A g K d dd ! o b' at' refl $
    returns ! (look_at ! 0 refl) $ free_all ! refl $ keep ! (2 ∷ 0 ∷ []) $ nothing ! $ nothing ! $ fjoin ! $ move ! (1 ∷ 0 ∷ []) $
    suffices ! _ (ends_at 𝓛 En hs c y (word h' b' at') o ((tt, (tt, tt)), tt) (tt, tt)) $ says ! refl $ frame ! $ frame ! $ done !))))))))))))
