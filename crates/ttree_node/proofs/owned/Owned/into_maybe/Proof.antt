-- An owner is taken apart, and its parts become a `MaybeOwned`.
use mathlib.Core.Path.{refl, sym, subst}
use mathlib.Core.List.{List, [], ◌∷◌, ◌++◌}
use mir.Val.{Val}
use mir.MapTy.{inst_fn}
use base.Logic.{SProp, ent, id⊢}
use base.Fml.{ftrue, flft}
use prog.Wp.{WpFn}
use types.Kit.{‵, raw, ◌⊛◌, ◌$◌, ◌∵◌, !, qed, move, keep, split, fsplit, fjoin, suffices, frame, done}
use types.Run.{enter, stop, fld, of_opd, no_more, and_then, returns}
use types.Part.{agg, sub, whole}
use types.ByLocal.{alloc_all, pass_all, free_all, look_at, get, get_in, sets}
use contract.Running.{tables}
use denote.Exit.{no}
use denote.RattleType.{RattleType, owns}
use denote.Signature.{types_at, plain}
use denote.Steps.{nothing}
use denote.Triple.Walked.{Stays, stay_dropped, walk_of, says, ends_at}
use Rattle.std.specs.Prelude.{Some}
use Rattle.std.proofs.alloc.Calls.{Goes-blank}
use Rattle.std.proofs.BoxSteps.Form as box
use Rattle.std.proofs.raw_atomic.Walks.{proved_at}
use Rattle.ttree_node.specs.declared.owned.MaybeOwned.{MaybeOwned}
use Rattle.ttree_node.specs.contracts.owned.Owned.into_maybe as f
use Rattle.ttree_node.specs.contracts.owned.Owned.into_maybe.Key.{name as #self}
use Rattle.ttree_node.proofs.owned.Owned.into_maybe.Statement.{statement}
use Rattle.ttree_node.proofs.owned.Owned.into_maybe.Code as code
use Rattle.ttree_node.proofs.OwnerSteps.{Owner, passed, word, allocator, owner_out}
use Rattle.ttree_node.proofs.MaybeOwnerSteps.{maybe_in}

pub into_maybe_spec : {M : Type 1} → statement M
into_maybe_spec 𝓤 𝓛 𝓜 𝓡 wired T A L K g d dd met glue =
    let 𝓣 = tables 𝓤 𝓛.H 𝓜 𝓡 𝓡.env in
    let E : box.Bx = record { row = T; laws = L; al = allocator T A g K d dd } in
    let En = f.ended T A g d dd in
    let c = f.clauses T A g d dd 𝓛 𝓜.mem 𝓡.returns in
    let args = passed T A d dd in
    let fn = inst_fn args code.function in
    let P : RattleType = Owner T A g in
    let hs : Stays En.signature.params En.kept = (stay_dropped (plain (λ _. P)) no, tt) in
    proved_at 𝓛 En hs c 𝓜 𝓡 (Goes-blank 𝓛 2 (plain (λ _. P)) no (λ κs x u. tt), tt) (#self args) fn
    (code.unfolded 𝓤 𝓛.H 𝓜 𝓡 wired (T, (A, tt)) d dd) (λ y are.
    let κs = y.0.0 in let qs = y.0.1 in let o = y.0.3.0 in
    let Post : Val → SProp 𝓤 = (walk_of 𝓛 En hs c).post y in
    let Run : List Val → SProp 𝓤 = λ ws. WpFn 𝓤 𝓛.H 𝓣.C 𝓣.Λ fn ws Post in
    let alive = ‵ (flft κs.0 qs.0) ⊛ ‵ (flft κs.1.0 qs.1.0) ⊛ ‵ ftrue in
    qed 𝓛 ((alive ⊛ ‵ (owns (types_at En.signature.params κs) y.0.3 y.0.4)) ∷ raw ((c κs y.0.3).requires y.1) ∷ []) ∵
    split ! $ move ! (1 ∷ []) $ fsplit ! $ owner_out T A g K d dd ! o y.0.4.0 (λ b at h e ws fits.
    let w = word h b at in let typed = box.box_typed E h b at fits in
    let r : MaybeOwned T.Denot A.Denot = record { at = o.at; alloc = o.alloc; value = Some o.value } in
    -- [the value; the right to free it; the allocator's part; nothing; the tokens; the `requires`]
    suffices ! (Run (w ∷ [])) (subst (λ (us : List Val). ent 𝓤 (Run (w ∷ [])) (Run us)) (sym (λ i. ws i ++ [])) (id⊢ 𝓤 (Run (w ∷ [])))) $
    enter ! 𝓣.C 𝓣.Λ fn (w ∷ []) Post $ alloc_all ! (λ l. pass_all ! refl (typed, tt) $
    sets ! (of_opd ! (get_in ! (fld ! refl (stop !)) (sub ! 0 refl (whole !)))) refl (tt, tt) $
    sets ! (of_opd ! (get_in ! (fld ! refl (stop !)) (sub ! 1 refl (whole !)))) refl fits $
    sets ! (of_opd ! (get ! refl)) refl fits $
    sets ! (agg ! (and_then ! (get ! refl) (and_then ! (get ! refl) (no_more !)))) refl typed $
    maybe_in T A g K d dd ! r o.value b at e $
    returns ! (look_at ! 0 refl) $ free_all ! refl $ keep ! (2 ∷ 0 ∷ []) $ nothing ! $ nothing ! $ fjoin ! $ move ! (1 ∷ 0 ∷ []) $
    suffices ! _ (ends_at 𝓛 En hs c y w r ((tt, (tt, tt)), tt) (tt, tt)) $ says ! refl $ frame ! $ frame ! $ done !)))
