-- The parts of an owner are put together, since there is a value.
use mathlib.Core.Path.{refl, sym, subst}
use mathlib.Core.List.{List, [], ◌∷◌, ◌++◌}
use mir.Val.{Val}
use mir.MapTy.{inst_fn}
use base.Logic.{SProp, ent, id⊢}
use base.Fml.{ftrue, flft}
use prog.Wp.{WpFn}
use types.Kit.{‵, raw, ◌⊛◌, ◌$◌, ◌∵◌, !, qed, move, keep, drop, split, split3, fsplit, fjoin, suffices, use1, frame, done}
use types.Run.{enter, stop, fld, of_opd, no_more, and_then, returns}
use types.Part.{agg, sub, whole}
use types.ByLocal.{alloc_all, pass_all, free_all, look_at, get, get_in, sets}
use contract.BorrowLft.{◌⊑◌}
use contract.Monad.{fact}
use contract.Running.{tables}
use denote.Exit.{no}
use denote.RattleType.{RattleType, owns}
use denote.Signature.{types_at, plain}
use denote.Steps.{nothing, heard}
use denote.Triple.Walked.{Stays, stay_dropped, walk_of, says, ends_at}
use Rattle.std.specs.Prelude.{IsSome}
use Rattle.std.proofs.alloc.Calls.{Goes-blank}
use Rattle.std.proofs.BoxSteps.Form as box
use Rattle.std.proofs.raw_atomic.Walks.{proved_at}
use Rattle.ttree_node.specs.declared.owned.Owned.{Owned}
use Rattle.ttree_node.specs.contracts.owned.MaybeOwned.into_owned as f
use Rattle.ttree_node.specs.contracts.owned.MaybeOwned.into_owned.Key.{name as #self}
use Rattle.ttree_node.proofs.owned.MaybeOwned.into_owned.Statement.{statement}
use Rattle.ttree_node.proofs.owned.MaybeOwned.into_owned.Code as code
use Rattle.ttree_node.proofs.OwnerSteps.{passed, word, allocator, owner_in}
use Rattle.ttree_node.proofs.MaybeOwnerSteps.{Maybe, maybe_out, value_of}

pub into_owned_spec : {M : Type 1} → statement M
into_owned_spec 𝓤 𝓛 𝓜 𝓡 wired T A L K g d dd met glue =
    let 𝓣 = tables 𝓤 𝓛.H 𝓜 𝓡 𝓡.env in
    let E : box.Bx = record { row = T; laws = L; al = allocator T A g K d dd } in
    let En = f.ended T A g d dd in
    let c = f.clauses T A g d dd 𝓛 𝓜.mem 𝓡.returns in
    let args = passed T A d dd in
    let fn = inst_fn args code.function in
    let P : RattleType = Maybe T A g in
    let hs : Stays En.signature.params En.kept = (stay_dropped (plain (λ _. P)) no, tt) in
    proved_at 𝓛 En hs c 𝓜 𝓡 (Goes-blank 𝓛 2 (plain (λ _. P)) no (λ κs x u. tt), tt) (#self args) fn
    (code.unfolded 𝓤 𝓛.H 𝓜 𝓡 wired (T, (A, tt)) d dd) (λ y are.
    let κs = y.0.0 in let qs = y.0.1 in let o = y.0.3.0 in
    let Post : Val → SProp 𝓤 = (walk_of 𝓛 En hs c).post y in
    let Run : List Val → SProp 𝓤 = λ ws. WpFn 𝓤 𝓛.H 𝓣.C 𝓣.Λ fn ws Post in
    let alive = ‵ (flft κs.0 qs.0) ⊛ ‵ (flft κs.1.0 qs.1.0) ⊛ ‵ ftrue in
    qed 𝓛 ((alive ⊛ ‵ (owns (types_at En.signature.params κs) y.0.3 y.0.4)) ∷ raw ((c κs y.0.3).requires y.1) ∷ []) ∵
    move ! (1 ∷ []) $ use1 𝓛 (raw (fact 𝓤 (κs.0 ⊑ T.lives)) ⊛ raw (fact 𝓤 (κs.1.0 ⊑ A.lives)) ⊛ raw (fact 𝓤 (IsSome o.value))) (id⊢ 𝓤 _) $
    split3 ! $ drop ! $ drop ! $ heard ! (IsSome o.value) (λ there.
    let x = (value_of o.value there).0 in let is = (value_of o.value there).1 in
    split ! $ move ! (1 ∷ []) $ fsplit ! $ maybe_out T A g K d dd ! o x is y.0.4.0 (λ b at h e ws fits.
    let w = word h b at in let typed = box.box_typed E h b at fits in
    let r : Owned T.Denot A.Denot = record { at = o.at; alloc = o.alloc; value = x } in
    -- [the value; the right to free it; the allocator's part; nothing; the tokens]
    suffices ! (Run (w ∷ [])) (subst (λ (us : List Val). ent 𝓤 (Run (w ∷ [])) (Run us)) (sym (λ i. ws i ++ [])) (id⊢ 𝓤 (Run (w ∷ [])))) $
    enter ! 𝓣.C 𝓣.Λ fn (w ∷ []) Post $ alloc_all ! (λ l. pass_all ! refl (typed, tt) $
    sets ! (of_opd ! (get_in ! (fld ! refl (stop !)) (sub ! 0 refl (whole !)))) refl (tt, tt) $
    sets ! (of_opd ! (get_in ! (fld ! refl (stop !)) (sub ! 1 refl (whole !)))) refl fits $
    sets ! (of_opd ! (get ! refl)) refl fits $
    sets ! (agg ! (and_then ! (get ! refl) (and_then ! (get ! refl) (no_more !)))) refl typed $
    owner_in T A g K d dd ! r b at e $
    returns ! (look_at ! 0 refl) $ free_all ! refl $ keep ! (2 ∷ 0 ∷ []) $ nothing ! $ nothing ! $ fjoin ! $ move ! (1 ∷ 0 ∷ []) $
    suffices ! _ (ends_at 𝓛 En hs c y w r ((tt, (tt, tt)), tt) (tt, tt)) $ says ! (sym is) $ frame ! $ frame ! $ done !))))
