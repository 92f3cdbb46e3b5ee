-- There is no value, and the pointer is null.
use mathlib.Core.Path.{refl, sym, subst}
use mathlib.Core.List.{List, [], ◌∷◌, ◌++◌}
use lib.Dec.{lit<}
use mir.Val.{Val, has_ty, vnull, vstruct, vcons, vnil}
use mir.MapTy.{inst_fn}
use base.Logic.{SProp, ent, id⊢}
use base.Fml.{ftrue, flft}
use prog.Wp.{WpFn}
use types.Kit.{‵, raw, ◌⊛◌, ◌$◌, ◌∵◌, !, qed, move, keep, split, fsplit, fjoin, fpack, feq_i, suffices, frame, done}
use types.Run.{enter, of_opd, lit, no_more, and_then, returns}
use types.Part.{agg}
use types.ByLocal.{alloc_all, pass_all, free_all, look_at, get, sets}
use contract.Running.{tables}
use denote.Exit.{no}
use denote.RattleType.{RattleType, owns, Valss}
use denote.RawPtr.{RawPtr, null_ptr}
use denote.Signature.{types_at, plain}
use denote.Steps.{nothing}
use denote.Struct.Struct.{within}
use denote.Struct.Owning.{shape}
use denote.Param.{param, layout}
use denote.Triple.Walked.{Stays, stay_dropped, walk_of, says, ends_at}
use Rattle.std.specs.Prelude.{None}
use Rattle.std.proofs.alloc.Calls.{Goes-blank, handle_tells}
use Rattle.std.proofs.ResultValues.{and_tt}
use Rattle.std.proofs.raw_atomic.Walks.{proved_at}
use Rattle.ttree_node.specs.declared.owned.MaybeOwned.{MaybeOwned}
use Rattle.ttree_node.specs.contracts.owned.MaybeOwned as maybe
use Rattle.ttree_node.specs.contracts.owned.MaybeOwned.none as f
use Rattle.ttree_node.specs.contracts.owned.MaybeOwned.none.Key.{name as #self}
use Rattle.ttree_node.proofs.owned.MaybeOwned.none.Statement.{statement}
use Rattle.ttree_node.proofs.owned.MaybeOwned.none.Code as code
use Rattle.ttree_node.proofs.OwnerSteps.{passed, allocator}

pub none_spec : {M : Type 1} → statement M
none_spec 𝓤 𝓛 𝓜 𝓡 wired T A L K g d dd met glue =
    let 𝓣 = tables 𝓤 𝓛.H 𝓜 𝓡 𝓡.env in
    let En = f.ended T A g d dd in
    let c = f.clauses T A g d dd 𝓛 𝓜.mem 𝓡.returns in
    let args = passed T A d dd in
    let fn = inst_fn args code.function in
    let P : RattleType = param 1 A in
    let hs : Stays En.signature.params En.kept = (stay_dropped (plain (λ _. P)) no, tt) in
    proved_at 𝓛 En hs c 𝓜 𝓡 (Goes-blank 𝓛 2 (plain (λ _. P)) no (λ κs x u. tt), tt) (#self args) fn
    (code.unfolded 𝓤 𝓛.H 𝓜 𝓡 wired (T, (A, tt)) d dd) (λ y are.
    let κs = y.0.0 in let qs = y.0.1 in let o = y.0.3.0 in
    let Post : Val → SProp 𝓤 = (walk_of 𝓛 En hs c).post y in
    let Run : List Val → SProp 𝓤 = λ ws. WpFn 𝓤 𝓛.H 𝓣.C 𝓣.Λ fn ws Post in
    let alive = ‵ (flft κs.0 qs.0) ⊛ ‵ (flft κs.1.0 qs.1.0) ⊛ ‵ ftrue in
    qed 𝓛 ((alive ⊛ ‵ (owns (types_at En.signature.params κs) y.0.3 y.0.4)) ∷ raw ((c κs y.0.3).requires y.1) ∷ []) ∵
    split ! $ move ! (1 ∷ []) $ fsplit ! $ handle_tells (allocator T A g K d dd) ! o y.0.4.0 (λ h ws fits.
    let w = vstruct (vcons vnull (vcons h vnil)) in
    let r : MaybeOwned T.Denot A.Denot = record { at = null_ptr; alloc = o; value = None } in
    -- [the allocator's part; nothing; the tokens; the `requires`]
    suffices ! (Run (h ∷ [])) (subst (λ (us : List Val). ent 𝓤 (Run (h ∷ [])) (Run us)) (sym (λ i. ws i ++ [])) (id⊢ 𝓤 (Run (h ∷ [])))) $
    enter ! 𝓣.C 𝓣.Λ fn (h ∷ []) Post $ alloc_all ! (λ l. pass_all ! refl (fits, tt) $
    sets ! (of_opd ! (lit ! tt)) refl (tt, record { fits = lit< tt }) $
    sets ! (of_opd ! (get ! refl)) refl fits $
    sets ! (agg ! (and_then ! (get ! refl) (and_then ! (get ! refl) (no_more !)))) refl
    (and_tt (has_ty (layout A) h) fits.0, (record { fits = lit< tt }, (fits.1, tt))) $
    nothing ! $ nothing ! $ move ! (2 ∷ 0 ∷ []) $ fjoin ! $ feq_i ! (List Val) (vnull ∷ []) (vnull ∷ []) refl $ fjoin ! $
    feq_i ! (List Val) (w ∷ []) (w ∷ []) refl $ fjoin ! $
    fpack ! (Valss (RawPtr ∷ param 1 A ∷ [])) (within (shape (maybe.the_type (param 0 T) (param 1 A) g)) (null_ptr, (o, tt)) (w ∷ []))
    (vnull ∷ [], (h ∷ [], tt)) $
    fjoin ! $ returns ! (look_at ! 0 refl) $ free_all ! refl $ keep ! (2 ∷ 0 ∷ []) $ nothing ! $ nothing ! $ fjoin ! $ move ! (1 ∷ 0 ∷ []) $
    suffices ! _ (ends_at 𝓛 En hs c y w r (tt, tt) (tt, tt)) $ says ! refl $ frame ! $ frame ! $ done !)))
