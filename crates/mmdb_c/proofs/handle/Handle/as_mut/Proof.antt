-- The value is borrowed through the pointer.
use mathlib.Core.Path.{◌≡◌, refl, sym, ap, ◌∙◌}
use mathlib.Core.List.{List, [], ◌∷◌}
use mir.Syntax.{named}
use mir.Val.{Val, vptr}
use base.Fraction.{full_share}
use base.Fml.{GName, ftrue, flft}
use types.Logic.{sem}
use types.Kit.{‵, raw, ◌⊛◌, some, later, at_ret, ◌$◌, ◌∵◌, !, qed, move, keep, use1, split, split3, join, pick, fsplit3, fjoin, rewrite, suffices}
use types.Kit.{frame, group, await, done}
use types.Part.{whole, sub, look_in}
use types.Run.{enter, addr, load, stop, fld, of_opd, first, blocks, exec, returns}
use types.ByLocal.{alloc_all, pass_all, free_all, look_at, get, through, sets, sets_last, env}
use contract.Monad.{fact}
use contract.Running.{tables}
use denote.Exit.{no}
use denote.Memory.{part_of, cell_at}
use denote.Follow.{follows, lends_Part}
use denote.RawPtr.{Ptr}
use denote.Ref.{MutRef, mut_vals, mut_Tells}
use denote.Signature.{plain, mut_ref_to}
use denote.Steps.{opens, nothing, heard}
use denote.Triple.Walked.{Stays, stay_dropped, walk_of, says, ends_at, Goes-spent_ref}
use Rattle.std.specs.Prelude.{true}
use Rattle.std.proofs.raw_atomic.Walks.{proved}
use Rattle.mmdb_c.specs.contracts.handle.Handle.as_mut as f
use Rattle.mmdb_c.specs.Lent.{with_value}
use Rattle.mmdb_c.proofs.handle.Handle.as_mut.Statement.{statement}
use Rattle.mmdb_c.proofs.handle.Handle.as_mut.Code as code
use Rattle.mmdb_c.proofs.HandleSteps.{H, L, word, Shell, handle_out, block_out, refilled}

abbrev stayed : Stays f.ended.signature.params f.ended.kept
stayed = (stay_dropped (mut_ref_to (0 ∷ []) tt (plain (λ _. H))) no, tt)

pub as_mut_spec : {M : Type 1} → statement M
unfolding part_of
as_mut_spec 𝓤 𝓛 𝓜 𝓡 wired =
    let 𝓣 = tables 𝓤 𝓛.H 𝓜 𝓡 𝓡.env in let c = f.clauses 𝓛 𝓜.mem 𝓡.returns in let W = walk_of 𝓛 f.ended stayed c in
    proved 𝓛 f.ended stayed c 𝓜 𝓡 (Goes-spent_ref 𝓛 1 (0 ∷ []) tt (plain (λ _. H)), tt)
    f.Key.name code.function (code.unfolded 𝓤 𝓛.H 𝓜 𝓡 wired)
    (λ κs. (mut_vals, tt)) (λ κs. (mut_Tells (named 0) κs.0 H, tt)) (λ κs qs bounds a gh are.
    let κ = κs.0 in let rb = a.0.ref_ptr.0 in let ro = a.0.ref_ptr.1 in let γ = a.0.ghost_name in let h = a.0.now in
    let y : W.Ghost = ((κs, qs, bounds, a, (vptr rb ro ∷ [], tt)), gh) in
    qed 𝓛 (((‵ (flft κ qs.0) ⊛ ‵ ftrue) ⊛ ‵ ((MutRef (named 0) κ H).own_val a.0 (vptr rb ro ∷ [])) ⊛ ‵ ftrue)
    ∷ raw (fact 𝓤 (h.is_open ≡ true)) ∷ []) ∵
    move ! (1 ∷ []) $ heard ! (h.is_open ≡ true) (λ opened.
    split ! $ split ! $ move ! (2 ∷ []) $ split ! $ keep ! (0 ∷ 2 ∷ []) $
    enter ! _ _ _ _ _ $ alloc_all ! (λ l. pass_all ! refl ((tt, tt), tt) $
    fsplit3 ! $ move ! (1 ∷ 2 ∷ 3 ∷ []) $ opens ! tt H rb ro (λ us. move ! (1 ∷ []) $ handle_out ! h us (λ ws. block_out ! h opened (λ b at e.
    let Cell = λ (xs : List Val). ‵ (cell_at full_share H.mir xs rb ro) in let at_block = ap (λ (p : Ptr). word h.is_open p ∷ []) e in
    rewrite ! 2 Cell (ws ∙ at_block) refl $
    -- [the value; the right to free it; the cell; the open borrow, in three entries]
    sets ! (of_opd ! (load ! (through ! refl (fld ! refl (stop !))) (look_in ! 2 (sub ! 0 refl (whole !))))) refl (tt, tt) $
    sets ! (of_opd ! (get ! refl)) refl (tt, tt) $
    first ! $ blocks ! $ sets_last ! (addr ! (through ! refl (stop !))) refl (tt, tt) $
    exec ! 𝓣.C 𝓣.Λ (env code.Mir.locals l) code.Mir.t-4 (at_ret _ (W.post y)) $
    sets ! (of_opd ! (get ! refl)) refl (tt, tt) $ rewrite ! 2 Cell (sym at_block) refl $
    let Lent = λ (γ' : GName). (MutRef (named 0) κ L).own_val (record { ref_ptr = (b, at); ghost_name = γ'; now = h.value }) (vptr b at ∷ []) in
    move ! (1 ∷ 2 ∷ []) $ fjoin ! $ move ! (2 ∷ 3 ∷ 4 ∷ 1 ∷ 0 ∷ []) $ group ! 5 $
    use1 𝓛 (later (some (λ (γ' : GName). ‵ (Lent γ') ⊛ ‵ (flft κ qs.0) ⊛ ‵ (follows H L γ γ' (with_value h)))))
    (lends_Part 𝓛 H L (with_value h) (named 0) κ qs.0 rb ro b at γ (sem 𝓛 (Shell h b at rb ro)) (refilled h b at rb ro 𝓛 opened e)
    (H.coded.code h) (H.coded.code h) h.value) $ await ! tt $ pick ! (λ γ'. split3 ! $
    returns ! (look_at ! 0 refl) $ free_all ! refl $ keep ! (1 ∷ 0 ∷ 2 ∷ []) $ nothing ! $ move ! (1 ∷ 0 ∷ []) $ join ! $
    nothing ! $ nothing ! $ fjoin ! $ move ! (1 ∷ 0 ∷ []) $
    suffices ! _ (ends_at 𝓛 f.ended stayed c y (vptr b at) (record { ref_ptr = (b, at); ghost_name = γ'; now = h.value }) (tt, tt) (tt, tt)) $
    group ! 3 $ frame ! $ says ! refl $ done !)))))))
