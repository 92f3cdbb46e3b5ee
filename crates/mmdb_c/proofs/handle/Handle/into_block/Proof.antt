-- The resources of an open handle are a block again.
use mathlib.Core.Path.{◌≡◌, refl, sym, ap, ◌∙◌, subst}
use mathlib.Core.List.{List, [], ◌∷◌, ◌++◌}
use mir.Val.{Val}
use base.Logic.{SProp, ent, id⊢}
use base.Fml.{ftrue}
use prog.Wp.{WpFn}
use types.Kit.{‵, raw, ◌⊛◌, ◌$◌, ◌∵◌, !, qed, move, keep, drop, use1, split, join, fsplit, fjoin, suffices, done}
use types.Part.{agg, sub, whole}
use types.Run.{enter, stop, fld, of_opd, no_more, and_then, returns}
use types.ByLocal.{alloc_all, pass_all, free_all, look_at, get, get_in, sets}
use contract.Monad.{fact}
use contract.Running.{tables}
use denote.Exit.{yes}
use denote.RattleType.{owns}
use denote.RawPtr.{Ptr, block_ptr}
use denote.Signature.{types_at, plain}
use denote.Steps.{nothing, heard}
use denote.Triple.Walked.{Stays, stay_dropped, Goes-dropped, walk_of, says, ends_at}
use Rattle.std.specs.Prelude.{Bool, true}
use Rattle.std.proofs.alloc.Calls.{handle_tells}
use Rattle.std.proofs.BoxSteps.Form.{box_typed}
use Rattle.std.proofs.raw_atomic.Walks.{proved_at}
use Rattle.mmdb_c.specs.declared.block.Block.{Block}
use Rattle.mmdb_c.specs.contracts.handle.Handle.into_block as f
use Rattle.mmdb_c.proofs.handle.Handle.into_block.Statement.{statement}
use Rattle.mmdb_c.proofs.handle.Handle.into_block.Code as code
use Rattle.mmdb_c.proofs.BlockSteps.{word as block_word, block_in}
use Rattle.mmdb_c.proofs.GlobalSteps.{Heap, Held, Boxed}
use Rattle.mmdb_c.proofs.HandleSteps.{H, L, word, handle_out, block_out}

abbrev stayed : Stays f.ended.signature.params f.ended.kept
stayed = (stay_dropped (plain (λ _. H)) yes, (stay_dropped (plain (λ _. Heap)) yes, tt))

pub into_block_spec : {M : Type 1} → statement M
into_block_spec 𝓤 𝓛 𝓜 𝓡 wired =
    let 𝓣 = tables 𝓤 𝓛.H 𝓜 𝓡 𝓡.env in let c = f.clauses 𝓛 𝓜.mem 𝓡.returns in
    proved_at 𝓛 f.ended stayed c 𝓜 𝓡 (Goes-dropped 𝓛 0 (plain (λ _. H)) yes (λ κs x w. refl), (Goes-dropped 𝓛 0 (plain (λ _. Heap)) yes (λ κs x w. refl), tt))
    f.Key.name code.function (code.unfolded 𝓤 𝓛.H 𝓜 𝓡 wired) (λ y are.
    let h = y.0.3.0 in let a = y.0.3.1.0 in let Al = Boxed.al in
    let Post : Val → SProp 𝓤 = (walk_of 𝓛 f.ended stayed c).post y in
    let Run : List Val → SProp 𝓤 = λ ws. WpFn 𝓤 𝓛.H 𝓣.C 𝓣.Λ code.function ws Post in
    qed 𝓛 ((‵ ftrue ⊛ ‵ (owns (types_at f.ended.signature.params y.0.0) y.0.3 y.0.4)) ∷ raw (fact 𝓤 (h.is_open ≡ true)) ∷ []) ∵
    move ! (1 ∷ []) $ heard ! (h.is_open ≡ true) (λ opened.
    split ! $ drop ! $ fsplit ! $ handle_out ! h y.0.4.0 (λ ws. block_out ! h opened (λ b at e.
    move ! (2 ∷ []) $ fsplit ! $ handle_tells Al ! a y.0.4.1.0 (λ hv hws fits.
    -- [the allocator's resources; nothing; the value; the right to free it]
    let w = word true (block_ptr b at) in
    let passed = ws ∙ ap (λ (t : Bool). word t h.at ∷ []) opened ∙ ap (λ (p : Ptr). word true p ∷ []) e in
    suffices ! (Run (w ∷ hv ∷ [])) (subst (λ (us : List Val). ent 𝓤 (Run (w ∷ hv ∷ [])) (Run us)) (sym (λ i. passed i ++ (hws i ++ []))) (id⊢ 𝓤 _)) $
    enter ! 𝓣.C 𝓣.Λ code.function (w ∷ hv ∷ []) Post $ alloc_all ! (λ l. pass_all ! refl ((tt, (tt, (tt, tt))), (fits, tt)) $
    sets ! (of_opd ! (get_in ! (fld ! refl (stop !)) (sub ! 0 refl (whole !)))) refl (tt, tt) $
    sets ! (of_opd ! (get ! refl)) refl (tt, tt) $
    sets ! (agg ! (and_then ! (get ! refl) (and_then ! (get ! refl) (no_more !)))) refl (box_typed Boxed hv b at fits) $
    let o : Block L.Denot Heap.Denot = record { at = block_ptr b at; alloc = a; value = h.value } in
    move ! (2 ∷ 3 ∷ 0 ∷ []) $ block_in L Heap Al.g Al.laws Al.d Al.drops ! o b at refl $ use1 𝓛 (‵ (Held.own_val o (block_word hv b at ∷ []))) (id⊢ 𝓤 _) $
    returns ! (look_at ! 0 refl) $ free_all ! refl $ keep ! (0 ∷ []) $
    suffices ! _ (ends_at 𝓛 f.ended stayed c y (block_word hv b at) o (tt, (tt, tt)) (tt, (tt, tt))) $ says ! refl $
    nothing ! $ nothing ! $ fjoin ! $ nothing ! $ fjoin ! $ join ! $ nothing ! $ join ! $ done !))))))
