-- The resources of a block become those of an open handle.
use mathlib.Core.Path.{refl, sym, subst}
use mathlib.Core.List.{List, [], ◌∷◌, ◌++◌}
use mir.Val.{Val}
use base.Logic.{SProp, ent, id⊢}
use base.Fml.{ftrue}
use prog.Wp.{WpFn}
use types.Kit.{‵, ◌⊛◌, ◌$◌, ◌∵◌, !, qed, keep, drop, use1, split, join, fsplit, fjoin, suffices, done}
use types.Part.{agg, sub, whole}
use types.Run.{enter, true_lit, stop, fld, of_opd, no_more, and_then, returns}
use types.ByLocal.{alloc_all, pass_all, free_all, look_at, get, get_in, sets}
use contract.Running.{tables}
use denote.Exit.{yes}
use denote.RattleType.{owns}
use denote.RawPtr.{block_ptr}
use denote.Signature.{types_at, plain}
use denote.Steps.{nothing}
use denote.Triple.Walked.{Stays, stay_dropped, Goes-dropped, walk_of, says, ends_at}
use Rattle.std.specs.Prelude.{true}
use Rattle.std.proofs.BoxSteps.Form.{box_typed}
use Rattle.std.proofs.raw_atomic.Walks.{proved_at}
use Rattle.mmdb_c.specs.declared.handle.Handle.{Handle}
use Rattle.mmdb_c.specs.contracts.handle.Handle.of as f
use Rattle.mmdb_c.proofs.handle.Handle.of.Statement.{statement}
use Rattle.mmdb_c.proofs.handle.Handle.of.Code as code
use Rattle.mmdb_c.proofs.BlockSteps.{word as block_word, Kept, block_out as taken_apart}
use Rattle.mmdb_c.proofs.GlobalSteps.{Heap, Held, Boxed}
use Rattle.mmdb_c.proofs.HandleSteps.{L, word, handle_in, block_in}

abbrev stayed : Stays f.ended.signature.params f.ended.kept
stayed = (stay_dropped (plain (λ _. Held)) yes, tt)

pub of_spec : {M : Type 1} → statement M
of_spec 𝓤 𝓛 𝓜 𝓡 wired =
    let 𝓣 = tables 𝓤 𝓛.H 𝓜 𝓡 𝓡.env in let c = f.clauses 𝓛 𝓜.mem 𝓡.returns in
    proved_at 𝓛 f.ended stayed c 𝓜 𝓡 (Goes-dropped 𝓛 0 (plain (λ _. Held)) yes (λ κs x w. refl), tt)
    f.Key.name code.function (code.unfolded 𝓤 𝓛.H 𝓜 𝓡 wired) (λ y are.
    let o = y.0.3.0 in let Al = Boxed.al in
    let Post : Val → SProp 𝓤 = (walk_of 𝓛 f.ended stayed c).post y in
    let Run : List Val → SProp 𝓤 = λ ws. WpFn 𝓤 𝓛.H 𝓣.C 𝓣.Λ code.function ws Post in
    qed 𝓛 ((‵ ftrue ⊛ ‵ (owns (types_at f.ended.signature.params y.0.0) y.0.3 y.0.4)) ∷ ‵ ftrue ∷ []) ∵
    split ! $ drop ! $ fsplit ! $ use1 𝓛 (‵ ((Kept L Heap Al.g).own_val o y.0.4.0)) (id⊢ 𝓤 _) $
    taken_apart L Heap Al.g Al.laws Al.d Al.drops ! o y.0.4.0 (λ b at hv e ws fits.
    -- [the value; the right to free it; the allocator's resources; nothing; nothing]
    suffices ! (Run (block_word hv b at ∷ [])) (subst (λ (us : List Val). ent 𝓤 (Run (block_word hv b at ∷ [])) (Run us)) (sym (λ i. ws i ++ [])) (id⊢ 𝓤 _)) $
    enter ! 𝓣.C 𝓣.Λ code.function (block_word hv b at ∷ []) Post $ alloc_all ! (λ l. pass_all ! refl (box_typed Boxed hv b at fits, tt) $
    sets ! (of_opd ! (get_in ! (fld ! refl (stop !)) (sub ! 0 refl (whole !)))) refl (tt, tt) $
    sets ! (of_opd ! (get ! refl)) refl (tt, tt) $
    sets ! (agg ! (and_then ! (get ! refl) (and_then ! (true_lit !) (no_more !)))) refl (tt, (tt, (tt, tt))) $
    let h : Handle = record { at = block_ptr b at; is_open = true; heap = o.alloc; value = o.value } in
    block_in ! h b at refl refl $ handle_in ! h $
    returns ! (look_at ! 0 refl) $ free_all ! refl $ keep ! (0 ∷ []) $
    suffices ! _ (ends_at 𝓛 f.ended stayed c y (word true (block_ptr b at)) h (tt, tt) (tt, tt)) $ says ! refl $
    nothing ! $ nothing ! $ fjoin ! $ join ! $ nothing ! $ join ! $ done !)))
