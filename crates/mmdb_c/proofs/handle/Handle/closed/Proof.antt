-- A closed handle owns nothing.
use mathlib.Core.Path.{refl, sym, subst}
use mathlib.Core.List.{List, [], ◌∷◌, ◌++◌}
use mir.Val.{Val}
use base.Logic.{SProp, ent, id⊢}
use base.Fml.{ftrue}
use prog.Wp.{WpFn}
use types.Kit.{‵, ◌⊛◌, ◌$◌, ◌∵◌, !, qed, done, drop, keep, split, join, fsplit, fjoin, suffices}
use types.Part.{agg}
use types.Run.{enter, lit, false_lit, no_more, and_then, returns}
use types.ByLocal.{alloc_all, pass_all, free_all, look_at, sets}
use contract.Running.{tables}
use denote.Exit.{yes}
use denote.RattleType.{owns}
use denote.RawPtr.{null_ptr}
use denote.Signature.{types_at, plain}
use denote.Steps.{nothing}
use denote.Triple.Walked.{Stays, stay_dropped, Goes-dropped, walk_of, says, ends_at}
use Rattle.std.specs.Prelude.{false}
use Rattle.std.proofs.Common.{lit<}
use Rattle.std.proofs.alloc.Calls.{handle_tells}
use Rattle.std.proofs.raw_atomic.Walks.{proved_at}
use Rattle.mmdb_c.specs.Sessions.{new_session}
use Rattle.mmdb_c.specs.declared.handle.Handle.{Handle}
use Rattle.mmdb_c.specs.contracts.handle.Handle.closed as f
use Rattle.mmdb_c.proofs.handle.Handle.closed.Statement.{statement}
use Rattle.mmdb_c.proofs.handle.Handle.closed.Code as code
use Rattle.mmdb_c.proofs.GlobalSteps.{Heap, Boxed}
use Rattle.mmdb_c.proofs.HandleSteps.{word, handle_in}

abbrev stayed : Stays f.ended.signature.params f.ended.kept
stayed = (stay_dropped (plain (λ _. Heap)) yes, tt)

pub closed_spec : {M : Type 1} → statement M
closed_spec 𝓤 𝓛 𝓜 𝓡 wired =
    let 𝓣 = tables 𝓤 𝓛.H 𝓜 𝓡 𝓡.env in let c = f.clauses 𝓛 𝓜.mem 𝓡.returns in
    proved_at 𝓛 f.ended stayed c 𝓜 𝓡 (Goes-dropped 𝓛 0 (plain (λ _. Heap)) yes (λ κs x w. refl), tt)
    f.Key.name code.function (code.unfolded 𝓤 𝓛.H 𝓜 𝓡 wired) (λ y are.
    let a = y.0.3.0 in let h : Handle = record { at = null_ptr; is_open = false; heap = a; value = new_session } in
    let Post : Val → SProp 𝓤 = (walk_of 𝓛 f.ended stayed c).post y in
    let Run : List Val → SProp 𝓤 = λ ws. WpFn 𝓤 𝓛.H 𝓣.C 𝓣.Λ code.function ws Post in
    qed 𝓛 ((‵ ftrue ⊛ ‵ (owns (types_at f.ended.signature.params y.0.0) y.0.3 y.0.4)) ∷ ‵ ftrue ∷ []) ∵
    split ! $ drop ! $ fsplit ! $ handle_tells Boxed.al ! a y.0.4.0 (λ hv hws fits.
    suffices ! (Run (hv ∷ [])) (subst (λ (us : List Val). ent 𝓤 (Run (hv ∷ [])) (Run us)) (sym (λ i. hws i ++ [])) (id⊢ 𝓤 _)) $
    enter ! 𝓣.C 𝓣.Λ code.function (hv ∷ []) Post $ alloc_all ! (λ l. pass_all ! refl (fits, tt) $
    sets ! (agg ! (and_then ! (lit ! tt) (and_then ! (false_lit !) (no_more !)))) refl (tt, (record { fits = lit< tt }, (tt, tt))) $
    nothing ! $ handle_in ! h $ returns ! (look_at ! 0 refl) $ free_all ! refl $ keep ! (0 ∷ []) $
    suffices ! _ (ends_at 𝓛 f.ended stayed c y (word false null_ptr) h (tt, tt) (tt, tt)) $ says ! refl $
    nothing ! $ nothing ! $ fjoin ! $ join ! $ nothing ! $ join ! $ done !)))
