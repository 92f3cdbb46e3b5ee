use Rattle.std.proofs.Common.{◌≡◌, ◌<◌, ℕ, ◌+◌, List, [], ◌∷◌, Option, Some, None, drop, length, sym, ap, ◌∙◌, arith, length-drop}
use Rattle.std.specs.Prelude.{MatchOption}
use Rattle.std.proofs.lemmas.List.{drop-drop}
use Rattle.mm_value.specs.declared.values.Value.{Value}
use Rattle.mm_partition.specs.Views.{viewed}
use Rattle.mm_session.proofs.dumping.skip.Goals as goal

-- One more row is skipped.
skipped : {R : Type 0} (values : R → List Value) (next : Option R) (all old new : List (List Value)) (i : ℕ) → old ≡ drop i all → i < length all
    → MatchOption next (old ≡ []) (λ row. old ≡ values row ∷ new) → new ≡ drop (i + 1) all
skipped values None all old new i same within is =
    let none : length (drop i all) ≡ 0 = ap length (sym same ∙ is) in
    absurd (omega (arith, none, length-drop i all, within))
skipped values (Some row) all old new i same within is = sym (ap (drop 1) is) ∙ ap (drop 1) same ∙ drop-drop 1 i all

pub loop-preserved : goal.loop-preserved
loop-preserved c =
    let within : c.loop.counter < length c.args.rows.now = omega arith in
    skipped viewed c.next.result c.args.rows.now c.loop.rows c.next.new.self c.loop.counter c.loop.invariant within c.next.ensures
