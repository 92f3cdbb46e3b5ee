use Rattle.std.proofs.Common.{All, List, [], ◌∷◌, get_or, sym, ◌∙◌, subst, arith}
use Rattle.std.proofs.lemmas.List.Elements.{All-append, All-cons}
use Rattle.mm_value.specs.declared.row_ref.RowRef.{RowRef}
use Rattle.mm_partition.specs.Places.{IsLive}
use Rattle.bench_structures.specs.Apart.{AreApart}
use Rattle.bench_structures.proofs.Rows.{is_elsewhere, live_after, AreApart-push}
use Rattle.bench_structures.proofs.in_rows.fill.Goals as goal

pub loop-preserved : goal.loop-preserved
loop-preserved c =
    let refs : List RowRef = c.loop.refs.items in
    let at : RowRef = c.place-at.result in
    let reserved : All (IsLive c.reserve.new.self) refs = λ k d within.
    let (row, is) = c.loop.invariant.live k d within in
    (row, c.in_ok-reserve.ensures.rows (get_or refs k d) ∙ is) in
    let kept : All (IsLive c.place-at.new.self) refs = λ k d within. live_after c.reserve.new.self c.place-at.new.self at _ c.place-at.ensures.fresh
    c.place-at.ensures.placed (get_or refs k d) (reserved k d within) in
    let placed : All (IsLive c.place-at.new.self) (at ∷ []) = All-cons (IsLive c.place-at.new.self) at [] (_, c.place-at.ensures.placed.changed)
    (λ k d within. absurd (omega (arith, within))) in
    record {
      live = subst (All (IsLive c.place-at.new.self)) (sym c.in_ok-push.ensures.items) (All-append (IsLive c.place-at.new.self) refs (at ∷ []) kept placed);
      apart = subst AreApart (sym c.in_ok-push.ensures.items)
          (AreApart-push refs at c.loop.invariant.apart
          (λ k d within. is_elsewhere c.reserve.new.self at (get_or refs k d) c.place-at.ensures.fresh (reserved k d within)));
      types = c.place-at.ensures.types ∙ (c.in_ok-reserve.ensures.types ∙ c.loop.invariant.types);
    }
