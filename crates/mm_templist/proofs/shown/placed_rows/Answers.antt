use Rattle.std.proofs.Common.{◌≡◌, ◌≤◌, ◌*◌, ◌++◌, ◌∷◌, [], All, List, Some, length, map, sym, ap, ◌∙◌, subst, arith}
use Rattle.std.specs.Prelude.{slice_get}
use Rattle.std.proofs.lemmas.List.{map_push, take_all}
use Rattle.std.proofs.lemmas.List.Elements.{All-push}
use Rattle.mm_value.specs.declared.value_ref.ValueRef.{ValueRef}
use Rattle.mm_value.specs.declared.values.Value.{Value}
use Rattle.mm_query.specs.Queries.{sort_key}
use Rattle.mm_templist.specs.Pieces.{pieces}
use Rattle.mm_templist.specs.Runs.{leading_prefix, referred}
use Rattle.mm_templist.specs.Shown.{HasPrefix, placed_row}
use Rattle.mm_templist.specs.declared.shown.Placed.{Placed}
use Rattle.mm_templist.proofs.Live.{next_of}
use Rattle.mm_templist.proofs.Pieces.{length-pieces, piece_at}
use Rattle.mm_templist.proofs.Placed.{run_is_piece}
use Rattle.mm_templist.proofs.shown.placed_rows.Goals as goal

pub loop-i-preserved : goal.loop-i-preserved
loop-i-preserved c =
    let width = c.args.width in
    let refs : List ValueRef = c.args.values.now in
    let row : Placed → List Value = placed_row width refs in
    let placed : Placed = record { prefix = c.leading_prefix-prefix.result; start = c.loop-i.i * width } in
    let all : List (List Value) = pieces width c.args.count (referred refs) in
    let here : slice_get all c.loop-i.i ≡ Some (row placed) =
    piece_at width c.args.count (referred refs) c.loop-i.i c.loop-i-test.true ∙ ap Some (sym (run_is_piece width refs (c.loop-i.i * width))) in
    let numbered : HasPrefix c.args.order.now width refs placed =
    c.leading_prefix-prefix.ensures ∙ ap (λ run. leading_prefix (sort_key c.args.order.now run)) c.run_from.ensures in
    record {
      rows = ap (map row) c.in_ok-push.ensures.ok
          ∙ (map_push row c.loop-i.places.items placed
          ∙ (ap (λ rows. rows ++ row placed ∷ []) c.loop-i.invariant.rows ∙ sym (next_of all c.loop-i.i (row placed) here)));
      prefixes = subst (All (HasPrefix c.args.order.now width refs)) (sym c.in_ok-push.ensures.ok)
          (All-push (HasPrefix c.args.order.now width refs) c.loop-i.places.items placed c.loop-i.invariant.prefixes numbered);
    }

pub returns-clause-rows : goal.returns-clause-rows
returns-clause-rows c =
    let all = pieces c.args.width c.args.count (referred c.args.values.now) in
    let ends : length all ≤ c.loop-i.i = omega (arith, c.loop-i-test.false, length-pieces c.args.width c.args.count (referred c.args.values.now)) in
    c.loop-i.invariant.rows ∙ take_all c.loop-i.i all ends
