-- The values of one more entry are at the end.
use Rattle.std.proofs.Common.{◌≡◌, ◌++◌, List, length, replicate, sym, ap, ◌∙◌, arith}
use Rattle.std.proofs.lemmas.List.{append-nil}
use Rattle.mm_value.specs.declared.values.Value.{Value}
use Rattle.mm_partition.specs.Views.{viewed}
use Rattle.mm_multiset.specs.Counts.{Entries}
use Rattle.mm_templist.specs.Runs.{referred}
use Rattle.mm_standing.specs.Showing.{rows_shown, times_shown, values_in_turn}
use Rattle.mm_standing.proofs.Pushing.{pushed_entry}
use Rattle.mm_standing.proofs.listing.push_entries.Goals as goal

pub loop-row-smaller : goal.loop-row-smaller
loop-row-smaller c = omega (arith, ap length c.in-Some.ensures)

pub loop-row-preserved : goal.loop-row-preserved
loop-row-preserved c =
    let row = viewed c.in-Some.row in
    let now : List Value = referred c.loop-row.values.items in
    let pushed : referred c.push_copies.new.values.items ≡ now ++ values_in_turn (replicate (times_shown c.args.distinct c.in-Some.count) row) =
    c.in_ok-push_copies.ensures ∙ ap (λ k. now ++ values_in_turn (replicate k row)) c.times_shown.ensures in
    pushed_entry c.loop-row.entries c.next.new.self row c.in-Some.count c.in-Some.ensures c.args.distinct now (referred c.push_copies.new.values.items)
    (referred c.args.values.now.items ++ values_in_turn (rows_shown c.args.distinct c.args.entries)) pushed c.loop-row.invariant

pub returns : goal.returns
returns c =
    let now : List Value = referred c.loop-row.values.items in
    sym (append-nil now) ∙ ap (λ (es : Entries). now ++ values_in_turn (rows_shown c.args.distinct es)) (sym c.in_default.ensures)
    ∙ c.loop-row.invariant
