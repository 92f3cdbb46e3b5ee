use Rattle.std.proofs.Common.{◌++◌, ◌∷◌, ◌≤◌, [], List, length, map, subst, sym, take}
use Rattle.std.specs.List.{flat_map}
use Rattle.std.proofs.lemmas.List.{take_all}
use Rattle.mm_value.specs.declared.values.Value.{Value}
use Rattle.mm_statement.specs.Filling.{blank_value}
use Rattle.mm_statement.specs.Refilling.{Refills}
use Rattle.mm_statement.specs.declared.refiller.Refiller.{Refiller}
use Rattle.mm_statement.specs.steps.Refills.{RefillsPart}
use Rattle.mm_statement.proofs.Fills.{one_read}
use Rattle.mm_statement.proofs.Refillers.{next_refilled, whole_refilled}
use Rattle.mm_statement.proofs.refilling.filled_rows.Goals as goal

-- the rows of a list, each as its literals
abbrev Refilled : Refiller → Refiller → List (List Value) → List (List Value) → Type 0
Refilled old new rows filled = RefillsPart (map (map blank_value)) (flat_map (λ (t : List Value). t)) old new rows filled

pub loop-row-preserved : goal.loop-row-preserved
loop-row-preserved c =
    let rows = c.as_slice-row-items.result.now in
    let i = c.loop-row.row-index in
    let old = c.new-refiller.result in
    let new = c.filled_row.new.refiller in
    subst (λ l. Refilled old new l c.push.new.self) (sym (one_read rows i c.row-item.result c.loop-row-test.true c.row-item.is))
    (subst (λ l. Refilled old new (take i rows ++ c.row-item.result ∷ []) l) (sym c.in_ok-push.ensures.ok)
    (next_refilled (map blank_value) (λ (t : List Value). t) old c.loop-row.refiller new (take i rows) c.loop-row.filled c.row-item.result
    c.in_ok-row.row c.loop-row.invariant c.in_ok-row.ensures))

pub returns : goal.returns
returns c =
    let rows = c.as_slice-row-items.result.now in
    let all : length rows ≤ c.loop-row.row-index = c.loop-row-test.false in
    subst (λ l. Refills (map (map blank_value)) (flat_map (λ (t : List Value). t)) c.args.holes.now c.args.values.now c.args.rows.now l) (sym c.new.ensures)
    (whole_refilled c.args.holes.now c.args.values.now c.new-refiller.result c.loop-row.refiller c.new-refiller.ensures.holes
    c.new-refiller.ensures.minus_ones c.new-refiller.ensures.values c.in_ok-finish.ensures (map (map blank_value)) (flat_map (λ (t : List Value). t))
    c.args.rows.now c.loop-row.filled
    (subst (λ l. Refilled c.new-refiller.result c.loop-row.refiller l c.loop-row.filled) c.as_slice-row-items.ensures
    (subst (λ l. Refilled c.new-refiller.result c.loop-row.refiller l c.loop-row.filled) (take_all c.loop-row.row-index rows all)
    c.loop-row.invariant)))
