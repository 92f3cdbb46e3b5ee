use Rattle.std.proofs.Common.{◌++◌, ◌∷◌, ◌≤◌, [], List, length, map, subst, sym, take}
use Rattle.std.specs.List.{flat_map}
use Rattle.std.proofs.lemmas.List.{take_all}
use Rattle.mm_value.specs.declared.values.Value.{Value}
use Rattle.mm_statement.specs.Filling.{blank_value}
use Rattle.mm_statement.specs.declared.filler.Filler.{Filler}
use Rattle.mm_statement.specs.steps.Fills.{Fills}
use Rattle.mm_statement.proofs.Fills.{fills_next, one_read}
use Rattle.mm_statement.proofs.parts.fill_tuples.Goals as goal

-- the tuples of a list, each as its literals
abbrev Filled : Filler → Filler → List (List Value) → List (List Value) → Type 0
Filled old new tuples filled = Fills (map (map blank_value)) (flat_map (λ (t : List Value). t)) old new tuples filled

pub loop-tuple-preserved : goal.loop-tuple-preserved
loop-tuple-preserved c =
    let tuples = c.as_slice-tuple-items.result.now in
    let i = c.loop-tuple.tuple-index in
    let old = c.args.filler.now in
    let new = c.fill_tuple.new.filler in
    subst (λ l. Filled old new l c.push.new.self) (sym (one_read tuples i c.tuple-item.result c.loop-tuple-test.true c.tuple-item.is))
    (subst (λ l. Filled old new (take i tuples ++ c.tuple-item.result ∷ []) l) (sym c.in_ok-push.ensures.ok)
    (fills_next (map blank_value) (λ (t : List Value). t) old c.loop-tuple.filler new (take i tuples) c.loop-tuple.filled c.tuple-item.result
    c.in_ok-row.row c.loop-tuple.invariant c.in_ok-row.ensures))

pub returns : goal.returns
returns c =
    let tuples = c.as_slice-tuple-items.result.now in
    let all : length tuples ≤ c.loop-tuple.tuple-index = c.loop-tuple-test.false in
    subst (λ l. Filled c.args.filler.now c.loop-tuple.filler c.args.tuples l) (sym c.new.ensures)
    (subst (λ l. Filled c.args.filler.now c.loop-tuple.filler l c.loop-tuple.filled) c.as_slice-tuple-items.ensures
    (subst (λ l. Filled c.args.filler.now c.loop-tuple.filler l c.loop-tuple.filled) (take_all c.loop-tuple.tuple-index tuples all)
    c.loop-tuple.invariant))
