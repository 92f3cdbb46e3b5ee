use Rattle.std.proofs.Common.{◌++◌, ◌∷◌, [], List, map, subst, sym, take}
use Rattle.mm_value.specs.declared.values.Value.{Value}
use Rattle.mm_statement.specs.Filling.{blank_value}
use Rattle.mm_statement.specs.steps.Fills.{Fills}
use Rattle.mm_statement.proofs.Fills.{one_read, tuple_next}
use Rattle.mm_statement.proofs.parts.fill_tuple.Goals as goal

pub loop-literal-preserved : goal.loop-literal-preserved
loop-literal-preserved c =
    let literals = c.values-literal-items.result.now in
    let i = c.loop-literal.literal-index in
    let old = c.args.filler.now in
    let new = c.fill_literal.new.filler in
    subst (λ (l : List Value). Fills (map blank_value) (λ (t : List Value). t) old new l c.push.new.self)
    (sym (one_read literals i c.literal-item.result c.loop-literal-test.true c.literal-item.is))
    (subst (λ (l : List Value). Fills (map blank_value) (λ (t : List Value). t) old new (take i literals ++ c.literal-item.result ∷ []) l)
    (sym c.in_ok-push.ensures.ok)
    (tuple_next old c.loop-literal.filler new (take i literals) c.loop-literal.filled c.literal-item.result c.in_ok-value.value
    c.loop-literal.invariant c.in_ok-value.ensures))
