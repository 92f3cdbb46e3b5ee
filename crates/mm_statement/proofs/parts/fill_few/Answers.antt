use Rattle.std.proofs.Common.{[], ◌∷◌, ap, length, map, subst, sym, ◌∙◌, ◌≡◌}
use Rattle.std.specs.List.{flat_map}
use Rattle.std.proofs.lemmas.Result.{err_from_is_err_and}
use Rattle.mm_statement.specs.steps.Fills.{Fills, IsUnfillable}
use Rattle.mm_statement.proofs.Fills.{fills_none, fills_only, goes_next, goes_stuck, list_stuck, stuck_with}
use Rattle.mm_statement.proofs.parts.fill_few.Goals as goal

pub returns-in_err-filled : goal.returns-in_err-filled
returns-in_err-filled g c =
    let p = err_from_is_err_and c.from_residual.result c.from_residual.ensures.1 in
    let blank = g.T.Fill.blank in
    let literals = g.T.Fill.literals in
    let old = c.args.filler.now in
    let new = c.fill.new.filler in
    let split : c.args.parts ≡ c.in-Some.part ∷ c.next.new.self = sym c.into_iter-parts.ensures.into_iter_gives ∙ c.in-Some.ensures.steps in
    rw (p.1, p.2)
    (stuck_with blank literals (map blank) (flat_map literals) old old new new c.in-Some.part c.args.parts _
    (λ stuck. subst (IsUnfillable (map blank) (flat_map literals) old) (sym split)
    (list_stuck blank literals g.met.T.Fill.counted old old [] [] c.next.new.self c.in-Some.part (fills_none blank literals old) stuck))
    c.in_err-filled.ensures)

pub returns : goal.returns
returns g c =
    let blank = g.T.Fill.blank in
    let literals = g.T.Fill.literals in
    let old = c.args.filler.now in
    let new = c.fill.new.filler in
    let split : c.args.parts ≡ c.in-Some.part ∷ c.next.new.self = sym c.into_iter-parts.ensures.into_iter_gives ∙ c.in-Some.ensures.steps in
    subst (λ l. Fills (map blank) (flat_map literals) old new c.args.parts l) (sym c.one.ensures)
    (fills_only blank literals old new c.args.parts c.next.new.self c.in-Some.part c.in_ok-filled.filled split
    (ap length (sym c.as_slice-count.ensures) ∙ c.if-count-eq1.true) c.in_ok-filled.ensures)

pub returns-in_err-next : goal.returns-in_err-next
returns-in_err-next g c =
    let p = err_from_is_err_and c.from_residual-in_err-next.result c.from_residual-in_err-next.ensures.1 in
    let blank = g.T.Fill.blank in
    let literals = g.T.Fill.literals in
    let old = c.args.filler.now in
    let now = c.loop-part.filler in
    let new = c.fill-in-loop-part.new.filler in
    rw (p.1, p.2)
    (stuck_with blank literals (map blank) (flat_map literals) old now new new c.in-Some-part.part c.args.parts _
    (goes_stuck blank literals g.met.T.Fill.counted old now c.args.parts c.loop-part.filled.items c.loop-part.part-iterator c.next-in-loop-part.new.self
    c.in-Some-part.part c.loop-part.invariant c.in-Some-part.ensures.steps) c.in_err-next.ensures)

pub loop-part-preserved : goal.loop-part-preserved
loop-part-preserved g c =
    goes_next g.T.Fill.blank g.T.Fill.literals c.args.filler.now c.loop-part.filler c.fill-in-loop-part.new.filler c.args.parts c.loop-part.filled.items
    c.push.new.self.items c.loop-part.part-iterator c.next-in-loop-part.new.self c.in-Some-part.part c.in_ok-next.next c.loop-part.invariant
    c.in-Some-part.ensures.steps c.in_ok-next.ensures c.in_ok-push.ensures.items
