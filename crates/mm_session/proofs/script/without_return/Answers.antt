use Rattle.std.proofs.Common.{◌++◌, ◌∷◌, [], cond, eqb, sym, ap, ◌∙◌}
use Rattle.std.proofs.lemmas.Bool.{eq-eqb, eqb-true}
use Rattle.mm_lang.specs.Lines.{without_return}
use Rattle.mm_session.proofs.LineEnds.{is_false, without_return-last}
use Rattle.mm_session.proofs.script.without_return.Goals as goal

pub returns-then-last-eq13 : goal.returns-then-last-eq13
returns-then-last-eq13 c =
    let front = c.in-Some.front.now in
    let last = c.in-Some.last.now in
    sym (ap without_return c.in-Some.ensures.cases.0
    ∙ (without_return-last front last ∙ ap (λ b. cond b front (front ++ last ∷ [])) (eq-eqb last 13 c.if-last-eq13.true)))

pub returns-else-last-eq13 : goal.returns-else-last-eq13
returns-else-last-eq13 c =
    let front = c.in-Some.front.now in
    let last = c.in-Some.last.now in
    c.in-Some.ensures.cases.0
    ∙ sym (ap without_return c.in-Some.ensures.cases.0
    ∙ (without_return-last front last ∙ ap (λ b. cond b front (front ++ last ∷ [])) (is_false (eqb last 13) (λ h. c.if-last-eq13.false (eqb-true last 13 h)))))
