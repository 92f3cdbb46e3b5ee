use Rattle.std.proofs.Common.{is_none, inr, refl, sym, ap, ◌∙◌, arith}
use Rattle.std.specs.List.{position}
use Rattle.mm_session.proofs.SlotLemmas.{all_taken, free_place, taken_below}
use Rattle.mm_session.proofs.slots.add.Goals as goal

pub returns-in-Some-clause-ok : goal.returns-in-Some-clause-ok
returns-in-Some-clause-ok c =
    inr (
      free_place c.args.statements.now.items c.in-Some.number
          (sym (ap (position is_none) c.deref.ensures.value) ∙ (sym c.first_free.ensures ∙ c.in-Some.is)),
      refl,
    )

pub returns-in-Some-clause-least : goal.returns-in-Some-clause-least
returns-in-Some-clause-least c =
    taken_below c.args.statements.now.items c.in-Some.number
    (sym (ap (position is_none) c.deref.ensures.value) ∙ (sym c.first_free.ensures ∙ c.in-Some.is))

pub returns-in_ok-push-in-None-clause-least : goal.returns-in_ok-push-in-None-clause-least
returns-in_ok-push-in-None-clause-least c = λ k below.
    all_taken c.args.statements.now.items (sym (ap (position is_none) c.deref.ensures.value) ∙ (sym c.first_free.ensures ∙ c.in-None.is)) k
    (omega (arith, below, c.len-number.ensures, c.args.statements.now.ok.0))
