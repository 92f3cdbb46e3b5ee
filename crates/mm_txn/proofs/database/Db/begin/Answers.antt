-- The current rows are those at the beginning.
use Rattle.std.proofs.Common.{◌≡◌, Bool, false, true, sym, ap, subst, ◌∙◌}
use Rattle.mm_query.specs.Machine.{after_begin}
use Rattle.mm_txn.specs.Saved.{IsConsistent, kept_state}
use Rattle.mm_txn.proofs.OpenSteps.{begun, begun_state}
use Rattle.mm_txn.proofs.database.Db.begin.Goals as goal

pub invariant_of-self : goal.invariant_of-self
invariant_of-self c =
    let inside = c.self.inside in
    begun inside.contents inside.marks.items c.is_at_rest.ensures.back c.is_at_rest.ensures.rows
    (subst (λ (b : Bool). IsConsistent inside.contents b inside.marks.items) c.if-self.false c.self.invariant)

pub returns-clause-ok : goal.returns-clause-ok
returns-clause-ok c =
    let inside = c.self.inside in
    begun_state inside.contents inside.marks.items c.is_at_rest.ensures.back c.is_at_rest.ensures.rows
    (subst (λ (b : Bool). IsConsistent inside.contents b inside.marks.items) c.if-self.false c.self.invariant)
    ∙ (ap (λ (b : Bool). after_begin (kept_state inside.contents b inside.marks.items)) (sym c.if-self.false) ∙ ap after_begin c.self.view_is)
