-- The change of a slot is told, or no slot has one.
use Rattle.std.proofs.Common.{rules, ◌≡◌, FitsSigned, None, Option, Some, sym, ap, ◌∙◌, subst}
use Rattle.std.specs.Option.{IfNone}
use Rattle.std.proofs.lemmas.Int.{to_z-of_z}
use mir.Syntax.{w64}
use Rattle.mm_multiset.specs.Counts.{IsTold, IsUpToDate}
use Rattle.mm_multiset.specs.Slots.{feed_of}
use Rattle.mm_multiset.proofs.Told.{is_told, up_to_date}
use Rattle.mm_multiset.proofs.bag.Bag.take_change.Goals as goal

always : {A P : Type 0} → P → (o : Option A) → IfNone o P
always p None = p
always p (Some a) = tt

pub returns-in_err-change-clause-none : goal.returns-in_err-change-clause-none
returns-in_err-change-clause-none c =
    let slots = c.self.inside.rows.slots in
    let numbers = c.self.inside.counts in
    always
    (subst (λ f. IsUpToDate f c.args.self.now.entries) c.release_told.ensures.feed
    (subst (IsUpToDate c.release_told.new.self.feed) c.release_told.ensures.entries
    (subst (λ v. IsUpToDate v.feed v.entries) c.self.view_is
    (up_to_date slots numbers.counts numbers.feed c.self.invariant.0.marked c.self.invariant.0.once c.self.invariant.2 c.in_err-change.ensures.none))))
    c.from_residual.result

pub returns-clause-told : goal.returns-clause-told
returns-clause-told c =
    let by = c.in_ok-change.change.by in
    let fits : FitsSigned w64 by = search rules in
    subst (λ z. IsTold c.self.inside.rows.slots (record { slot = c.in_ok-change.change.slot }) z c.args.self.now.feed
    (feed_of c.self.inside.rows.slots c.take_change.new.self.feed)) (sym (to_z-of_z w64 by fits))
    (is_told c.self.inside.rows.slots c.self.inside.counts c.take_change.new.self (record { slot = c.in_ok-change.change.slot })
    c.in_ok-change.change.by c.args.self.now.feed c.self.invariant.0.marked c.self.invariant.2
    (sym c.release_told.ensures.feed ∙ sym (ap (λ v. v.feed) c.self.view_is)) c.in_ok-change.ensures.some)
