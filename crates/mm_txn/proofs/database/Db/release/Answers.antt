-- The marks before the latest one with the name remain, and the transaction can still be rolled back to them.
use Rattle.std.proofs.Common.{◌≡◌, Bool, true, false, List, Some, sym, ap, arith, ◌∙◌, subst}
use Rattle.std.specs.List.{All}
use Rattle.std.proofs.lemmas.List.Elements.{recursion_from_All}
use Rattle.std.proofs.lemmas.Result.{err_from_is_err_and}
use Rattle.mm_schema.specs.Name.{same_name}
use Rattle.mm_schema.specs.Refused.{first_refusal}
use Rattle.mm_value.specs.declared.refusal.Refusal.{Refusal}
use Rattle.mm_value.specs.declared.refusal.Refusal.TheVariants.{NoSuchSavepoint}
use Rattle.mm_query.specs.Machine.{conditions}
use Rattle.mm_query.specs.State.{State}
use Rattle.mm_query.specs.declared.command.Command.TheVariants.{RollbackTo}
use Rattle.mm_txn.specs.Releasing.{after_release}
use Rattle.mm_txn.specs.Saved.{IsConsistent, kept_state}
use Rattle.mm_txn.specs.declared.savepoints.Mark.{Mark}
use Rattle.mm_txn.proofs.LatestMarks.{found_latest}
use Rattle.mm_txn.proofs.Releases.{fewer_consistent, released_state}
use Rattle.mm_txn.proofs.RollbackDue.{granted_due, refused_due}
use Rattle.mm_txn.proofs.database.Db.release.Goals as goal

pub returns-in_err-place-clause-due : goal.returns-in_err-place-clause-due
returns-in_err-place-clause-due c =
    let inside = c.self.inside in
    let p = err_from_is_err_and c.from_residual.result c.from_residual.ensures.1 in
    let none : All (λ (m : Mark). same_name c.args.name.now m.name ≡ false) inside.marks.items =
    subst (All (λ (m : Mark). same_name c.args.name.now m.name ≡ false)) c.as_slice.ensures.value (c.latest.ensures.none c.in_err-place.ensures.ok_part) in
    let due = refused_due c.args.name.now inside.contents inside.is_open inside.marks.items c.if-not-self.false
    (recursion_from_All (λ (m : Mark). same_name c.args.name.now m.name ≡ false) inside.marks.items none) in
    let told : NoSuchSavepoint ≡ c.in_err-place.field-0.0 = grind arith in
    rw (p.1, p.2) (ap (λ (s : State). first_refusal (conditions (RollbackTo c.args.name.now) s)) (sym c.self.view_is)
    ∙ (due ∙ ap (λ (r : Refusal). Some r) told))

pub returns-clause-due : goal.returns-clause-due
returns-clause-due c =
    let inside = c.self.inside in
    let found = found_latest c.args.name.now c.as_slice.result.now inside.marks.items c.latest.result c.in_ok-place.place c.as_slice.ensures.value
    c.in_ok-place.ensures.ok_part c.latest.ensures.within c.latest.ensures.named c.latest.ensures.latest in
    ap (λ (s : State). first_refusal (conditions (RollbackTo c.args.name.now) s)) (sym c.self.view_is)
    ∙ granted_due c.args.name.now inside.contents inside.is_open inside.marks.items c.if-not-self.false c.in_ok-place.place found

pub invariant_of-self : goal.invariant_of-self
invariant_of-self c =
    let inside = c.self.inside in
    let was : IsConsistent inside.contents true inside.marks.items =
    subst (λ (b : Bool). IsConsistent inside.contents b inside.marks.items) c.if-not-self.false c.self.invariant in
    subst (λ (b : Bool). IsConsistent inside.contents b c.truncate.new.self.items) (sym c.if-not-self.false)
    (subst (λ (ms : List Mark). IsConsistent inside.contents true ms) (sym c.truncate.ensures.items)
    (fewer_consistent inside.contents inside.marks.items _ was))

pub returns-clause-ok : goal.returns-clause-ok
returns-clause-ok c =
    let inside = c.self.inside in
    let found = found_latest c.args.name.now c.as_slice.result.now inside.marks.items c.latest.result c.in_ok-place.place c.as_slice.ensures.value
    c.in_ok-place.ensures.ok_part c.latest.ensures.within c.latest.ensures.named c.latest.ensures.latest in
    (λ i. kept_state inside.contents (c.if-not-self.false i) (c.truncate.ensures.items i))
    ∙ (released_state inside.contents inside.marks.items c.args.name.now c.in_ok-place.place found
    ∙ (ap (λ (b : Bool). after_release c.args.name.now (kept_state inside.contents b inside.marks.items)) (sym c.if-not-self.false)
    ∙ ap (after_release c.args.name.now) c.self.view_is))
