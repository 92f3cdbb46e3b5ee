-- The rows are those at the latest savepoint with the name, to which the transaction can still be rolled back.
use Rattle.std.proofs.Common.{◌≡◌, ℕ, suc, ◌+◌, ◌<◌, ◌≤◌, Bool, true, false, List, length, Option, Some, IfSome, take, slice_get, refl, sym, ap}
use Rattle.std.proofs.Common.{subst, ◌∙◌, arith}
use Rattle.std.specs.List.{All}
use Rattle.std.proofs.lemmas.List.Elements.{recursion_from_All}
use Rattle.std.proofs.lemmas.Option.{slice_get_read}
use Rattle.std.proofs.lemmas.Result.{err_from_is_err_and}
use Rattle.mm_schema.specs.Name.{same_name}
use Rattle.mm_schema.specs.Refused.{first_refusal}
use Rattle.mm_value.specs.declared.refusal.Refusal.{Refusal}
use Rattle.mm_value.specs.declared.refusal.Refusal.TheVariants.{NoSuchSavepoint}
use Rattle.mm_query.specs.Machine.{after_rollback_to, conditions}
use Rattle.mm_query.specs.State.{State}
use Rattle.mm_query.specs.declared.command.Command.TheVariants.{RollbackTo}
use Rattle.mm_store.specs.Marks.{mark_of, rows_at_mark}
use Rattle.mm_txn.specs.Saved.{GoesBack, IsConsistent, kept_state}
use Rattle.mm_txn.specs.declared.savepoints.Mark.{Mark}
use Rattle.mm_txn.proofs.LatestMarks.{IsLatest, found_latest, mark_within}
use Rattle.mm_txn.proofs.OpenSteps.{back_at_mark, back_to_savepoint, saved_at}
use Rattle.mm_txn.proofs.RollbackDue.{granted_due, refused_due}
use Rattle.mm_txn.proofs.database.Db.rollback_to.Goals as goal
use Rattle.mm_txn.proofs.database.Db.rollback_to.Goals.{After-lengths-commands}

pub returns-in_err-place-clause-due : goal.returns-in_err-place-clause-due
returns-in_err-place-clause-due c =
    let inside = c.self.inside in
    let p = err_from_is_err_and c.from_residual.result c.from_residual.ensures.1 in
    let none : All (λ (m : Mark). same_name c.args.name.now m.name ≡ false) inside.marks.items =
    subst (All (λ (m : Mark). same_name c.args.name.now m.name ≡ false)) c.as_slice.ensures.value (c.latest.ensures.none c.in_err-place.ensures.ok_part) in
    let due = refused_due c.args.name.now inside.contents inside.is_open inside.marks.items c.if-not-self.false
    (recursion_from_All (λ (m : Mark). same_name c.args.name.now m.name ≡ false) inside.marks.items none) in
    let told : NoSuchSavepoint ≡ c.in_err-place.field-0.0 = grind arith in
    rw (p.1, p.2) (ap (λ (s : State). first_refusal (conditions (RollbackTo c.args.name.now) s)) (sym c.self.view_is)
    ∙ (due ∙ ap (λ (r : Refusal). Some r) told))

module _ (c : After-lengths-commands) where
  abbrev marks : List Mark
  marks = c.self.inside.marks.items

  abbrev place : ℕ
  place = c.in_ok-place.place

  abbrev mark : Mark
  mark = c.index.result.now

  in_slice : length c.as_slice.result.now ≡ length marks
  in_slice = ap length c.as_slice.ensures.value

  within : place < length marks
  within =
      let found : place < length c.as_slice.result.now =
      subst (λ (r : Option ℕ). IfSome r (λ k. k < length c.as_slice.result.now)) c.in_ok-place.ensures.ok_part c.latest.ensures.within in
      omega (arith, found, in_slice)

  pub latest : IsLatest c.args.name.now marks place
  latest =
      found_latest c.args.name.now c.as_slice.result.now marks c.latest.result place c.as_slice.ensures.value c.in_ok-place.ensures.ok_part
      c.latest.ensures.within c.latest.ensures.named c.latest.ensures.latest

  pub there : slice_get marks place ≡ Some mark
  there = slice_get_read marks (length marks) place mark refl within c.index.ensures

  pub commands : c.lengths-commands.result.0 ≡ mark.commands
  commands = ap (λ (p : ℕ × ℕ). p.0) c.lengths-commands.ensures

  pub changes : c.lengths-commands.result.1 ≡ mark.changes
  changes = ap (λ (p : ℕ × ℕ). p.1) c.lengths-commands.ensures

  pub opened : c.self.inside.is_open ≡ true
  opened = c.if-not-self.false

  pub inside_logs : (mark.commands ≤ mark_of c.self.inside.contents.store) × (mark.changes ≤ length c.self.inside.contents.lists.log)
  inside_logs =
      mark_within 0 0 marks (mark_of c.self.inside.contents.store) (length c.self.inside.contents.lists.log) place mark there
      (c.self.invariant.back opened).ascend

pub revert-requires-clause-back : goal.revert-requires-clause-back
revert-requires-clause-back c =
    let at = (goal.at.revert-requires-clause-back c).After-lengths-commands in
    let held = c.self.inside.contents in
    subst (GoesBack held.store held.lists c.lengths-commands.result.0) (sym (changes at))
    (subst (λ (n : ℕ). GoesBack held.store held.lists n c.index.result.now.changes) (sym (commands at))
    (saved_at held.store held.lists c.self.inside.marks.items c.in_ok-place.place c.index.result.now (c.self.invariant.back (opened at)).each (there at)))

pub revert-requires-clause-changes : goal.revert-requires-clause-changes
revert-requires-clause-changes c =
    let at = (goal.at.revert-requires-clause-changes c).After-lengths-commands in
    omega (arith, (inside_logs at).1, changes at)

pub returns-clause-due : goal.returns-clause-due
returns-clause-due c =
    let inside = c.self.inside in
    let at = (goal.at.returns-clause-due c).After-lengths-commands in
    ap (λ (s : State). first_refusal (conditions (RollbackTo c.args.name.now) s)) (sym c.self.view_is)
    ∙ granted_due c.args.name.now inside.contents inside.is_open inside.marks.items c.if-not-self.false c.in_ok-place.place
    (latest at)

pub invariant_of-self : goal.invariant_of-self
invariant_of-self c =
    let inside = c.self.inside in
    let at = (goal.at.invariant_of-self c).After-lengths-commands in
    let marks : List Mark = inside.marks.items in
    let mark : Mark = c.index.result.now in
    let was : IsConsistent inside.contents true marks =
    subst (λ (b : Bool). IsConsistent inside.contents b marks) (opened at) c.self.invariant in
    let one : c.in_ok-place.place + 1 ≡ suc c.in_ok-place.place = omega arith in
    let cut : c.truncate.new.self.items ≡ take (suc c.in_ok-place.place) marks =
    c.truncate.ensures.items ∙ ap (λ (n : ℕ). take n marks) one in
    let now : IsConsistent c.revert.new.self true (take (suc c.in_ok-place.place) marks) =
    back_to_savepoint inside.contents marks was c.revert.new.self
    c.revert.ensures.schema c.revert.ensures.queries c.args.name.now c.in_ok-place.place (latest at) mark (there at)
    (c.revert.ensures.rows ∙ ap (λ (n : ℕ). rows_at_mark n inside.contents.store) (commands at)) (c.revert.ensures.mark ∙ commands at)
    (λ n before. c.revert.ensures.marks n (omega (arith, before, commands at)))
    (λ n before list row. c.revert.ensures.counts n (omega (arith, before, changes at)) list row)
    (c.revert.ensures.log ∙ ap (λ (n : ℕ). take n inside.contents.lists.log) (changes at)) in
    subst (λ (b : Bool). IsConsistent c.revert.new.self b c.truncate.new.self.items) (sym (opened at))
    (subst (λ (ms : List Mark). IsConsistent c.revert.new.self true ms) (sym cut) now)

pub returns-clause-ok : goal.returns-clause-ok
returns-clause-ok c =
    let inside = c.self.inside in
    let at = (goal.at.returns-clause-ok c).After-lengths-commands in
    let marks : List Mark = inside.marks.items in
    let mark : Mark = c.index.result.now in
    let was : IsConsistent inside.contents true marks =
    subst (λ (b : Bool). IsConsistent inside.contents b marks) (opened at) c.self.invariant in
    let one : c.in_ok-place.place + 1 ≡ suc c.in_ok-place.place = omega arith in
    let cut : c.truncate.new.self.items ≡ take (suc c.in_ok-place.place) marks =
    c.truncate.ensures.items ∙ ap (λ (n : ℕ). take n marks) one in
    let now : kept_state c.revert.new.self true (take (suc c.in_ok-place.place) marks)
    ≡ after_rollback_to c.args.name.now (kept_state inside.contents true marks) =
    back_at_mark inside.contents marks was c.revert.new.self
    c.revert.ensures.schema c.revert.ensures.queries c.args.name.now c.in_ok-place.place (latest at) mark (there at)
    (c.revert.ensures.rows ∙ ap (λ (n : ℕ). rows_at_mark n inside.contents.store) (commands at)) (c.revert.ensures.mark ∙ commands at)
    (λ n before. c.revert.ensures.marks n (omega (arith, before, commands at)))
    (λ n before list row. c.revert.ensures.counts n (omega (arith, before, changes at)) list row)
    (c.revert.ensures.log ∙ ap (λ (n : ℕ). take n inside.contents.lists.log) (changes at)) in
    (λ i. kept_state c.revert.new.self (opened at i) (cut i))
    ∙ (now
    ∙ (ap (λ (b : Bool). after_rollback_to c.args.name.now (kept_state inside.contents b marks)) (sym (opened at))
    ∙ ap (after_rollback_to c.args.name.now) c.self.view_is))
