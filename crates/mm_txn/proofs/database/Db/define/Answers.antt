-- A change of the catalog is one of the state, and everything is consistent after it.
use Rattle.std.proofs.Common.{◌≡◌, ◌&&◌, not, false, OnOk, OnErr, sym, subst, ◌∙◌}
use Rattle.mm_query.specs.Machine.{after_definition, is_of_index}
use Rattle.mm_query.specs.State.{State}
use Rattle.mm_txn.specs.Saved.{kept_state}
use Rattle.mm_txn.proofs.TypedSteps.{defined, definition_done, definition_refused, may_by_closed, may_by_index, settled_before}
use Rattle.mm_txn.proofs.database.Db.define.Goals as goal
use Rattle.mm_txn.proofs.database.Db.define.Goals.{else-self-via-then-self+else-not-is_of_index, else-self-via-else-self}

pub define-requires-clause-settled : goal.define-requires-clause-settled
define-requires-clause-settled c =
    let may : (c.self.inside.is_open && not (is_of_index c.args.definition)) ≡ false =
    elim c.else-self.branch [
      | else-self-via-then-self+else-not-is_of_index w ↦
          may_by_index c.self.inside.is_open (is_of_index c.args.definition) (sym w.is_of_index.ensures ∙ w.if-not-is_of_index.false)
      | else-self-via-else-self w ↦ may_by_closed c.self.inside.is_open (is_of_index c.args.definition) w.if-self.false
    ] in
    settled_before c.self.inside.contents c.self.inside.is_open c.self.inside.marks.items
    c.self.invariant c.args.definition may

pub invariant_of-self : goal.invariant_of-self
invariant_of-self c =
    let may : (c.self.inside.is_open && not (is_of_index c.args.definition)) ≡ false =
    elim c.else-self.branch [
      | else-self-via-then-self+else-not-is_of_index w ↦
          may_by_index c.self.inside.is_open (is_of_index c.args.definition) (sym w.is_of_index.ensures ∙ w.if-not-is_of_index.false)
      | else-self-via-else-self w ↦ may_by_closed c.self.inside.is_open (is_of_index c.args.definition) w.if-self.false
    ] in
    defined c.self.inside.contents c.self.inside.is_open c.self.inside.marks.items
    c.self.invariant c.args.definition may
    c.define.new.self c.define.ensures.log c.is_at_rest.ensures.rest c.define.result c.define.ensures.due c.define.ensures.ok
    c.define.ensures.err c.define.ensures.settled c.define.ensures.lists

pub returns-clause-ok : goal.returns-clause-ok
returns-clause-ok c =
    let may : (c.self.inside.is_open && not (is_of_index c.args.definition)) ≡ false =
    elim c.else-self.branch [
      | else-self-via-then-self+else-not-is_of_index w ↦
          may_by_index c.self.inside.is_open (is_of_index c.args.definition) (sym w.is_of_index.ensures ∙ w.if-not-is_of_index.false)
      | else-self-via-else-self w ↦ may_by_closed c.self.inside.is_open (is_of_index c.args.definition) w.if-self.false
    ] in
    subst (λ (s : State). OnOk c.define.result (kept_state c.define.new.self c.self.inside.is_open c.self.inside.marks.items
    ≡ after_definition c.args.definition s)) c.self.view_is
    (definition_done c.self.inside.contents c.self.inside.is_open c.self.inside.marks.items
    c.self.invariant c.args.definition may
    c.define.new.self c.define.ensures.log c.define.result c.define.ensures.ok)

pub returns-clause-err : goal.returns-clause-err
returns-clause-err c =
    let may : (c.self.inside.is_open && not (is_of_index c.args.definition)) ≡ false =
    elim c.else-self.branch [
      | else-self-via-then-self+else-not-is_of_index w ↦
          may_by_index c.self.inside.is_open (is_of_index c.args.definition) (sym w.is_of_index.ensures ∙ w.if-not-is_of_index.false)
      | else-self-via-else-self w ↦ may_by_closed c.self.inside.is_open (is_of_index c.args.definition) w.if-self.false
    ] in
    subst (λ (s : State). OnErr c.define.result (kept_state c.define.new.self c.self.inside.is_open c.self.inside.marks.items
    ≡ s)) c.self.view_is
    (definition_refused c.self.inside.contents c.self.inside.is_open c.self.inside.marks.items
    c.self.invariant c.args.definition may
    c.define.new.self c.define.ensures.log c.define.result c.define.ensures.err)
