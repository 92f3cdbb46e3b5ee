use Rattle.std.proofs.Common.{◌≡◌, ◌≤◌, true, false, [], ◌∷◌, ◌++◌, None, Some, inl, sym, ap, ◌∙◌, subst}
use Rattle.std.proofs.lemmas.List.{append-nil}
use Rattle.mm_partition.specs.Views.{viewed}
use Rattle.mm_schema.specs.Refused.{first_refusal}
use Rattle.mm_select.proofs.Walks.{row_given}
use Rattle.mm_value.specs.declared.refusal.Refusal.TheVariants.{ResultTooLarge}
use Rattle.mm_join.proofs.Caps.{past_by_one, within_cap}
use Rattle.mm_join.proofs.Chosen.{told_match}
use Rattle.mm_join.specs.Caps.{cap_conditions}
use Rattle.mm_join.proofs.inner.Inner.add_fitting.Goals as goal

pub returns-then-not-fits-clause-due : goal.returns-then-not-fits-clause-due
returns-then-not-fits-clause-due c =
    let inner = c.args.self.now in
    let none = told_match c.args.view.now.store inner.table inner.atoms.now c.args.outer.now c.args.at false c.args.rows.now.items c.push.new.self.items
    c.deref.result.now c.row.result (row_given c.args.view.now.store inner.table c.args.at (viewed c.row.result) c.requires.there c.row.ensures.row)
    c.in_ok-push.ensures.items c.deref.ensures.value c.if-not-fits.ensures in
    subst (λ l. first_refusal (cap_conditions inner.cap l) ≡ None)
    (sym (ap (λ l. c.args.list.now.combos ++ l) none ∙ append-nil c.args.list.now.combos))
    (within_cap inner.cap c.args.list.now.combos c.requires.few)

pub returns-then-not-fits-clause-list : goal.returns-then-not-fits-clause-list
returns-then-not-fits-clause-list c =
    let inner = c.args.self.now in
    let none = told_match c.args.view.now.store inner.table inner.atoms.now c.args.outer.now c.args.at false c.args.rows.now.items c.push.new.self.items
    c.deref.result.now c.row.result (row_given c.args.view.now.store inner.table c.args.at (viewed c.row.result) c.requires.there c.row.ensures.row)
    c.in_ok-push.ensures.items c.deref.ensures.value c.if-not-fits.ensures in
    ap (λ combos. record c.args.list.now { combos = combos })
    (sym (ap (λ l. c.args.list.now.combos ++ l) none ∙ append-nil c.args.list.now.combos))

pub returns-then-len-self-clause-due : goal.returns-then-len-self-clause-due
returns-then-len-self-clause-due c =
    let inner = c.args.self.now in
    let one = told_match c.args.view.now.store inner.table inner.atoms.now c.args.outer.now c.args.at true c.args.rows.now.items c.push.new.self.items
    c.deref.result.now c.row.result (row_given c.args.view.now.store inner.table c.args.at (viewed c.row.result) c.requires.there c.row.ensures.row)
    c.in_ok-push.ensures.items c.deref.ensures.value c.if-not-fits.ensures in
    inl
    (subst (λ l. first_refusal (cap_conditions inner.cap (c.args.list.now.combos ++ l)) ≡ Some ResultTooLarge) (sym one)
    (past_by_one inner.cap c.args.list.now.combos (c.args.outer.now ++ c.args.at ∷ [])
    (subst (λ n. inner.cap ≤ n) c.len.ensures c.if-len-self.true)))

pub returns-clause-list : goal.returns-clause-list
returns-clause-list c =
    let inner = c.args.self.now in
    let one = told_match c.args.view.now.store inner.table inner.atoms.now c.args.outer.now c.args.at true c.args.rows.now.items c.push.new.self.items
    c.deref.result.now c.row.result (row_given c.args.view.now.store inner.table c.args.at (viewed c.row.result) c.requires.there c.row.ensures.row)
    c.in_ok-push.ensures.items c.deref.ensures.value c.if-not-fits.ensures in
    c.in_ok-push-2.ensures.ok ∙ ap (λ l. record c.args.list.now { combos = c.args.list.now.combos ++ l }) (sym one)
