use Rattle.std.proofs.Common.{sym, ◌∙◌, subst}
use Rattle.mm_store.specs.Looked.{IsFirstSuch, IsTree}
use Rattle.mm_store.proofs.Looked.{is_first_tree, no_tree}
use Rattle.mm_store.proofs.index_ref.first_tree.Goals as goal

pub returns-in_err-place : goal.returns-in_err-place
returns-in_err-place c =
    let sought = c.in_err-place.ensures in
    subst (IsFirstSuch IsTree c.args.relation.now c.args.column) (sym c.from_residual.ensures)
    (no_tree c.args.relation.now c.args.column (λ is. c.if-column-key.false (is ∙ sym c.key.ensures))
    (record { first = sought.first; found = sought.found; none = sought.none }))

pub returns : goal.returns
returns c =
    let sought = c.in_ok-place.ensures in
    is_first_tree c.args.relation.now c.args.column (λ is. c.if-column-key.false (is ∙ sym c.key.ensures)) c.in_ok-place.place
    (record { first = sought.first; found = sought.found; none = sought.none })
