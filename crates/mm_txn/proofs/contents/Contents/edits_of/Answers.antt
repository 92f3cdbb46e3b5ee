-- The rows that were staged for refused edits are undone.
use Rattle.std.proofs.Common.{◌≡◌, refl, sym, ap, subst, ◌∙◌, arith}
use Rattle.mm_store.specs.Marks.{mark_of}
use Rattle.mm_txn.specs.Contents.{Holdings}
use Rattle.mm_txn.specs.Kept.{KeepsState}
use Rattle.mm_txn.proofs.RestKept.{rest_staged}
use Rattle.mm_txn.proofs.StagedRows.{KeepsState-undone}
use Rattle.mm_txn.proofs.contents.Contents.edits_of.Goals as goal
use Rattle.mm_txn.proofs.contents.Contents.edits_of.Goals.{After-revert}

pub invariant_of-self : goal.invariant_of-self
invariant_of-self c =
    rest_staged c.self.inside.catalog c.self.inside.store c.staged_edits.new.store c.self.inside.standing c.self.invariant c.staged_edits.ensures.store

-- the store is as before
back : (c : After-revert) → KeepsState c.self.inside.store c.revert.new.self
back c =
    KeepsState-undone c.self.inside.store c.staged_edits.new.store c.revert.new.self c.staged_edits.ensures.store c.mark-mark.result c.mark-mark.ensures.mark
    c.mark-mark.ensures.rows c.revert.ensures.rows c.revert.ensures.log c.revert.ensures.marks c.revert.ensures.links c.revert.ensures.form

pub invariant_of-self-in-Err : goal.invariant_of-self-in-Err
invariant_of-self-in-Err c =
    rest_staged c.self.inside.catalog c.self.inside.store c.revert.new.self c.self.inside.standing c.self.invariant
    (back (goal.at.invariant_of-self-in-Err c).After-revert)

pub returns-in-Err-clause-store : goal.returns-in-Err-clause-store
returns-in-Err-clause-store c =
    subst (λ (h : Holdings). KeepsState h.store c.revert.new.self) c.self.view_is (back (goal.at.returns-in-Err-clause-store c).After-revert)
