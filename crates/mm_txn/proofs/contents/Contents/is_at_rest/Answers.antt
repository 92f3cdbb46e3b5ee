-- A mark taken now captures the current rows.
use Rattle.std.proofs.Common.{◌≡◌, length, subst}
use Rattle.mm_store.specs.Marks.{mark_of, rows_at_mark}
use Rattle.mm_txn.specs.Contents.{Holdings, IsAtRest}
use Rattle.mm_plan.specs.Kept.{instance_of}
use Rattle.mm_txn.specs.Saved.{GoesBack}
use Rattle.mm_txn.proofs.GoingBack.{back_to_now}
use Rattle.mm_txn.proofs.contents.Contents.is_at_rest.Goals as goal

pub returns-clause-rest : goal.returns-clause-rest
returns-clause-rest c = subst IsAtRest c.self.view_is c.self.invariant

pub returns-clause-back : goal.returns-clause-back
returns-clause-back c =
    subst (λ (h : Holdings). GoesBack h.store h.lists (mark_of h.store) (length h.lists.log)) c.self.view_is
    (back_to_now c.self.inside.store c.self.inside.standing c.mark-mark.result c.mark-mark.ensures.mark c.mark-mark.ensures.is c.mark-mark.ensures.rows
    c.self.invariant.listed)

pub returns-clause-rows : goal.returns-clause-rows
returns-clause-rows c =
    subst (λ (h : Holdings). rows_at_mark (mark_of h.store) h.store ≡ instance_of h.store.tables) c.self.view_is
    (subst (λ n. rows_at_mark n c.self.inside.store ≡ instance_of c.self.inside.store.tables) c.mark-mark.ensures.mark c.mark-mark.ensures.rows)
