use Rattle.mm_txn.proofs.LaterRollbacks.{later_after_release}
use Rattle.mm_txn.proofs.ReleaseLaws.{back_after_release, before_new, commit_beside, due_after_release, rollback_beside}
use Rattle.mm_txn.proofs.release_laws.rollbacks_after_a_release_restore_the_same_rows.Goals as goal

pub returns-clause-commit : goal.returns-clause-commit
returns-clause-commit c name state = commit_beside name state state.saved

pub returns-clause-rollback : goal.returns-clause-rollback
returns-clause-rollback c name state = rollback_beside name state state.saved

pub returns-clause-before : goal.returns-clause-before
returns-clause-before c name earlier state there apart = before_new earlier name state state.saved there apart

pub returns-clause-due : goal.returns-clause-due
returns-clause-due c name earlier state before = due_after_release name earlier state state.saved before

pub returns-clause-rollback_to : goal.returns-clause-rollback_to
returns-clause-rollback_to c name earlier state before due = back_after_release name earlier state state.saved before due

pub returns-clause-later : goal.returns-clause-later
returns-clause-later c name earlier commands state before due leave =
    later_after_release c.transactions_do_what_commands_do.ensures.states c.transactions_stand_alone.ensures.define earlier name commands state state.saved
    before due leave
