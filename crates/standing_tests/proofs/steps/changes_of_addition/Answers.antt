use Rattle.std.proofs.Common.{ℕ, ◌<◌, All, sym, subst}
use Rattle.store_tests.proofs.StagedRows.{size_staged}
use Rattle.standing_tests.proofs.steps.changes_of_addition.Goals as goal

pub changes_of-requires-clause-there : goal.changes_of-requires-clause-there
changes_of-requires-clause-there c =
    subst (λ (n : ℕ). All (λ place. place < n) c.args.tables.now)
    (sym (size_staged c.args.table c.args.store.now c.addition.new.store c.requires.there c.addition.ensures.staged)) c.requires.tables
