use Rattle.std.proofs.Common.{◌<◌, length, sym, ap, subst, ◌∙◌}
use Rattle.mm_store.specs.Tables.{IsAt, Tables}
use Rattle.mm_txn.specs.Contents.{Holdings}
use Rattle.mm_txn.proofs.DatabaseSteps.{some_there}
use Rattle.mm_txn.proofs.contents.Contents.scan_index.Goals as goal

pub rows_by_index-requires-clause-there : goal.rows_by_index-requires-clause-there
rows_by_index-requires-clause-there c =
    subst (λ (s : Tables). c.in_ok-index.index.table < length s.tables) (sym (ap (λ (h : Holdings). h.store) c.self.view_is))
    c.in_ok-index.ensures.there.table

pub returns-clause-rows : goal.returns-clause-rows
returns-clause-rows c =
    let index = c.in_ok-index.index in
    let (stored, there) = some_there c.args.self.now.store.tables index.table c.in_ok-index.ensures.there.table in
    let seen = ap (λ (h : Holdings). h.store) c.self.view_is in
    c.in_ok-rows.ensures stored (subst (λ (s : Tables). IsAt s index.table stored) (sym seen) there) ∙ c.in_ok-index.ensures.rows stored there
