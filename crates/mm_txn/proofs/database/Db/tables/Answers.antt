use Rattle.std.proofs.Common.{◌≡◌, IfOk, subst, ap, ◌∙◌}
use Rattle.mm_query.specs.Standing.{listing}
use Rattle.mm_query.specs.State.{State}
use Rattle.mm_txn.specs.Contents.{Holdings}
use Rattle.mm_txn.specs.Saved.{kept_state}
use Rattle.mm_txn.proofs.database.Db.tables.Goals as goal

pub returns : goal.returns
returns c =
    let seen = ap (λ (h : Holdings). kept_state h c.self.inside.is_open c.self.inside.marks.items) c.contents.view_is ∙ c.self.view_is in
    subst (λ (s : State). IfOk c.list_tables.result (λ told. told ≡ listing s)) seen c.list_tables.ensures
