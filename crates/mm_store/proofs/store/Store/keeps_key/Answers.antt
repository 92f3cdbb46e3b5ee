use Rattle.std.proofs.Common.{◌≡◌, sym, ◌∙◌, subst}
use Rattle.mm_indexed.specs.Kept.{StoredRows}
use Rattle.mm_partition.specs.Places.{slot_at}
use Rattle.mm_row_order.specs.Refs.{row_at}
use Rattle.mm_schema.specs.Rows.{same_in_column}
use Rattle.mm_store.specs.Tables.{IsAt, Tables}
use Rattle.mm_store.proofs.Joining.{one_relation}
use Rattle.mm_store.proofs.Reading.{shown_at, within_base}
use Rattle.mm_store.proofs.store.Store.keeps_key.Goals as goal
use Rattle.mm_store.proofs.store.Store.keeps_key.Goals.{After-table}

-- the table that is read is the one at its place
at_read : (c : After-table) → IsAt c.args.self.now c.args.table c.table.result.now
at_read c =
    subst (λ (s : Tables). IsAt s c.args.table c.table.result.now) c.self.view_is
    (shown_at c.self.inside.base.stored.tables c.args.table c.table.result.now
    (within_base c.self.inside.base c.args.self.now c.args.table c.self.view_is c.requires.there) c.table.ensures.table)

pub keeps_key-requires-clause-live : goal.keeps_key-requires-clause-live
keeps_key-requires-clause-live c = c.requires.live c.table.result.now (at_read (goal.at.keeps_key-requires-clause-live c).After-table)

pub keeps_key-requires-clause-hidden : goal.keeps_key-requires-clause-hidden
keeps_key-requires-clause-hidden c = c.requires.hidden c.table.result.now (at_read (goal.at.keeps_key-requires-clause-hidden c).After-table)

pub returns : goal.returns
returns c stored there =
    let d = (goal.at.returns c).After-table in
    subst (λ (s : StoredRows). c.keeps_key.result ≡ same_in_column s.key (row_at (slot_at s.places) c.args.at) (row_at (slot_at s.places) c.args.other))
    (one_relation c.table.result.now stored (sym (at_read d) ∙ there)) c.keeps_key.ensures
