use Rattle.std.proofs.Common.{sym, subst}
use Rattle.mm_base.specs.Bases.{Base}
use Rattle.mm_partition.specs.Places.{slot_at}
use Rattle.mm_row_order.specs.Refs.{row_at}
use Rattle.mm_store.specs.Tables.{IsAt, Tables}
use Rattle.mm_store.proofs.Reading.{Follows, followed, row_shown, within_base}
use Rattle.mm_store.proofs.store.Store.follow.Goals as goal

pub follow-requires-clause-live : goal.follow-requires-clause-live
follow-requires-clause-live c =
    row_shown c.self.inside.base.stored.tables c.args.table c.args.at
    (within_base c.self.inside.base c.args.self.now c.args.table c.self.view_is c.requires.there)
    (λ stored at. c.requires.live stored (subst (λ (store : Tables). IsAt store c.args.table stored) c.self.view_is at))

pub returns : goal.returns
returns c = λ stored at.
    let b : Base = c.self.inside.base in
    let (to, reference, refers) = c.follow.ensures in
    subst (λ (store : Tables). Follows store c.args.table c.args.column (row_at (slot_at stored.places) c.args.at) c.follow.result) c.self.view_is
    (followed b c.args.table c.args.column c.args.at c.follow.result stored
    (subst (λ (store : Tables). IsAt store c.args.table stored) (sym c.self.view_is) at) to reference refers)
