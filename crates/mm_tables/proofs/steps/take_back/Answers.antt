use Rattle.std.proofs.Common.{◌≡◌, sym, subst}
use Rattle.std.specs.declared.cmp.Ordering.TheVariants.{Equal}
use Rattle.mm_partition.specs.Places.{slot_at}
use Rattle.mm_indexed.specs.Kept.{SameTable}
use Rattle.mm_row_order.specs.Refs.{HasRow, HasHidden}
use Rattle.mm_indexed.specs.Twins.{keys_by}
use Rattle.mm_tables.specs.Edits.{Stands, step_back, key_places_back, places_back}
use Rattle.mm_tables.proofs.Slots.{exchanged_made}
use Rattle.mm_tables.proofs.steps.take_back.Goals as goal

pub returns-in-Update-clause-slots : goal.returns-in-Update-clause-slots
returns-in-Update-clause-slots c =
    let now = slot_at c.args.rows.now.places in
    let key = c.args.rows.now.key in
    let fits : HasRow now c.in-Update.at × HasHidden now c.in-Update.other × (keys_by key now c.in-Update.at c.in-Update.other ≡ Equal) =
    subst (λ e. Stands key now e) c.in-Update.is c.requires.stands in
    subst (λ e. slot_at c.exchange_kept.new.self.places ≡ step_back e now) (sym c.in-Update.is)
    (exchanged_made c.args.rows.now.places c.exchange_kept.new.self.places c.in-Update.at c.in-Update.other fits.0.0 fits.1.0 fits.0.1 fits.1.1
    (c.exchange_kept.ensures.exchanged fits.0.0 fits.1.0 fits.0.1 fits.1.1))

pub returns-in-Move-clause-slots : goal.returns-in-Move-clause-slots
returns-in-Move-clause-slots c =
    let now = slot_at c.args.rows.now.places in
    let key = c.args.rows.now.key in
    let fits : HasRow now c.in-Move.at × HasHidden now c.in-Move.other = subst (λ e. Stands key now e) c.in-Move.is c.requires.stands in
    subst (λ e. slot_at c.exchange_moved.new.self.places ≡ step_back e now) (sym c.in-Move.is)
    (exchanged_made c.args.rows.now.places c.exchange_moved.new.self.places c.in-Move.at c.in-Move.other fits.0.0 fits.1.0 fits.0.1 fits.1.1
    (c.exchange_moved.ensures.exchanged fits.0.0 fits.1.0 fits.0.1 fits.1.1))

pub returns-in-Update-clause-table : goal.returns-in-Update-clause-table
returns-in-Update-clause-table c =
    subst (λ e. SameTable (key_places_back e) (places_back e) c.args.rows.now c.exchange_kept.new.self) (sym c.in-Update.is) c.exchange_kept.ensures.table
