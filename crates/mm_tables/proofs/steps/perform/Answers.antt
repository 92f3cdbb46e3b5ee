use Rattle.std.proofs.Common.{◌≡◌, sym, ap, ◌∙◌, subst}
use Rattle.std.specs.declared.cmp.Ordering.TheVariants.{Equal}
use Rattle.mm_partition.specs.Places.{slot_at}
use Rattle.mm_row_order.specs.Refs.{HasRow, HasHidden}
use Rattle.mm_indexed.specs.Twins.{keys_by}
use Rattle.mm_indexed.specs.Kept.{SameTable}
use Rattle.mm_tables.specs.Edits.{Fits, Stands, step, step_back, key_places_made, places_made}
use Rattle.mm_tables.proofs.AtOnce.{edit_stands, edit_undone}
use Rattle.mm_tables.proofs.Slots.{exchanged_made}
use Rattle.mm_tables.proofs.steps.perform.Goals as goal

pub returns-in-Update-clause-slots : goal.returns-in-Update-clause-slots
returns-in-Update-clause-slots c =
    let now = slot_at c.args.rows.now.places in
    let key = c.args.rows.now.key in
    let fits : HasRow now c.in-Update.at × HasHidden now c.in-Update.other × (keys_by key now c.in-Update.at c.in-Update.other ≡ Equal) =
    subst (λ e. Fits key now e) c.in-Update.is c.requires.fits in
    subst (λ e. slot_at c.exchange_kept.new.self.places ≡ step e now) (sym c.in-Update.is)
    (exchanged_made c.args.rows.now.places c.exchange_kept.new.self.places c.in-Update.at c.in-Update.other fits.0.0 fits.1.0 fits.0.1 fits.1.1
    (c.exchange_kept.ensures.exchanged fits.0.0 fits.1.0 fits.0.1 fits.1.1))

pub returns-in-Move-clause-slots : goal.returns-in-Move-clause-slots
returns-in-Move-clause-slots c =
    let now = slot_at c.args.rows.now.places in
    let key = c.args.rows.now.key in
    let fits : HasRow now c.in-Move.at × HasHidden now c.in-Move.other = subst (λ e. Fits key now e) c.in-Move.is c.requires.fits in
    subst (λ e. slot_at c.exchange_moved.new.self.places ≡ step e now) (sym c.in-Move.is)
    (exchanged_made c.args.rows.now.places c.exchange_moved.new.self.places c.in-Move.at c.in-Move.other fits.0.0 fits.1.0 fits.0.1 fits.1.1
    (c.exchange_moved.ensures.exchanged fits.0.0 fits.1.0 fits.0.1 fits.1.1))

pub returns-in-Update-clause-table : goal.returns-in-Update-clause-table
returns-in-Update-clause-table c =
    subst (λ e. SameTable (key_places_made e) (places_made e) c.args.rows.now c.exchange_kept.new.self) (sym c.in-Update.is) c.exchange_kept.ensures.table

pub returns-in-Update-clause-back : goal.returns-in-Update-clause-back
returns-in-Update-clause-back c =
    ap (step_back c.args.edit) (returns-in-Update-clause-slots c)
    ∙ edit_undone c.args.rows.now.key c.args.edit (slot_at c.args.rows.now.places) c.requires.fits

pub returns-in-Update-clause-stands : goal.returns-in-Update-clause-stands
returns-in-Update-clause-stands c =
    let key = c.args.rows.now.key in
    subst (λ s. Stands key s c.args.edit) (sym (returns-in-Update-clause-slots c))
    (edit_stands key c.args.edit (slot_at c.args.rows.now.places) c.requires.fits)

pub returns-in-Move-clause-back : goal.returns-in-Move-clause-back
returns-in-Move-clause-back c =
    ap (step_back c.args.edit) (returns-in-Move-clause-slots c)
    ∙ edit_undone c.args.rows.now.key c.args.edit (slot_at c.args.rows.now.places) c.requires.fits
