use Rattle.std.proofs.Common.{length, refl, arith}
use Rattle.mm_tables.specs.Edits.{key_places, places, key_places_back, places_back}
use Rattle.mm_tables.specs.Tables.{slots_of}
use Rattle.mm_tables.proofs.Room.{HasSpare-less, HasSpare-after, shape_after}
use Rattle.mm_tables.proofs.Updating.{after_updates, are_pairs, count_updates, have_one_key}
use Rattle.mm_tables.proofs.logged_table.LoggedTable.update_all.Goals as goal

pub exchange_all_kept-requires-clause-pairs : goal.exchange_all_kept-requires-clause-pairs
exchange_all_kept-requires-clause-pairs c =
    are_pairs c.args.self.now.rows.key c.args.pairs.now (slots_of c.args.self.now) c.requires.command

pub exchange_all_kept-requires-clause-keys : goal.exchange_all_kept-requires-clause-keys
exchange_all_kept-requires-clause-keys c =
    have_one_key c.args.self.now.rows.key c.args.pairs.now (slots_of c.args.self.now) c.requires.command

pub exchange_all_kept-requires-clause-spares : goal.exchange_all_kept-requires-clause-spares
exchange_all_kept-requires-clause-spares c =
    (HasSpare-less _ _ 0 (length c.args.pairs.now) c.args.self.now.rows (omega arith)
    (omega (arith, count_updates places 2 (λ x. refl) c.args.pairs.now)) c.requires.room.spare).indexes

pub returns-clause-slots : goal.returns-clause-slots
returns-clause-slots c =
    let t = c.args.self.now in
    λ i r. after_updates t.rows.key c.args.pairs.now (slots_of t) _ c.requires.command c.exchange_all_kept.ensures.exchanged r i

pub returns-clause-owed : goal.returns-clause-owed
returns-clause-owed c = record {
  key = omega (arith, count_updates key_places_back 0 (λ x. refl) c.args.pairs.now);
  indexes = omega (arith, count_updates places_back 1 (λ x. refl) c.args.pairs.now);
}

pub returns-clause-spare : goal.returns-clause-spare
returns-clause-spare c =
    let t = c.args.self.now in
    let n = length c.args.pairs.now in
    HasSpare-after 0 n _ _ t.rows c.exchange_all_kept.new.self c.exchange_all_kept.ensures.table
    (HasSpare-less _ _ _ _ t.rows (omega (arith, count_updates key_places 0 (λ x. refl) c.args.pairs.now))
    (omega (arith, count_updates places 2 (λ x. refl) c.args.pairs.now)) c.requires.room.spare)

pub returns-clause-shape : goal.returns-clause-shape
returns-clause-shape c = shape_after _ _ _ _ c.exchange_all_kept.ensures.table
