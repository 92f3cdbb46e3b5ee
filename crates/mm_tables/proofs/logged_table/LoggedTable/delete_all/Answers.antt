use Rattle.std.proofs.Common.{sym, ◌∙◌, refl, arith}
use Rattle.mm_indexed.proofs.Building.{distinct}
use Rattle.mm_tables.specs.Edits.{key_places, places, key_places_back, places_back}
use Rattle.mm_tables.specs.Tables.{slots_of}
use Rattle.mm_tables.proofs.Deleting.{after_deletions, count_deletions}
use Rattle.mm_tables.proofs.Room.{HasSpare-less, HasSpare-kept, shape_after}
use Rattle.mm_tables.proofs.logged_table.LoggedTable.delete_all.Goals as goal

pub hide_all-requires : goal.hide_all-requires
hide_all-requires c = omega (arith, c.requires.deletes.as_many, c.requires.deletes.few)

pub returns-clause-slots : goal.returns-clause-slots
returns-clause-slots c =
    let t = c.args.self.now in
    let deletes = c.requires.deletes in
    let kept = c.is_kept.ensures in
    λ i r. (c.hide_all.ensures.hidden r
    ∙ sym (after_deletions t.rows.key c.args.edits.now (slots_of t) t.rows.refs deletes.deletions c.requires.fits deletes.as_many
    (distinct t.rows.key (slots_of t) t.rows.refs kept.by_key) kept.held r)) i

pub returns-clause-owed : goal.returns-clause-owed
returns-clause-owed c =
    let only = c.requires.deletes.deletions in
    record {
      key = omega (arith, count_deletions key_places_back (λ s. refl) c.args.edits.now only);
      indexes = omega (arith, count_deletions places_back (λ s. refl) c.args.edits.now only);
    }

pub returns-clause-spare : goal.returns-clause-spare
returns-clause-spare c =
    let t = c.args.self.now in
    let edits = c.args.edits.now in
    let only = c.requires.deletes.deletions in
    let was = c.requires.room.spare in
    HasSpare-less _ _ _ _ _ (omega (arith, count_deletions key_places (λ s. refl) edits only)) (omega (arith, count_deletions places (λ s. refl) edits only))
    (HasSpare-kept t.rows c.hide_all.new.self c.hide_all.ensures.table _ _ was)

pub returns-clause-shape : goal.returns-clause-shape
returns-clause-shape c = shape_after _ _ _ _ c.hide_all.ensures.table
