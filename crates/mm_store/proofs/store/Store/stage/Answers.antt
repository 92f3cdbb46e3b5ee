use Rattle.std.proofs.Common.{◌≡◌, ◌+◌, get_or, ap, sym, ◌∙◌, subst, arith}
use Rattle.mm_indexed.specs.Kept.{StoredRows}
use Rattle.mm_partition.specs.Places.{Hidden, slot_at}
use Rattle.mm_row_order.specs.Refs.{Slots}
use Rattle.mm_store.specs.Staging.{CanStage, HasStaged}
use Rattle.mm_store.specs.Tables.{IsAt, Tables, tables_of}
use Rattle.mm_store.proofs.ListedTables.{at_place, slots_at}
use Rattle.mm_store.proofs.Reading.{within_base}
use Rattle.mm_store.proofs.StagedBases.{KeepsTaken, KeepsTaken-staged, slots_staged}
use Rattle.mm_store.proofs.Staging.{HasStaged-from}
use Rattle.mm_tables.specs.Edits.{put}
use Rattle.mm_tables.specs.Tables.{slots_in}
use Rattle.mm_tables.specs.declared.logged_table.LoggedTable.{LoggedTable}
use Rattle.mm_store.proofs.store.Store.stage.Goals as goal
use Rattle.mm_store.proofs.store.Store.stage.Goals.{After-stage-at}

pub stage-at-requires-clause-capacity : goal.stage-at-requires-clause-capacity
stage-at-requires-clause-capacity c = (subst (CanStage 1 c.args.table) (sym c.self.view_is) c.requires.room).capacity

pub stage-at-requires-clause-log_room : goal.stage-at-requires-clause-log_room
stage-at-requires-clause-log_room c = (subst (CanStage 1 c.args.table) (sym c.self.view_is) c.requires.room).log_room

pub stage-at-requires-clause-entries : goal.stage-at-requires-clause-entries
stage-at-requires-clause-entries c = (subst (CanStage 1 c.args.table) (sym c.self.view_is) c.requires.room).entries

pub stage-at-requires-clause-typed : goal.stage-at-requires-clause-typed
stage-at-requires-clause-typed c d =
    let b = c.self.inside.base in
    let within = within_base b c.args.self.now c.args.table c.self.view_is c.requires.there in
    let x : LoggedTable = get_or b.stored.tables c.args.table d in
    c.requires.typed x.rows (subst (λ (s : Tables). IsAt s c.args.table x.rows) c.self.view_is (at_place b c.args.table d within))

kept : (c : After-stage-at) → KeepsTaken c.args.table c.self.inside.base c.stage-at.new.self
kept c =
    KeepsTaken-staged c.args.table c.self.inside.base c.stage-at.new.self
    (within_base c.self.inside.base c.args.self.now c.args.table c.self.view_is c.requires.there) c.stage-at.result c.args.values.now
    c.stage-at.ensures.fresh c.stage-at.ensures.staged c.stage-at.ensures.rows c.stage-at.ensures.log c.stage-at.ensures.marks c.stage-at.ensures.others
    c.stage-at.ensures.shapes c.stage-at.ensures.links

pub returns-clause-staged : goal.returns-clause-staged
returns-clause-staged c stored now at is =
    let old = c.self.inside.base in
    let new = c.stage-at.new.self in
    let t = c.args.table in
    let within = within_base old c.args.self.now t c.self.view_is c.requires.there in
    let inside : IsAt (tables_of old) t stored = subst (λ (s : Tables). IsAt s t stored) (sym c.self.view_is) at in
    let was : slot_at stored.places ≡ slots_in old.stored.tables t = slots_at old t stored inside in
    record {
      fresh = ap (λ (s : Slots). s c.stage-at.result) was ∙ c.stage-at.ensures.fresh;
      slots =
          slots_at new t now is
          ∙ (slots_staged t old new within c.stage-at.result c.args.values.now c.stage-at.ensures.fresh c.stage-at.ensures.staged
          ∙ ap (λ (s : Slots). put c.stage-at.result (Hidden c.args.values.now) s) (sym was));
    }

pub returns-clause-kept : goal.returns-clause-kept
returns-clause-kept c =
    let d = (goal.at.returns-clause-kept c).After-stage-at in
    subst (λ (s : Tables). HasStaged c.args.table s (tables_of c.stage-at.new.self)) c.self.view_is
    (HasStaged-from c.args.table c.self.inside.base c.stage-at.new.self (kept d)
    (record { rows = c.table.result.now; there = c.table.ensures.table; are = c.table.ensures.rows })
    (record { rows = c.table-2.result.now; there = c.table-2.ensures.table; are = c.table-2.ensures.rows }))

pub returns-clause-room : goal.returns-clause-room
returns-clause-room c n can =
    let d = (goal.at.returns-clause-room c).After-stage-at in
    let had : CanStage (n + 1) c.args.table (tables_of c.self.inside.base) = subst (CanStage (n + 1) c.args.table) (sym c.self.view_is) can in
    record {
      capacity = c.stage-at.ensures.capacity n 0 had.capacity;
      log_room = omega (arith, had.log_room, c.stage-at.ensures.log_room);
      entries = c.stage-at.ensures.entries n had.entries;
    }
