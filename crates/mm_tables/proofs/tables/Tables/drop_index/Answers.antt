use Rattle.std.proofs.Common.{◌<◌, length, drop, sym, ap, ◌∙◌, subst, arith}
use Rattle.mm_partition.specs.Places.{slot_at}
use Rattle.mm_tables.specs.Log.{before}
use Rattle.mm_tables.specs.Tables.{Stored, HoldsAt, back, state_of}
use Rattle.mm_tables.specs.declared.logged_table.LoggedTable.{LoggedTable}
use Rattle.mm_tables.proofs.InTables.{from_HoldsAt, state-same}
use Rattle.mm_tables.proofs.Logging.{IsLogged-same, counted_read}
use Rattle.mm_tables.proofs.Room.{HasSpare-same}
use Rattle.mm_tables.proofs.tables.Tables.drop_index.Goals as goal

pub drop_index-requires : goal.drop_index-requires
drop_index-requires c =
    from_HoldsAt (λ (x : LoggedTable). c.args.index < length x.rows.indexes) c.self.inside.tables.items c.args.table c.index_mut.result.now
    c.index_mut.ensures.value
    (subst (λ (s : Stored). HoldsAt (λ x. c.args.index < length x.rows.indexes) s.tables c.args.table) (sym c.self.view_is) c.requires.index)

pub invariant_of-self : goal.invariant_of-self
invariant_of-self c =
    let within : c.args.table < length c.self.inside.tables.items =
    omega (arith, c.requires.within, ap (λ (s : Stored). length s.tables) c.self.view_is) in
    IsLogged-same c.self.inside.tables.items c.args.table c.index_mut.result.now c.drop_index.new.self within c.index_mut.ensures.value
    (ap (λ (t : LoggedTable). t.rows.key) c.drop_index.ensures.dropped) c.self.inside.log.items
    (ap (λ (t : LoggedTable). slot_at t.rows.places) c.drop_index.ensures.dropped) (ap (λ (t : LoggedTable). t.owed) c.drop_index.ensures.dropped)
    (HasSpare-same c.index_mut.result.now c.drop_index.new.self (ap (λ (t : LoggedTable). t.owed) c.drop_index.ensures.dropped) c.drop_index.ensures.spare
    (counted_read c.self.inside.tables.items c.self.inside.log.items c.args.table c.index_mut.result.now within c.index_mut.ensures.value
    c.self.invariant).spare)
    c.self.invariant

pub returns-clause-state : goal.returns-clause-state
returns-clause-state c =
    let within : c.args.table < length c.self.inside.tables.items =
    omega (arith, c.requires.within, ap (λ (s : Stored). length s.tables) c.self.view_is) in
    state-same c.self.inside.tables.items c.args.table c.index_mut.result.now c.drop_index.new.self within c.index_mut.ensures.value
    (ap (λ (t : LoggedTable). slot_at t.rows.places) c.drop_index.ensures.dropped)
    ∙ ap (λ (s : Stored). state_of s.tables) c.self.view_is

pub returns-clause-marks : goal.returns-clause-marks
returns-clause-marks c mark =
    ap (before back (drop mark c.self.inside.log.items)) (returns-clause-state c)
    ∙ ap (λ (s : Stored). before back (drop mark s.log) (state_of c.args.self.now.tables)) c.self.view_is
