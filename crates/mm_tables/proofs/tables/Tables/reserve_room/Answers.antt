use Rattle.std.proofs.Common.{◌<◌, length, map, sym, ap, ◌∙◌, subst, arith}
use Rattle.mm_tables.specs.Tables.{Shape, Stored, HasRoom, HoldsAt, extents_of, shape_of, state_of}
use Rattle.mm_tables.proofs.InTables.{extents-same, shapes-set, state-same, HoldsAt-turned}
use Rattle.mm_tables.proofs.Logging.{IsLogged-same, counted_read}
use Rattle.mm_tables.proofs.Room.{HasSpare-same, HasRoom-more}
use Rattle.mm_tables.proofs.tables.Tables.reserve_room.Goals as goal

pub invariant_of-self : goal.invariant_of-self
invariant_of-self c =
    let within : c.args.table < length c.self.inside.tables.items =
    omega (arith, c.requires, ap (λ (s : Stored). length s.tables) c.self.view_is) in
    let tables = c.self.inside.tables.items in
    let old = c.index_mut.result.now in
    IsLogged-same tables c.args.table old c.reserve.new.self within c.index_mut.ensures.value
    (ap (λ (x : Shape). x.key) c.reserve.ensures.shape) c.self.inside.log.items
    c.reserve.ensures.slots c.reserve.ensures.owed
    (HasSpare-same old c.reserve.new.self c.reserve.ensures.owed c.reserve.ensures.spare
    (counted_read tables c.self.inside.log.items c.args.table old within c.index_mut.ensures.value c.self.invariant).spare)
    c.self.invariant

pub returns-clause-kept : goal.returns-clause-kept
returns-clause-kept c n k m was =
    let within : c.args.table < length c.self.inside.tables.items =
    omega (arith, c.requires, ap (λ (s : Stored). length s.tables) c.self.view_is) in
    HoldsAt-turned c.self.inside.tables.items c.args.table c.index_mut.result.now c.reserve.new.self within c.index_mut.ensures.value
    (HasRoom n k m) (HasRoom n k m)
    (HasRoom-more c.index_mut.result.now c.reserve.new.self c.reserve.ensures.owed c.reserve.ensures.spare n k m c.reserve.ensures.room)
    (subst (λ (s : Stored). HoldsAt (HasRoom n k m) s.tables c.args.table) (sym c.self.view_is) was)

pub returns-clause-state : goal.returns-clause-state
returns-clause-state c =
    let within : c.args.table < length c.self.inside.tables.items =
    omega (arith, c.requires, ap (λ (s : Stored). length s.tables) c.self.view_is) in
    state-same c.self.inside.tables.items c.args.table c.index_mut.result.now c.reserve.new.self within c.index_mut.ensures.value c.reserve.ensures.slots
    ∙ ap (λ (s : Stored). state_of s.tables) c.self.view_is

pub returns-clause-shapes : goal.returns-clause-shapes
returns-clause-shapes c =
    let within : c.args.table < length c.self.inside.tables.items =
    omega (arith, c.requires, ap (λ (s : Stored). length s.tables) c.self.view_is) in
    shapes-set c.self.inside.tables.items c.args.table c.index_mut.result.now c.reserve.new.self within c.index_mut.ensures.value c.reserve.ensures.shape
    ∙ ap (λ (s : Stored). map shape_of s.tables) c.self.view_is

pub returns-clause-extents : goal.returns-clause-extents
returns-clause-extents c =
    extents-same c.self.inside.tables.items c.args.table c.index_mut.result.now c.reserve.new.self c.index_mut.ensures.value c.reserve.ensures.extent
    ∙ ap (λ (s : Stored). extents_of s.tables) c.self.view_is
