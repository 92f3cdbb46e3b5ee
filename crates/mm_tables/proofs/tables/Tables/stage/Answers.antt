use Rattle.std.proofs.Common.{◌<◌, ◌+◌, ◌*◌, length, map, sym, ap, ◌∙◌, subst, arith}
use Rattle.std.specs.Prelude.{slice_set}
use Rattle.mm_partition.specs.Places.{Hidden}
use Rattle.mm_tables.specs.Edits.{put}
use Rattle.mm_tables.specs.Tables.{Shape, Stored, HasRoom, HoldsAt, back, at_mark, extent_in, logged, slots_in, shape_of, state_of}
use Rattle.mm_tables.specs.declared.edit.Edit.TheVariants.{Stage}
use Rattle.mm_tables.proofs.InTables.{extent-here, extent-other, extent_read, slots_read, shapes-set, state-set, state-back, HoldsAt-turned}
use Rattle.mm_tables.proofs.Logs.{mark-push}
use Rattle.mm_tables.proofs.Logging.{IsLogged-push, counted_read}
use Rattle.mm_tables.proofs.Room.{HasSpare-same, HasRoom-less, owes_no_more}
use Rattle.mm_tables.proofs.tables.Tables.stage.Goals as goal

pub invariant_of-self : goal.invariant_of-self
invariant_of-self c =
    let within : c.args.table < length c.self.inside.tables.items =
    omega (arith, c.requires.within, ap (λ (s : Stored). length s.tables) c.self.view_is) in
    let tables = c.self.inside.tables.items in
    let old = c.index_mut.result.now in
    IsLogged-push tables c.args.table old c.stage-at.new.self within c.index_mut.ensures.value
    (ap (λ (x : Shape). x.key) c.stage-at.ensures.shape) c.self.inside.log.items _ (Stage c.stage-at.result) c.push_reserved.ensures.items
    c.stage-at.ensures.back
    (c.args.values.now, c.stage-at.ensures.hidden) (owes_no_more c.index_mut.result.now c.stage-at.new.self c.stage-at.result c.stage-at.ensures.owed)
    (HasSpare-same old c.stage-at.new.self c.stage-at.ensures.owed c.stage-at.ensures.spare
    (counted_read tables c.self.inside.log.items c.args.table old within c.index_mut.ensures.value c.self.invariant).spare)
    c.self.invariant

pub returns-clause-staged : goal.returns-clause-staged
returns-clause-staged c =
    let within : c.args.table < length c.self.inside.tables.items =
    omega (arith, c.requires.within, ap (λ (s : Stored). length s.tables) c.self.view_is) in
    let tables = c.self.inside.tables.items in
    let old = c.index_mut.result.now in
    state-set tables c.args.table old c.stage-at.new.self within c.index_mut.ensures.value
    (put c.stage-at.result (Hidden c.args.values.now) (slots_in tables c.args.table))
    (c.stage-at.ensures.slots
    ∙ ap (put c.stage-at.result (Hidden c.args.values.now)) (sym (slots_read tables c.args.table old within c.index_mut.ensures.value)))
    ∙ ap (λ (s : Stored). slice_set (state_of s.tables) c.args.table (put c.stage-at.result (Hidden c.args.values.now) (slots_in s.tables c.args.table)))
    c.self.view_is

pub returns-clause-marks : goal.returns-clause-marks
returns-clause-marks c mark within_log =
    let within : c.args.table < length c.self.inside.tables.items =
    omega (arith, c.requires.within, ap (λ (s : Stored). length s.tables) c.self.view_is) in
    mark-push back c.self.inside.log.items _ (logged c.args.table (Stage c.stage-at.result)) _ _ mark c.push_reserved.ensures.items
    (state-back c.self.inside.tables.items c.args.table c.index_mut.result.now c.stage-at.new.self within c.index_mut.ensures.value
    (Stage c.stage-at.result) c.stage-at.ensures.back)
    (omega (arith, ap (λ (s : Stored). length s.log) c.self.view_is, within_log))
    ∙ ap (λ (s : Stored). at_mark s mark) c.self.view_is

pub returns-clause-room : goal.returns-clause-room
returns-clause-room c n k m was =
    let within : c.args.table < length c.self.inside.tables.items =
    omega (arith, c.requires.within, ap (λ (s : Stored). length s.tables) c.self.view_is) in
    HoldsAt-turned c.self.inside.tables.items c.args.table c.index_mut.result.now c.stage-at.new.self within c.index_mut.ensures.value
    (HasRoom (n + 1) k m) (HasRoom n k m)
    (HasRoom-less c.index_mut.result.now c.stage-at.new.self c.stage-at.ensures.owed c.stage-at.ensures.spare 1 n k m
    (omega (arith, c.stage-at.ensures.room)))
    (subst (λ (s : Stored). HoldsAt (HasRoom (n + 1) k m) s.tables c.args.table) (sym c.self.view_is) was)

pub returns-clause-capacity : goal.returns-clause-capacity
returns-clause-capacity c n m was = returns-clause-room c n (2 * m) (2 * m) was

pub returns-clause-shapes : goal.returns-clause-shapes
returns-clause-shapes c =
    let within : c.args.table < length c.self.inside.tables.items =
    omega (arith, c.requires.within, ap (λ (s : Stored). length s.tables) c.self.view_is) in
    shapes-set c.self.inside.tables.items c.args.table c.index_mut.result.now c.stage-at.new.self within c.index_mut.ensures.value c.stage-at.ensures.shape
    ∙ ap (λ (s : Stored). map shape_of s.tables) c.self.view_is

pub returns-clause-extent : goal.returns-clause-extent
returns-clause-extent c =
    let within : c.args.table < length c.self.inside.tables.items =
    omega (arith, c.requires.within, ap (λ (s : Stored). length s.tables) c.self.view_is) in
    let tables = c.self.inside.tables.items in
    let old = c.index_mut.result.now in
    let new = c.stage-at.new.self in
    omega (
      arith,
      extent-here tables c.args.table old new within c.index_mut.ensures.value,
      extent_read tables c.args.table old within c.index_mut.ensures.value,
      c.stage-at.ensures.extent,
      ap (λ (s : Stored). extent_in s.tables c.args.table) c.self.view_is,
    )

pub returns-clause-extents : goal.returns-clause-extents
returns-clause-extents c t apart =
    let within : c.args.table < length c.self.inside.tables.items =
    omega (arith, c.requires.within, ap (λ (s : Stored). length s.tables) c.self.view_is) in
    extent-other c.self.inside.tables.items c.args.table c.index_mut.result.now c.stage-at.new.self within c.index_mut.ensures.value t apart
    ∙ ap (λ (s : Stored). extent_in s.tables t) c.self.view_is
