use Rattle.std.proofs.Common.{◌<◌, ◌+◌, ◌*◌, ℕ, length, map, sym, ap, ◌∙◌, subst, arith}
use Rattle.std.specs.Prelude.{slice_set}
use Rattle.mm_row_order.specs.Refs.{Slots}
use Rattle.mm_tables.specs.Edits.{step, Fits, key_places, places}
use Rattle.mm_tables.specs.Tables.{Shape, Stored, HasRoom, HoldsAt, back, at_mark, logged, slots_in, key_in, slots_of, extents_of, shape_of, state_of}
use Rattle.mm_tables.specs.declared.logged_table.LoggedTable.{LoggedTable}
use Rattle.mm_tables.proofs.InTables.{extents-same, slots_read, key_read, shapes-set, state-set, state-back, HoldsAt-turned}
use Rattle.mm_tables.proofs.Logs.{mark-push}
use Rattle.mm_tables.proofs.Logging.{IsLogged-push, few_keys_owed, few_owed}
use Rattle.mm_tables.proofs.Room.{HasRoom-fewer, edit_places_few}
use Rattle.mm_tables.proofs.tables.Tables.change.Goals as goal

pub change-requires-clause-fits : goal.change-requires-clause-fits
change-requires-clause-fits c =
    let within : c.args.table < length c.self.inside.tables.items =
    omega (arith, c.requires.within, ap (λ (s : Stored). length s.tables) c.self.view_is) in
    let tables = c.self.inside.tables.items in
    let old = c.index_mut.result.now in
    subst (λ (k : ℕ). Fits k (slots_of old) c.args.edit) (key_read tables c.args.table old within c.index_mut.ensures.value)
    (subst (λ (s : Slots). Fits (key_in tables c.args.table) s c.args.edit) (slots_read tables c.args.table old within c.index_mut.ensures.value)
    (subst (λ (s : Stored). Fits (key_in s.tables c.args.table) (slots_in s.tables c.args.table) c.args.edit) (sym c.self.view_is) c.requires.fits))

pub change-requires-clause-few : goal.change-requires-clause-few
change-requires-clause-few c =
    let within : c.args.table < length c.self.inside.tables.items =
    omega (arith, c.requires.within, ap (λ (s : Stored). length s.tables) c.self.view_is) in
    omega (
      arith,
      few_owed c.self.inside.tables.items c.self.inside.log.items c.args.table c.index_mut.result.now within c.index_mut.ensures.value c.self.invariant,
      c.self.inside.log.ok,
    )

pub change-requires-clause-few_keys : goal.change-requires-clause-few_keys
change-requires-clause-few_keys c =
    let within : c.args.table < length c.self.inside.tables.items =
    omega (arith, c.requires.within, ap (λ (s : Stored). length s.tables) c.self.view_is) in
    omega (
      arith,
      few_keys_owed c.self.inside.tables.items c.self.inside.log.items c.args.table c.index_mut.result.now within c.index_mut.ensures.value c.self.invariant,
      c.self.inside.log.ok,
    )

pub invariant_of-self : goal.invariant_of-self
invariant_of-self c =
    let within : c.args.table < length c.self.inside.tables.items =
    omega (arith, c.requires.within, ap (λ (s : Stored). length s.tables) c.self.view_is) in
    IsLogged-push c.self.inside.tables.items c.args.table c.index_mut.result.now c.change.new.self within c.index_mut.ensures.value
    (ap (λ (x : Shape). x.key) c.change.ensures.shape) c.self.inside.log.items _ c.args.edit c.push_reserved.ensures.items c.change.ensures.back
    c.change.ensures.stands
    c.change.ensures.owed c.change.ensures.spare c.self.invariant

pub returns-clause-state : goal.returns-clause-state
returns-clause-state c =
    let within : c.args.table < length c.self.inside.tables.items =
    omega (arith, c.requires.within, ap (λ (s : Stored). length s.tables) c.self.view_is) in
    let tables = c.self.inside.tables.items in
    let old = c.index_mut.result.now in
    state-set tables c.args.table old c.change.new.self within c.index_mut.ensures.value (step c.args.edit (slots_in tables c.args.table))
    (c.change.ensures.slots ∙ ap (step c.args.edit) (sym (slots_read tables c.args.table old within c.index_mut.ensures.value)))
    ∙ ap (λ (s : Stored). slice_set (state_of s.tables) c.args.table (step c.args.edit (slots_in s.tables c.args.table))) c.self.view_is

pub returns-clause-marks : goal.returns-clause-marks
returns-clause-marks c mark within_log =
    let within : c.args.table < length c.self.inside.tables.items =
    omega (arith, c.requires.within, ap (λ (s : Stored). length s.tables) c.self.view_is) in
    mark-push back c.self.inside.log.items _ (logged c.args.table c.args.edit) _ _ mark c.push_reserved.ensures.items
    (state-back c.self.inside.tables.items c.args.table c.index_mut.result.now c.change.new.self within c.index_mut.ensures.value c.args.edit
    c.change.ensures.back)
    (omega (arith, ap (λ (s : Stored). length s.log) c.self.view_is, within_log))
    ∙ ap (λ (s : Stored). at_mark s mark) c.self.view_is

pub returns-clause-room : goal.returns-clause-room
returns-clause-room c n k m was =
    let within : c.args.table < length c.self.inside.tables.items =
    omega (arith, c.requires.within, ap (λ (s : Stored). length s.tables) c.self.view_is) in
    let more : LoggedTable → Type 0 = HasRoom n (k + key_places c.args.edit) (m + places c.args.edit) in
    HoldsAt-turned c.self.inside.tables.items c.args.table c.index_mut.result.now c.change.new.self within c.index_mut.ensures.value
    more (HasRoom n k m) (c.change.ensures.room n k m)
    (subst (λ (s : Stored). HoldsAt more s.tables c.args.table) (sym c.self.view_is) was)

pub returns-clause-capacity : goal.returns-clause-capacity
returns-clause-capacity c n m was =
    let few = edit_places_few c.args.edit in
    returns-clause-room c n (2 * m) (2 * m)
    (λ d. HasRoom-fewer n (2 * (m + 1)) (2 * (m + 1)) n _ _ _ (omega arith) (omega (arith, few.0)) (omega (arith, few.1)) (was d))

pub returns-clause-shapes : goal.returns-clause-shapes
returns-clause-shapes c =
    let within : c.args.table < length c.self.inside.tables.items =
    omega (arith, c.requires.within, ap (λ (s : Stored). length s.tables) c.self.view_is) in
    shapes-set c.self.inside.tables.items c.args.table c.index_mut.result.now c.change.new.self within c.index_mut.ensures.value c.change.ensures.shape
    ∙ ap (λ (s : Stored). map shape_of s.tables) c.self.view_is

pub returns-clause-extents : goal.returns-clause-extents
returns-clause-extents c =
    extents-same c.self.inside.tables.items c.args.table c.index_mut.result.now c.change.new.self c.index_mut.ensures.value c.change.ensures.extent
    ∙ ap (λ (s : Stored). extents_of s.tables) c.self.view_is
