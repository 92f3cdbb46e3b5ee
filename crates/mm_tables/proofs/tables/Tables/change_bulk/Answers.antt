use Rattle.std.proofs.Common.{◌≡◌, ◌<◌, length, map, sym, ap, ◌∙◌, arith}
use Rattle.std.specs.Prelude.{slice_set}
use Rattle.mm_tables.specs.Commands.{after}
use Rattle.mm_tables.specs.Tables.{Shape, Stored, back, at_mark, logged, slots_in, extents_of, shape_of, slots_of, state_of}
use Rattle.mm_tables.proofs.AtOnce.{IsLogged-edits, state_undone, command_here, suits_here}
use Rattle.mm_tables.proofs.Commands.{FitsForth-command}
use Rattle.mm_tables.proofs.InTables.{extents-same, slots_read, shapes-set, state-set}
use Rattle.mm_tables.proofs.Logs.{mark-push_all}
use Rattle.mm_tables.proofs.Logging.{few_keys_owed, few_owed}
use Rattle.mm_tables.proofs.tables.Tables.change_bulk.Goals as goal

pub change_bulk-requires-clause-suits : goal.change_bulk-requires-clause-suits
change_bulk-requires-clause-suits c =
    let same : c.self.inside.tables.items ≡ c.args.self.now.tables = ap (λ (s : Stored). s.tables) c.self.view_is in
    let within : c.args.table < length c.self.inside.tables.items = omega (arith, c.requires.within, ap length same) in
    suits_here c.self.inside.tables.items c.args.self.now.tables c.args.table c.index_mut.result.now c.args.edits.now same within
    c.index_mut.ensures.value c.args.bulk.now c.requires.suits

pub change_bulk-requires-clause-command : goal.change_bulk-requires-clause-command
change_bulk-requires-clause-command c =
    let same : c.self.inside.tables.items ≡ c.args.self.now.tables = ap (λ (s : Stored). s.tables) c.self.view_is in
    let within : c.args.table < length c.self.inside.tables.items = omega (arith, c.requires.within, ap length same) in
    command_here c.self.inside.tables.items c.args.self.now.tables c.args.table c.index_mut.result.now c.args.edits.now same within
    c.index_mut.ensures.value c.requires.command

pub change_bulk-requires-clause-few : goal.change_bulk-requires-clause-few
change_bulk-requires-clause-few c =
    let within : c.args.table < length c.self.inside.tables.items =
    omega (arith, c.requires.within, ap (λ (s : Stored). length s.tables) c.self.view_is) in
    omega (
      arith,
      few_owed c.self.inside.tables.items c.self.inside.log.items c.args.table c.index_mut.result.now within c.index_mut.ensures.value c.self.invariant,
      c.self.inside.log.ok,
      ap (λ (s : Stored). s.log_room) c.self.view_is,
      c.requires.log_room,
    )

pub change_bulk-requires-clause-few_keys : goal.change_bulk-requires-clause-few_keys
change_bulk-requires-clause-few_keys c =
    let within : c.args.table < length c.self.inside.tables.items =
    omega (arith, c.requires.within, ap (λ (s : Stored). length s.tables) c.self.view_is) in
    omega (
      arith,
      few_keys_owed c.self.inside.tables.items c.self.inside.log.items c.args.table c.index_mut.result.now within c.index_mut.ensures.value
          c.self.invariant,
      c.self.inside.log.ok,
      ap (λ (s : Stored). s.log_room) c.self.view_is,
      c.requires.log_room,
    )

pub invariant_of-self : goal.invariant_of-self
invariant_of-self c =
    let tables = c.self.inside.tables.items in
    let old = c.index_mut.result.now in
    let same : tables ≡ c.args.self.now.tables = ap (λ (s : Stored). s.tables) c.self.view_is in
    let within : c.args.table < length tables = omega (arith, c.requires.within, ap length same) in
    let read = c.index_mut.ensures.value in
    let fits = FitsForth-command old.rows.key c.args.edits.now (slots_of old)
    (command_here tables c.args.self.now.tables c.args.table old c.args.edits.now same within read c.requires.command) in
    IsLogged-edits tables c.args.table old c.change_bulk.new.self within read c.args.edits.now fits c.change_bulk.ensures.slots
    c.self.inside.log.items _ c.log_all.ensures.log (ap (λ (x : Shape). x.key) c.change_bulk.ensures.shape) c.change_bulk.ensures.owed
    c.change_bulk.ensures.spare c.self.invariant

pub returns-clause-state : goal.returns-clause-state
returns-clause-state c =
    let tables = c.self.inside.tables.items in
    let old = c.index_mut.result.now in
    let edits = c.args.edits.now in
    let within : c.args.table < length tables = omega (arith, c.requires.within, ap (λ (s : Stored). length s.tables) c.self.view_is) in
    state-set tables c.args.table old c.change_bulk.new.self within c.index_mut.ensures.value (after edits (slots_in tables c.args.table))
    (c.change_bulk.ensures.slots ∙ ap (after edits) (sym (slots_read tables c.args.table old within c.index_mut.ensures.value)))
    ∙ ap (λ (s : Stored). slice_set (state_of s.tables) c.args.table (after edits (slots_in s.tables c.args.table))) c.self.view_is

pub returns-clause-marks : goal.returns-clause-marks
returns-clause-marks c mark within_log =
    let tables = c.self.inside.tables.items in
    let old = c.index_mut.result.now in
    let same : tables ≡ c.args.self.now.tables = ap (λ (s : Stored). s.tables) c.self.view_is in
    let within : c.args.table < length tables = omega (arith, c.requires.within, ap length same) in
    let read = c.index_mut.ensures.value in
    let fits = FitsForth-command old.rows.key c.args.edits.now (slots_of old)
    (command_here tables c.args.self.now.tables c.args.table old c.args.edits.now same within read c.requires.command) in
    mark-push_all back c.self.inside.log.items _ (map (logged c.args.table) c.args.edits.now) _ _ mark c.log_all.ensures.log
    (state_undone tables c.args.table old c.change_bulk.new.self within read c.args.edits.now fits c.change_bulk.ensures.slots)
    (omega (arith, ap (λ (s : Stored). length s.log) c.self.view_is, within_log))
    ∙ ap (λ (s : Stored). at_mark s mark) c.self.view_is

pub returns-clause-shapes : goal.returns-clause-shapes
returns-clause-shapes c =
    let within : c.args.table < length c.self.inside.tables.items =
    omega (arith, c.requires.within, ap (λ (s : Stored). length s.tables) c.self.view_is) in
    shapes-set c.self.inside.tables.items c.args.table c.index_mut.result.now c.change_bulk.new.self within c.index_mut.ensures.value
    c.change_bulk.ensures.shape
    ∙ ap (λ (s : Stored). map shape_of s.tables) c.self.view_is

pub returns-clause-extents : goal.returns-clause-extents
returns-clause-extents c =
    extents-same c.self.inside.tables.items c.args.table c.index_mut.result.now c.change_bulk.new.self c.index_mut.ensures.value c.change_bulk.ensures.extent
    ∙ ap (λ (s : Stored). extents_of s.tables) c.self.view_is
