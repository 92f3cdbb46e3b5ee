use Rattle.std.proofs.Common.{ℕ, ◌<◌, length, map, take, refl, sym, ap, ◌∙◌, arith}
use Rattle.std.proofs.lemmas.List.{append-nil, length-append, get_or_default}
use Rattle.mm_tables.specs.Tables.{logged}
use Rattle.mm_tables.proofs.Commands.{FitsForth-command}
use Rattle.mm_tables.proofs.InTables.{size_from_shapes, others_both}
use Rattle.mm_tables.proofs.Making.{change_more, room_ahead, room_next}
use Rattle.mm_tables.proofs.tables.Tables.change_all.Goals as goal

pub loop-edit-init : goal.loop-edit-init
loop-edit-init c = record {
  fits = FitsForth-command _ c.args.edits.now _ c.requires.command;
  state = refl;
  log = sym (append-nil c.args.self.now.log);
  marks = λ mark here. refl;
  log_room = omega arith;
  capacity = c.requires.capacity;
  others = λ t d apart. refl;
  extents = refl;
  shapes = refl;
}

pub change-requires-clause-capacity : goal.change-requires-clause-capacity
change-requires-clause-capacity c d =
    let i : ℕ = c.loop-edit.edit-index in
    let edits = c.args.edits.now in
    room_next edits i _ _ c.loop-edit-test.true (get_or_default edits i _ _ c.loop-edit-test.true) (c.loop-edit.invariant.capacity d)

pub loop-edit-preserved : goal.loop-edit-preserved
loop-edit-preserved c =
    let inv = c.loop-edit.invariant in
    let t : ℕ = c.args.table in
    let i : ℕ = c.loop-edit.edit-index in
    let edits = c.args.edits.now in
    let start = c.args.self.now in
    let old = c.loop-edit.self in
    let new = c.change.new.self in
    let within : t < length old.tables = omega (arith, size_from_shapes start.tables old.tables inv.shapes, c.requires.within) in
    let more = change_more t start.log old new edits i _ _ c.change.ensures.log c.change.ensures.state c.loop-edit-test.true
    (get_or_default edits i _ _ c.loop-edit-test.true) within c.change.ensures.shapes inv.fits inv.state inv.log in
    record {
      fits = more.0;
      state = more.1;
      log = more.2;
      marks = λ mark here. c.change.ensures.marks mark
          (omega (arith, here, ap length inv.log, length-append start.log (map (logged t) (take i edits)))) ∙ inv.marks mark here;
      log_room = omega (arith, c.change.ensures.log_room, inv.log_room);
      capacity = c.change.ensures.room 0 _ _
          (λ d. room_ahead edits i _ _ c.loop-edit-test.true (get_or_default edits i _ _ c.loop-edit-test.true) (inv.capacity d));
      others = others_both t start.tables old.tables new.tables inv.others c.change.ensures.others;
      extents = c.change.ensures.extents ∙ inv.extents;
      shapes = c.change.ensures.shapes ∙ inv.shapes;
    }
