use Rattle.std.proofs.Common.{Bool, refl, sym, ◌∙◌}
use Rattle.mm_indexed.specs.RowLists.{rows_of}
use Rattle.mm_link.specs.Targets.{SparesReferred, pair_of}
use Rattle.mm_partition.specs.Places.{slot_at}
use Rattle.mm_row_order.specs.Refs.{Slots}
use Rattle.mm_schema.specs.References.{loses_target}
use Rattle.mm_tables.specs.declared.edit.Edit.{Edit}
use Rattle.mm_tables.proofs.Slots.{on_false}
use Rattle.mm_base.proofs.Asked.{any_passes, found_all, found_more, none_all, none_more}
use Rattle.mm_base.proofs.orphans.leaves_any_orphan.Goals as goal

pub returns-then-leaves_orphan-clause-rows : goal.returns-then-leaves_orphan-clause-rows
returns-then-leaves_orphan-clause-rows c =
    let then : Slots = slot_at c.args.to.now.places in
    let column = c.args.link.now.reference.column in
    let p : Edit → Bool = λ e. loses_target column c.args.to.now.key (rows_of c.args.from.now) (pair_of then e).0 (pair_of then e).1 in
    any_passes p (SparesReferred column c.args.to.now.key (slot_at c.args.from.now.places) then) c.args.edits.now
    c.loop-edit.edit-index _ _ c.loop-edit-test.true refl (sym c.leaves_orphan.ensures.rows ∙ c.if-leaves_orphan.true)

pub loop-edit-preserved : goal.loop-edit-preserved
loop-edit-preserved c =
    let then : Slots = slot_at c.args.to.now.places in
    let column = c.args.link.now.reference.column in
    let p : Edit → Bool = λ e. loses_target column c.args.to.now.key (rows_of c.args.from.now) (pair_of then e).0 (pair_of then e).1 in
    let P : Edit → Type 0 = SparesReferred column c.args.to.now.key (slot_at c.args.from.now.places) then in
    record {
      rows = none_more p P c.args.edits.now c.loop-edit.edit-index _ _ c.loop-edit-test.true refl
          (sym c.leaves_orphan.ensures.rows ∙ c.if-leaves_orphan.false) c.loop-edit.invariant.rows;
      found = found_more p P c.args.edits.now c.loop-edit.edit-index _ _ c.loop-edit-test.true refl
          (on_false _ _ c.if-leaves_orphan.false c.leaves_orphan.ensures.spares) c.loop-edit.invariant.found;
    }

pub returns-clause-rows : goal.returns-clause-rows
returns-clause-rows c =
    let then : Slots = slot_at c.args.to.now.places in
    let column = c.args.link.now.reference.column in
    let p : Edit → Bool = λ e. loses_target column c.args.to.now.key (rows_of c.args.from.now) (pair_of then e).0 (pair_of then e).1 in
    none_all p (SparesReferred column c.args.to.now.key (slot_at c.args.from.now.places) then) c.args.edits.now
    c.loop-edit.edit-index c.loop-edit-test.false c.loop-edit.invariant.rows

pub returns-clause-found : goal.returns-clause-found
returns-clause-found c =
    let then : Slots = slot_at c.args.to.now.places in
    let column = c.args.link.now.reference.column in
    let p : Edit → Bool = λ e. loses_target column c.args.to.now.key (rows_of c.args.from.now) (pair_of then e).0 (pair_of then e).1 in
    found_all p (SparesReferred column c.args.to.now.key (slot_at c.args.from.now.places) then) c.args.edits.now
    c.loop-edit.edit-index c.loop-edit-test.false c.loop-edit.invariant.found
