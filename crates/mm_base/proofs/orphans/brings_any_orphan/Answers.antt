use Rattle.std.proofs.Common.{Bool, refl, sym, ◌∙◌}
use Rattle.std.specs.List.{All, list_any}
use Rattle.mm_indexed.specs.RowLists.{rows_of}
use Rattle.mm_link.specs.Edited.{coming}
use Rattle.mm_link.specs.Links.{HasTargetRow}
use Rattle.mm_partition.specs.Places.{slot_at}
use Rattle.mm_row_order.specs.Refs.{Slots}
use Rattle.mm_schema.specs.References.{lacks_target_row}
use Rattle.mm_tables.specs.declared.edit.Edit.{Edit}
use Rattle.mm_tables.proofs.Slots.{on_false}
use Rattle.mm_base.proofs.Asked.{any_passes, found_all, found_more, none_all, none_more}
use Rattle.mm_base.proofs.orphans.brings_any_orphan.Goals as goal

pub returns-then-brings_orphan-clause-rows : goal.returns-then-brings_orphan-clause-rows
returns-then-brings_orphan-clause-rows c =
    let now : Slots = slot_at c.args.from.now.places in
    let column = c.args.link.now.reference.column in
    let p : Edit → Bool = λ e. list_any (lacks_target_row column c.args.to.now.key (rows_of c.args.to.now)) (coming now e) in
    any_passes p (λ e. All (HasTargetRow column c.args.to.now.key (slot_at c.args.to.now.places)) (coming now e)) c.args.edits.now
    c.loop-edit.edit-index _ _ c.loop-edit-test.true refl (sym c.brings_orphan.ensures.rows ∙ c.if-brings_orphan.true)

pub loop-edit-preserved : goal.loop-edit-preserved
loop-edit-preserved c =
    let now : Slots = slot_at c.args.from.now.places in
    let column = c.args.link.now.reference.column in
    let p : Edit → Bool = λ e. list_any (lacks_target_row column c.args.to.now.key (rows_of c.args.to.now)) (coming now e) in
    let P : Edit → Type 0 = λ e. All (HasTargetRow column c.args.to.now.key (slot_at c.args.to.now.places)) (coming now e) in
    record {
      rows = none_more p P c.args.edits.now c.loop-edit.edit-index _ _ c.loop-edit-test.true refl
          (sym c.brings_orphan.ensures.rows ∙ c.if-brings_orphan.false) c.loop-edit.invariant.rows;
      found = found_more p P c.args.edits.now c.loop-edit.edit-index _ _ c.loop-edit-test.true refl
          (on_false _ _ c.if-brings_orphan.false c.brings_orphan.ensures.found) c.loop-edit.invariant.found;
    }

pub returns-clause-rows : goal.returns-clause-rows
returns-clause-rows c =
    let now : Slots = slot_at c.args.from.now.places in
    let column = c.args.link.now.reference.column in
    let p : Edit → Bool = λ e. list_any (lacks_target_row column c.args.to.now.key (rows_of c.args.to.now)) (coming now e) in
    none_all p (λ e. All (HasTargetRow column c.args.to.now.key (slot_at c.args.to.now.places)) (coming now e)) c.args.edits.now
    c.loop-edit.edit-index c.loop-edit-test.false c.loop-edit.invariant.rows

pub returns-clause-found : goal.returns-clause-found
returns-clause-found c =
    let now : Slots = slot_at c.args.from.now.places in
    let column = c.args.link.now.reference.column in
    let p : Edit → Bool = λ e. list_any (lacks_target_row column c.args.to.now.key (rows_of c.args.to.now)) (coming now e) in
    found_all p (λ e. All (HasTargetRow column c.args.to.now.key (slot_at c.args.to.now.places)) (coming now e)) c.args.edits.now
    c.loop-edit.edit-index c.loop-edit-test.false c.loop-edit.invariant.found
