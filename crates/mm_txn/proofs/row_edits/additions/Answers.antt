use Rattle.std.proofs.Common.{List, [], ◌∷◌, ◌++◌, ◌+◌, append_assoc, length, refl, ap, ◌∙◌, subst, sym, arith}
use Rattle.std.specs.List.{All}
use Rattle.std.proofs.lemmas.List.Elements.{All-head}
use Rattle.mm_indexed.specs.Kept.{StoredRows}
use Rattle.mm_order.proofs.Pairs.{All-append_right}
use Rattle.mm_partition.specs.Types.{HasTypes}
use Rattle.mm_schema.specs.Rows.{additions}
use Rattle.mm_store.proofs.Staging.{HasStaged-both, HasStaged-none}
use Rattle.mm_store.specs.Staging.{CanStage}
use Rattle.mm_store.specs.Tables.{IsAt}
use Rattle.mm_tables.specs.declared.edit.Edit.{Edit}
use Rattle.mm_value.specs.declared.values.Value.{Value}
use Rattle.mm_txn.specs.RowEdits.{Stages}
use Rattle.mm_txn.proofs.StagedRows.{CanStage-fewer, Stages-added, Stages-none, staged_from, staged_within}
use Rattle.mm_txn.proofs.row_edits.additions.Goals as goal
use Rattle.mm_txn.proofs.row_edits.additions.Goals.{In-Some}

pub returns-in_err-edits-clause-kept : goal.returns-in_err-edits-clause-kept
returns-in_err-edits-clause-kept c = HasStaged-none c.args.table c.args.store.now

pub loop-row-init : goal.loop-row-init
loop-row-init c = record {
  made = (
    [],
    sym c.into_iter-row-iterator.ensures.into_iter_gives,
    Stages-none c.args.table c.args.store.now c.reserve_rows.new.self c.in_ok-edits.edits c.in_ok-edits.ensures.ok c.reserve_rows.ensures.kept,
  );
  room = subst (λ (rows : List (List Value)). CanStage (length rows) c.args.table c.reserve_rows.new.self)
      (c.as_slice-count.ensures ∙ sym c.into_iter-row-iterator.ensures.into_iter_gives) c.in_ok-reserve_rows.ensures.room;
}

pub addition-edit-requires-clause-there : goal.addition-edit-requires-clause-there
addition-edit-requires-clause-there c =
    staged_within c.args.table c.args.store.now c.loop-row.store c.loop-row.invariant.made.2.kept c.requires.there

-- the row has the types of the table
row_typed : (c : In-Some) (stored : StoredRows) → IsAt c.loop-row.store c.args.table stored → HasTypes stored.places.types c.in-Some.row
row_typed c stored at =
    let made = c.loop-row.invariant.made in
    let from = staged_from c.args.table c.args.store.now c.loop-row.store made.2.kept c.requires.there stored at in
    subst (λ types. HasTypes types c.in-Some.row) (sym from.2.types)
    (All-head (HasTypes from.0.places.types) c.in-Some.row c.next.new.self
    (All-append_right (HasTypes from.0.places.types) made.0 (c.in-Some.row ∷ c.next.new.self)
    (subst (All (HasTypes from.0.places.types)) (made.1 ∙ ap (λ (left : List (List Value)). made.0 ++ left) c.in-Some.ensures.steps)
    (c.requires.typed from.0 from.1))))

pub addition-edit-requires-clause-typed : goal.addition-edit-requires-clause-typed
addition-edit-requires-clause-typed c = row_typed (goal.at.addition-edit-requires-clause-typed c).In-Some

pub loop-row-preserved : goal.loop-row-preserved
loop-row-preserved c =
    let made = c.loop-row.invariant.made in
    let row = c.in-Some.row in
    let rest = c.next.new.self in
    let old = c.loop-row.store in
    let new = c.addition-edit.new.store in
    let there = staged_within c.args.table c.args.store.now old made.2.kept c.requires.there in
    record {
      made = (
        made.0 ++ row ∷ [],
        made.1
            ∙ (ap (λ (left : List (List Value)). made.0 ++ left) c.in-Some.ensures.steps ∙ sym (append_assoc made.0 (row ∷ []) rest)),
        subst (λ (edits : List Edit). Stages c.args.table c.args.store.now new edits (additions (made.0 ++ row ∷ []))) (sym c.in_ok-push.ensures.ok)
            (Stages-added c.args.table c.args.store.now old new c.loop-row.edits made.0 made.2 c.addition-edit.ensures.kept there row
            c.addition-edit.result c.addition-edit.ensures.added (row_typed (goal.at.loop-row-preserved c).In-Some)),
      );
      room = c.addition-edit.ensures.room (length rest)
          (CanStage-fewer (length c.loop-row.row-iterator) (length rest + 1) c.args.table old
          (omega (arith, ap (λ (rows : List (List Value)). length rows) c.in-Some.ensures.steps)) c.loop-row.invariant.room);
    }

pub returns-in_err-push-clause-kept : goal.returns-in_err-push-clause-kept
returns-in_err-push-clause-kept c =
    HasStaged-both c.args.table c.args.store.now c.loop-row.store c.addition-edit.new.store c.loop-row.invariant.made.2.kept c.addition-edit.ensures.kept
