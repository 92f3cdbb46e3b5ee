use Rattle.std.proofs.Common.{◌≡◌, ◌+◌, ◌∙◌, [], ◌∷◌, get_or, length, map, ap, subst, sym, arith}
use Rattle.std.specs.List.{sum_by}
use Rattle.std.proofs.lemmas.List.{take_all}
use Rattle.mm_partition.specs.Views.{viewed}
use Rattle.mm_query.specs.Queries.{bag_of}
use Rattle.mm_multiset.specs.Counts.{count_in, count_of}
use Rattle.mm_delta.specs.Changes.{AreOf}
use Rattle.mm_delta.specs.Edited.{after_at, before_at}
use Rattle.mm_delta.specs.Skipping.{IsRowOf, IsTypeTested}
use Rattle.mm_delta.specs.Steps.{HasTables, row_reads}
use Rattle.mm_delta.specs.Terms.{lists_around}
use Rattle.mm_delta.specs.Walk.{other_places}
use Rattle.mm_delta.proofs.Extending.{count_more, part_le, reads_more}
use Rattle.mm_delta.proofs.LeftOut.{row_of_index}
use Rattle.mm_delta.proofs.walk.Walk.from_rows.Goals as goal

pub from_row-requires-clause-there : goal.from_row-requires-clause-there
from_row-requires-clause-there c =
    subst (λ s. HasTables c.args.self.now.tables.now s (other_places (length c.args.self.now.tables.now) c.args.self.now.place))
    (sym c.loop-row.invariant.same) c.requires.there

pub from_row-requires-clause-fit : goal.from_row-requires-clause-fit
from_row-requires-clause-fit c = subst (λ s. AreOf s c.args.self.now.changes.now) (sym c.loop-row.invariant.same) c.requires.fit

pub from_row-requires-clause-typed : goal.from_row-requires-clause-typed
from_row-requires-clause-typed c = subst (λ s. IsTypeTested c.args.self.now.query.now s c.args.self.now.changes.now.edits c.args.self.now.tables.now)
    (sym c.loop-row.invariant.same) c.requires.typed

pub from_row-requires-clause-edited : goal.from_row-requires-clause-edited
from_row-requires-clause-edited c =
    subst (λ s. IsRowOf s c.args.self.now.changes.now.edits (get_or c.args.self.now.tables.now c.args.self.now.place 0) (viewed c.row-item.result))
    (sym c.loop-row.invariant.same)
    (row_of_index (IsRowOf c.args.view.now.store c.args.self.now.changes.now.edits (get_or c.args.self.now.tables.now c.args.self.now.place 0)) viewed
    c.args.rows.now c.loop-row.row-index c.row-item.result c.requires.edited c.loop-row-test.true c.row-item.is)

pub loop-row-preserved : goal.loop-row-preserved
loop-row-preserved c = record {
  same = c.in_ok-from_row.ensures.same ∙ c.loop-row.invariant.same;
  counted = λ other.
      count_more (λ x. count_of other (bag_of c.args.self.now.query.now
      (lists_around 0 (after_at c.args.view.now.store c.args.self.now.changes.now.edits) (λ _. x ∷ []) (before_at c.args.view.now.store)
      c.args.self.now.tables.now c.args.self.now.place))) viewed c.args.rows.now c.loop-row.row-index c.row-item.result
      (count_in other c.args.out.now.entries) (count_in other c.loop-row.out.entries) (count_in other c.from_row.new.out.entries)
      c.loop-row-test.true c.row-item.is (c.loop-row.invariant.counted other)
      (c.in_ok-from_row.ensures.counted other
      ∙ (λ i. count_in other c.loop-row.out.entries + count_of other
      (bag_of c.args.self.now.query.now (lists_around 0 (after_at (c.loop-row.invariant.same i) c.args.self.now.changes.now.edits)
      (λ _. (viewed c.row-item.result) ∷ []) (before_at (c.loop-row.invariant.same i)) c.args.self.now.tables.now c.args.self.now.place))));
  reads = λ skipped only.
      let same : row_reads c.args.self.now.query.now c.args.view.now.store c.args.self.now.changes.now.edits c.args.self.now.tables.now skipped
      c.args.self.now.place (viewed c.row-item.result) ≡ row_reads c.args.self.now.query.now c.loop-row.view.store c.args.self.now.changes.now.edits
      c.args.self.now.tables.now skipped c.args.self.now.place (viewed c.row-item.result) =
      λ i. row_reads c.args.self.now.query.now (sym c.loop-row.invariant.same i) c.args.self.now.changes.now.edits c.args.self.now.tables.now skipped
      c.args.self.now.place (viewed c.row-item.result) in
      reads_more (row_reads c.args.self.now.query.now c.args.view.now.store c.args.self.now.changes.now.edits c.args.self.now.tables.now skipped
      c.args.self.now.place) viewed c.args.rows.now c.loop-row.row-index c.row-item.result c.args.view.now.reads c.loop-row.view.reads
      c.from_row.new.view.reads
      c.loop-row-test.true c.row-item.is (c.loop-row.invariant.reads skipped only) (omega (arith, c.in_ok-from_row.ensures.reads skipped only, same));
}

pub returns-in_err-from_row-clause-reads : goal.returns-in_err-from_row-clause-reads
returns-in_err-from_row-clause-reads c = λ skipped only.
    let same : row_reads c.args.self.now.query.now c.args.view.now.store c.args.self.now.changes.now.edits c.args.self.now.tables.now skipped
    c.args.self.now.place
    (viewed c.row-item.result) ≡ row_reads c.args.self.now.query.now c.loop-row.view.store c.args.self.now.changes.now.edits c.args.self.now.tables.now skipped
    c.args.self.now.place (viewed c.row-item.result) =
    λ i. row_reads c.args.self.now.query.now (sym c.loop-row.invariant.same i) c.args.self.now.changes.now.edits c.args.self.now.tables.now skipped
    c.args.self.now.place (viewed c.row-item.result) in
    omega (
      arith,
      reads_more (row_reads c.args.self.now.query.now c.args.view.now.store c.args.self.now.changes.now.edits c.args.self.now.tables.now skipped
          c.args.self.now.place) viewed c.args.rows.now c.loop-row.row-index c.row-item.result c.args.view.now.reads c.loop-row.view.reads
          c.from_row.new.view.reads
          c.loop-row-test.true c.row-item.is (c.loop-row.invariant.reads skipped only) (omega (arith, c.in_err-from_row.ensures.reads skipped only, same)),
      part_le (row_reads c.args.self.now.query.now c.args.view.now.store c.args.self.now.changes.now.edits c.args.self.now.tables.now skipped
          c.args.self.now.place)
          viewed c.args.rows.now (c.loop-row.row-index + 1),
    )

pub returns-clause-counted : goal.returns-clause-counted
returns-clause-counted c = λ other.
    c.loop-row.invariant.counted other
    ∙ ap (λ l. count_in other c.args.out.now.entries + sum_by
    (λ x. count_of other (bag_of c.args.self.now.query.now
    (lists_around 0 (after_at c.args.view.now.store c.args.self.now.changes.now.edits) (λ _. x ∷ []) (before_at c.args.view.now.store)
    c.args.self.now.tables.now c.args.self.now.place))) (map viewed l)) (take_all c.loop-row.row-index c.args.rows.now c.loop-row-test.false)

pub returns-clause-reads : goal.returns-clause-reads
returns-clause-reads c = λ skipped only.
    omega (
      arith,
      c.loop-row.invariant.reads skipped only,
      part_le (row_reads c.args.self.now.query.now c.args.view.now.store c.args.self.now.changes.now.edits c.args.self.now.tables.now skipped
          c.args.self.now.place)
          viewed c.args.rows.now c.loop-row.row-index,
    )
