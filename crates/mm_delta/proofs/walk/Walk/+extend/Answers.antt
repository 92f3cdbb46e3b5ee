use Rattle.std.proofs.Common.{◌≡◌, ◌+◌, ◌∙◌, Some, get_or, map, set, subst, sym, arith}
use Rattle.mm_partition.specs.Views.{viewed}
use Rattle.mm_query.specs.Queries.{none_fails}
use Rattle.mm_delta.specs.Candidates.{having, required}
use Rattle.mm_multiset.specs.Counts.{count_in, count_of}
use Rattle.mm_delta.specs.Changes.{AreOf}
use Rattle.mm_delta.specs.Edited.{before_at, has_index, walked}
use Rattle.mm_delta.specs.Steps.{AreAlike, reads_for}
use Rattle.mm_delta.specs.Walk.{found}
use Rattle.mm_delta.proofs.Extending.{count_more, found_done, found_stops, open_next, reads_done, reads_more, tables_next}
use Rattle.mm_delta.proofs.walk.Walk.+extend.Goals as goal

pub returns-then-not-none_fails-clause-counted : goal.returns-then-not-none_fails-clause-counted
returns-then-not-none_fails-clause-counted t c = λ other.
    found_stops c.args.self.now.query.now (λ j. has_index c.args.view.now.store (get_or c.args.self.now.tables.now j 0))
    (λ j. before_at c.args.view.now.store (get_or c.args.self.now.tables.now j 0))
    (walked c.args.view.now.store c.args.self.now.changes.now.edits c.args.self.now.tables.now c.args.self.now.place) c.args.others.now c.args.chosen.now
    (count_in other c.args.out.now.entries) other ((λ i. none_fails (sym c.as_slice.ensures i) (sym c.as_slice-2.ensures i))
    ∙ sym c.if-not-none_fails.ensures)

pub extend-requires : goal.extend-requires
extend-requires t c =
    let e = c.in-Some.ensures.cases in (
      omega (arith, e.1),
      (
        open_next c.args.self.now.query.now (λ j. has_index c.args.view.now.store (get_or c.args.self.now.tables.now j 0))
            (λ j. before_at c.args.view.now.store (get_or c.args.self.now.tables.now j 0))
            (walked c.args.view.now.store c.args.self.now.changes.now.edits c.args.self.now.tables.now c.args.self.now.place) c.args.others.now
            c.args.chosen.now
            c.in-Some.place.now c.in-Some.rest.now (viewed c.row-item.result) c.with-next.result e.0 c.requires.vacant c.with-next.ensures,
        (
          tables_next c.args.self.now.tables.now c.args.view.now.store c.loop-row.view.store c.args.others.now c.in-Some.place.now c.in-Some.rest.now e.0
              c.requires.there c.loop-row.invariant.same,
          subst (λ s. AreOf s c.args.self.now.changes.now) (sym c.loop-row.invariant.same) c.requires.fit,
        ),
      ),
    )

pub loop-row-preserved : goal.loop-row-preserved
loop-row-preserved t c = record {
  same = c.in_ok-extend-in-Some.ensures.same ∙ c.loop-row.invariant.same;
  counted = λ other.
      count_more (λ x. count_of other (found c.args.self.now.query.now
      (walked c.args.view.now.store c.args.self.now.changes.now.edits c.args.self.now.tables.now c.args.self.now.place) c.in-Some.rest.now
      (set c.args.chosen.now c.in-Some.place.now (Some x)))) viewed c.deref-row-items.result.now c.loop-row.row-index c.row-item.result
      (count_in other c.args.out.now.entries) (count_in other c.loop-row.out.entries) (count_in other c.extend.new.out.entries)
      c.loop-row-test.true c.row-item.is (c.loop-row.invariant.counted other)
      (c.in_ok-extend-in-Some.ensures.counted other
      ∙ (λ i. count_in other c.loop-row.out.entries + count_of other
      (found c.args.self.now.query.now (walked (c.loop-row.invariant.same i) c.args.self.now.changes.now.edits c.args.self.now.tables.now c.args.self.now.place)
      c.in-Some.rest.now (c.with-next.ensures i))));
  reads =
      let same : reads_for c.args.self.now.query.now c.args.view.now.store c.args.self.now.changes.now.edits c.args.self.now.tables.now c.args.self.now.place
      c.in-Some.rest.now (set c.args.chosen.now c.in-Some.place.now (Some (viewed c.row-item.result)))
      ≡ reads_for c.args.self.now.query.now c.loop-row.view.store c.args.self.now.changes.now.edits c.args.self.now.tables.now c.args.self.now.place
      c.in-Some.rest.now c.with-next.result =
      (λ i. reads_for c.args.self.now.query.now (sym c.loop-row.invariant.same i) c.args.self.now.changes.now.edits c.args.self.now.tables.now
      c.args.self.now.place
      c.in-Some.rest.now (sym c.with-next.ensures i)) in
      reads_more (λ x. reads_for c.args.self.now.query.now c.args.view.now.store c.args.self.now.changes.now.edits c.args.self.now.tables.now
      c.args.self.now.place
      c.in-Some.rest.now (set c.args.chosen.now c.in-Some.place.now (Some x))) viewed c.deref-row-items.result.now c.loop-row.row-index
      c.row-item.result c.rows_at.new.view.reads c.loop-row.view.reads c.extend.new.view.reads
      c.loop-row-test.true c.row-item.is c.loop-row.invariant.reads (omega (arith, c.in_ok-extend-in-Some.ensures.reads, same));
}

pub returns-in_err-extend-in-Some-clause-reads : goal.returns-in_err-extend-in-Some-clause-reads
returns-in_err-extend-in-Some-clause-reads t c =
    let e = c.in-Some.ensures.cases in
    reads_done c.args.self.now.query.now (λ j. has_index c.args.view.now.store (get_or c.args.self.now.tables.now j 0))
    (λ j. before_at c.args.view.now.store (get_or c.args.self.now.tables.now j 0))
    (walked c.args.view.now.store c.args.self.now.changes.now.edits c.args.self.now.tables.now c.args.self.now.place) c.args.others.now c.args.chosen.now
    c.in-Some.place.now c.in-Some.rest.now viewed c.deref-row-items.result.now (c.loop-row.row-index + 1) c.args.view.now.reads
    c.rows_at.new.view.reads c.extend.new.view.reads
    e.0 ((λ i. none_fails (sym c.as_slice.ensures i) (sym c.as_slice-2.ensures i)) ∙ sym c.if-not-none_fails.ensures)
    (subst (λ l. AreAlike (map viewed l) (having
    (required (has_index c.args.view.now.store (get_or c.args.self.now.tables.now c.in-Some.place.now 0)) c.args.self.now.query.now.atoms
    c.args.chosen.now c.in-Some.place.now) ((walked c.args.view.now.store c.args.self.now.changes.now.edits c.args.self.now.tables.now c.args.self.now.place)
    c.in-Some.place.now))) (sym c.deref-row-items.ensures.value) c.in_ok-rows-in-Some.ensures.rows) c.in_ok-rows-in-Some.ensures.reads
    (let same : reads_for c.args.self.now.query.now c.args.view.now.store c.args.self.now.changes.now.edits c.args.self.now.tables.now c.args.self.now.place
    c.in-Some.rest.now (set c.args.chosen.now c.in-Some.place.now (Some (viewed c.row-item.result)))
    ≡ reads_for c.args.self.now.query.now c.loop-row.view.store c.args.self.now.changes.now.edits c.args.self.now.tables.now c.args.self.now.place
    c.in-Some.rest.now c.with-next.result =
    (λ i. reads_for c.args.self.now.query.now (sym c.loop-row.invariant.same i) c.args.self.now.changes.now.edits c.args.self.now.tables.now
    c.args.self.now.place
    c.in-Some.rest.now (sym c.with-next.ensures i)) in
    reads_more (λ x. reads_for c.args.self.now.query.now c.args.view.now.store c.args.self.now.changes.now.edits c.args.self.now.tables.now
    c.args.self.now.place
    c.in-Some.rest.now (set c.args.chosen.now c.in-Some.place.now (Some x))) viewed c.deref-row-items.result.now c.loop-row.row-index
    c.row-item.result c.rows_at.new.view.reads c.loop-row.view.reads c.extend.new.view.reads
    c.loop-row-test.true c.row-item.is c.loop-row.invariant.reads (omega (arith, c.in_err-extend-in-Some.ensures.reads, same)))

pub returns-after-loop-row-clause-counted : goal.returns-after-loop-row-clause-counted
returns-after-loop-row-clause-counted t c = λ other.
    let e = c.in-Some.ensures.cases in
    found_done c.args.self.now.query.now (λ j. has_index c.args.view.now.store (get_or c.args.self.now.tables.now j 0))
    (λ j. before_at c.args.view.now.store (get_or c.args.self.now.tables.now j 0))
    (walked c.args.view.now.store c.args.self.now.changes.now.edits c.args.self.now.tables.now c.args.self.now.place) c.args.others.now c.args.chosen.now other
    c.in-Some.place.now c.in-Some.rest.now viewed c.deref-row-items.result.now c.loop-row.row-index (count_in other c.args.out.now.entries)
    (count_in other c.loop-row.out.entries)
    e.0 c.requires.vacant ((λ i. none_fails (sym c.as_slice.ensures i) (sym c.as_slice-2.ensures i)) ∙ sym c.if-not-none_fails.ensures)
    (subst (λ l. AreAlike (map viewed l) (having
    (required (has_index c.args.view.now.store (get_or c.args.self.now.tables.now c.in-Some.place.now 0)) c.args.self.now.query.now.atoms
    c.args.chosen.now c.in-Some.place.now) ((walked c.args.view.now.store c.args.self.now.changes.now.edits c.args.self.now.tables.now c.args.self.now.place)
    c.in-Some.place.now))) (sym c.deref-row-items.ensures.value) c.in_ok-rows-in-Some.ensures.rows) c.loop-row-test.false
    (c.loop-row.invariant.counted other)

pub returns-after-loop-row-clause-reads : goal.returns-after-loop-row-clause-reads
returns-after-loop-row-clause-reads t c =
    let e = c.in-Some.ensures.cases in
    reads_done c.args.self.now.query.now (λ j. has_index c.args.view.now.store (get_or c.args.self.now.tables.now j 0))
    (λ j. before_at c.args.view.now.store (get_or c.args.self.now.tables.now j 0))
    (walked c.args.view.now.store c.args.self.now.changes.now.edits c.args.self.now.tables.now c.args.self.now.place) c.args.others.now c.args.chosen.now
    c.in-Some.place.now c.in-Some.rest.now viewed c.deref-row-items.result.now c.loop-row.row-index c.args.view.now.reads
    c.rows_at.new.view.reads c.loop-row.view.reads
    e.0 ((λ i. none_fails (sym c.as_slice.ensures i) (sym c.as_slice-2.ensures i)) ∙ sym c.if-not-none_fails.ensures)
    (subst (λ l. AreAlike (map viewed l) (having
    (required (has_index c.args.view.now.store (get_or c.args.self.now.tables.now c.in-Some.place.now 0)) c.args.self.now.query.now.atoms
    c.args.chosen.now c.in-Some.place.now) ((walked c.args.view.now.store c.args.self.now.changes.now.edits c.args.self.now.tables.now c.args.self.now.place)
    c.in-Some.place.now))) (sym c.deref-row-items.ensures.value) c.in_ok-rows-in-Some.ensures.rows) c.in_ok-rows-in-Some.ensures.reads
    c.loop-row.invariant.reads
