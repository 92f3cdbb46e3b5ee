use Rattle.std.proofs.Common.{◌≡◌, ◌+◌, ◌-◌, ◌<◌, ◌∙◌, All, List, length, map, get_or, refl, ap, subst, sym, arith}
use Rattle.std.specs.List.{range_with_len, sum_by}
use Rattle.std.proofs.lemmas.Result.{IfOk-weaker}
use Rattle.mm_query.specs.Queries.{bag_of}
use Rattle.mm_store.proofs.Joining.{some_at}
use Rattle.mm_store.proofs.Shown.{table_seen}
use Rattle.mm_store.specs.Tables.{Tables}
use Rattle.mm_multiset.specs.Counts.{count_in, count_of, signed_count}
use Rattle.mm_delta.specs.Changes.{AreOf}
use Rattle.mm_delta.specs.Edited.{after_at, before_at, come_at, gone_at}
use Rattle.mm_delta.specs.declared.edited.TableChange.{TableChange}
use Rattle.mm_delta.specs.Skipping.{IsTypeTested}
use Rattle.mm_delta.specs.Steps.{term_reads}
use Rattle.mm_delta.specs.Terms.{lists_around}
use Rattle.mm_delta.proofs.Terms.{counts_all, counts_more, counts_none, range_le, range_more}
use Rattle.mm_delta.proofs.bag_change.delta.Goals as goal

pub add_term-requires-clause-there : goal.add_term-requires-clause-there
add_term-requires-clause-there c = subst (λ (s : Tables). All (λ table. table < length s.tables) c.args.tables.now) (sym c.loop-place.invariant.same)
    c.requires.there

pub add_term-requires-clause-fit : goal.add_term-requires-clause-fit
add_term-requires-clause-fit c =
    subst (λ s. AreOf s c.in_ok-indexed.indexed) (sym c.loop-place.invariant.same) c.in_ok-indexed.ensures.read

pub add_term-requires-clause-typed : goal.add_term-requires-clause-typed
add_term-requires-clause-typed c =
    subst (λ s. IsTypeTested c.args.query.now s c.in_ok-indexed.indexed.edits c.args.tables.now) (sym c.loop-place.invariant.same)
    (subst (λ changes. IsTypeTested c.args.query.now c.args.view.now.store changes c.args.tables.now) (sym c.in_ok-indexed.ensures.edits) c.requires.typed)

pub loop-place-init : goal.loop-place-init
loop-place-init c = record {
  same = refl;
  counts = λ row. counts_none row c.new-comes.result.entries c.new-goes.result.entries
      (count_of row (bag_of c.args.query.now (map (before_at c.args.view.now.store) c.args.tables.now))) c.new-comes.ensures c.new-goes.ensures;
  reads = λ skipped only. omega arith;
}

pub loop-place-preserved : goal.loop-place-preserved
loop-place-preserved c = record {
  same = c.in_ok-add_term.ensures.same ∙ c.loop-place.invariant.same;
  counts = λ row.
      let k = c.loop-place.place in
      let same = c.loop-place.invariant.same in
      let changes = c.in_ok-indexed.ensures.edits in
      let at = some_at c.args.view.now.store.tables (get_or c.args.tables.now k 0) (c.requires.there k 0 c.loop-place-test.true) in
      let is_table = table_seen c.args.view.now (get_or c.args.tables.now k 0) at.0 at.1 in
      counts_more c.args.query.now c.args.view.now.store c.args.changes.now c.args.tables.now row k at.0
      (count_of row (bag_of c.args.query.now (map (before_at c.args.view.now.store) c.args.tables.now))) (count_in row c.loop-place.comes.entries)
      (count_in row c.add_term.new.comes.entries)
      (count_in row c.loop-place.goes.entries) (count_in row c.add_term.new.goes.entries) c.loop-place-test.true at.1 is_table c.requires.fit
      (c.loop-place.invariant.counts row)
      (subst (λ (s : Tables). count_in row c.add_term.new.comes.entries + count_in row c.loop-place.goes.entries
      + count_of row (bag_of c.args.query.now (lists_around 0 (after_at s c.args.changes.now) (gone_at s c.args.changes.now) (before_at s) c.args.tables.now k))
      ≡ count_in row c.add_term.new.goes.entries + count_in row c.loop-place.comes.entries
      + count_of row (bag_of c.args.query.now (lists_around 0 (after_at s c.args.changes.now) (come_at s c.args.changes.now)
      (before_at s) c.args.tables.now k)))
      same
      (subst (λ (es : List TableChange). count_in row c.add_term.new.comes.entries + count_in row c.loop-place.goes.entries
      + count_of row (bag_of c.args.query.now (lists_around 0 (after_at c.loop-place.view.store es) (gone_at c.loop-place.view.store es)
      (before_at c.loop-place.view.store) c.args.tables.now k))
      ≡ count_in row c.add_term.new.goes.entries + count_in row c.loop-place.comes.entries
      + count_of row (bag_of c.args.query.now (lists_around 0 (after_at c.loop-place.view.store es) (come_at c.loop-place.view.store es)
      (before_at c.loop-place.view.store)
      c.args.tables.now k)))
      changes (c.in_ok-add_term.ensures.net row)));
  reads = λ skipped only.
      let k = c.loop-place.place in
      let moved : term_reads c.args.query.now c.loop-place.view.store c.in_ok-indexed.indexed.edits c.args.tables.now skipped k
      ≡ term_reads c.args.query.now c.args.view.now.store c.args.changes.now c.args.tables.now skipped k =
      λ i. term_reads c.args.query.now (c.loop-place.invariant.same i) (c.in_ok-indexed.ensures.edits i) c.args.tables.now skipped k in
      omega (
        arith,
        c.loop-place.invariant.reads skipped only,
        c.in_ok-add_term.ensures.reads skipped only,
        moved,
        range_more (term_reads c.args.query.now c.args.view.now.store c.args.changes.now c.args.tables.now skipped) k,
      );
}

pub returns-in_err-add_term-clause-reads : goal.returns-in_err-add_term-clause-reads
returns-in_err-add_term-clause-reads c = λ skipped only.
    let k = c.loop-place.place in
    let n = length c.args.tables.now in
    let moved : term_reads c.args.query.now c.loop-place.view.store c.in_ok-indexed.indexed.edits c.args.tables.now skipped k
    ≡ term_reads c.args.query.now c.args.view.now.store c.args.changes.now c.args.tables.now skipped k =
    λ i. term_reads c.args.query.now (c.loop-place.invariant.same i) (c.in_ok-indexed.ensures.edits i) c.args.tables.now skipped k in
    let all : (k + 1) + (n - (k + 1)) ≡ n = omega (arith, c.loop-place-test.true) in
    omega (
      arith,
      c.loop-place.invariant.reads skipped only,
      c.in_err-add_term.ensures.reads skipped only,
      moved,
      range_more (term_reads c.args.query.now c.args.view.now.store c.args.changes.now c.args.tables.now skipped) k,
      range_le (term_reads c.args.query.now c.args.view.now.store c.args.changes.now c.args.tables.now skipped) (k + 1) (n - (k + 1)),
      ap (λ m. sum_by (term_reads c.args.query.now c.args.view.now.store c.args.changes.now c.args.tables.now skipped) (range_with_len 0 m)) all,
    )

pub returns-clause-change : goal.returns-clause-change
returns-clause-change c =
    IfOk-weaker c.net_changes.result _ _
    (λ found change row.
    counts_all c.args.query.now c.args.view.now.store c.args.changes.now c.args.tables.now row c.loop-place.place (count_in row c.loop-place.comes.entries)
    (count_in row c.loop-place.goes.entries) (signed_count row found.items)
    (omega (arith, c.loop-place-test.false, c.loop-place.auto.place-end)) (c.loop-place.invariant.counts row) (change row))
    c.net_changes.ensures.change

pub returns-clause-reads : goal.returns-clause-reads
returns-clause-reads c = λ skipped only.
    let all : c.loop-place.place ≡ length c.args.tables.now = omega (arith, c.loop-place-test.false, c.loop-place.auto.place-end) in
    omega (
      arith,
      c.loop-place.invariant.reads skipped only,
      ap (λ m. sum_by (term_reads c.args.query.now c.args.view.now.store c.args.changes.now c.args.tables.now skipped) (range_with_len 0 m)) all,
    )
