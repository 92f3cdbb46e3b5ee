use Rattle.std.proofs.Common.{◌≡◌, ◌+◌, ◌∙◌, Some, true≢false, inr, ap, sym, length, set, arith}
use Rattle.std.proofs.lemmas.Result.{on_ok_weaker}
use Rattle.mm_partition.specs.Views.{viewed}
use Rattle.mm_multiset.specs.Counts.{count_in, count_of}
use Rattle.mm_delta.specs.Edited.{after_at, before_at, walked}
use Rattle.mm_delta.specs.Steps.{reads_for}
use Rattle.mm_delta.specs.Walk.{found, one_row, other_places}
use Rattle.mm_delta.proofs.LeftOut.{left_out_adds, reads_unskipped}
use Rattle.mm_delta.proofs.Product.{found_from_row, one_row_is, open_start}
use Rattle.mm_delta.proofs.walk.Walk.from_row.Goals as goal

pub extend-requires-clause-vacant : goal.extend-requires-clause-vacant
extend-requires-clause-vacant c =
    let m_is : c.with-chosen.result ≡ one_row (length c.args.self.now.tables.now) c.args.self.now.place (viewed c.args.row) =
    c.with-chosen.ensures ∙ ap (λ l. set l c.args.self.now.place (Some (viewed c.args.row))) c.new.ensures
    ∙ one_row_is (length c.args.self.now.tables.now) c.args.self.now.place (viewed c.args.row) c.requires.place in
    let js_is : c.deref.result.now ≡ other_places (length c.args.self.now.tables.now) c.args.self.now.place = c.deref.ensures.0
    ∙ c.other_places-others.ensures in
    open_start (length c.args.self.now.tables.now) c.args.self.now.place (viewed c.args.row) c.deref.result.now c.with-chosen.result js_is m_is

pub returns-clause-counted : goal.returns-clause-counted
returns-clause-counted c =
    let m_is : c.with-chosen.result ≡ one_row (length c.args.self.now.tables.now) c.args.self.now.place (viewed c.args.row) =
    c.with-chosen.ensures ∙ ap (λ l. set l c.args.self.now.place (Some (viewed c.args.row))) c.new.ensures
    ∙ one_row_is (length c.args.self.now.tables.now) c.args.self.now.place (viewed c.args.row) c.requires.place in
    let js_is : c.deref.result.now ≡ other_places (length c.args.self.now.tables.now) c.args.self.now.place = c.deref.ensures.0
    ∙ c.other_places-others.ensures in
    on_ok_weaker c.extend.result
    (λ counted other. counted other
    ∙ ap (λ n. count_in other c.args.out.now.entries + n)
    (ap (count_of other) ((λ i. found c.args.self.now.query.now
    (walked c.args.view.now.store c.args.self.now.changes.now.edits c.args.self.now.tables.now c.args.self.now.place) (js_is i) (m_is i))
    ∙ found_from_row c.args.self.now.query.now c.args.self.now.tables.now (after_at c.args.view.now.store c.args.self.now.changes.now.edits)
    (before_at c.args.view.now.store) (viewed c.args.row) c.args.self.now.place c.requires.place)))
    c.extend.ensures.counted

pub returns-then-left_out-clause-counted : goal.returns-then-left_out-clause-counted
returns-then-left_out-clause-counted c =
    let m_is : c.with-chosen.result ≡ one_row (length c.args.self.now.tables.now) c.args.self.now.place (viewed c.args.row) =
    c.with-chosen.ensures ∙ ap (λ l. set l c.args.self.now.place (Some (viewed c.args.row))) c.new.ensures
    ∙ one_row_is (length c.args.self.now.tables.now) c.args.self.now.place (viewed c.args.row) c.requires.place in
    λ other. left_out_adds c.args.self.now.query.now c.args.view.now.store c.args.self.now.changes.now.edits c.args.self.now.tables.now c.args.self.now.place
    (viewed c.args.row) c.requires.place c.requires.typed c.requires.edited
    c.with-chosen.result m_is (c.in_ok-left_out.ensures.0 c.if-left_out.true) (count_in other c.args.out.now.entries) other

pub returns-clause-reads : goal.returns-clause-reads
returns-clause-reads c =
    let m_is : c.with-chosen.result ≡ one_row (length c.args.self.now.tables.now) c.args.self.now.place (viewed c.args.row) =
    c.with-chosen.ensures ∙ ap (λ l. set l c.args.self.now.place (Some (viewed c.args.row))) c.new.ensures
    ∙ one_row_is (length c.args.self.now.tables.now) c.args.self.now.place (viewed c.args.row) c.requires.place in
    let js_is : c.deref.result.now ≡ other_places (length c.args.self.now.tables.now) c.args.self.now.place = c.deref.ensures.0
    ∙ c.other_places-others.ensures in
    let same : reads_for c.args.self.now.query.now c.args.view.now.store c.args.self.now.changes.now.edits c.args.self.now.tables.now c.args.self.now.place
    c.deref.result.now c.with-chosen.result ≡ reads_for c.args.self.now.query.now c.args.view.now.store c.args.self.now.changes.now.edits
    c.args.self.now.tables.now c.args.self.now.place (other_places (length c.args.self.now.tables.now) c.args.self.now.place)
    (one_row (length c.args.self.now.tables.now) c.args.self.now.place (viewed c.args.row)) =
    λ i. reads_for c.args.self.now.query.now c.args.view.now.store c.args.self.now.changes.now.edits c.args.self.now.tables.now c.args.self.now.place (js_is i)
    (m_is i) in
    λ skipped only.
    omega (
      arith,
      c.extend.ensures.reads,
      same,
      reads_unskipped c.args.self.now.query.now skipped c.args.self.now.place (viewed c.args.row)
          (reads_for c.args.self.now.query.now c.args.view.now.store c.args.self.now.changes.now.edits c.args.self.now.tables.now c.args.self.now.place
          (other_places (length c.args.self.now.tables.now) c.args.self.now.place)
          (one_row (length c.args.self.now.tables.now) c.args.self.now.place (viewed c.args.row))) only
          (λ cyclic. true≢false (sym (c.in_ok-left_out.ensures.1 (inr cyclic)) ∙ c.if-left_out.false)),
    )
