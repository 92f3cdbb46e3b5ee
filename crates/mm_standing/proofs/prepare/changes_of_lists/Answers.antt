-- The changes of one more list are found, or it is too large.
use Rattle.std.proofs.Common.{◌≡◌, ◌+◌, ◌+ℤ◌, ◌<◌, ◌≤◌, ◌≤ℤ◌, ◌⊎◌, inl, inr, ℕ, Bool, true, false, cond, true≢false, add-one, is_some, List, [], ◌++◌, Some}
use Rattle.std.proofs.Common.{None, get_or, length, map, pos, take, refl, sym, ap, ◌∙◌, subst, arith}
use Rattle.std.specs.List.{All, list_any, sum_by}
use Rattle.std.proofs.lemmas.Int.{ints}
use Rattle.std.proofs.lemmas.List.{take_all}
use Rattle.std.proofs.lemmas.List.Elements.{All-append, All-map, All-weaker}
use Rattle.std.proofs.lemmas.List.Folds.{list_any_at, list_any_none}
use Rattle.std.proofs.lemmas.List.Sums.{sum_by_more, sum_by_more_le}
use Rattle.std.proofs.lemmas.Result.{err_from_is_err_and}
use Rattle.std.proofs.lemmas.Option.{slice_get_read, slice_get_within}
use Rattle.mm_value.specs.declared.col_type.ColType.{ColType}
use Rattle.mm_value.specs.declared.refusal.Refusal.{Refusal}
use Rattle.mm_value.specs.declared.refusal.Refusal.TheVariants.{Memory, StandingListTooLarge}
use Rattle.mm_value.specs.declared.values.Value.{Value}
use Rattle.mm_store.specs.Tables.{IsAt, Tables}
use Rattle.mm_multiset.specs.Counts.{Counts, Entries, count_in, count_of, total_of}
use Rattle.mm_multiset.specs.declared.signed.Signed.{Signed}
use Rattle.mm_partition.specs.Types.{HasTypes}
use Rattle.mm_delta.specs.Edited.{after_at, before_at}
use Rattle.mm_delta.specs.Skipping.{IsTypeTested}
use Rattle.mm_standing.specs.Bags.{Brings, IsTyped, entries_at, types_at}
use Rattle.mm_standing.specs.Queries.{GivesTyped, StandingQuery, bag_over, is_too_large}
use Rattle.mm_standing.specs.Reads.{query_reads}
use Rattle.mm_standing.specs.State.{AreOfTypes}
use Rattle.mm_standing.specs.declared.change.RowChange.{RowChange}
use Rattle.mm_standing.proofs.Adding.{at_map, entries_here}
use Rattle.mm_standing.proofs.Segments.{All_more, IsStage, stage_more}
use Rattle.mm_standing.proofs.prepare.changes_of_lists.Goals as goal
use Rattle.mm_schema.specs.Rows.{most_rows}

same_number : (a b : ℕ) → pos a ≡ pos b → a ≡ b
same_number a b e = omega (arith, ints, e)

pub changes_of_list-requires-clause-fits : goal.changes_of_list-requires-clause-fits
changes_of_list-requires-clause-fits c =
    let bags = c.args.bags.now in
    let list = c.loop-list.list in
    let bag = c.index-bags-list.result in
    let query = c.index-queries-list.result in
    let inside = c.loop-list-test.true in
    let sizes = c.requires.size in
    let there : list < length bags = omega (arith, inside, sizes) in
    let here = entries_here bags list bag bag there c.index-bags-list.is in
    let at = slice_get_read c.args.queries.now (length c.args.queries.now) list query refl inside c.index-queries-list.is in
    λ row.
    ap (count_in row) (sym here)
    ∙ same_number _ _ (c.requires.fits list query at row)
    ∙ ap (λ (s : Tables). count_of row (bag_over (before_at s) query)) (sym c.loop-list.invariant.same)

few_now : (n : ℕ) → (pos n +ℤ pos 0) ≤ℤ pos most_rows → n ≤ most_rows
few_now n h = omega (arith, ints)

pub changes_of_list-requires-clause-few : goal.changes_of_list-requires-clause-few
changes_of_list-requires-clause-few c =
    let bags = c.args.bags.now in
    let list = c.loop-list.list in
    let bag = c.index-bags-list.result in
    let inside = c.loop-list-test.true in
    let sizes = c.requires.size in
    let there : list < length bags = omega (arith, inside, sizes) in
    subst (λ (es : Entries). total_of es ≤ most_rows) (entries_here bags list bag bag there c.index-bags-list.is)
    (few_now (total_of (entries_at bags list)) ((c.requires.within 0).totals list))

-- The rows read for one more list.
reads_within : (f : StandingQuery → ℕ) (queries : List StandingQuery) (list : ℕ) (query : StandingQuery) (now was first one : ℕ)
    → list < length queries → query ≡ get_or queries list query → now ≤ was + one → one ≡ f query
    → was ≤ first + sum_by f (take list queries) → (now ≤ first + sum_by f (take (list + 1) queries)) × (now ≤ first + sum_by f queries)
reads_within f queries list query now was first one inside is more same so_far =
    let here = ap f is in (
      omega (arith, sum_by_more f queries list query inside, here, more, same, so_far),
      omega (arith, sum_by_more_le f queries list query inside, here, more, same, so_far),
    )

pub returns-in_err-changed-clause-reads : goal.returns-in_err-changed-clause-reads
returns-in_err-changed-clause-reads c =
    λ skipped cyclic.
    (reads_within (query_reads c.args.view.now.store c.args.changes.now skipped) c.args.queries.now c.loop-list.list c.index-queries-list.result _
    c.loop-list.view.reads c.args.view.now.reads _
    c.loop-list-test.true c.index-queries-list.is (c.changes_of_list.ensures.reads skipped cyclic)
    (ap (λ (s : Tables). query_reads s c.args.changes.now skipped c.index-queries-list.result) c.loop-list.invariant.same)
    (c.loop-list.invariant.reads skipped cyclic)).1

pub returns-in_err-push_changes-clause-reads : goal.returns-in_err-push_changes-clause-reads
returns-in_err-push_changes-clause-reads c =
    λ skipped cyclic.
    (reads_within (query_reads c.args.view.now.store c.args.changes.now skipped) c.args.queries.now c.loop-list.list c.index-queries-list.result _
    c.loop-list.view.reads c.args.view.now.reads _
    c.loop-list-test.true c.index-queries-list.is (c.changes_of_list.ensures.reads skipped cyclic)
    (ap (λ (s : Tables). query_reads s c.args.changes.now skipped c.index-queries-list.result) c.loop-list.invariant.same)
    (c.loop-list.invariant.reads skipped cyclic)).1

pub changes_of_list-requires-clause-edits : goal.changes_of_list-requires-clause-edits
changes_of_list-requires-clause-edits c =
    λ table stored at. c.requires.edits table stored (subst (λ (s : Tables). IsAt s table stored) c.loop-list.invariant.same at)

pub changes_of_list-requires-clause-typed : goal.changes_of_list-requires-clause-typed
changes_of_list-requires-clause-typed c =
    subst (λ (s : Tables). IsTypeTested c.index-queries-list.result.query s c.args.changes.now c.index-queries-list.result.tables)
    (sym c.loop-list.invariant.same)
    (subst (λ (q : StandingQuery). IsTypeTested q.query c.args.view.now.store c.args.changes.now q.tables) (sym c.index-queries-list.is)
    (c.requires.typed c.loop-list.list c.index-queries-list.result c.loop-list-test.true))

pub changes_of_list-requires-clause-before : goal.changes_of_list-requires-clause-before
changes_of_list-requires-clause-before c =
    let query = c.index-queries-list.result in
    subst (λ (s : Tables). GivesTyped (before_at s) query) (sym c.loop-list.invariant.same)
    (subst (λ (q : StandingQuery). GivesTyped (before_at c.args.view.now.store) q) (sym c.index-queries-list.is)
    (c.requires.before c.loop-list.list query c.loop-list-test.true))

pub changes_of_list-requires-clause-after : goal.changes_of_list-requires-clause-after
changes_of_list-requires-clause-after c =
    let query = c.index-queries-list.result in
    subst (λ (s : Tables). GivesTyped (after_at s c.args.changes.now) query) (sym c.loop-list.invariant.same)
    (subst (λ (q : StandingQuery). GivesTyped (after_at c.args.view.now.store c.args.changes.now) q) (sym c.index-queries-list.is)
    (c.requires.after c.loop-list.list query c.loop-list-test.true))

-- The changes of one more list have the types of its columns.
typed_more : (queries : List StandingQuery) (bags : List Counts) (list : ℕ) (query : StandingQuery) (found : List RowChange) (changed : List Signed)
    → AreOfTypes queries bags → list < length queries → query ≡ get_or queries list query → All (IsTyped bags) found
    → All (λ (change : Signed). HasTypes query.types change.row) changed
    → All (IsTyped bags) (found ++ map (λ change. record { list = list; change = change }) changed)
typed_more queries bags list query found changed are inside is so_far more =
    let own : types_at bags list ≡ query.types =
    ap (λ (ts : List (List ColType)). get_or ts list []) are
    ∙ at_map (λ (s : StandingQuery). s.types) queries list query [] inside
    ∙ ap (λ (s : StandingQuery). s.types) (sym is) in
    All-append (IsTyped bags) found _ so_far
    (All-map (IsTyped bags) (λ (change : Signed). record { list = list; change = change }) changed
    (All-weaker (λ (change : Signed). HasTypes query.types change.row) (λ (change : Signed). HasTypes (types_at bags list) change.row)
    (λ change h. h ∙ sym own) changed more))

-- A list that is too large is one of all.
due_of_all : (one all : Bool) (refusal : Refusal) → (one ≡ true → all ≡ true)
    → (cond one (Some StandingListTooLarge) None ≡ Some refusal) ⊎ (refusal ≡ Memory)
    → (cond all (Some StandingListTooLarge) None ≡ Some refusal) ⊎ (refusal ≡ Memory)
due_of_all true all refusal too (inl e) = inl (ap (λ b. cond b (Some StandingListTooLarge) None) (too refl) ∙ e)
due_of_all false all refusal too (inl e) = absurd (true≢false (sym (ap is_some e)))
due_of_all one all refusal too (inr m) = inr m

pub returns-in_err-changed-clause-due : goal.returns-in_err-changed-clause-due
returns-in_err-changed-clause-due c =
    let p = err_from_is_err_and c.from_residual.result c.from_residual.ensures.1 in
    let queries = c.args.queries.now in
    let list = c.loop-list.list in
    let query = c.index-queries-list.result in
    let over : StandingQuery → List (List Value) = bag_over (after_at c.args.view.now.store c.args.changes.now) in
    rw (p.1, p.2)
    (due_of_all (is_too_large (over query)) (list_any (λ (s : StandingQuery). is_too_large (over s)) queries) c.in_err-changed.field-0.0
    (λ e.
    list_any_at (λ (s : StandingQuery). is_too_large (over s)) queries list query c.loop-list-test.true
    (subst (λ (q : StandingQuery). is_too_large (over q) ≡ true) c.index-queries-list.is e))
    (subst (λ (s : Tables).
    (cond (is_too_large (bag_over (after_at s c.args.changes.now) query)) (Some StandingListTooLarge) None ≡ Some c.in_err-changed.field-0.0)
    ⊎ (c.in_err-changed.field-0.0 ≡ Memory)) c.loop-list.invariant.same c.in_err-changed.ensures.due))

allowed : (b : Bool) → cond b (Some StandingListTooLarge) None ≡ None → b ≡ false
allowed true e = absurd (true≢false (ap is_some e))
allowed false e = refl

pub loop-list-preserved : goal.loop-list-preserved
loop-list-preserved c =
    let bags = c.args.bags.now in
    let queries = c.args.queries.now in
    let list = c.loop-list.list in
    let bag = c.index-bags-list.result in
    let query = c.index-queries-list.result in
    let inside = c.loop-list-test.true in
    let sizes = c.requires.size in
    let there : list < length bags = omega (arith, inside, sizes) in
    let at = slice_get_read queries (length queries) list query refl inside c.index-queries-list.is in
    let so_far = c.loop-list.invariant in
    let over : StandingQuery → List (List Value) = bag_over (after_at c.args.view.now.store c.args.changes.now) in
    let changed = c.in_ok-changed.changed.items in
    let brings : Brings changed bag.entries (over query) =
    subst (λ (s : Tables). Brings changed bag.entries (bag_over (after_at s c.args.changes.now) query)) so_far.same c.in_ok-changed.ensures.brings in
    let few : is_too_large (over query) ≡ false =
    allowed (is_too_large (over query))
    (subst (λ (s : Tables). cond (is_too_large (bag_over (after_at s c.args.changes.now) query)) (Some StandingListTooLarge) None ≡ None) so_far.same
    c.in_ok-changed.ensures.due) in
    record {
      stage = subst (IsStage bags queries over (list + 1)) (sym c.in_ok-push_changes.ensures)
          (stage_more bags queries over list c.loop-list.found.items bag query changed so_far.stage there c.index-bags-list.is at brings);
      few = subst (λ n. All (λ (s : StandingQuery). is_too_large (over s) ≡ false) (take n queries)) (sym (add-one list))
          (All_more (λ (s : StandingQuery). is_too_large (over s) ≡ false) queries list query c.index-queries-list.is so_far.few few);
      reads = λ skipped cyclic.
          (reads_within (query_reads c.args.view.now.store c.args.changes.now skipped) queries list query _ c.loop-list.view.reads c.args.view.now.reads _
          inside c.index-queries-list.is (c.changes_of_list.ensures.reads skipped cyclic)
          (ap (λ (s : Tables). query_reads s c.args.changes.now skipped query) so_far.same) (so_far.reads skipped cyclic)).0;
      typed = subst (All (IsTyped bags)) (sym c.in_ok-push_changes.ensures)
          (typed_more queries bags list query c.loop-list.found.items changed c.requires.types inside c.index-queries-list.is so_far.typed
          c.in_ok-changed.ensures.typed);
      same = c.changes_of_list.ensures.same ∙ so_far.same;
    }

pub returns-clause-due : goal.returns-clause-due
returns-clause-due c =
    let end = c.loop-list-test.false in
    let over : StandingQuery → List (List Value) = bag_over (after_at c.args.view.now.store c.args.changes.now) in
    let all : All (λ (s : StandingQuery). is_too_large (over s) ≡ false) c.args.queries.now =
    subst (All (λ (s : StandingQuery). is_too_large (over s) ≡ false)) (take_all c.loop-list.list c.args.queries.now end) c.loop-list.invariant.few in
    ap (λ b. cond b (Some StandingListTooLarge) None) (list_any_none (λ (s : StandingQuery). is_too_large (over s)) c.args.queries.now all)

pub returns-clause-reads : goal.returns-clause-reads
returns-clause-reads c =
    let all = take_all c.loop-list.list c.args.queries.now c.loop-list-test.false in
    λ skipped cyclic.
    subst (λ (qs : List StandingQuery). c.loop-list.view.reads ≤ c.args.view.now.reads + sum_by (query_reads c.args.view.now.store c.args.changes.now skipped)
    qs) all
    (c.loop-list.invariant.reads skipped cyclic)

pub returns-clause-counts : goal.returns-clause-counts
returns-clause-counts c =
    let end = c.loop-list-test.false in
    λ list standing got row.
    let inside = slice_get_within c.args.queries.now list standing got in
    c.loop-list.invariant.stage.counts list (omega (arith, inside, end)) standing got row
