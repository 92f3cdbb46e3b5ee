-- The changes of a query's bag are those of its list, which then has as many rows as its query after the edits.
use Rattle.std.proofs.Common.{◌≡◌, inl, ◌+ℤ◌, ◌-ℤ◌, ℕ, pos, Bool, true, false, cond, List, Some, None, length, map, ap, ◌∙◌, arith}
use Rattle.std.proofs.lemmas.Bool.{le-ltb, lt-ltb}
use Rattle.std.proofs.lemmas.Int.{ints}
use Rattle.std.proofs.lemmas.List.Sorted.{All-permutation}
use Rattle.mm_partition.specs.Types.{HasTypes}
use Rattle.mm_value.specs.declared.refusal.Refusal.TheVariants.{StandingListTooLarge}
use Rattle.mm_value.specs.declared.col_type.ColType.{ColType}
use Rattle.mm_value.specs.declared.values.Value.{Value}
use Rattle.mm_query.specs.declared.bound_query.BoundQuery.{BoundQuery}
use Rattle.mm_delta.specs.Change.{change_between}
use Rattle.mm_multiset.specs.Counts.{count_of, signed_count}
use Rattle.mm_delta.specs.Edited.{after_at, before_at}
use Rattle.mm_multiset.specs.declared.signed.Signed.{Signed}
use Rattle.mm_standing.specs.Queries.{RowsByPlace, StandingQuery, bag_over}
use Rattle.mm_standing.proofs.ChangedRows.{changed_typed}
use Rattle.mm_standing.proofs.Gains.{brings}
use Rattle.mm_standing.proofs.Net.{sum_of, total_after}
use Rattle.mm_standing.proofs.prepare.changes_of_list.Goals as goal
use Rattle.mm_standing.proofs.prepare.changes_of_list.Goals.{After-new_total}
use Rattle.mm_schema.specs.Rows.{most_rows}

changed_by : (query : BoundQuery) (tables read : List ℕ) (types : List ColType) (standing : StandingQuery) (before after : RowsByPlace) (changes : List Signed)
    → read ≡ tables → record { query = query; tables = tables; types = types } ≡ standing
    → ((row : List Value) → signed_count row changes ≡ change_between query (map before read) (map after read) row)
    → (row : List Value) → signed_count row changes ≡ pos (count_of row (bag_over after standing)) -ℤ pos (count_of row (bag_over before standing))
changed_by query tables read types standing before after changes same is h row =
    h row
    ∙ ap (λ (ts : List ℕ). change_between query (map before ts) (map after ts) row) same
    ∙ ap (λ (s : StandingQuery). pos (count_of row (bag_over after s)) -ℤ pos (count_of row (bag_over before s))) is

change : (c : After-new_total) → (row : List Value) → signed_count row c.in_ok-changed.changed.items
    ≡ pos (count_of row (bag_over (after_at c.args.view.now.store c.args.changes.now) c.args.watched.now))
    -ℤ pos (count_of row (bag_over (before_at c.args.view.now.store) c.args.watched.now))
change c =
    changed_by c.watched.inside.query c.watched.inside.tables.items c.as_slice.result.now c.watched.inside.types.items c.args.watched.now
    (before_at c.args.view.now.store) (after_at c.args.view.now.store c.args.changes.now) c.in_ok-changed.changed.items
    c.as_slice.ensures.value c.watched.view_is c.in_ok-changed.ensures.change

rows : (c : After-new_total) → c.new_total.result ≡ pos (length (bag_over (after_at c.args.view.now.store c.args.changes.now) c.args.watched.now))
rows c =
    c.new_total.ensures
    ∙ (λ i. pos (c.total.ensures i) +ℤ sum_of (c.as_slice-2.ensures.value i))
    ∙ total_after c.args.bag.now.entries c.in_ok-changed.changed.items (bag_over (after_at c.args.view.now.store c.args.changes.now) c.args.watched.now)
    (bag_over (before_at c.args.view.now.store) c.args.watched.now) c.in_ok-changed.ensures.once c.len.ensures.once c.requires.fits (change c)

due : (b : Bool) → b ≡ true → cond b (Some StandingListTooLarge) None ≡ Some StandingListTooLarge
due b e = ap (λ (t : Bool). cond t (Some StandingListTooLarge) None) e

not_due : (b : Bool) → b ≡ false → cond b (Some StandingListTooLarge) None ≡ None
not_due b e = ap (λ (t : Bool). cond t (Some StandingListTooLarge) None) e

pub returns-then-new_total-clause-due : goal.returns-then-new_total-clause-due
returns-then-new_total-clause-due c =
    let is = rows (goal.at.returns-then-new_total-clause-due c).After-new_total in
    let more = c.if-new_total.true in
    inl (due _ (lt-ltb most_rows _ (omega (arith, ints, is, more))))

pub returns-clause-due : goal.returns-clause-due
returns-clause-due c =
    let is = rows (goal.at.returns-clause-due c).After-new_total in
    let few = c.if-new_total.false in
    not_due _ (le-ltb most_rows _ (omega (arith, ints, is, few)))

pub returns-clause-brings : goal.returns-clause-brings
returns-clause-brings c =
    let is = rows (goal.at.returns-clause-brings c).After-new_total in
    let few = c.if-new_total.false in
    brings c.args.bag.now.entries c.in_ok-changed.changed.items c.put_gains_first.new.changes.items
    (bag_over (after_at c.args.view.now.store c.args.changes.now) c.args.watched.now) (bag_over (before_at c.args.view.now.store) c.args.watched.now)
    c.in_ok-changed.ensures.once c.len.ensures.once c.requires.fits (change (goal.at.returns-clause-brings c).After-new_total)
    c.put_gains_first.ensures.permutation c.put_gains_first.ensures.order c.requires.few (omega (arith, ints, is, few))

pub returns-clause-typed : goal.returns-clause-typed
returns-clause-typed c =
    All-permutation (λ (change : Signed). HasTypes c.args.watched.now.types change.row) c.in_ok-changed.changed.items c.put_gains_first.new.changes.items
    c.put_gains_first.ensures.permutation
    (changed_typed c.args.watched.now.types (bag_over (before_at c.args.view.now.store) c.args.watched.now)
    (bag_over (after_at c.args.view.now.store c.args.changes.now) c.args.watched.now) c.requires.before c.requires.after c.in_ok-changed.changed.items
    c.in_ok-changed.ensures.once c.in_ok-changed.ensures.nonzero (change (goal.at.returns-clause-typed c).After-new_total))
