-- The effect of edits of tables whose rows were staged before, compared with the tables before the staging.
use Rattle.std.proofs.Common.{◌≡◌, ℕ, ◌<◌, ◌≤◌, Ok, Err, None, List, [], ◌++◌, get_or, length, refl, sym, ap, subst, ◌∙◌, arith}
use Rattle.std.specs.List.{All}
use Rattle.std.proofs.lemmas.Option.{get_or_from_slice_get, slice_get-get_or, slice_get_within}
use Rattle.mm_indexed.specs.Index.{EachTurns, SameIndex}
use Rattle.mm_indexed.specs.Kept.{StoredRows}
use Rattle.mm_indexed.proofs.Turning.{EachTurns-twice}
use Rattle.mm_laws.specs.Typing.{AreTyped, ShiftsNumbers}
use Rattle.mm_plan.specs.Kept.{instance_of}
use Rattle.mm_query.specs.Binding.{binding_conditions}
use Rattle.mm_query.specs.Edits.{value_conditions}
use Rattle.mm_query.specs.declared.bind.BoundChange.{BoundChange}
use Rattle.mm_query.specs.declared.command.Mutation.{Mutation}
use Rattle.mm_schema.specs.Instance.{Instance}
use Rattle.mm_schema.specs.Refused.{first_refusal}
use Rattle.mm_schema.specs.Schema.{Schema}
use Rattle.mm_standing.specs.Queries.{RowsByPlace}
use Rattle.mm_standing.specs.State.{Lists, count_at}
use Rattle.mm_store.specs.Marks.{IsMark, KeepsMarks, mark_of, rows_at_mark}
use Rattle.mm_store.specs.Tables.{IsAt, SameForm, Tables}
use Rattle.mm_store.proofs.MarkLaws.{marks_then}
use Rattle.mm_value.specs.declared.refusal.Refusal.{Refusal}
use Rattle.mm_value.specs.declared.values.Value.{Value}
use Rattle.mm_txn.specs.Bound.{IsBoundChange}
use Rattle.mm_txn.specs.Contents.{Holdings, IsAtRest, Makes}
use Rattle.mm_txn.specs.Kept.{KeepsState, state_of, watched_state}
use Rattle.mm_txn.specs.Listed.{AreListed, queries_of, rows_by_place}
use Rattle.mm_txn.specs.Rest.{AreAtRest}
use Rattle.mm_txn.specs.PlacedEdits.{HaveRows}
use Rattle.mm_txn.proofs.ListedRows.{have_formed, rows_formed, rows_kept}
use Rattle.mm_txn.proofs.RestKept.{rest_staged}
use Rattle.mm_txn.proofs.StagedRows.{KeepsState-both, KeepsState-undone}

-- The relations with these rows are those of the tables before.
have_before : (rows : RowsByPlace) (old mid new : Tables) → KeepsState old mid → HaveRows rows mid new → HaveRows rows old new
have_before rows old mid new kept have = record {
  count = have.count ∙ kept.form.size;
  each = λ place stored at.
      let within : place < length old.tables = slice_get_within old.tables place stored at in
      let there : StoredRows = get_or mid.tables place stored in
      let here : IsAt mid place there = slice_get-get_or mid.tables place stored (omega (arith, within, kept.form.size)) in
      let form : SameForm stored there =
      subst (λ (s : StoredRows). SameForm s there) (get_or_from_slice_get old.tables place stored stored at) (kept.form.each place stored within) in
      let now = have.each place there here in (
        now.0,
        now.1,
        record {
          rows_are = now.2.rows_are;
          types = now.2.types ∙ form.types;
          key = now.2.key ∙ form.key;
          indexes = EachTurns-twice SameIndex SameIndex SameIndex (λ x y z one two. (two.0 ∙ one.0, two.1 ∙ one.1)) stored.indexes there.indexes
              now.0.indexes form.indexes now.2.indexes;
        },
      );
}

-- So edits that are made have the same effect on the tables before.
pub Makes-before : (rows : RowsByPlace) (old mid new : Tables) (lists followed : Lists) (u : Unit {0}) → KeepsState old mid
    → Makes rows mid new lists followed (Ok u) → Makes rows old new lists followed (Ok u)
Makes-before rows old mid new lists followed u kept made = record {
  ok = have_before rows old mid new kept made.ok;
  err = tt;
  links = made.links ∙ kept.links;
  kept = tt;
  longer = omega (arith, kept.longer, made.longer);
  marks = marks_then old mid new kept.longer kept.marks made.marks;
  listed = made.listed;
  queries = made.queries;
  log = tt;
  log_longer = made.log_longer;
  undone = made.undone;
}

-- If everything is as before, this is a refused change.
pub Makes-nothing : (rows : RowsByPlace) (old new : Tables) (lists followed : Lists) (refusal : Refusal) → KeepsState old new → mark_of new ≡ mark_of old
    → AreListed (instance_of new.tables) followed → followed.queries ≡ lists.queries → followed.log ≡ lists.log
    → ((mark : ℕ) → mark ≤ length lists.log → (list : ℕ) (row : List Value) → count_at mark list row followed ≡ count_at mark list row lists)
    → Makes rows old new lists followed (Err refusal)
Makes-nothing rows old new lists followed refusal kept mark listed queries log undone = record {
  ok = tt;
  err = rows_formed old new kept.rows kept.form;
  links = kept.links;
  kept = mark;
  longer = kept.longer;
  marks = kept.marks;
  listed = listed;
  queries = queries;
  log = log;
  log_longer = omega (arith, ap length log);
  undone = undone;
}

-- A refused change keeps the rows that were staged for it.
pub Makes-refused : (rows : RowsByPlace) (old new : Tables) (lists followed : Lists) (refusal : Refusal) → Makes rows old new lists followed (Err refusal)
    → KeepsState old new
Makes-refused rows old new lists followed refusal made = record {
  rows = rows_kept old new made.err;
  form = have_formed (rows_by_place (instance_of old.tables)) old new made.err;
  links = made.links;
  longer = made.longer;
  marks = made.marks;
}

-- ---- a database

-- Rows were staged, and all else is as before.
module _ (held staged : Holdings) (schema : staged.schema ≡ held.schema) (kept : KeepsState held.store staged.store) (lists : staged.lists ≡ held.lists) where
  pub rest_still : IsAtRest held → IsAtRest staged
  rest_still rest =
      subst (λ (s : Schema). AreAtRest s staged.store staged.lists) (sym schema)
      (subst (λ (l : Lists). AreAtRest held.schema staged.store l) (sym lists)
      (rest_staged held.schema held.store staged.store held.lists rest kept))

  pub rows_typed_still : AreTyped held.schema.tables (instance_of held.store.tables) → AreTyped staged.schema.tables (instance_of staged.store.tables)
  rows_typed_still typed =
      subst (λ (s : Schema). AreTyped s.tables (instance_of staged.store.tables)) (sym schema)
      (subst (AreTyped held.schema.tables) (sym kept.rows) typed)

  pub queries_typed_still : All (ShiftsNumbers held.schema) (queries_of held.lists.queries) → All (ShiftsNumbers staged.schema)
      (queries_of staged.lists.queries)
  queries_typed_still typed =
      subst (λ (s : Schema). All (ShiftsNumbers s) (queries_of staged.lists.queries)) (sym schema)
      (subst (λ (l : Lists). All (ShiftsNumbers held.schema) (queries_of l.queries)) (sym lists) typed)

  pub bound_still : (mutation : Mutation) (change : BoundChange) → IsBoundChange held.schema mutation change → IsBoundChange staged.schema mutation change
  bound_still mutation change = subst (λ (s : Schema). IsBoundChange s mutation change) (sym schema)

  -- The state is the same, ..
  pub state_still : watched_state staged.schema staged.store.tables (queries_of staged.lists.queries)
      ≡ watched_state held.schema held.store.tables (queries_of held.lists.queries)
  state_still = λ i. record { schema = schema i; rows = kept.rows i; queries = queries_of (lists i).queries; saved = None }

  -- .. so the same refusals are due of it.
  pub none_due_still : (mutation : Mutation)
      → first_refusal (binding_conditions mutation held.schema ++ value_conditions mutation (state_of held.schema held.store.tables)) ≡ None
      → first_refusal (binding_conditions mutation staged.schema ++ value_conditions mutation (state_of staged.schema staged.store.tables)) ≡ None
  none_due_still mutation none =
      (λ i. first_refusal (binding_conditions mutation (schema i)
      ++ value_conditions mutation (record { schema = schema i; rows = kept.rows i; queries = []; saved = None })))
      ∙ none

  -- If the log is as long as before, everything is as before.
  pub unchanged_made : (refusal : Refusal) → IsAtRest held → mark_of staged.store ≡ mark_of held.store
      → Makes (λ place. []) held.store staged.store held.lists staged.lists (Err refusal)
  unchanged_made refusal rest mark =
      Makes-nothing (λ place. []) held.store staged.store held.lists staged.lists refusal kept mark (rest_still rest).listed
      (ap (λ (l : Lists). l.queries) lists) (ap (λ (l : Lists). l.log) lists) (λ earlier within list row. ap (count_at earlier list row) lists)

  -- ---- the edits are made

  pub made_before : (rows : RowsByPlace) (new : Holdings) (u : Unit {0}) → Makes rows staged.store new.store staged.lists new.lists (Ok u)
      → Makes rows held.store new.store held.lists new.lists (Ok u)
  made_before rows new u made =
      Makes-before rows held.store staged.store new.store held.lists new.lists u kept
      (subst (λ (l : Lists). Makes rows staged.store new.store l new.lists (Ok u)) lists made)

  -- ---- the edits are refused, and what was staged for them is undone

  module _ (rows : RowsByPlace) (failed : Holdings) (refusal : Refusal)
      (made : Makes rows staged.store failed.store staged.lists failed.lists (Err refusal))
      (now : rows_at_mark (mark_of held.store) held.store ≡ instance_of held.store.tables) where
    kept_failed : KeepsState held.store failed.store
    kept_failed =
        KeepsState-both held.store staged.store failed.store kept (Makes-refused rows staged.store failed.store staged.lists failed.lists refusal made)

    pub can_undo : IsMark held.store (mark_of held.store) → IsMark failed.store (mark_of held.store)
    can_undo is = (kept_failed.marks (mark_of held.store) (omega arith)).kept is

    pub rows_undone : rows_at_mark (mark_of held.store) failed.store ≡ instance_of failed.store.tables
    rows_undone = (kept_failed.marks (mark_of held.store) (omega arith)).rows ∙ (now ∙ sym kept_failed.rows)

    module _ (back : Holdings) (rows_back : instance_of back.store.tables ≡ rows_at_mark (mark_of held.store) failed.store)
        (mark : mark_of back.store ≡ mark_of held.store)
        (marks : (earlier : ℕ) → earlier ≤ mark_of held.store → KeepsMarks failed.store back.store earlier)
        (links : back.store.links ≡ failed.store.links) (form : EachTurns SameForm failed.store.tables back.store.tables)
        (same : back.lists ≡ failed.lists) where
      pub kept_back : KeepsState held.store back.store
      kept_back = KeepsState-undone held.store failed.store back.store kept_failed (mark_of held.store) refl now rows_back mark marks links form

      pub undone_made : Makes rows held.store back.store held.lists back.lists (Err refusal)
      undone_made =
          Makes-nothing rows held.store back.store held.lists back.lists refusal kept_back mark
          (subst (λ (l : Lists). AreListed (instance_of back.store.tables) l) (sym same)
          (subst (λ (r : Instance). AreListed r failed.lists) (sym (rows_back ∙ rows_undone)) made.listed))
          (ap (λ (l : Lists). l.queries) same ∙ (made.queries ∙ ap (λ (l : Lists). l.queries) lists))
          (ap (λ (l : Lists). l.log) same ∙ (made.log ∙ ap (λ (l : Lists). l.log) lists))
          (λ earlier within list row.
          ap (count_at earlier list row) same
          ∙ (made.undone earlier (subst (λ (l : Lists). earlier ≤ length l.log) (sym lists) within) list row ∙ ap (count_at earlier list row) lists))
