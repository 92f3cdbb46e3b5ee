-- Types of rows and of standing queries through changes of the catalog and of rows.
use Rattle.std.proofs.Common.{◌≡◌, ◌⊎◌, ℕ, Bool, true, false, cond, not, ◌&&◌, Result, Ok, Err, OnOk, OnErr, List, ◌++◌, Option, Some, None, is_some, length}
use Rattle.std.proofs.Common.{inl, inr, refl, sym, ap, subst, ◌∙◌, ⊎_elim, arith}
use Rattle.std.proofs.lemmas.Bool.{cases_Bool}
use Rattle.mm_schema.specs.Refused.{AnswersDue, Condition, first_refusal}
use Rattle.mm_schema.specs.Schema.{HasDistinctNames}
use Rattle.mm_standing.specs.State.{Lists, count_at}
use Rattle.mm_store.specs.Marks.{mark_of}
use Rattle.mm_store.specs.Tables.{Tables}
use Rattle.mm_laws.specs.Typing.{AreTyped, IsTyped}
use Rattle.mm_laws.proofs.TypedChanges.{typed_by_change}
use Rattle.mm_laws.proofs.TypedDefinitions.{typed_by_definition}
use Rattle.mm_value.specs.declared.refusal.Refusal.{Refusal}
use Rattle.mm_query.specs.Binding.{binding_conditions}
use Rattle.mm_query.specs.Machine.{after_change, after_definition, definition_conditions, is_of_index}
use Rattle.mm_query.specs.State.{Saved, State}
use Rattle.mm_query.specs.declared.command.Definition.{Definition}
use Rattle.mm_query.specs.declared.command.Definition.TheVariants as define
use Rattle.mm_query.specs.declared.command.Mutation.{Mutation}
use Rattle.mm_txn.specs.Contents.{Holdings, IsAtRest, state_held}
use Rattle.mm_txn.specs.Saved.{IsConsistent, IsSettled, KeepsLog, kept_state, saved_of, saved_rows}
use Rattle.mm_txn.specs.declared.savepoints.Mark.{Mark}
use Rattle.mm_txn.proofs.GoingBack.{back_through, saved_same}
use Rattle.mm_txn.proofs.Resting.{bound_all}
use Rattle.mm_laws.proofs.TypedSteps.{none_in_front}
use Rattle.ttree.proofs.Between.{and_false}

-- The new rows of a change have their types, if neither the catalog nor the new values refuse it.
pub rows_typed_after : (mutation : Mutation) (state : State) (values : List Condition) → HasDistinctNames state.schema
    → first_refusal (binding_conditions mutation state.schema ++ values) ≡ None → AreTyped state.schema.tables state.rows
    → AreTyped state.schema.tables (after_change mutation state).rows
rows_typed_after mutation state values distinct none typed =
    typed_by_change state typed mutation distinct (none_in_front (binding_conditions mutation state.schema) values none)

-- ---- changes of the catalog

-- Neither the refusals nor the effect of a change of the catalog depend on the saved rows.
conditions_beside : (definition : Definition) (state : State) (saved : Option Saved)
    → definition_conditions definition (record state { saved = saved }) ≡ definition_conditions definition state
conditions_beside (define.Table definition) state saved = refl
conditions_beside (define.DropTable name) state saved = refl
conditions_beside (define.Index index) state saved = refl
conditions_beside (define.DropIndex name) state saved = refl
conditions_beside (define.Watch watched) state saved = refl
conditions_beside (define.Unwatch name) state saved = refl

after_beside : (definition : Definition) (state : State) (saved : Option Saved)
    → after_definition definition (record state { saved = saved }) ≡ record (after_definition definition state) { saved = saved }
after_beside (define.Table definition) state saved = refl
after_beside (define.DropTable name) state saved = refl
after_beside (define.Index index) state saved = refl
after_beside (define.DropIndex name) state saved = refl
after_beside (define.Watch watched) state saved = refl
after_beside (define.Unwatch name) state saved = refl

-- A change that does not only concern an index requires that no transaction is open.
index_or_closed : (is_open of_index : Bool) → (is_open && not of_index) ≡ false → (is_open ≡ false) ⊎ (of_index ≡ true)
index_or_closed true true may = inr refl
index_or_closed true false may = cc
index_or_closed false of_index may = inl refl

pub may_by_index : (is_open of_index : Bool) → of_index ≡ true → (is_open && not of_index) ≡ false
may_by_index is_open of_index index = ap (λ (b : Bool). is_open && not b) index ∙ and_false is_open

pub may_by_closed : (is_open of_index : Bool) → is_open ≡ false → (is_open && not of_index) ≡ false
may_by_closed is_open of_index closed = ap (λ (b : Bool). b && not of_index) closed

pub index_where_open : (is_open of_index : Bool) → (is_open && not of_index) ≡ false → is_open ≡ true → of_index ≡ true
index_where_open true true may is = refl
index_where_open true false may is = cc
index_where_open false of_index may is = cc

pub closed_where_none : (is_open of_index : Bool) → (is_open && not of_index) ≡ false → of_index ≡ false → is_open ≡ false
closed_where_none true true may none = cc
closed_where_none true false may none = cc
closed_where_none false of_index may none = refl

-- A transaction is open if rows are saved.
pub saved_where_open : (is_open : Bool) (saved : Saved) → is_some (cond is_open (Some saved) None) ≡ is_open
saved_where_open true saved = refl
saved_where_open false saved = refl

on_ok : {T E A B : Type 0} (r : Result T E) → (A → B) → OnOk r A → OnOk r B
on_ok (Ok value) f held = f held
on_ok (Err refusal) f held = tt

on_err : {T E A B : Type 0} (r : Result T E) → (A → B) → OnErr r A → OnErr r B
on_err (Ok value) f held = tt
on_err (Err refusal) f held = f held

module _ (held : Holdings) (is_open : Bool) (marks : List Mark) (was : IsConsistent held is_open marks) (definition : Definition)
    (may : (is_open && not (is_of_index definition)) ≡ false) where
  abbrev store : Tables
  store = held.store

  abbrev lists : Lists
  lists = held.lists

  abbrev state : State
  state = kept_state held is_open marks

  abbrev saved : Option Saved
  saved = saved_rows is_open store marks

  -- The logs are empty at a change that concerns more than an index.
  pub settled_before : is_of_index definition ≡ false → IsSettled store lists
  settled_before none = (was.settled (closed_where_none is_open (is_of_index definition) may none)).0

  module _ (new : Holdings) (keeps : is_of_index definition ≡ true → KeepsLog store new.store) where
    -- The saved rows stay the same.
    pub saved_defined : saved_rows is_open new.store marks ≡ saved
    saved_defined =
        ⊎_elim
        (λ (is : is_open ≡ true).
        ap (λ (s : Saved). cond is_open (Some s) None)
        (saved_same store new.store (mark_of store) (λ mark within. (keeps (index_where_open is_open (is_of_index definition) may is)).marks mark)
        (length lists.log) marks (was.back is).ascend))
        (λ (closed : is_open ≡ false).
        ap (λ (b : Bool). cond b (Some (saved_of new.store marks)) None) closed
        ∙ sym (ap (λ (b : Bool). cond b (Some (saved_of store marks)) None) closed))
        (cases_Bool is_open)

    made : state_held new ≡ after_definition definition (state_held held) → kept_state new is_open marks ≡ after_definition definition state
    made done = (λ i. record (done i) { saved = saved_defined i }) ∙ sym (after_beside definition (state_held held) saved)

    left : state_held new ≡ state_held held → kept_state new is_open marks ≡ state
    left same = λ i. record (same i) { saved = saved_defined i }

    module _ {T : Type 0} (result : Result T Refusal) where
      -- The state is that after the change, or unchanged.
      pub definition_done : OnOk result (state_held new ≡ after_definition definition (state_held held))
          → OnOk result (kept_state new is_open marks ≡ after_definition definition state)
      definition_done ok = on_ok result made ok

      pub definition_refused : OnErr result (state_held new ≡ state_held held) → OnErr result (kept_state new is_open marks ≡ state)
      definition_refused err = on_err result left err

    -- Rows and standing queries have their types.
    typed_after : IsAtRest held → {T : Type 0} (result : Result T Refusal)
        → AnswersDue (first_refusal (definition_conditions definition (state_held held))) result
        → OnOk result (state_held new ≡ after_definition definition (state_held held)) → OnErr result (state_held new ≡ state_held held)
        → IsTyped (kept_state new is_open marks)
    typed_after rest (Ok value) due ok err =
        subst IsTyped (sym (made ok))
        (typed_by_definition definition state
        (⊎_elim (λ closed. inl (saved_where_open is_open (saved_of store marks) ∙ closed)) (λ index. inr index)
        (index_or_closed is_open (is_of_index definition) may))
        (ap first_refusal (conditions_beside definition (state_held held) saved) ∙ due) rest.placed.beside
        (bound_all held.schema lists.queries rest.placed.placed) was.typed)
    typed_after rest (Err refusal) due ok err = subst IsTyped (sym (left err)) was.typed

    -- After a change of the catalog everything is consistent.
    pub defined : IsAtRest held → {T : Type 0} (result : Result T Refusal)
        → AnswersDue (first_refusal (definition_conditions definition (state_held held))) result
        → OnOk result (state_held new ≡ after_definition definition (state_held held)) → OnErr result (state_held new ≡ state_held held)
        → (is_of_index definition ≡ false → IsSettled new.store new.lists) → (is_of_index definition ≡ true → new.lists ≡ lists)
        → IsConsistent new is_open marks
    defined rest result due ok err settled same = record {
      typed = typed_after rest result due ok err;
      back = λ is.
          let index = index_where_open is_open (is_of_index definition) may is in
          let back = was.back is in
          back_through store new.store (mark_of store) (λ mark within. (keeps index).marks mark) lists new.lists (ap (λ (l : Lists). l.queries) (same index))
          (length lists.log) (λ mark within list row. ap (λ (l : Lists). count_at mark list row l) (same index)) marks back.saved back.each back.ascend
          (omega (arith, ap length (keeps index).log)) (omega (arith, ap (λ (l : Lists). length l.log) (same index)));
      settled = λ closed.
          let before = was.settled closed in (
            ⊎_elim
                (λ index. record { edits = (keeps index).log ∙ before.0.edits; log = ap (λ (l : Lists). l.log) (same index) ∙ before.0.log })
                (λ other. settled other) (cases_Bool (is_of_index definition)),
            before.1,
          );
    }
