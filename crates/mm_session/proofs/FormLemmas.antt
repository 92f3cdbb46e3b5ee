-- Correct bound forms, and the outcomes of running them.
use Rattle.std.proofs.Common.{◌≡◌, ℕ, Bool, List, Option, Some, None, Result, Ok, Err, IsTrue, length, inl, inr, ⊎_elim, refl, sym, ap, subst, ◌∙◌}
use Rattle.std.specs.Option.{option_map}
use Rattle.std.specs.Prelude.{IfOk, IfSome}
use Rattle.std.specs.Result.{result_ok}
use Rattle.mm_value.specs.declared.refusal.Refusal.{Refusal}
use Rattle.mm_value.specs.declared.refusal.Refusal.TheVariants.{Memory}
use Rattle.mm_value.specs.declared.values.Value.{Value}
use Rattle.mm_schema.specs.Schema.{Schema}
use Rattle.mm_query.specs.Machine.{Outcome, refused_outcome, step}
use Rattle.mm_query.specs.Resolving.{places_in}
use Rattle.mm_query.specs.State.{State}
use Rattle.mm_query.specs.declared.bind.BoundChange.{BoundChange}
use Rattle.mm_query.specs.declared.bound_query.Bound.{Bound}
use Rattle.mm_query.specs.declared.command.Command.{Command}
use Rattle.mm_query.specs.declared.command.Command.TheVariants.{Change, Select}
use Rattle.mm_query.specs.declared.command.Mutation.{Mutation}
use Rattle.mm_query.specs.declared.query.Query.{Query}
use Rattle.mm_lang.specs.Answering.{MayLeadTo}
use Rattle.mm_lang.specs.Reading.{command_takes_memory, first_fault, literals_of}
use Rattle.mm_lang.specs.Templates.{holes_of, template_of}
use Rattle.mm_statement.proofs.FilledAnew.{change_anew, query_anew}
use Rattle.mm_statement.specs.Filling.{AnswersFilling, Filled, IsFilling, blank}
use Rattle.mm_statement.specs.Holes.{HolePlaces, hole_count, hole_places}
use Rattle.mm_statement.specs.Refilling.{RefillsChange, RefillsQuery}
use Rattle.mm_txn.specs.Bound.{IsBoundChange, IsBoundQuery}
use Rattle.mm_session.proofs.LineReadings.{takes_alike}
use Rattle.mm_session.specs.Statements.{Runs}
use Rattle.mm_session.specs.declared.bound_form.BoundForm.{BoundForm}
use Rattle.mm_session.specs.declared.bound_form.BoundForm.TheVariants as form
use Rattle.mm_session.specs.steps.Filled.{IsToRun, RefillsToRun, RunsAs, change_to_run}
use Rattle.mm_session.specs.steps.Forms.{HasForm, IsBoundForm, IsChangeForm, IsFormOf, IsFormWith, IsQueryForm}

-- A command that differs from a SELECT only in literals is a SELECT, ..
select_shape : (command : Command) (query : Query) → blank (Select query) ≡ blank command → (template : Query) × (command ≡ Select template)
select_shape (Select template) query same = (template, refl)
select_shape _ query same = absurd (cc)

-- .. and from a change of rows, one.
change_shape : (command : Command) (mutation : Mutation) → blank (Change mutation) ≡ blank command → (template : Mutation) × (command ≡ Change template)
change_shape (Change template) mutation same = (template, refl)
change_shape _ mutation same = absurd (cc)

-- The bound form of a filled command is one of the command with these values.
pub form_with : (schema : Schema) (holes : List Bool) (values : List Value) (command filled : Command) (bound : BoundForm)
    → length values ≡ hole_count holes → Filled holes values command filled → first_fault (literals_of filled) ≡ None → IsBoundForm schema filled bound
    → IsFormWith schema holes values command bound
form_with schema holes values command (Select query) (form.Query bound) count fills within binds =
    let shape = select_shape command query fills.same in
    record {
      template = shape.0;
      is = shape.1;
      query = query;
      binds = record {
        count = count;
        filled = subst (λ (c : Command). Filled holes values c (Select query)) shape.1 fills;
        within = within;
        unrefused = binds.due;
        placed = binds.placed;
      };
      tables = binds.tables;
    }
form_with schema holes values command (Change mutation) (form.Change bound) count fills within binds =
    let shape = change_shape command mutation fills.same in
    record {
      template = shape.0;
      is = shape.1;
      mutation = mutation;
      binds = record {
        count = count;
        filled = subst (λ (c : Command). Filled holes values c (Change mutation)) shape.1 fills;
        within = within;
        unrefused = binds.due;
        binds = binds.binds;
      };
      distinct = binds.distinct;
    }
form_with schema holes values command (Select query) (form.Change bound) count fills within binds = absurd binds
form_with schema holes values command _ _ count fills within binds = absurd binds

-- A call that returns a filling returns a correct one.
pub filling_of : (holes : List Bool) (values : List Value) (command filled : Command) (result : Result Command Refusal)
    → Some filled ≡ result_ok result → AnswersFilling holes values command result → IsFilling holes values command (Ok filled)
filling_of holes values command filled (Ok c) is answers =
    let same : c ≡ filled = cc in
    subst (λ (d : Command). IsFilling holes values command (Ok d)) same
    (⊎_elim
    (λ (f : IsFilling holes values command (Ok c)). f)
    (λ (m : Ok c ≡ Err Memory). absurd (cc))
    answers)
filling_of holes values command filled (Err e) is answers = absurd (cc)

-- A property of a call's value, if it returns one.
pub of_ok : {X E : Type 0} (P : X → Type 0) (result : Result X E) (x : X) → Some x ≡ result_ok result → IfOk result P → P x
of_ok P (Ok y) x is holds = let same : y ≡ x = cc in subst P same holds
of_ok P (Err e) x is holds = absurd (cc)

-- The same of a form that is kept or not.
pub forms_with : (schema : Schema) (holes : List Bool) (values : List Value) (command filled : Command) (kept : Option BoundForm)
    → length values ≡ hole_count holes → Filled holes values command filled → first_fault (literals_of filled) ≡ None
    → IfSome kept (IsBoundForm schema filled) → IfSome kept (IsFormOf schema holes command)
forms_with schema holes values command filled None count fills within binds = tt
forms_with schema holes values command filled (Some bound) count fills within binds =
    (values, form_with schema holes values command filled bound count fills within binds)

-- ---- new values

module _ (schema : Schema) (holes : HolePlaces) (values : List Value) (command : Command) (count : length values ≡ hole_count holes.are_holes) where
  -- New values leave the bound form of a query good, ..
  pub query_again : (old new : Bound) → HasForm schema holes command (form.Query old) → new.tables ≡ old.tables
      → RefillsQuery holes values old.query new.query → IsQueryForm schema holes.are_holes values command new
  query_again old new has tables refills =
      let was = has.form.1 in
      let places : holes ≡ hole_places holes.are_holes (Select was.template) = has.places ∙ ap (hole_places holes.are_holes) was.is in
      let anew = query_anew schema was.template was.query old.query new.query holes.are_holes has.form.0 values was.binds count
      (subst (λ (h : HolePlaces). RefillsQuery h values old.query new.query) places refills) in
      record {
        template = was.template;
        is = was.is;
        query = anew.0;
        binds = anew.1;
        tables = tables ∙ (was.tables ∙ ap (places_in schema) (sym anew.2));
      }

  -- .. and that of a change of rows.
  pub change_again : (old new : BoundChange) → HasForm schema holes command (form.Change old) → RefillsChange holes values old new
      → IsChangeForm schema holes.are_holes values command new
  change_again old new has refills =
      let was = has.form.1 in
      let places : holes ≡ hole_places holes.are_holes (Change was.template) = has.places ∙ ap (hole_places holes.are_holes) was.is in
      let anew = change_anew schema was.template was.mutation old new holes.are_holes has.form.0 values was.binds count
      (subst (λ (h : HolePlaces). RefillsChange h values old new) places refills) in
      record { template = was.template; is = was.is; mutation = anew.0; binds = anew.1; distinct = was.distinct }

-- Such a form is bound by the catalog.
bound_query : (schema : Schema) (holes : List Bool) (values : List Value) (command : Command) (bound : Bound)
    → (form : IsQueryForm schema holes values command bound) → IsBoundQuery schema form.query bound
bound_query schema holes values command bound form =
    record { placed = form.binds.placed; tables = form.tables; due = form.binds.unrefused }

bound_change : (schema : Schema) (holes : List Bool) (values : List Value) (command : Command) (bound : BoundChange)
    → (form : IsChangeForm schema holes values command bound) → IsBoundChange schema form.mutation bound
bound_change schema holes values command bound form =
    record { binds = form.binds.binds; due = form.binds.unrefused; distinct = form.distinct }

-- A command with values in its holes, which has this bound form in a catalog.
pub record HasFilled (schema : Schema) (holes : List Bool) (values : List Value) (command : Command) (bound : BoundForm) : Type 0 where
  pub filled : Command
  pub fills : Filled holes values command filled
  pub within : first_fault (literals_of filled) ≡ None
  pub binds : IsBoundForm schema filled bound

-- There is one for each bound form of a command with values.
pub filled_of : (schema : Schema) (holes : List Bool) (values : List Value) (command : Command) (bound : BoundForm)
    → IsFormWith schema holes values command bound → HasFilled schema holes values command bound
filled_of schema holes values command (form.Query bound) with_values = record {
  filled = Select with_values.query;
  fills = subst (λ (c : Command). Filled holes values c (Select with_values.query)) (sym with_values.is) with_values.binds.filled;
  within = with_values.binds.within;
  binds = bound_query schema holes values command bound with_values;
}
filled_of schema holes values command (form.Change bound) with_values = record {
  filled = Change with_values.mutation;
  fills = subst (λ (c : Command). Filled holes values c (Change with_values.mutation)) (sym with_values.is) with_values.binds.filled;
  within = with_values.binds.within;
  binds = bound_change schema holes values command bound with_values;
}

-- Running the bound form of a command with values has an outcome of a statement of the command with these values.
module _ (line : List ℕ) (values : List Value) (command : Command) (ran : BoundForm) (before : State) (outcome : Outcome)
    (own : HasFilled before.schema (holes_of line) values command ran) (leads : MayLeadTo (Ok own.filled) before outcome) where
  pub runs_form : template_of line ≡ Ok command → Runs line values before outcome
  runs_form read = record {
    command = command;
    read = read;
    leads =
        ⊎_elim
        (λ (is : outcome ≡ step own.filled before). inl (Ok own.filled, (own.fills, own.within), is))
        (λ (h : (outcome ≡ refused_outcome Memory before) × IsTrue (command_takes_memory own.filled)).
        inr (h.0, takes_alike command own.filled own.fills.same h.1))
        leads;
  }

-- ---- forms to run

-- A command with the bound form of a query is a SELECT, ..
form_of_query : (schema : Schema) (command : Command) (bound : Bound) → IsBoundForm schema command (form.Query bound)
    → (query : Query) × (command ≡ Select query) × IsBoundQuery schema query bound
form_of_query schema (Select query) bound is = (query, refl, is)
form_of_query schema (Change mutation) bound is = absurd is
form_of_query schema _ bound is = absurd is

-- .. and one with that of a change of rows is such a change.
form_of_change : (schema : Schema) (command : Command) (bound : BoundChange) → IsBoundForm schema command (form.Change bound)
    → (mutation : Mutation) × (command ≡ Change mutation) × IsBoundChange schema mutation bound
form_of_change schema (Change mutation) bound is = (mutation, refl, is)
form_of_change schema (Select query) bound is = absurd is
form_of_change schema _ bound is = absurd is

-- A query that is run is a SELECT.
pub query_run : (schema : Schema) (command : Command) (bound : Bound) (rows : Option (List (List Value))) → RunsAs schema command (form.Query bound) rows
    → (query : Query) × (command ≡ Select query) × IsBoundQuery schema query bound
query_run schema command bound rows runs =
    let both : ◌≡◌ {A = Option BoundForm} (Some (form.Query bound)) (Some runs.ran) = runs.is in
    let same : runs.ran ≡ form.Query bound = cc in
    form_of_query schema command bound (subst (IsBoundForm schema command) same runs.binds)

-- A command that changes rows, and the bound change that is run for it in a catalog.
pub record RunsChange (schema : Schema) (command : Command) (bound : BoundChange) (rows : Option (List (List Value))) : Type 0 where
  pub mutation : Mutation
  pub is : command ≡ Change mutation
  pub ran : BoundChange
  pub runs : change_to_run bound rows ≡ Some ran
  pub binds : IsBoundChange schema mutation ran

-- A change of rows that is run is one.
pub change_run : (schema : Schema) (command : Command) (bound : BoundChange) (rows : Option (List (List Value)))
    → RunsAs schema command (form.Change bound) rows → RunsChange schema command bound rows
change_run schema command bound rows runs = by (change_to_run bound rows) refl runs.is
  where
    by : (o : Option BoundChange) → change_to_run bound rows ≡ o → option_map form.Change o ≡ Some runs.ran → RunsChange schema command bound rows
    by None own is = absurd (cc)
    by (Some change) own is =
        let same : runs.ran ≡ form.Change change = cc in
        let found = form_of_change schema command change (subst (IsBoundForm schema command) same runs.binds) in
        record { mutation = found.0; is = found.1; ran = change; runs = own; binds = found.2 }

module _ (schema : Schema) (holes : HolePlaces) (values : List Value) (command : Command) (count : length values ≡ hole_count holes.are_holes)
    (old new : BoundChange) (rows : Option (List (List Value))) (has : HasForm schema holes command (form.Change old))
    (refills : RefillsToRun holes values old new rows) where
  -- A bound change with new values is to be run, ..
  pub change_filled : IsToRun schema holes.are_holes values command (form.Change new) rows
  change_filled = record {
    ran = form.Change refills.ran;
    is = ap (option_map form.Change) refills.is;
    binds = change_again schema holes values command count old refills.ran has refills.refills;
  }

  -- .. and the form that is kept is still a bound form of its command.
  pub change_stays : IsFormOf schema holes.are_holes command (form.Change new)
  change_stays =
      ⊎_elim
      (λ (same : new ≡ old). subst (λ (b : BoundChange). IsFormOf schema holes.are_holes command (form.Change b)) (sym same) has.form)
      (λ (same : new ≡ refills.ran). subst (λ (b : BoundChange). IsFormOf schema holes.are_holes command (form.Change b)) (sym same)
      (values, change_again schema holes values command count old refills.ran has refills.refills))
      refills.kept
