-- The lines of the chosen steps of a query are its plan.
use Rattle.std.proofs.Common.{◌≡◌, ℕ, ◌<◌, ◌≤◌, List, length, map, Some, None, sym, ap, ◌∙◌, subst}
use Rattle.std.specs.List.{All}
use Rattle.std.specs.Prelude.{slice_get}
use Rattle.mm_plan.proofs.NamedSteps.{plan_named}
use Rattle.mm_plan.proofs.NamesThere.{as_many_steps, names_there, tables_there}
use Rattle.mm_plan.specs.Choosing.{steps_of}
use Rattle.mm_plan.specs.Kept.{AreKept, HaveOneKey, instance_of}
use Rattle.mm_plan.specs.Naming.{AreNamesThere, named_steps, names_of}
use Rattle.mm_plan.specs.Steps.{AreSteps}
use Rattle.mm_plan.specs.declared.step.Step.{Step}
use Rattle.mm_query.specs.Plans.{plan_of}
use Rattle.mm_query.specs.Resolving.{IsQueryWithin, placed_query, places_in, query_conditions}
use Rattle.mm_query.specs.declared.bound_query.BoundQuery.{BoundQuery}
use Rattle.mm_query.specs.declared.query.Query.{Query}
use Rattle.mm_schema.specs.Refused.{first_refusal}
use Rattle.mm_schema.specs.Schema.{Schema}
use Rattle.mm_store.specs.Tables.{Tables}

module _ (schema : Schema) (store : Tables) (query : BoundQuery) (tables : List ℕ) (kept : AreKept schema store) (within : IsQueryWithin schema query)
    (places : tables ≡ places_in schema query.from) where
  pub tables_stand : All (λ table. table < length store.tables) tables
  tables_stand = subst (All (λ table. table < length store.tables)) (sym places) (tables_there schema store query.from kept within.tables)

  module _ (steps : List Step) (are : AreSteps store query.atoms tables steps) where
    by_places : AreSteps store query.atoms (places_in schema query.from) steps
    by_places = subst (λ ts. AreSteps store query.atoms ts steps) places are

    pub few_steps : length steps ≤ length query.from
    few_steps = as_many_steps schema store query.from kept within.tables query.atoms within.atoms steps by_places

    pub all_there : (place : ℕ) (own : Step) → slice_get steps place ≡ Some own
        → AreNamesThere (record { schema = schema; from = query.from; tables = tables }) query.atoms place own
    all_there place own is =
        subst (λ ts. AreNamesThere (record { schema = schema; from = query.from; tables = ts }) query.atoms place own) (sym places)
        (names_there schema store query.from kept within.tables query.atoms within.atoms steps by_places place own is)

  pub lines_are : HaveOneKey schema.tables → (written : Query) → first_refusal (query_conditions written schema) ≡ None → query ≡ placed_query schema written
      → named_steps (record { schema = schema; from = query.from; tables = tables }) query.atoms (steps_of store query.atoms tables)
      ≡ plan_of schema (map length (instance_of store.tables)) written
  lines_are keys written due is =
      (λ i. named_steps (record { schema = schema; from = query.from; tables = places i }) query.atoms (steps_of store query.atoms (places i)))
      ∙ (ap (λ (q : BoundQuery). named_steps (names_of schema q.from) q.atoms (steps_of store q.atoms (places_in schema q.from))) is
      ∙ plan_named schema store written kept keys due)
