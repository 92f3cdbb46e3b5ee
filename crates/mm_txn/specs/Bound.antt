-- Which queries and changes of rows a bound form belongs to, by a catalog.
use Rattle.std.specs.Prelude.{◌≡◌, None}
use Rattle.mm_schema.specs.Refused.{first_refusal}
use Rattle.mm_schema.specs.Schema.{HasDistinctNames, Schema}
use Rattle.mm_query.specs.Binding.{Binds, binding_conditions}
use Rattle.mm_query.specs.Resolving.{placed_query, places_in, query_conditions}
use Rattle.mm_query.specs.declared.bind.BoundChange.{BoundChange}
use Rattle.mm_query.specs.declared.bind.BoundChange.TheVariants as bound
use Rattle.mm_query.specs.declared.bound_query.Bound.{Bound}
use Rattle.mm_query.specs.declared.command.Mutation.{Mutation}
use Rattle.mm_query.specs.declared.query.Query.{Query}
use Rattle.mm_txn.specs.declared.bound.ChangeToRun.{ChangeToRun}
use Rattle.mm_txn.specs.declared.bound.ChangeToRun.TheVariants as run

-- The catalog refuses nothing of the query, and this is the query with places instead of names.
pub record IsBoundQuery (schema : Schema) (query : Query) (bound : Bound) : Type 0 where
  pub placed : bound.query ≡ placed_query schema query
  pub tables : bound.tables ≡ places_in schema query.from
  pub due : first_refusal (query_conditions query schema) ≡ None

-- The catalog, in which no two tables have one name, refuses nothing of the change, and this is the change with places instead of names.
pub record IsBoundChange (schema : Schema) (mutation : Mutation) (bound : BoundChange) : Type 0 where
  pub binds : Binds schema mutation bound
  pub due : first_refusal (binding_conditions mutation schema) ≡ None
  pub distinct : HasDistinctNames schema

-- The bound change that is run.
abbrev pub bound_of : ChangeToRun → BoundChange
bound_of (run.Insert table tuples) = bound.Insert table tuples
bound_of (run.Update table assignments tests) = bound.Update table assignments.now tests.now
bound_of (run.Delete table tests) = bound.Delete table tests.now
