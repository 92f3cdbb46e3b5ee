-- A bound command with new values in its holes.
use Rattle.std.specs.Prelude.{◌≡◌, Bool, true, false, List, [], ◌∷◌, None, length, map}
use Rattle.std.proofs.Math.IntN.{neg_ℤ}
use Rattle.mm_value.specs.Types.{type_of}
use Rattle.mm_value.specs.declared.values.Value.{Value}
use Rattle.mm_value.specs.declared.values.Value.TheVariants.{Int}
use Rattle.mm_schema.specs.Refused.{first_refusal}
use Rattle.mm_schema.specs.Schema.{Schema}
use Rattle.mm_query.specs.Binding.{Binds, binding_conditions}
use Rattle.mm_query.specs.Resolving.{placed_query, query_conditions}
use Rattle.mm_query.specs.declared.bind.BoundChange.{BoundChange}
use Rattle.mm_query.specs.declared.bound_query.BoundQuery.{BoundQuery}
use Rattle.mm_query.specs.declared.command.Command.TheVariants.{Change, Select}
use Rattle.mm_query.specs.declared.command.Mutation.{Mutation}
use Rattle.mm_query.specs.declared.query.Query.{Query}
use Rattle.mm_lang.specs.Reading.{first_fault, literals_of}
use Rattle.mm_statement.specs.Alike.{blank_bound_change, blank_bound_query, bound_change_literals, bound_query_literals}
use Rattle.mm_statement.specs.Filling.{Filled}
use Rattle.mm_statement.specs.Holes.{HolePlaces, hole_count}

-- The value that replaces a hole; after a minus a number is negated.
abbrev pub signed : Bool → Value → Value
signed true (Int z) = Int (neg_ℤ z)
signed is_minus_one value = value

-- Literals with the values, in order, in place of those that are holes.
abbrev pub refilled : List Bool → List Bool → List Value → List Value → List Value
refilled (true ∷ holes) (is_minus_one ∷ minus_ones) (value ∷ values) (literal ∷ literals) =
    signed is_minus_one value ∷ refilled holes minus_ones values literals
refilled (false ∷ holes) (is_minus_one ∷ minus_ones) values (literal ∷ literals) = literal ∷ refilled holes minus_ones values literals
refilled holes minus_ones values literals = literals

-- The values that remain after each hole among the literals has received one.
abbrev pub left_over : List Bool → List Value → List Value → List Value
left_over (true ∷ holes) (value ∷ values) (literal ∷ literals) = left_over holes values literals
left_over (false ∷ holes) values (literal ∷ literals) = left_over holes values literals
left_over holes values literals = values

-- A command has new values in its holes, and differs only in its literals, which keep their types. No value remains. If no literal was past
-- its limit, none is now.
pub record Refills {B : Type 0} (blank : B → B) (literals_in : B → List Value) (holes : HolePlaces) (values : List Value) (old new : B) : Type 0 where
  pub same : blank new ≡ blank old
  pub types : map type_of (literals_in new) ≡ map type_of (literals_in old)
  pub literals : literals_in new ≡ refilled holes.are_holes holes.are_minus_one values (literals_in old)
  pub used : left_over holes.are_holes values (literals_in old) ≡ []
  pub within : first_fault (literals_in old) ≡ None → first_fault (literals_in new) ≡ None

-- A bound query has new values in its holes.
abbrev pub RefillsQuery : HolePlaces → List Value → BoundQuery → BoundQuery → Type 0
RefillsQuery holes values old new = Refills blank_bound_query bound_query_literals holes values old new

-- A bound change has new values in its holes.
abbrev pub RefillsChange : HolePlaces → List Value → BoundChange → BoundChange → Type 0
RefillsChange holes values old new = Refills blank_bound_change bound_change_literals holes values old new

-- The template with values in its holes is this query, and `bound` is its bound form. The catalog does not refuse the query, and none of
-- its literals is past its limit.
pub record BindsFilledQuery (schema : Schema) (holes : List Bool) (values : List Value) (template query : Query) (bound : BoundQuery) : Type 0 where
  pub count : length values ≡ hole_count holes
  pub filled : Filled holes values (Select template) (Select query)
  pub within : first_fault (literals_of (Select query)) ≡ None
  pub unrefused : first_refusal (query_conditions query schema) ≡ None
  pub placed : bound ≡ placed_query schema query

-- The template with values in its holes is this change of rows, and `bound` is its bound form. The catalog does not refuse the change, and
-- none of its literals is past its limit.
pub record BindsFilledChange (schema : Schema) (holes : List Bool) (values : List Value) (template mutation : Mutation) (bound : BoundChange) : Type 0 where
  pub count : length values ≡ hole_count holes
  pub filled : Filled holes values (Change template) (Change mutation)
  pub within : first_fault (literals_of (Change mutation)) ≡ None
  pub unrefused : first_refusal (binding_conditions mutation schema) ≡ None
  pub binds : Binds schema mutation bound
