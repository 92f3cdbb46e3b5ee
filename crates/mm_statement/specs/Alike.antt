-- Commands that differ only in their literals, before and after binding.
use Rattle.std.specs.Prelude.{◌≡◌, ℕ, List, ◌++◌, map}
use Rattle.std.specs.List.{flat_map}
use Rattle.mm_value.specs.Types.{type_of}
use Rattle.mm_value.specs.declared.values.Value.{Value}
use Rattle.mm_query.specs.declared.atom.Assignment.{Assignment}
use Rattle.mm_query.specs.declared.bind.BoundChange.{BoundChange}
use Rattle.mm_query.specs.declared.bind.BoundChange.TheVariants as bound
use Rattle.mm_query.specs.declared.bound_query.BoundQuery.{BoundQuery}
use Rattle.mm_query.specs.declared.command.Command.TheVariants.{Change}
use Rattle.mm_query.specs.declared.command.Mutation.{Mutation}
use Rattle.mm_query.specs.declared.query.Query.{Query}
use Rattle.mm_lang.specs.Reading.{literals_of, operand_literals, query_literals, test_literals}
use Rattle.mm_statement.specs.Filling.{blank_assignment, blank_atom, blank_mutation, blank_query, blank_value}

-- Two queries differ only in their literals, which have the same types.
pub record AreAlike (query other : Query) : Type 0 where
  pub same : blank_query query ≡ blank_query other
  pub types : map type_of (query_literals query) ≡ map type_of (query_literals other)

-- The literals of a change of rows, from left to right.
abbrev pub change_literals : Mutation → List Value
change_literals mutation = literals_of (Change mutation)

-- Two changes of rows differ only in their literals, which have the same types.
pub record AreAlikeChanges (mutation other : Mutation) : Type 0 where
  pub same : blank_mutation mutation ≡ blank_mutation other
  pub types : map type_of (change_literals mutation) ≡ map type_of (change_literals other)

-- A bound query with a 0 in place of each literal.
abbrev pub blank_bound_query : BoundQuery → BoundQuery
blank_bound_query query = record query { atoms = map blank_atom query.atoms }

-- The literals of a bound query, from left to right.
abbrev pub bound_query_literals : BoundQuery → List Value
bound_query_literals query = flat_map test_literals query.atoms

-- A bound change with a 0 in place of each literal.
abbrev pub blank_bound_change : BoundChange → BoundChange
blank_bound_change (bound.Insert table tuples) = bound.Insert table (map (map blank_value) tuples)
blank_bound_change (bound.Update table assignments tests) = bound.Update table (map blank_assignment assignments) (map blank_atom tests)
blank_bound_change (bound.Delete table tests) = bound.Delete table (map blank_atom tests)

-- The literals of a bound change, from left to right.
abbrev pub bound_change_literals : BoundChange → List Value
bound_change_literals (bound.Insert table tuples) = flat_map (λ tuple. tuple) tuples
bound_change_literals (bound.Update table assignments tests) =
    flat_map (λ (a : Assignment ℕ). operand_literals a.source) assignments ++ flat_map test_literals tests
bound_change_literals (bound.Delete table tests) = flat_map test_literals tests
