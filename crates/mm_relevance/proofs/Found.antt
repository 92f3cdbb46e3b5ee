-- A result is a cycle, and without a result there is none.
use Rattle.std.proofs.Common.{ℕ, inl, inr, List, Option, Some, None, MatchOption}
use Rattle.mm_value.specs.declared.values.Value.{Value}
use Rattle.mm_query.specs.declared.bound_query.BoundQuery.{BoundQuery}
use Rattle.mm_relevance.specs.declared.cycle.Cycle.{Cycle}
use Rattle.mm_relevance.specs.declared.cycle.CycleEdge.{CycleEdge}
use Rattle.mm_relevance.specs.Relevance.{IsAccepted, IsCyclic, IsFalseOnTexts, IsNegativeCycle}

module _ (query : BoundQuery) (place : ℕ) (row : List Value) where
  pub neither : ((cycle : List CycleEdge) → IsFalseOnTexts query place row cycle → ⊥) → ((cycle : List CycleEdge) → IsNegativeCycle query place row cycle → ⊥)
      → IsCyclic query place row → ⊥
  neither texts numbers (cycle, inl c) = numbers cycle c
  neither texts numbers (cycle, inr f) = texts cycle f

  pub answered : (o : Option Cycle) → ((cycle : List CycleEdge) → IsFalseOnTexts query place row cycle → ⊥)
      → MatchOption o ((cycle : List CycleEdge) → IsNegativeCycle query place row cycle → ⊥) (λ cycle. IsNegativeCycle query place row cycle.edges.items)
      → MatchOption o (IsCyclic query place row → ⊥) (λ cycle. IsAccepted query place row cycle.edges.items)
  answered None texts h = neither texts h
  answered (Some cycle) texts h = inl h
