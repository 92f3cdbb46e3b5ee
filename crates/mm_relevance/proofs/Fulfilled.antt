-- If all edges are true for some numbers, no closed walk has a negative sum.
use Rattle.std.proofs.Common.{List, [], ◌∷◌, ℤ, pos, ◌+ℤ◌, ap, subst, arith}
use Rattle.std.specs.Prelude.{◌≤ℤ◌}
use Rattle.std.specs.List.{All, AllByRecursion, Contains}
use Rattle.std.proofs.lemmas.Int.{ints}
use Rattle.std.proofs.lemmas.List.Elements.{recursion_from_All}
use Rattle.mm_relevance.specs.declared.edge.Edge.{Edge}
use Rattle.mm_relevance.specs.declared.term.Point.{Point}
use Rattle.mm_relevance.specs.Relevance.{IsWalk, total}
use Rattle.mm_relevance.specs.Walks.{IsMet, IsNegativeWalk}

module _ (es : List Edge) (numbers : Point → ℤ) (all : All (IsMet numbers) es) where
  met : (e : Edge) → Contains es e → IsMet numbers e
  met e c = subst (IsMet numbers) c.2 (all c.0 e c.1)

  -- Along true edges the numbers grow by at most the costs.
  along : (walk : List Edge) (p q : Point) → AllByRecursion (Contains es) walk → IsWalk p walk q → numbers p ≤ℤ (numbers q +ℤ total walk)
  along [] p q among path = let same = ap numbers path in omega (arith, ints, same)
  along (e ∷ walk) p q among path =
      let here = met e among.0 in
      let later = along walk e.right q among.1 path.1 in
      let same = ap numbers path.0 in
      omega (arith, ints, here, later, same)

  pub no_walk_met : (walk : List Edge) → IsNegativeWalk es walk → ⊥
  no_walk_met walk c =
      let high = along walk c.point c.point (recursion_from_All (Contains es) walk c.among) c.closed in
      let negative = c.negative in
      omega (arith, ints, high, negative)

-- If no edge has a negative cost, every edge is true for the numbers 0.
pub no_walk_below : (es : List Edge) → All (λ e. pos 0 ≤ℤ e.cost) es → (walk : List Edge) → IsNegativeWalk es walk → ⊥
no_walk_below es none = no_walk_met es (λ p. pos 0) (λ k d inside. let h = none k d inside in omega (arith, ints, h))
