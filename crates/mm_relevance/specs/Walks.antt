-- The steps of the search for a negative cycle, and of its check.
use Rattle.std.specs.Prelude.{◌≡◌, ◌⊎◌, ◌<◌, get_or, ℕ, suc, zero, ◌+◌, ◌*◌, ◌%◌, ◌^◌, ◌≤◌, ◌==◌, ◌&&◌, Bool, true, false, not, ℤ, pos, int_lt, ◌+ℤ◌, ◌≤ℤ◌}
use Rattle.std.specs.Prelude.{◌<ℤ◌, if◌then◌else◌, List, [], ◌∷◌, ◌++◌, Option, Some, None, length, map}
use Rattle.std.specs.List.{All, Contains, fold}
use Rattle.std.specs.Ordering.{nat_cmp}
use Rattle.std.specs.Cmp.Lexicographic.{slice_cmp}
use Rattle.mm_value.specs.declared.values.Value.{Value}
use Rattle.mm_value.specs.declared.values.Value.TheVariants.{Int, Text}
use Rattle.mm_query.specs.Atoms.{stands}
use Rattle.mm_query.specs.declared.atom.Atom.{Atom}
use Rattle.mm_query.specs.declared.atom.Comparison.{Comparison}
use Rattle.mm_query.specs.declared.bound_query.BoundQuery.{BoundQuery}
use Rattle.mm_query.specs.declared.bound_query.FieldPlace.{FieldPlace}
use Rattle.mm_relevance.specs.Relevance.{IsWalk, edge_at, edge_of, total}
use Rattle.mm_relevance.specs.declared.check.Reached.{Reached}
use Rattle.mm_relevance.specs.declared.cycle.CycleEdge.{CycleEdge}
use Rattle.mm_relevance.specs.declared.edge.Edge.{Edge}
use Rattle.mm_relevance.specs.declared.search.Reach.{Reach}
use Rattle.mm_relevance.specs.declared.term.Term.{Term}
use Rattle.mm_relevance.specs.declared.term.Point.{Point}
use Rattle.mm_relevance.specs.declared.term.Point.TheVariants.{Zero, Column as At}

-- Two points are equal.
abbrev pub point_eq : Point → Point → Bool
point_eq Zero Zero = true
point_eq Zero (At g) = false
point_eq (At f) Zero = false
point_eq (At f) (At g) = (f.place == g.place) && (f.column == g.column)

-- ---- ranges

-- The number is at most this far from zero.
abbrev pub IsWithin : ℕ → ℤ → Type 0
IsWithin bound v = (v ≤ℤ pos bound) × (pos 0 ≤ℤ (v +ℤ pos bound))

-- The offset of the term is in range.
abbrev pub IsNearTerm : ℕ → Option Term → Type 0
IsNearTerm bound None = Unit {0}
IsNearTerm bound (Some term) = IsWithin bound term.offset

-- The cost of the edge is in range.
abbrev pub IsNear : Edge → Type 0
IsNear e = IsWithin (2 ^ 66) e.cost

-- The sum of a few costs is in range.
abbrev pub IsSmall : ℤ → Type 0
IsSmall v = IsWithin (2 ^ 72) v

abbrev pub IsSmallSum : Option ℤ → Type 0
IsSmallSum None = Unit {0}
IsSmallSum (Some v) = IsSmall v

-- ---- texts

-- The text, if the value exists and is one.
abbrev pub text_of : Option Value → Option (List ℕ)
text_of (Some (Text text)) = Some text
text_of (Some (Int number)) = None
text_of None = None

-- Both texts exist, and the comparison is false for them.
abbrev pub fails_of : Comparison → Option (List ℕ) → Option (List ℕ) → Bool
fails_of comparison (Some a) (Some b) = not (stands comparison (slice_cmp nat_cmp a b))
fails_of comparison (Some a) None = false
fails_of comparison None b = false

-- ---- all edges

-- The edge, if there is one, as a list.
abbrev pub option_list : Option Edge → List Edge
option_list None = []
option_list (Some e) = e ∷ []

abbrev pub name_of : ℕ → Bool → CycleEdge
name_of conjunct upper = record { conjunct = conjunct; upper = upper }

-- The edges of atoms, where the first has the number i.
abbrev pub edges_from : BoundQuery → ℕ → List Value → ℕ → List (Atom FieldPlace) → List Edge
edges_from query place row i [] = []
edges_from query place row i (a ∷ atoms) =
    (option_list (edge_of query place row (name_of i false) a) ++ option_list (edge_of query place row (name_of i true) a)) ++ edges_from query place row
    (i + 1) atoms

-- The edges of a query.
abbrev pub edges : BoundQuery → ℕ → List Value → List Edge
edges query place row = edges_from query place row 0 query.atoms

-- ---- least sums

-- The lesser of two sums.
abbrev pub lesser : Option ℤ → ℤ → Option ℤ
lesser None b = Some b
lesser (Some a) b = if int_lt b a then Some b else Some a

abbrev pub better_by : Option ℤ → ℤ → Option ℤ → Option ℤ
better_by best cost None = best
better_by best cost (Some sum) = lesser best (cost +ℤ sum)

-- The lesser of a sum and the sum over an edge from a point.
abbrev pub better : Point → Option ℤ → Reach → Option ℤ
better at best reach = if point_eq reach.edge.left at then better_by best reach.edge.cost reach.sum else best

abbrev pub least : Point → Option ℤ → List Reach → Option ℤ
least at best reaches = fold (better at) best reaches

abbrev pub reach_of : (Point → Option ℤ) → Edge → Reach
reach_of f e = record { edge = e; sum = f e.right }

-- The least sum of a walk of at most n edges from a point to the target.
abbrev pub rest : List Edge → Point → ℕ → Point → Option ℤ
rest edges target zero at = if point_eq at target then Some (pos 0) else None
rest edges target (suc n) at = least at (rest edges target n at) (map (reach_of (rest edges target n)) edges)

abbrev pub reaches_of : List Edge → Point → ℕ → List Reach
reaches_of edges target n = map (reach_of (rest edges target n)) edges

abbrev pub stepped_one : List Reach → Reach → Reach
stepped_one reaches r = record { edge = r.edge; sum = least r.edge.right r.sum reaches }

-- One round of relaxation (Bellman and Ford).
abbrev pub stepped : List Reach → List Reach
stepped reaches = map (stepped_one reaches) reaches

abbrev pub IsNegative : Option ℤ → Type 0
IsNegative None = ⊥
IsNegative (Some v) = v <ℤ pos 0

-- The cost and the sum are in range.
pub record IsFit (r : Reach) : Type 0 where
  pub cost : IsNear r.edge
  pub sum : IsSmallSum r.sum

-- The edge starts at the point, and its cost plus the sum after it is the given sum.
pub record Takes (at : Point) (owed : Option ℤ) (r : Reach) : Type 0 where
  pub left : r.edge.left ≡ at
  pub after : ℤ
  pub reached : r.sum ≡ Some after
  pub sums : owed ≡ Some (r.edge.cost +ℤ after)

-- A closed walk over these edges with a negative sum, of at most 32 edges.
pub record IsNegativeWalk (edges : List Edge) (walk : List Edge) : Type 0 where
  pub point : Point
  pub closed : IsWalk point walk point
  pub among : All (Contains edges) walk
  pub not_empty : 1 ≤ length walk
  pub few : length walk ≤ 32
  pub negative : total walk <ℤ pos 0

-- The edge has no negative cost, or an earlier one has a negative cost and the same left point.
abbrev pub IsNoStart : List Edge → ℕ → Type 0
IsNoStart edges i =
    (d : Edge) → (pos 0 ≤ℤ (get_or edges i d).cost)
    ⊎ ((k : ℕ) × (k < i) × ((get_or edges k d).cost <ℤ pos 0) × ((get_or edges k d).left ≡ (get_or edges i d).left))

-- ---- numbers for the points

-- The slot of a point's number: the first for zero, and one for each of 16 columns of each of 4 rows.
abbrev pub slot : Point → ℕ
slot Zero = 0
slot (At field) = 1 + field.place % 4 * 16 + field.column % 16

-- The number in the slot of a point.
abbrev pub number_in : List ℤ → Point → ℤ
number_in numbers point = get_or numbers (slot point) (pos 0)

-- The edge is true for numbers of the points.
abbrev pub IsMet : (Point → ℤ) → Edge → Type 0
IsMet numbers e = numbers e.left ≤ℤ (numbers e.right +ℤ e.cost)

-- ---- following a list of names

abbrev pub follow_edge : Reached → Option Edge → Option Reached
follow_edge from None = None
follow_edge from (Some e) = if point_eq e.left from.at then Some (record { at = e.right; sum = from.sum +ℤ e.cost }) else None

abbrev pub then_follow : Option Reached → (Reached → Option Reached) → Option Reached
then_follow None next = None
then_follow (Some r) next = next r

abbrev pub follow : BoundQuery → ℕ → List Value → Reached → List CycleEdge → Option Reached
follow query place row from [] = Some from
follow query place row from (name ∷ names) = then_follow (follow_edge from (edge_at query place row name)) (λ r. follow query place row r names)
