-- Rows that cannot affect the result of a query (irrelevant updates of Blakeley, Larson and Tompa), and the negative cycles of inequalities
-- that prove it (Rosenkrantz and Hunt).
use Rattle.std.specs.Prelude.{◌≡◌, ◌⊎◌, ℕ, ◌≤◌, ◌==◌, nat_lt, ℤ, pos, ◌+ℤ◌, ◌-ℤ◌, ◌≤ℤ◌, ◌<ℤ◌, Bool, true, false, not, ◌&&◌, if◌then◌else◌, List, [], ◌∷◌}
use Rattle.std.specs.Prelude.{Option, Some, None, get_or, length, map, slice_get}
use Rattle.std.specs.List.{list_any}
use Rattle.std.specs.Option.{option_and_then, option_map, option_map_or}
use Rattle.mm_value.specs.declared.values.Value.{Value}
use Rattle.mm_value.specs.declared.values.Value.TheVariants.{Int, Text}
use Rattle.mm_query.specs.Additions.{is_text}
use Rattle.mm_query.specs.Atoms.{holds, operand_of, value_in}
use Rattle.mm_query.specs.Queries.{Partial, fits, value_at}
use Rattle.mm_query.specs.declared.atom.Atom.{Atom}
use Rattle.mm_query.specs.declared.atom.Comparison.{Comparison}
use Rattle.mm_query.specs.declared.atom.Comparison.TheVariants.{Equal, Less, LessOrEqual, Greater, GreaterOrEqual}
use Rattle.mm_query.specs.declared.atom.Operand.{Operand}
use Rattle.mm_query.specs.declared.atom.Operand.TheVariants.{Literal, Column, Shifted}
use Rattle.mm_query.specs.declared.bound_query.BoundQuery.{BoundQuery}
use Rattle.mm_query.specs.declared.bound_query.FieldPlace.{FieldPlace}
use Rattle.mm_relevance.specs.declared.cycle.CycleEdge.{CycleEdge}
use Rattle.mm_relevance.specs.declared.edge.Edge.{Edge}
use Rattle.mm_relevance.specs.declared.term.Point.{Point}
use Rattle.mm_relevance.specs.declared.term.Point.TheVariants.{Zero, Column as At}
use Rattle.mm_relevance.specs.declared.term.Term.{Term}

-- ---- irrelevant rows

-- The operand adds a number to a text.
abbrev pub shifts_text : Partial → Operand FieldPlace → Bool
shifts_text rows (Literal value) = false
shifts_text rows (Column field) = false
shifts_text rows (Shifted field by) = is_text (value_at rows field)

-- The combination has a row for each position of FROM, with this row at its position, and no atom adds a number to a text of it. In a query
-- whose types were checked, no atom does.
pub record IsCombinationWith (query : BoundQuery) (place : ℕ) (row : List Value) (combination : List (List Value)) : Type 0 where
  pub complete : length combination ≡ length query.from
  pub has_row : slice_get combination place ≡ Some row
  pub no_text_is_shifted : list_any (λ (atom : Atom FieldPlace). shifts_text (map Some combination) atom.right) query.atoms ≡ false

-- No combination with the row at the position fits the query, whatever the other rows are.
abbrev pub IsIrrelevant : BoundQuery → ℕ → List Value → Type 0
IsIrrelevant query place row =
    (combination : List (List Value)) → IsCombinationWith query place row combination → fits query combination ≡ false

-- ---- the inequalities of an atom

-- The term of an integer. A text has none.
abbrev pub number_term : Value → Option Term
number_term (Int number) = Some (record { point = Zero; offset = number })
number_term (Text text) = None

-- The term of a field: a column of the row at the position is a constant, and a column of another row of FROM is a point.
abbrev pub field_term : BoundQuery → ℕ → List Value → FieldPlace → Option Term
field_term query place row field =
    if field.place == place then number_term (value_in field.column row)
    else if nat_lt field.place (length query.from) then Some (record { point = At field; offset = pos 0 })
    else None

-- A term plus a number.
abbrev pub moved : ℤ → Term → Term
moved by term = record { point = term.point; offset = term.offset +ℤ by }

-- The term of an operand.
abbrev pub operand_term : BoundQuery → ℕ → List Value → Operand FieldPlace → Option Term
operand_term query place row (Literal value) = number_term value
operand_term query place row (Column field) = field_term query place row field
operand_term query place row (Shifted field by) = option_map (moved by) (field_term query place row field)

-- The edge of `a <= b`: its left point is at most its right point plus its cost.
abbrev pub at_most : CycleEdge → Term → Term → Edge
at_most name a b = record { left = a.point; right = b.point; cost = b.offset -ℤ a.offset; name = name }

-- The edge of `a < b`, for integers.
abbrev pub below : CycleEdge → Term → Term → Edge
below name a b = record { left = a.point; right = b.point; cost = (b.offset -ℤ a.offset) -ℤ pos 1; name = name }

-- The edge that bounds the left side `a` of an atom from above, if there is one.
abbrev pub lower_edge : Comparison → CycleEdge → Term → Term → Option Edge
lower_edge Equal name a b = Some (at_most name a b)
lower_edge Less name a b = Some (below name a b)
lower_edge LessOrEqual name a b = Some (at_most name a b)
lower_edge Greater name a b = None
lower_edge GreaterOrEqual name a b = None

-- The edge that bounds the left side `a` of an atom from below, if there is one.
abbrev pub upper_edge : Comparison → CycleEdge → Term → Term → Option Edge
upper_edge Equal name a b = Some (at_most name b a)
upper_edge Less name a b = None
upper_edge LessOrEqual name a b = None
upper_edge Greater name a b = Some (below name b a)
upper_edge GreaterOrEqual name a b = Some (at_most name b a)

-- The edge that the name selects, if both sides are terms.
abbrev pub edge_between : Comparison → CycleEdge → Option Term → Option Term → Option Edge
edge_between comparison name (Some a) (Some b) = if name.upper then upper_edge comparison name a b else lower_edge comparison name a b
edge_between comparison name (Some a) None = None
edge_between comparison name None b = None

-- The edge of an atom with this name, if there is one.
abbrev pub edge_of : BoundQuery → ℕ → List Value → CycleEdge → Atom FieldPlace → Option Edge
edge_of query place row name atom =
    edge_between atom.comparison name (field_term query place row atom.left) (operand_term query place row atom.right)

-- The edge of a query with this name, if there is one.
abbrev pub edge_at : BoundQuery → ℕ → List Value → CycleEdge → Option Edge
edge_at query place row name = option_and_then (edge_of query place row name) (slice_get query.atoms name.conjunct)

-- ---- the meaning of edges

-- The integer at a point of a combination; 0 for a text.
abbrev pub number_of : Value → ℤ
number_of (Int number) = number
number_of (Text text) = pos 0

abbrev pub number_at : List (List Value) → Point → ℤ
number_at combination Zero = pos 0
number_at combination (At field) = number_of (value_in field.column (get_or combination field.place []))

-- The inequality of an edge is true for a combination.
abbrev pub IsTrueOf : List (List Value) → Edge → Type 0
IsTrueOf combination e = number_at combination e.left ≤ℤ (number_at combination e.right +ℤ e.cost)

-- The atom compares two integers of a combination.
pub record ComparesNumbers (rows : Partial) (atom : Atom FieldPlace) : Type 0 where
  pub left : ℤ
  pub right : ℤ
  pub left_is : value_at rows atom.left ≡ Some (Int left)
  pub right_is : operand_of (value_at rows) atom.right ≡ Some (Int right)

-- ---- cycles

-- The edges lead from one point to the other.
abbrev pub IsWalk : Point → List Edge → Point → Type 0
IsWalk p [] q = p ≡ q
IsWalk p (e ∷ es) q = (e.left ≡ p) × IsWalk e.right es q

-- The sum of the costs.
abbrev pub total : List Edge → ℤ
total [] = pos 0
total (e ∷ es) = e.cost +ℤ total es

-- A negative cycle: at most 32 existing edges that lead from a point back to it, with a negative sum.
pub record IsNegativeCycle (query : BoundQuery) (place : ℕ) (row : List Value) (cycle : List CycleEdge) : Type 0 where
  pub edges : List Edge
  pub named : map (edge_at query place row) cycle ≡ map Some edges
  pub not_empty : 1 ≤ length cycle
  pub few : length cycle ≤ 32
  pub point : Point
  pub closed : IsWalk point edges point
  pub negative : total edges <ℤ pos 0

-- The value of a field of the row at the position. Values of other rows are not known.
abbrev pub known : ℕ → List Value → FieldPlace → Option Value
known place row field = if field.place == place then Some (value_in field.column row) else None

-- Both sides of the atom are known texts for which the atom is false.
abbrev pub fails_on_texts : ℕ → List Value → Atom FieldPlace → Bool
fails_on_texts place row atom =
    is_text (known place row atom.left) && (is_text (operand_of (known place row) atom.right) && not (holds (known place row) atom))

-- The one lower edge of an atom that is false for known texts.
pub record IsFalseOnTexts (query : BoundQuery) (place : ℕ) (row : List Value) (cycle : List CycleEdge) : Type 0 where
  pub conjunct : ℕ
  pub only : cycle ≡ record { conjunct = conjunct; upper = false } ∷ []
  pub fails : option_map_or (fails_on_texts place row) (slice_get query.atoms conjunct) false ≡ true

-- A cycle that proves that a row is irrelevant.
abbrev pub IsAccepted : BoundQuery → ℕ → List Value → List CycleEdge → Type 0
IsAccepted query place row cycle = IsNegativeCycle query place row cycle ⊎ IsFalseOnTexts query place row cycle

-- The row has such a cycle.
abbrev pub IsCyclic : BoundQuery → ℕ → List Value → Type 0
IsCyclic query place row = (cycle : List CycleEdge) × IsAccepted query place row cycle
