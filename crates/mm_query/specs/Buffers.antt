-- Rows whose values are stored in one list.
use Rattle.std.specs.Prelude.{◌+◌, ◌≤◌, List, drop, length, take}
use Rattle.mm_query.specs.declared.row_buffer.Span.{Span}

-- The part of a list that a span covers.
abbrev pub part : {X : Type 0} → List X → Span → List X
part xs span = take span.len (drop span.start xs)

-- A span ends within a list.
abbrev pub IsWithin : {X : Type 0} → List X → Span → Type 0
IsWithin xs span = span.start + span.len ≤ length xs
