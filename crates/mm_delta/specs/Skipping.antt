-- Requirements for leaving out edited rows that cannot be part of a matching combination.
use Rattle.std.specs.Prelude.{◌≡◌, ◌⊎◌, ℕ, Bool, true, List, Contains, get_or, length}
use Rattle.mm_store.specs.Tables.{Tables}
use Rattle.mm_value.specs.declared.values.Value.{Value}
use Rattle.mm_query.specs.declared.bound_query.BoundQuery.{BoundQuery}
use Rattle.mm_relevance.specs.Relevance.{IsCyclic}
use Rattle.mm_query.specs.Additions.{AddsToNumbers}
use Rattle.mm_delta.specs.Edited.{after_at, before_at}
use Rattle.mm_delta.specs.declared.edited.TableChange.{TableChange}

-- A test of rows at places of FROM that only cyclic rows pass.
abbrev pub IsOfCyclicRows : BoundQuery → (ℕ → List Value → Bool) → Type 0
IsOfCyclicRows query skipped = (place : ℕ) (row : List Value) → skipped place row ≡ true → IsCyclic query place row

-- No atom adds a number to a text, neither of the rows before a change nor of those after it, and FROM has as many tables as the list of
-- places.
pub record IsTypeTested (query : BoundQuery) (store : Tables) (changes : List TableChange) (tables : List ℕ) : Type 0 where
  pub whole : length tables ≡ length query.from
  pub before : AddsToNumbers query (λ j. before_at store (get_or tables j 0))
  pub after : AddsToNumbers query (λ j. after_at store changes (get_or tables j 0))

-- A row is in a table before the change or after it.
abbrev pub IsRowOf : Tables → List TableChange → ℕ → List Value → Type 0
IsRowOf store changes table row = Contains (before_at store table) row ⊎ Contains (after_at store changes table) row
