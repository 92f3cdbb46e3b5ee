-- The lists once the prepared changes are applied.
use Rattle.std.proofs.Common.{◌≡◌, ℕ, ℤ, List, ◌∙◌}
use Rattle.mm_value.specs.declared.values.Value.{Value}
use Rattle.mm_standing.specs.Queries.{AreCounts, RowsByPlace, StandingQuery}

-- Equal counts lead to lists with the same rows.
pub fit_ready : (old new : ℕ → List Value → ℤ) (rows : RowsByPlace) (queries : List StandingQuery)
    → ((list : ℕ) (row : List Value) → new list row ≡ old list row) → AreCounts old rows queries → AreCounts new rows queries
fit_ready old new rows queries same counts = λ list standing got row. same list row ∙ counts list standing got row
