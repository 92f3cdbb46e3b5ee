-- Worked examples of the number of rows that steps read.
use Rattle.std.specs.Prelude.{ℕ, pos, List, [], ◌∷◌}
use Rattle.mm_plan.specs.Steps.{plan_reads}
use Rattle.mm_plan.specs.declared.step.Step.{Step}
use Rattle.mm_plan.specs.declared.step.Step.TheVariants as step
use Rattle.mm_query.specs.declared.atom.Atom.{Atom}
use Rattle.mm_query.specs.declared.atom.Comparison.{Comparison}
use Rattle.mm_query.specs.declared.atom.Comparison.TheVariants.{Equal}
use Rattle.mm_query.specs.declared.atom.Operand.TheVariants.{Column}
use Rattle.mm_query.specs.declared.bound_query.FieldPlace.{FieldPlace}
use Rattle.mm_select.specs.Asked.{compares}
use Rattle.mm_value.specs.declared.values.Value.{Value}
use Rattle.mm_value.specs.declared.values.Value.TheVariants.{Int}

-- A row with a key in column 0 and a number in column 1.
abbrev pub row_of : ℕ → ℕ → List Value
row_of key number = Int (pos key) ∷ Int (pos number) ∷ []

-- The rows of `t`.
abbrev pub rows_of_t : List (List Value)
rows_of_t = row_of 1 5 ∷ row_of 2 5 ∷ row_of 4 9 ∷ []

-- The rows of `u`. The number of each is the key of a row of `t`.
abbrev pub rows_of_u : List (List Value)
rows_of_u = row_of 10 1 ∷ row_of 11 1 ∷ row_of 12 4 ∷ row_of 13 2 ∷ []

-- The comparison of the number with a literal.
abbrev pub number_compares : Comparison → ℕ → Atom FieldPlace
number_compares comparison number = compares 1 comparison (Int (pos number))

-- The reads of this step in a query of `u` alone.
abbrev pub reads_of_u : List (Atom FieldPlace) → Step → ℕ
reads_of_u atoms own = plan_reads atoms (own ∷ []) (rows_of_u ∷ [])

-- `b.k = a.id`, where `a` is first in FROM.
abbrev pub number_is_key : Atom FieldPlace
number_is_key = record { left = record { place = 1; column = 1 }; comparison = Equal; right = Column (record { place = 0; column = 0 }) }

-- `a.id = b.k`, where `b` is first in FROM.
abbrev pub key_is_number : Atom FieldPlace
key_is_number = record { left = record { place = 1; column = 0 }; comparison = Equal; right = Column (record { place = 0; column = 1 }) }

-- The reads of a scan of `t`, and then this step for `u`.
abbrev pub reads_from_t : Step → ℕ
reads_from_t further = plan_reads (number_is_key ∷ []) (step.Scan ∷ further ∷ []) (rows_of_t ∷ rows_of_u ∷ [])

-- The reads of a scan of `u`, and then this step for `t`.
abbrev pub reads_from_u : Step → ℕ
reads_from_u further = plan_reads (key_is_number ∷ []) (step.Scan ∷ further ∷ []) (rows_of_u ∷ rows_of_t ∷ [])
