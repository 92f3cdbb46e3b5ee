-- The slots of statements in a session.
use Rattle.std.specs.Prelude.{◌≡◌, ◌⊎◌, ◌++◌, ◌∷◌, ℕ, List, [], Option, Some, None, length, slice_get, slice_set}
use Rattle.std.specs.Option.{option_map}
use Rattle.mm_session.specs.declared.statement.Statement.{Statement}

-- The line of a slot's statement, if there is one.
abbrev pub line_in : Option Statement → Option (List ℕ)
line_in slot = option_map (λ (statement : Statement). statement.line.items) slot

-- A statement without its bound form.
abbrev pub unbound : Statement → Statement
unbound statement = record statement { bound = None }

-- A slot whose statement, if any, has no bound form.
abbrev pub forgotten : Option Statement → Option Statement
forgotten slot = option_map unbound slot

-- The statement is stored at a free number: after the last one, or in an empty slot.
abbrev pub PutsStatement : Statement → ℕ → List (Option Statement) → List (Option Statement) → Type 0
PutsStatement statement number old new =
    ((number ≡ length old) × (new ≡ old ++ Some statement ∷ []))
    ⊎ ((slice_get old number ≡ Some None) × (new ≡ slice_set old number (Some statement)))
