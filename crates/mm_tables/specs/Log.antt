-- A log of changes of a state of any kind, and their undo.
use Rattle.std.specs.Prelude.{List, [], ◌∷◌}

module _ {E S : Type 0} (back : E → S → S) where
  -- the state before these changes, the oldest change first
  abbrev pub before : List E → S → S
  before [] now = now
  before (e ∷ es) now = back e (before es now)

  module _ (Holds : S → E → Type 0) where
    -- each change left the state as it is once the newer changes are undone
    abbrev pub StandsBack : List E → S → Type 0
    StandsBack [] now = Unit {0}
    StandsBack (e ∷ es) now = StandsBack es now × Holds (before es now) e
