-- Running and explaining a statement with values.
use Rattle.std.specs.Prelude.{◌≡◌, ◌⊎◌, ℕ, List, length}
use Rattle.mm_value.specs.declared.values.Value.{Value}
use Rattle.mm_session.specs.Session.{ExplainsAt, RunsAt, SessionState}
use Rattle.mm_session.specs.Statements.{IsMisused, IsUnexplained, line_at}
use Rattle.mm_session.specs.declared.misuse.Misuse.{Misuse}
use Rattle.mmdb_c.specs.Statuses.{misuse, status_of}

-- The statement ran, and the status is that of the reply; or the call was a misuse, and nothing changed.
abbrev pub RunsWith : ℕ → List Value → ℕ → SessionState → SessionState → Type 0
RunsWith number values status old new =
    (RunsAt number values old new × (status ≡ status_of new.reply))
    ⊎ ((new ≡ old) × (status ≡ misuse) × ((fault : Misuse) × IsMisused (line_at number old.lines) (length values) fault))

-- The statement's query was explained, and the status is that of the reply; or the call was a misuse, and nothing changed.
abbrev pub ExplainsWith : ℕ → List Value → ℕ → SessionState → SessionState → Type 0
ExplainsWith number values status old new =
    (ExplainsAt number values old new × (status ≡ status_of new.reply))
    ⊎ ((new ≡ old) × (status ≡ misuse) × ((fault : Misuse) × IsUnexplained (line_at number old.lines) (length values) fault))
