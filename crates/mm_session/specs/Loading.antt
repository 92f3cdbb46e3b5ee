-- Loading a script: its lines are executed one after another, up to the first that is refused.
use Rattle.std.specs.Prelude.{◌≡◌, ℕ, ◌+◌, List, [], ◌∷◌, Option, Some, None, Result, Ok, Err, length, slice_get, take}
use Rattle.mm_value.specs.declared.refusal.Refusal.{Refusal}
use Rattle.mm_query.specs.declared.reply.Reply.{Reply}
use Rattle.mm_query.specs.declared.reply.Reply.TheVariants.{Refused}
use Rattle.mm_lang.specs.Lines.{lines_of}
use Rattle.mm_session.specs.Session.{AnswersLine, SessionState}
use Rattle.mm_session.specs.declared.loading.LoadError.{LoadError}

-- The refusal in a reply, if the reply is one.
abbrev pub refusal_in : Option Reply → Option Refusal
refusal_in (Some (Refused refusal)) = Some refusal
refusal_in reply = None

-- The session executed the lines one after another, and refused none.
abbrev pub ExecutesAll : List (List ℕ) → SessionState → SessionState → Type 0
ExecutesAll [] old new = new ≡ old
ExecutesAll (line ∷ lines) old new =
    (between : SessionState) × AnswersLine line old between × (refusal_in between.reply ≡ None) × ExecutesAll lines between new

-- The session executed as many lines as the error counts, and refused the next one, which changed only the reply.
pub record StopsAt (lines : List (List ℕ)) (error : LoadError) (old new : SessionState) : Type 0 where
  pub before : SessionState
  pub executes : ExecutesAll (take error.lines lines) old before
  pub line : List ℕ
  pub next : slice_get lines error.lines ≡ Some line
  pub answers : AnswersLine line before new
  pub refused : new ≡ record before { reply = Some (Refused error.refusal) }

-- The session executed all lines of a script, and counted them; or it stopped at the first line that was refused.
abbrev pub Loads : List ℕ → SessionState → SessionState → Result ℕ LoadError → Type 0
Loads script old new (Ok count) = (count ≡ length (lines_of script)) × ExecutesAll (lines_of script) old new
Loads script old new (Err error) = StopsAt (lines_of script) error old new

-- The lines of a script that were executed, with the refused one.
abbrev pub lines_tried : List ℕ → Result ℕ LoadError → List (List ℕ)
lines_tried script (Ok count) = lines_of script
lines_tried script (Err error) = take (error.lines + 1) (lines_of script)
