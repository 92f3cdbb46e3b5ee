-- Lines that are buffered while others are written.
use Rattle.std.proofs.Common.{◌≡◌, ℕ, Result, Ok, Err, List, [], ◌++◌, refl, sym, ap, ◌∙◌, append-nil, append_assoc}
use Rattle.std.specs.Prelude.{MatchResult}

-- everything buffered and the new line were written
pub buffered_written : {T E : Type 0} (result : Result T E) (text after : List ℕ) → after ≡ []
    → MatchResult result (λ _. text ++ after ≡ text) (λ _. text ≡ text)
buffered_written (Ok v) text after none = ap (λ l. text ++ l) none ∙ append-nil text
buffered_written (Err e) text after none = refl

-- the written and the buffered bytes are the lines so far, and then one line more
pub buffered_more : (done before more after line so_far : List ℕ) → done ++ before ≡ so_far → more ++ after ≡ before ++ line
    → (done ++ more) ++ after ≡ so_far ++ line
buffered_more done before more after line so_far is line_buffered =
    append_assoc done more after
    ∙ ap (λ l. done ++ l) line_buffered
    ∙ sym (append_assoc done before line)
    ∙ ap (λ l. l ++ line) is

-- .. also if the writer fails
pub buffered_front : (done before more line so_far : List ℕ) → done ++ before ≡ so_far → more ≡ before ++ line → done ++ more ≡ so_far ++ line
buffered_front done before more line so_far is line_buffered = ap (λ l. done ++ l) line_buffered ∙ sym (append_assoc done before line) ∙ ap (λ l. l ++ line) is

-- .. and at the end
pub buffered_end : (done before line so_far : List ℕ) → done ++ before ≡ so_far → so_far ++ line ≡ done ++ (before ++ line)
buffered_end done before line so_far is = ap (λ l. l ++ line) (sym is) ∙ append_assoc done before line
