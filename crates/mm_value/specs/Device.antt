-- The effect on a watched writer of a call that writes a text.
use Rattle.std.specs.Prelude.{◌≡◌, ℕ, ◌≤◌, List, length, take, Option, Result, MatchResult, is_err}
use Rattle.std.specs.Io.KnownBytes.{Appends}
use Rattle.mm_value.specs.declared.device.Watched.{Watched}
use Rattle.mm_value.specs.Watched.{inner_of, has_failed}

-- If the bytes of a writer are known, a prefix of the text is appended to them.
abbrev pub AppendsPrefix : Option (List ℕ) → Option (List ℕ) → List ℕ → Type 0
AppendsPrefix old new text = (n : ℕ) × (n ≤ length text) × Appends old new (take n text)

-- The effect of a call that writes the text. `contents` returns the bytes of a writer, if they are known.
pub record Writes {W T E : Type 0} (contents : W → Option (List ℕ)) (old new : Watched W) (result : Result T E) (text : List ℕ) : Type 0 where
  -- at `Ok` the text was appended, at an error a prefix of it
  pub written : MatchResult result (λ _. Appends (contents (inner_of old)) (contents (inner_of new)) text)
      (λ _. AppendsPrefix (contents (inner_of old)) (contents (inner_of new)) text)
  -- the writer's last call failed if and only if there is an error
  pub failed : has_failed new ≡ is_err result
