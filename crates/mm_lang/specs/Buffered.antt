-- The effect of a call that writes a text through a buffer.
use Rattle.std.specs.Prelude.{◌≡◌, ℕ, List, ◌++◌, Option, Result, MatchResult}
use Rattle.mm_value.specs.Device.{Writes}
use Rattle.mm_value.specs.declared.device.Watched.{Watched}

-- Appends a text to buffered bytes: at `Ok` a prefix of both was written and the rest is buffered; at an error a prefix of both was
-- written.
pub record WritesBuffered {W T E : Type 0} (contents : W → Option (List ℕ)) (old : Watched W) (before : List ℕ) (new : Watched W) (after : List ℕ)
    (result : Result T E) (text : List ℕ) : Type 0 where
  -- the bytes written; at an error a prefix of them
  pub done : List ℕ
  pub written : Writes contents old new result done
  -- the written and the buffered bytes are the previously buffered bytes and the text
  pub kept : MatchResult result (λ _. done ++ after ≡ before ++ text) (λ _. done ≡ before ++ text)
