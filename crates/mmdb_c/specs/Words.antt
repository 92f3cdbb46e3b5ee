-- The words of statuses.
use Rattle.std.specs.Prelude.{◌≡◌, ◌≢◌, ◌⊎◌, ℕ, List, [], codes, length}
use Rattle.mm_value.specs.Refusals.{refusal_number, refusal_text}
use Rattle.mm_value.specs.declared.refusal.Refusal.{Refusal}
use Rattle.mmdb_c.specs.Copying.{CopiesFront}
use Rattle.mmdb_c.specs.Statuses.{misuse}

-- No refusal has this number.
abbrev pub IsNoRefusal : ℕ → Type 0
IsNoRefusal number = (refusal : Refusal) → refusal_number refusal ≢ number

-- These are the words of a status: the text of the refusal with this number, "misuse", or nothing for any other number.
abbrev pub AreWordsOf : ℕ → List ℕ → Type 0
AreWordsOf status words =
    ((refusal : Refusal) × (refusal_number refusal ≡ status) × (words ≡ refusal_text refusal))
    ⊎ (((status ≡ misuse) × (words ≡ codes "misuse")) ⊎ (IsNoRefusal status × (status ≢ misuse) × (words ≡ [])))

-- As many bytes of a status's words as fit were copied, and the count is the length of all words.
pub record TellsWords (status : ℕ) (old new : List ℕ) (count : ℕ) : Type 0 where
  pub words : List ℕ
  pub are : AreWordsOf status words
  pub copied : CopiesFront words old new
  pub count_is : count ≡ length words
