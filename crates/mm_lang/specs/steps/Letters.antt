-- The first letters of keywords.
use Rattle.std.specs.Prelude.{ℕ, ◌==◌, Bool, false, List, [], ◌∷◌}
use Rattle.mm_lang.specs.declared.read.keyword.Keyword.{Keyword}
use Rattle.mm_lang.specs.Words.{keyword_text}

-- the bytes begin with this letter
abbrev pub begins_with : ℕ → List ℕ → Bool
begins_with letter [] = false
begins_with letter (b ∷ bs) = letter == b

-- The keyword begins with this letter.
abbrev pub begins_keyword : ℕ → Keyword → Bool
begins_keyword letter keyword = begins_with letter (keyword_text keyword)
