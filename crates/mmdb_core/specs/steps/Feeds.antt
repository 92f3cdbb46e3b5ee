-- The ends of lines.
use Rattle.std.specs.Prelude.{◌≡◌, ℕ, ◌+◌, ◌<◌, ◌≤◌, List, [], ◌∷◌, ◌++◌, length, take, drop, Option, Some, None}
use Rattle.mm_lang.specs.Lines.{HasNoFeed}
use Rattle.mmdb_core.specs.declared.input.Next.{Next}
use Rattle.mmdb_core.specs.declared.input.Next.TheVariants.{Line, Long, End}

-- The bytes begin with a line of this length and its line feed.
pub record EndsLine (bytes : List ℕ) (len : ℕ) : Type 0 where
  pub within : len < length bytes
  pub no_feed : HasNoFeed (take len bytes)
  pub feed : bytes ≡ take len bytes ++ 10 ∷ drop (len + 1) bytes

-- What bytes alone show of the first line.
abbrev pub LooksLike : List ℕ → Option Next → Type 0
LooksLike bytes None = HasNoFeed bytes × (length bytes ≤ 4097)
LooksLike bytes (Some (Line len step)) = EndsLine bytes len × (step ≡ len + 1)
LooksLike bytes (Some Long) = HasNoFeed bytes × (4097 < length bytes)
LooksLike bytes (Some End) = ⊥

-- What bytes are if they are the last ones: a last line, or nothing.
abbrev pub EndsWith : List ℕ → Next → Type 0
EndsWith bytes (Line len step) = (0 < len) × (len ≡ length bytes) × (step ≡ len)
EndsWith bytes Long = ⊥
EndsWith bytes End = bytes ≡ []
