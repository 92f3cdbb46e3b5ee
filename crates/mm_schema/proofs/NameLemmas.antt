-- Names by their first byte and the others, and equal names.
use Rattle.std.proofs.Common.{◌≡◌, ℕ, ◌≤◌, ◌&&◌, List, [], ◌∷◌, true, false, length, drop, get_or, inl, inr, refl, sym, ap, ◌∙◌, arith}
use Rattle.std.specs.List.{list_all}
use Rattle.std.proofs.lemmas.Bool.{cases_Bool, false≢true}
use lib.Pointwise.{bytes_decides}
use Rattle.mm_schema.specs.Name.{is_lower, is_name_byte, is_name_text, same_name}

-- A name is a letter followed by letters, digits and _.
pub text_of_parts : (bytes : List ℕ) → 1 ≤ length bytes
    → is_name_text bytes ≡ (is_lower (get_or bytes 0 0) && list_all is_name_byte (drop 1 bytes))
text_of_parts [] h = absurd (omega arith)
text_of_parts (b ∷ bs) h = refl

-- Two equal names have the same bytes, ..
pub same_bytes : (a b : List ℕ) → same_name a b ≡ true → a ≡ b
same_bytes a b h = (bytes_decides a b).0 h

-- .. and a name equals itself.
pub same_name_refl : (a : List ℕ) → same_name a a ≡ true
same_name_refl a = (bytes_decides a a).1 refl

-- Inequality of names is symmetric.
pub differs_back : (a b : List ℕ) → same_name a b ≡ false → same_name b a ≡ false
differs_back a b differs = elim (cases_Bool (same_name b a)) [
  | inl same ↦
      let one : b ≡ a = same_bytes b a same in
      absurd (false≢true (sym differs ∙ ap (λ n. same_name n b) (sym one) ∙ same_name_refl b))
  | inr other ↦ other
]
