-- The first piece of some bytes, by their first bytes.
use Rattle.std.proofs.Common.{◌≡◌, ◌<◌, ◌≤◌, ◌+◌, inl, inr, ℕ, zero, suc, Bool, true, false, ◌||◌, eqb, List, [], ◌∷◌, length, take, drop, get_or}
use Rattle.std.proofs.Common.{refl, arith}
use Rattle.std.specs.List.{prefix_len}
use Rattle.std.proofs.lemmas.Bool.{eqb-true, ne_eqb}
use Rattle.mm_lang.specs.Tokens.{begins_equal, is_word_byte}
use Rattle.mm_template.specs.steps.Pieces.{IsOneOf, IsOneToken, IsOperator, is_mark}
use Rattle.mm_template.proofs.Fronts.{at_least_token, at_most_token, close_token, comma_token, dot_token, equal_token, greater_token, less_token}
use Rattle.mm_template.proofs.Fronts.{minus_token, open_token, plus_token, signed_token}

pub mark_token : (bytes : List ℕ) → 0 < length bytes → is_mark (get_or bytes 0 0) ≡ true → IsOneToken false (take 1 bytes) (drop 1 bytes)
mark_token bytes some mark = by (eqb b 46) refl (eqb b 44) refl (eqb b 40) refl mark
  where
    b : ℕ
    b = get_or bytes 0 0

    by : (dot : Bool) → eqb b 46 ≡ dot → (comma : Bool) → eqb b 44 ≡ comma → (opens : Bool) → eqb b 40 ≡ opens
        → (dot || comma || opens || eqb b 41) ≡ true → IsOneToken false (take 1 bytes) (drop 1 bytes)
    by true is comma m opens o h = dot_token bytes some (eqb-true b 46 is)
    by false is true m opens o h = comma_token bytes some (eqb-true b 44 m)
    by false is false m true o h = open_token bytes some (eqb-true b 40 o)
    by false is false m false o h = close_token bytes some (eqb-true b 41 h)

-- ---- operators

pub equal_operator : (bytes : List ℕ) → 0 < length bytes → get_or bytes 0 0 ≡ 61 → IsOperator bytes true 1
equal_operator bytes some equal = record { some = omega arith; fits = omega arith; is = equal_token bytes some equal }

pub comma_operator : (bytes : List ℕ) → 0 < length bytes → get_or bytes 0 0 ≡ 44 → IsOperator bytes true 1
comma_operator bytes some comma = record { some = omega arith; fits = omega arith; is = comma_token bytes some comma }

pub open_operator : (bytes : List ℕ) → 0 < length bytes → get_or bytes 0 0 ≡ 40 → IsOperator bytes true 1
open_operator bytes some opens = record { some = omega arith; fits = omega arith; is = open_token bytes some opens }

pub plus_operator : (bytes : List ℕ) → 0 < length bytes → get_or bytes 0 0 ≡ 43 → IsOperator bytes false 1
plus_operator bytes some plus = record { some = omega arith; fits = omega arith; is = plus_token bytes some plus }

pub not_joined : (bytes : List ℕ) → (get_or bytes 1 0 ≡ 61 → ⊥) → begins_equal (drop 1 bytes) ≡ false
not_joined [] isnt = refl
not_joined (b ∷ []) isnt = refl
not_joined (b ∷ c ∷ bs) isnt = ne_eqb c 61 isnt

pub comparison_alone : (bytes : List ℕ) → 0 < length bytes → IsOneOf 60 62 (get_or bytes 0 0) → begins_equal (drop 1 bytes) ≡ false
    → IsOperator bytes true 1
comparison_alone bytes some (inl less) ends = record { some = omega arith; fits = omega arith; is = less_token bytes some less ends }
comparison_alone bytes some (inr greater) ends = record { some = omega arith; fits = omega arith; is = greater_token bytes some greater ends }

pub comparison_joined : (bytes : List ℕ) → 2 ≤ length bytes → IsOneOf 60 62 (get_or bytes 0 0) → get_or bytes 1 0 ≡ 61 → IsOperator bytes true 2
comparison_joined bytes some (inl less) equal = record { some = omega arith; fits = some; is = at_most_token bytes some less equal }
comparison_joined bytes some (inr greater) equal = record { some = omega arith; fits = some; is = at_least_token bytes some greater equal }

-- A minus, with the word directly after it if there is one.
pub minus_operator : (bytes : List ℕ) (n : ℕ) → 0 < length bytes → get_or bytes 0 0 ≡ 45 → n ≡ prefix_len is_word_byte (drop 1 bytes)
    → 1 + n ≤ length bytes → IsOperator bytes false (1 + n)
minus_operator bytes zero some minus run fits = record { some = omega arith; fits = fits; is = minus_token bytes zero some minus run refl }
minus_operator bytes (suc n) some minus run fits = record {
  some = omega arith;
  fits = fits;
  is = one (signed_token bytes (suc n) some minus run (omega arith));
}
  where
    one : {front rest : List ℕ} → IsOneToken false front rest → IsOneToken true front rest
    one p = record { token = p.token; is = p.is; no_hole = p.no_hole; no_sign = λ isnt. p.no_sign refl }
