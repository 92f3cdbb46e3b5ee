-- Texts with each quote doubled.
use Rattle.std.proofs.Common.{◌≡◌, ◌≢◌, ◌<◌, ℕ, ◌+◌, suc, cond, List, [], ◌∷◌, ◌++◌, length, get_or, take, drop, refl, sym, ap, ◌∙◌, arith, append_assoc}
use Rattle.std.proofs.Common.{take-append-drop, length-take, Some, None}
use Rattle.std.proofs.lemmas.Bool.{ne_eqb, eq-eqb, eqb-true}
use Rattle.std.proofs.lemmas.List.{drop_more, drop-drop, get_or-take}
use Rattle.std.proofs.lemmas.List.Concat.{flat_map-append}
use Rattle.bstr.specs.Find.{IsFirstByte, is_byte}
use Rattle.mm_value.specs.Literal.{doubled_byte, doubled}

pub doubled-append : (xs ys : List ℕ) → doubled (xs ++ ys) ≡ doubled xs ++ doubled ys
doubled-append xs ys = flat_map-append doubled_byte xs ys

pub doubled_other : (x : ℕ) (xs : List ℕ) → x ≢ 39 → doubled (x ∷ xs) ≡ x ∷ doubled xs
doubled_other x xs ne = ap (λ b. cond b (39 ∷ 39 ∷ []) (x ∷ []) ++ doubled xs) (ne_eqb x 39 ne)

-- bytes without a quote are unchanged
pub doubled_none : (xs : List ℕ) → ((k : ℕ) → k < length xs → get_or xs k 0 ≢ 39) → doubled xs ≡ xs
doubled_none [] h = refl
doubled_none (x ∷ xs) h =
    doubled_other x xs (h 0 (omega arith)) ∙ ap (λ l. x ∷ l) (doubled_none xs (λ k lt. h (suc k) (omega arith)))

-- a piece up to the first quote, that quote doubled, and the rest
pub doubled_piece : (xs : List ℕ) (i : ℕ) → i < length xs → get_or xs i 0 ≡ 39 → ((k : ℕ) → k < i → get_or xs k 0 ≢ 39)
    → doubled xs ≡ take i xs ++ (39 ∷ 39 ∷ doubled (drop 1 (drop i xs)))
doubled_piece xs i lt at before =
    let split : xs ≡ take i xs ++ 39 ∷ drop 1 (drop i xs) =
    sym (take-append-drop i xs) ∙ ap (λ l. take i xs ++ l)
    (drop_more xs i 0 lt ∙ ap (λ b. b ∷ drop (i + 1) xs) at ∙ ap (λ l. 39 ∷ l) (sym (drop-drop 1 i xs))) in
    let stays : doubled (take i xs) ≡ take i xs =
    doubled_none (take i xs) (λ k in_front e.
    let k_below : k < i = omega (arith, length-take i xs) in
    before k k_below (sym (get_or-take i xs k 0 k_below) ∙ e)) in
    ap doubled split ∙ doubled-append (take i xs) (39 ∷ drop 1 (drop i xs)) ∙ ap (λ l. l ++ (39 ∷ 39 ∷ doubled (drop 1 (drop i xs)))) stays

-- no quote is found
pub doubled_unfound : (xs : List ℕ) → IsFirstByte (is_byte 39) xs None → doubled xs ≡ xs
doubled_unfound xs none = doubled_none xs (λ k lt e. none k (omega arith) lt (eq-eqb (get_or xs k 0) 39 e))

-- the written part of a text, one piece longer
pub doubled_more : (text written rest piece others : List ℕ) (i : ℕ) → doubled text ≡ written ++ doubled rest
    → IsFirstByte (is_byte 39) rest (Some i) → piece ≡ take i rest → others ≡ drop i rest
    → doubled text ≡ (written ++ (piece ++ 39 ∷ 39 ∷ [])) ++ doubled (drop 1 others)
doubled_more text written rest piece others i so_far found front back =
    let next : doubled rest ≡ (piece ++ 39 ∷ 39 ∷ []) ++ doubled (drop 1 others) =
    doubled_piece rest i found.0.high (eqb-true (get_or rest i 0) 39 found.1) (λ k lt e. found.0.before k (omega arith) lt (eq-eqb (get_or rest k 0) 39 e))
    ∙ ap (λ l. l ++ (39 ∷ 39 ∷ doubled (drop 1 (drop i rest)))) (sym front) ∙ ap (λ l. piece ++ (39 ∷ 39 ∷ doubled (drop 1 l))) (sym back)
    ∙ sym (append_assoc piece (39 ∷ 39 ∷ []) (doubled (drop 1 others))) in
    so_far ∙ ap (λ l. written ++ l) next ∙ sym (append_assoc written (piece ++ 39 ∷ 39 ∷ []) (doubled (drop 1 others)))
