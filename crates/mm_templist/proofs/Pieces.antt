-- Pieces of equal width: their number, their positions, and one more.
use Rattle.std.proofs.Common.{◌≡◌, ℕ, zero, suc, ◌+◌, ◌*◌, ◌<◌, ◌≤◌, List, [], ◌∷◌, ◌++◌, Some, length, map, take, drop, refl, ap, ◌∙◌, arith, length-drop}
use Rattle.std.specs.Prelude.{slice_get}
use Rattle.std.proofs.Math.Nat.{mul-le-mul_left, mul-le-mul_right}
use Rattle.std.proofs.lemmas.List.{drop-drop, drop-append-le, take-append-le, take_all}
use Rattle.mm_templist.specs.Pieces.{pieces}

module _ {X : Type 0} (width : ℕ) where
  pub length-pieces : (count : ℕ) (xs : List X) → length (pieces width count xs) ≡ count
  length-pieces zero xs = refl
  length-pieces (suc count) xs = ap suc (length-pieces count (drop width xs))

  -- The piece at a position.
  pub piece_at : (count : ℕ) (xs : List X) (i : ℕ) → i < count → slice_get (pieces width count xs) i ≡ Some (take width (drop (i * width) xs))
  piece_at zero xs i below = absurd (omega arith)
  piece_at (suc count) xs zero below =
      let none : 0 ≡ 0 * width = omega arith in
      ap (λ n. Some (take width (drop n xs))) none
  piece_at (suc count) xs (suc i) below =
      piece_at count (drop width xs) i (omega arith)
      ∙ ap (λ l. Some (take width l)) (drop-drop (i * width) width xs ∙ ap (λ n. drop n xs) (omega arith))

  -- One more piece after the others.
  pub pieces-push : (count : ℕ) (xs piece : List X) → length xs ≡ count * width → length piece ≡ width
      → pieces width (count + 1) (xs ++ piece) ≡ pieces width count xs ++ piece ∷ []
  pieces-push zero [] piece whole wide = ap (λ l. l ∷ []) (take_all width piece (omega (arith, wide)))
  pieces-push zero (x ∷ xs) piece whole wide = absurd (omega (arith, whole))
  pieces-push (suc count) xs piece whole wide =
      let within : width ≤ length xs = omega (arith, whole) in
      let rest : length (drop width xs) ≡ count * width = length-drop width xs ∙ omega (arith, whole) in
      let more : suc count + 1 ≡ suc (count + 1) = omega arith in
      ap (λ n. pieces width n (xs ++ piece)) more
      ∙ (λ i. take-append-le width xs piece within i ∷ pieces width (count + 1) (drop-append-le width xs piece within i))
      ∙ ap (λ l. take width xs ∷ l) (pieces-push count (drop width xs) piece rest wide)

  -- There are at most as many pieces as elements, if the pieces are not empty.
  pub few_pieces : (count : ℕ) (xs : List X) → length xs ≡ count * width → 0 < width → count ≤ length xs
  few_pieces count xs whole some =
      let one : 1 ≤ width = omega (arith, some) in
      let each : count * 1 ≤ count * width = mul-le-mul_left count one in
      omega (arith, whole, each)

  -- A piece ends within the list.
  pub piece_within : (count i : ℕ) (xs : List X) (all : List (List X)) → pieces width count xs ≡ all → length xs ≡ count * width
      → i < length all → i * width + width ≤ length xs
  piece_within count i xs all are whole below =
      let next : i + 1 ≤ count = omega (arith, below, length-pieces count xs, ap length are) in
      omega (arith, whole, mul-le-mul_right width next)

-- Pieces of one element each.
pub single_pieces : {X : Type 0} (xs : List X) → pieces 1 (length xs) xs ≡ map (λ x. x ∷ []) xs
single_pieces [] = refl
single_pieces (x ∷ xs) = ap (λ l. (x ∷ []) ∷ l) (single_pieces xs)
