-- Parts by their numbers.
use Rattle.std.proofs.Common.{◌≡◌, ◌<◌, ◌≤◌, ℕ, zero, suc, ◌+◌, ◌-◌, List, [], ◌∷◌, ◌++◌, Some, drop, get_or, length, slice_get, refl, sym, ap, ◌∙◌, arith}
use Rattle.std.proofs.Common.{length-append}
use Rattle.std.proofs.lemmas.List.{drop_more}
use Rattle.std.specs.List.{flat_map}

module _ {X : Type 0} where
  pub get_left : (xs ys : List X) (k : ℕ) → k < length xs → slice_get (xs ++ ys) k ≡ slice_get xs k
  get_left [] ys k within = absurd (omega arith)
  get_left (x ∷ xs) ys zero within = refl
  get_left (x ∷ xs) ys (suc k) within = get_left xs ys k (omega arith)

  pub get_right : (xs ys : List X) (k n : ℕ) → length xs + k ≡ n → slice_get (xs ++ ys) n ≡ slice_get ys k
  get_right [] ys k n is = ap (slice_get ys) (let e : n ≡ k = omega (arith, is) in e)
  get_right (x ∷ xs) ys k zero is = absurd (omega (arith, is))
  get_right (x ∷ xs) ys k (suc n) is = get_right xs ys k n (omega (arith, is))

  pub drop_at : (xs : List X) (k : ℕ) (x : X) → slice_get xs k ≡ Some x → drop k xs ≡ x ∷ drop (k + 1) xs
  drop_at [] k x is = cc
  drop_at (y ∷ xs) zero x is = let e : y ≡ x = cc in ap (λ (z : X). z ∷ xs) e
  drop_at (y ∷ xs) (suc k) x is =
      let next : suc k + 1 ≡ suc (k + 1) = omega arith in
      drop_at xs k x is ∙ ap (λ n. x ∷ drop n (y ∷ xs)) (sym next)

  -- The element with a number is the one with a lower number in the rest of the list.
  pub record IsLeft (all : List X) (number : ℕ) (rest : List X) (left : ℕ) : Type 0 where
    pub same : slice_get all number ≡ slice_get rest left
    pub count : length all + left ≡ number + length rest

  -- One more list has been passed.
  pub left_more : (all : List X) (number : ℕ) (front rest now : List X) (left : ℕ) → now ≡ front ++ rest → length front ≤ left
      → IsLeft all number now left → IsLeft all number rest (left - length front)
  left_more all number front rest now left split passed at =
      let back : length front + (left - length front) ≡ left = omega (arith, passed) in
      let long : length now ≡ length front + length rest = ap length split ∙ length-append front rest in
      record {
        same = at.same ∙ ap (λ (l : List X). slice_get l left) split ∙ get_right front rest (left - length front) left back;
        count = omega (arith, at.count, long, passed);
      }

  -- The element is in the next list.
  pub found_left : (all : List X) (number : ℕ) (front rest now : List X) (left : ℕ) (x : X) → now ≡ front ++ rest → left < length front
      → x ≡ get_or front left x → IsLeft all number now left → slice_get all number ≡ Some x
  found_left all number front rest now left x split within is at =
      at.same ∙ ap (λ (l : List X). slice_get l left) split ∙ get_left front rest left within ∙ get_read front left x within is
    where
      get_read : (xs : List X) (k : ℕ) (y : X) → k < length xs → y ≡ get_or xs k y → slice_get xs k ≡ Some y
      get_read [] k y within is = absurd (omega arith)
      get_read (z ∷ xs) zero y within is = ap Some (sym is)
      get_read (z ∷ xs) (suc k) y within is = get_read xs k y (omega arith) is

-- The items of the next of several, and those of the rest.
pub items_left : {Y X : Type 0} (items : Y → List X) (ys : List Y) (i : ℕ) (y : Y) → i < length ys → y ≡ get_or ys i y
    → flat_map items (drop i ys) ≡ items y ++ flat_map items (drop (i + 1) ys)
items_left items ys i y within is =
    ap (flat_map items) (drop_more ys i y within) ∙ ap (λ z. items z ++ flat_map items (drop (i + 1) ys)) (sym is)

-- Behind an element less is left.
pub drop_smaller : {X : Type 0} (xs : List X) (k n : ℕ) (x : X) → slice_get xs k ≡ Some x → n ≡ k + 1 → length (drop n xs) < length (drop k xs)
drop_smaller xs k n x is next =
    let here : length (drop k xs) ≡ suc (length (drop (k + 1) xs)) = ap length (drop_at xs k x is) in
    let there : length (drop n xs) ≡ length (drop (k + 1) xs) = ap (λ m. length (drop m xs)) next in
    omega (arith, here, there)
