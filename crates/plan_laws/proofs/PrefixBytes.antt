-- The first bytes that a prefix has.
use Rattle.std.proofs.Common.{◌≡◌, ◌<◌, ◌+◌, ◌-◌, ◌*◌, ◌^◌, ◌<ℤ◌, ◌≤ℤ◌, ℕ, zero, suc, List, [], ◌∷◌, All, get_or, refl, ap, ◌∙◌, sym, subst, arith}
use Rattle.std.proofs.Math.Nat.{mul-le-mul_right, pow-suc}
use Rattle.std.proofs.Math.IntN.{ℤ, pos, negsuc}
use Rattle.std.proofs.lemmas.Int.{ints}
use Rattle.std.specs.List.{AllByRecursion}
use Rattle.std.proofs.lemmas.List.Elements.{recursion_from_All}
use Rattle.std.specs.Cmp.{ranks}
use Rattle.std.specs.Ordering.{MatchOrdering, nat_cmp}
use Rattle.std.specs.declared.cmp.Ordering.TheVariants.{Less, Equal, Greater}
use Rattle.mm_value.proofs.Prefixes.{big_endian_below, big_endian_none}
use Rattle.mm_value.specs.Prefix.{big_endian, order_prefix}
use Rattle.mm_value.specs.declared.values.Value.TheVariants.{Int, Text}

-- Each is a byte.
abbrev AreBytes : List ℕ → Type 0
AreBytes bytes = AllByRecursion (λ byte. byte < 256) bytes

abbrev rest : List ℕ → List ℕ
rest [] = []
rest (byte ∷ bytes) = bytes

small_first : (bytes : List ℕ) → AreBytes bytes → get_or bytes 0 0 < 256
small_first [] small = omega arith
small_first (byte ∷ bytes) small = small.0

small_rest : (bytes : List ℕ) → AreBytes bytes → AreBytes (rest bytes)
small_rest [] small = tt
small_rest (byte ∷ bytes) small = small.1

small_at : (bytes : List ℕ) (place : ℕ) → AreBytes bytes → get_or bytes place 0 < 256
small_at [] zero small = omega arith
small_at [] (suc place) small = omega arith
small_at (byte ∷ bytes) zero small = small.0
small_at (byte ∷ bytes) (suc place) small = small_at bytes place small.1

at_rest : (bytes : List ℕ) (place : ℕ) → get_or bytes (suc place) 0 ≡ get_or (rest bytes) place 0
at_rest [] zero = refl
at_rest [] (suc place) = refl
at_rest (byte ∷ bytes) place = refl

-- The first byte stands before what the others spell.
spelled : (k : ℕ) (bytes : List ℕ) → AreBytes bytes → big_endian (suc k) bytes ≡ get_or bytes 0 0 * 256 ^ k + big_endian k (rest bytes)
spelled k [] small = let none = big_endian_none k in omega (arith, none)
spelled k (byte ∷ bytes) small =
    let more = mul-le-mul_right {m = byte + 1} {n = 256} (256 ^ k) (omega (arith, small.0)) in
    let below = big_endian_below k bytes in
    omega (arith, more, below, pow-suc 256 k)

-- And the last one behind it.
spelled_last : (k : ℕ) (bytes : List ℕ) → AreBytes bytes → big_endian (suc k) bytes ≡ big_endian k bytes * 256 + get_or bytes k 0
spelled_last zero bytes small = let is = spelled zero bytes small in omega (arith, is)
spelled_last (suc k) bytes small =
    let whole = spelled (suc k) bytes small in
    let front = spelled k bytes small in
    let tail = spelled_last k (rest bytes) (small_rest bytes small) in
    omega (arith, whole, front, tail, at_rest bytes k, ap (λ w. get_or bytes 0 0 * w) (pow-suc 256 k))

-- A number in front of what is below its weight is told by the sum.
less_refuted : (x y m n w : ℕ) → m < w → x * w + m ≡ y * w + n → x < y → ⊥
less_refuted x y m n w below same less =
    let more = mul-le-mul_right {m = x + 1} {n = y} w (omega (arith, less)) in
    omega (arith, more, below, same)

front_told : (x y m n w : ℕ) → m < w → n < w → x * w + m ≡ y * w + n → x ≡ y
front_told x y m n w below below_too same =
    elim (nat_cmp x y) as (λ r. nat_cmp x y ≡ r → x ≡ y) [
      | Less ↦ λ is. absurd (less_refuted x y m n w below same (subst (λ r. MatchOrdering r (x < y) (x ≡ y) (y < x)) is (ranks x y)))
      | Equal ↦ λ is. subst (λ r. MatchOrdering r (x < y) (x ≡ y) (y < x)) is (ranks x y)
      | Greater ↦ λ is. absurd (less_refuted y x n m w below_too (sym same) (subst (λ r. MatchOrdering r (x < y) (x ≡ y) (y < x)) is (ranks x y)))
    ] refl

-- Two lists that spell one number have the same first byte, and the bytes behind it spell one number.
parted : (k : ℕ) (a b : List ℕ) → AreBytes a → AreBytes b → big_endian (suc k) a ≡ big_endian (suc k) b
    → (get_or a 0 0 ≡ get_or b 0 0) × (big_endian k (rest a) ≡ big_endian k (rest b))
parted k a b small small_too same =
    let whole : get_or a 0 0 * 256 ^ k + big_endian k (rest a) ≡ get_or b 0 0 * 256 ^ k + big_endian k (rest b) =
    sym (spelled k a small) ∙ same ∙ spelled k b small_too in
    let front : get_or a 0 0 ≡ get_or b 0 0 =
    front_told (get_or a 0 0) (get_or b 0 0) (big_endian k (rest a)) (big_endian k (rest b)) (256 ^ k)
    (big_endian_below k (rest a)) (big_endian_below k (rest b)) whole in
    (front, omega (arith, whole, ap (λ byte. byte * 256 ^ k) front))

-- So all their bytes are the same.
same_bytes : (k : ℕ) (a b : List ℕ) → AreBytes a → AreBytes b → big_endian k a ≡ big_endian k b
    → (place : ℕ) → place < k → get_or a place 0 ≡ get_or b place 0
same_bytes zero a b small small_too same place within = absurd (omega (arith, within))
same_bytes (suc k) a b small small_too same zero within = (parted k a b small small_too same).0
same_bytes (suc k) a b small small_too same (suc place) within =
    at_rest a place
    ∙ same_bytes k (rest a) (rest b) (small_rest a small) (small_rest b small_too) (parted k a b small small_too same).1 place (omega (arith, within))
    ∙ sym (at_rest b place)

-- Half of what 8 bytes spell tells what 7 of them spell.
pub same_first_bytes : (a b : List ℕ) → All (λ byte. byte < 256) a → All (λ byte. byte < 256) b → order_prefix (Text a) ≡ order_prefix (Text b)
    → (place : ℕ) → place < 7 → get_or a place 0 ≡ get_or b place 0
same_first_bytes a b all all_too same place within =
    let small : AreBytes a = recursion_from_All (λ byte. byte < 256) a all in
    let small_too : AreBytes b = recursion_from_All (λ byte. byte < 256) b all_too in
    let fronts : big_endian 7 a ≡ big_endian 7 b =
    omega (arith, same, spelled_last 7 a small, spelled_last 7 b small_too, small_at a 7 small, small_at b 7 small_too) in
    same_bytes 7 a b small small_too fronts place within

pub same_numbers : (a b : ℤ) → negsuc (2 ^ 62 - 1) ≤ℤ a → a <ℤ pos (2 ^ 62) → negsuc (2 ^ 62 - 1) ≤ℤ b → b <ℤ pos (2 ^ 62)
    → order_prefix (Int a) ≡ order_prefix (Int b) → a ≡ b
same_numbers (pos m) (pos n) low high low_too high_too same = ap pos (omega (arith, ints, high, high_too, same))
same_numbers (pos m) (negsuc n) low high low_too high_too same = absurd (omega (arith, same))
same_numbers (negsuc m) (pos n) low high low_too high_too same = absurd (omega (arith, same))
same_numbers (negsuc m) (negsuc n) low high low_too high_too same = ap negsuc (omega (arith, ints, low, low_too, same))

pub numbers_below_texts : (number : ℤ) (text : List ℕ) → order_prefix (Int number) < order_prefix (Text text)
numbers_below_texts (pos n) text = omega arith
numbers_below_texts (negsuc n) text = omega arith
