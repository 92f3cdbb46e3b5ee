-- Prefixes preserve the order of values.
use Rattle.std.proofs.Common.{◌≡◌, ◌<◌, ◌≤◌, ◌<ℤ◌, ◌+◌, ◌-◌, ◌*◌, ◌^◌, ℕ, zero, suc, min, List, [], ◌∷◌, get_or, drop, refl, ap, ◌∙◌, subst, arith, add-one}
use Rattle.std.proofs.Math.Nat.{mul-le-mul_left, mul-le-mul_right, pow-suc}
use Rattle.std.specs.Cmp.{ranks, int_ranks}
use Rattle.std.specs.Cmp.Lexicographic.{slice_cmp}
use Rattle.std.specs.Ordering.{MatchOrdering, nat_cmp, ordering_reverse, ordering_then}
use Rattle.std.specs.declared.cmp.Ordering.TheVariants.{Less, Equal, Greater}
use Rattle.std.proofs.Math.IntN.{ℤ, pos, negsuc}
use Rattle.std.proofs.lemmas.Int.{ints}
use Rattle.mm_value.proofs.Orders.{value_cmp_total, value_cmp_exact}
use Rattle.mm_value.specs.Order.{value_cmp}
use Rattle.mm_value.specs.Prefix.{int_prefix, big_endian, order_prefix}
use Rattle.mm_value.specs.declared.values.Value.{Value}
use Rattle.mm_value.specs.declared.values.Value.TheVariants.{Int, Text}

-- a smaller whole number has no greater prefix
ints_keep : (a b : ℤ) → a <ℤ b → int_prefix a ≤ int_prefix b
ints_keep (pos m) (pos n) less = omega (arith, ints, less)
ints_keep (pos m) (negsuc n) less = omega (arith, ints, less)
ints_keep (negsuc m) (pos n) less = omega (arith, ints, less)
ints_keep (negsuc m) (negsuc n) less = omega (arith, ints, less)

-- a power of 256 is not 0
power_some : (k : ℕ) → 1 ≤ 256 ^ k
power_some zero = omega arith
power_some (suc k) = let some = power_some k in omega (arith, some, pow-suc 256 k)

-- k bytes spell numbers below 256^k
pub big_endian_below : (k : ℕ) (bytes : List ℕ) → big_endian k bytes < 256 ^ k
big_endian_below zero bytes = omega arith
big_endian_below (suc k) [] = let some = power_some (suc k) in omega (arith, some)
big_endian_below (suc k) (byte ∷ bytes) = let some = power_some (suc k) in omega (arith, some)

pub big_endian_none : (k : ℕ) → big_endian k [] ≡ 0
big_endian_none zero = refl
big_endian_none (suc k) = refl

-- The first byte is more significant than the number of the others.
next_byte : (k : ℕ) (bytes : List ℕ) (i : ℕ) → get_or bytes i 0 < 256
    → big_endian (suc k) (drop i bytes) ≡ get_or bytes i 0 * 256 ^ k + big_endian k (drop (suc i) bytes)
next_byte k [] zero small = let none = big_endian_none k in omega (arith, none)
next_byte k [] (suc i) small = let none = big_endian_none k in omega (arith, none)
next_byte k (byte ∷ bytes) zero small =
    let more = mul-le-mul_right {m = byte + 1} {n = 256} (256 ^ k) (omega arith) in
    let below = big_endian_below k bytes in
    omega (arith, more, below, pow-suc 256 k)
next_byte k (byte ∷ bytes) (suc i) small = next_byte k bytes i small

-- the number of the bytes before i, followed by the others
abbrev pub Spelled : List ℕ → ℕ → ℕ → Type 0
Spelled bytes i number = number * 256 ^ (8 - i) + big_endian (8 - i) (drop i bytes) ≡ big_endian 8 bytes

pub Spelled-more : (bytes : List ℕ) (i number byte : ℕ) → i < 8 → byte < 256 → byte ≡ get_or bytes i 0 → Spelled bytes i number
    → Spelled bytes (i + 1) (256 * number + byte)
Spelled-more bytes i number byte within small is so_far =
    let k : ℕ = 7 - i in
    let left : 8 - i ≡ suc k = omega arith in
    let then : 8 - (i + 1) ≡ k = omega arith in
    let was = subst (λ n. number * 256 ^ n + big_endian n (drop i bytes) ≡ big_endian 8 bytes) left so_far in
    let next = next_byte k bytes i (omega (arith, is, small)) in
    rw (then, add-one, is) (omega (arith, was, next, ap (λ w. number * w) (pow-suc 256 k)))

-- so one more byte does not overflow
pub Spelled-room : (bytes : List ℕ) (i number : ℕ) → i < 8 → Spelled bytes i number → 256 * number + 255 < 2 ^ 64
Spelled-room bytes i number within so_far =
    let k : ℕ = 7 - i in
    let left : 8 - i ≡ suc k = omega arith in
    let was = subst (λ n. number * 256 ^ n + big_endian n (drop i bytes) ≡ big_endian 8 bytes) left so_far in
    let some = mul-le-mul_left {m = 1} {n = 256 ^ k} (256 * number) (power_some k) in
    let below = big_endian_below 8 bytes in
    omega (arith, was, some, below, ap (λ w. number * w) (pow-suc 256 k))

-- a smaller first byte makes the number no greater
steps_keep : (x y m n w v : ℕ) → x < y → m < w → min (x * w + m) (v - 1) ≤ min (y * w + n) (v - 1)
steps_keep x y m n w v less below = let more = mul-le-mul_right {m = x + 1} {n = y} w (omega arith) in omega (arith, more, below)

-- texts that precede have no greater numbers
texts_keep : (k : ℕ) (a b : List ℕ) → slice_cmp nat_cmp a b ≡ Less → big_endian k a ≤ big_endian k b
texts_keep zero a b less = omega arith
texts_keep (suc k) [] b less = omega arith
texts_keep (suc k) (x ∷ xs) [] less = cc
texts_keep (suc k) (x ∷ xs) (y ∷ ys) less =
    elim (nat_cmp x y) as (λ r. nat_cmp x y ≡ r → ordering_then r (slice_cmp nat_cmp xs ys) ≡ Less
    → big_endian (suc k) (x ∷ xs) ≤ big_endian (suc k) (y ∷ ys)) [
      | Less ↦ λ is _. steps_keep x y (big_endian k xs) (big_endian k ys) (256 ^ k) (256 ^ suc k)
          (subst (λ r. MatchOrdering r (x < y) (x ≡ y) (y < x)) is (ranks x y)) (big_endian_below k xs)
      | Equal ↦ λ is rest.
          let same : x ≡ y = subst (λ r. MatchOrdering r (x < y) (x ≡ y) (y < x)) is (ranks x y) in
          let tail : big_endian k xs ≤ big_endian k ys = texts_keep k xs ys rest in
          omega (arith, tail, ap (λ n. n * 256 ^ k) same)
      | Greater ↦ λ is none. cc
    ] refl less

pub prefixes_keep : (a b : Value) → value_cmp a b ≡ Less → order_prefix a ≤ order_prefix b
prefixes_keep (Int a) (Int b) less = ints_keep a b (subst (λ r. MatchOrdering r (a <ℤ b) (a ≡ b) (b <ℤ a)) less (int_ranks a b))
prefixes_keep (Int (pos n)) (Text b) less = omega arith
prefixes_keep (Int (negsuc n)) (Text b) less = omega arith
prefixes_keep (Text a) (Int b) less = cc
prefixes_keep (Text a) (Text b) less = let keep = texts_keep 8 a b less in omega (arith, keep)

pub prefixes_tell : (a b : Value) → order_prefix a < order_prefix b → value_cmp a b ≡ Less
prefixes_tell a b less =
    elim (value_cmp a b) as (λ r. value_cmp a b ≡ r → r ≡ Less) [
      | Less ↦ λ is. refl
      | Equal ↦ λ is. absurd (let same : order_prefix a ≡ order_prefix b = ap order_prefix (value_cmp_exact a b is) in omega (arith, same, less))
      | Greater ↦ λ is. absurd (
          let before : value_cmp b a ≡ Less = value_cmp_total.antisymm b a ∙ ap ordering_reverse is in
          let keep = prefixes_keep b a before in omega (arith, keep, less))
    ] refl
