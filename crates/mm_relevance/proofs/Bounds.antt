-- Values that are at most another value plus a number.
use Rattle.std.proofs.Common.{◌≡◌, Bool, true, false, ℤ, pos, ◌+ℤ◌, ◌-ℤ◌, List, ℕ, refl, sym, ap, ◌∙◌, arith}
use Rattle.std.specs.Prelude.{◌<ℤ◌, ◌≤ℤ◌, int_lt}
use Rattle.std.specs.Cmp.{alike_right, int_ranks, tied_itself, upto}
use Rattle.std.specs.Cmp.Lexicographic.{slice_cmp}
use Rattle.std.specs.Ordering.{MatchOrdering, int_cmp, is_gt, is_lt, nat_cmp}
use Rattle.std.specs.declared.cmp.Ordering.{Ordering}
use Rattle.std.specs.declared.cmp.Ordering.TheVariants.{Less, Equal, Greater}
use Rattle.std.proofs.lemmas.Cmp.{nat_list_cmp_total}
use Rattle.std.proofs.lemmas.Int.{ints}
use Rattle.mm_value.specs.Order.{value_cmp}
use Rattle.mm_value.specs.declared.values.Value.{Value}
use Rattle.mm_value.specs.declared.values.Value.TheVariants.{Int, Text}
use Rattle.mm_query.specs.Atoms.{shifted}
use Rattle.mm_relevance.proofs.Sums.{less_of, not_less_of}

-- ---- Texts

abbrev by_bytes : List ℕ → List ℕ → Ordering
by_bytes = slice_cmp nat_cmp

less_on : (x y z : List ℕ) (o : Ordering) → by_bytes y z ≡ o → by_bytes x y ≡ Less → is_gt o ≡ false → by_bytes x z ≡ Less
less_on x y z Less is h k = nat_list_cmp_total.trans x y z h is
less_on x y z Equal is h k = sym (alike_right nat_list_cmp_total y z x is) ∙ h
less_on x y z Greater is h k = absurd (let b : ⊥ = cc in b)

less_then : (x y z : List ℕ) (o : Ordering) → by_bytes x y ≡ o → is_gt o ≡ false → by_bytes y z ≡ Less → by_bytes x z ≡ Less
less_then x y z Less is h k = nat_list_cmp_total.trans x y z is k
less_then x y z Equal is h k = nat_list_cmp_total.congr x y z is ∙ k
less_then x y z Greater is h k = absurd (let b : ⊥ = cc in b)

-- ---- Values

-- The first value is at most the second plus a number. For texts, the first is less if the number is negative.
abbrev pub UpTo : Value → Value → ℤ → Type 0
UpTo (Int a) (Int b) c = a ≤ℤ (b +ℤ c)
UpTo (Int a) (Text b) c = Unit {0}
UpTo (Text a) (Int b) c = ⊥
UpTo (Text a) (Text b) c = (is_gt (by_bytes a b) ≡ false) × (c <ℤ pos 0 → by_bytes a b ≡ Less)

pub up_to_itself : (v : Value) → UpTo v v (pos 0)
up_to_itself (Int a) = omega (arith, ints)
up_to_itself (Text a) = (ap is_gt (tied_itself nat_list_cmp_total a), λ h. absurd (omega (arith, ints, h)))

texts_on : (x y z : List ℕ) (c d : ℤ) → UpTo (Text x) (Text y) c → UpTo (Text y) (Text z) d → (c +ℤ d) <ℤ pos 0 → by_bytes x z ≡ Less
texts_on x y z c d h k below = go (int_lt c (pos 0)) refl
  where
    go : (b : Bool) → int_lt c (pos 0) ≡ b → by_bytes x z ≡ Less
    go true is = less_on x y z (by_bytes y z) refl (h.1 (less_of c (pos 0) is)) k.0
    go false is =
        let high : pos 0 ≤ℤ c = not_less_of c (pos 0) is in
        less_then x y z (by_bytes x y) refl h.0 (k.1 (omega (arith, ints, below, high)))

pub up_to_on : (x y z : Value) (c d : ℤ) → UpTo x y c → UpTo y z d → UpTo x z (c +ℤ d)
up_to_on (Int x) (Int y) (Int z) c d h k = omega (arith, ints, h, k)
up_to_on (Int x) (Int y) (Text z) c d h k = tt
up_to_on (Int x) (Text y) (Int z) c d h k = absurd k
up_to_on (Int x) (Text y) (Text z) c d h k = tt
up_to_on (Text x) (Int y) z c d h k = absurd h
up_to_on (Text x) (Text y) (Int z) c d h k = absurd k
up_to_on (Text x) (Text y) (Text z) c d h k = (upto nat_list_cmp_total x y z h.0 k.0, texts_on x y z c d h k)

-- No value is at most itself plus a negative number.
pub never_below_itself : (v : Value) (c : ℤ) → UpTo v v c → c <ℤ pos 0 → ⊥
never_below_itself (Int a) c h below = omega (arith, ints, h, below)
never_below_itself (Text a) c h below = (let e : Equal ≡ Less = sym (tied_itself nat_list_cmp_total a) ∙ h.1 below in let b : ⊥ = cc in b)

-- ---- Meanings of comparisons

-- A number may be added to a text only if it is 0.
abbrev pub IsPlain : Value → ℤ → Type 0
IsPlain (Int a) by = Unit {0}
IsPlain (Text a) by = by ≡ pos 0

ranked_up_to : (a b : ℤ) (o : Ordering) → MatchOrdering o (a <ℤ b) (a ≡ b) (b <ℤ a) → is_gt o ≡ false → a ≤ℤ b
ranked_up_to a b Less m h = omega (arith, ints, m)
ranked_up_to a b Equal m h = omega (arith, ints, m)
ranked_up_to a b Greater m h = absurd (let b : ⊥ = cc in b)

ranked_below : (a b : ℤ) (o : Ordering) → MatchOrdering o (a <ℤ b) (a ≡ b) (b <ℤ a) → is_lt o ≡ true → a <ℤ b
ranked_below a b Less m h = m
ranked_below a b Equal m h = absurd (let b : ⊥ = cc in b)
ranked_below a b Greater m h = absurd (let b : ⊥ = cc in b)

pub at_most_says : (v w : Value) (o p : ℤ) → IsPlain v o → IsPlain w p → is_gt (value_cmp (shifted o v) (shifted p w)) ≡ false → UpTo v w (p -ℤ o)
at_most_says (Int x) (Int y) o p e f h =
    let k = ranked_up_to (x +ℤ o) (y +ℤ p) (int_cmp (x +ℤ o) (y +ℤ p)) (int_ranks (x +ℤ o) (y +ℤ p)) h in omega (arith, ints, k)
at_most_says (Int x) (Text y) o p e f h = tt
at_most_says (Text x) (Int y) o p e f h = absurd (let b : ⊥ = cc in b)
at_most_says (Text x) (Text y) o p e f h = (h, λ below. absurd (omega (arith, ints, e, f, below)))

less_is : (o : Ordering) → is_lt o ≡ true → o ≡ Less
less_is Less h = refl
less_is Equal h = absurd (let b : ⊥ = cc in b)
less_is Greater h = absurd (let b : ⊥ = cc in b)

pub below_says : (v w : Value) (o p : ℤ) → is_lt (value_cmp (shifted o v) (shifted p w)) ≡ true → UpTo v w ((p -ℤ o) -ℤ pos 1)
below_says (Int x) (Int y) o p h =
    let k = ranked_below (x +ℤ o) (y +ℤ p) (int_cmp (x +ℤ o) (y +ℤ p)) (int_ranks (x +ℤ o) (y +ℤ p)) h in omega (arith, ints, k)
below_says (Int x) (Text y) o p h = tt
below_says (Text x) (Int y) o p h = absurd (let b : ⊥ = cc in b)
below_says (Text x) (Text y) o p h = let less = less_is (by_bytes x y) h in (ap is_gt less, λ below. less)
