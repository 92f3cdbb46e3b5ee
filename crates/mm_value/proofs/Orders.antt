-- The value order and the row order are total, and only equal values or rows compare as equal.
use Rattle.std.proofs.Common.{◌≡◌, [], ◌∷◌, refl, ap}
use Rattle.std.specs.Cmp.{IsTotalOrder}
use Rattle.std.specs.Cmp.Lexicographic.{slice_cmp}
use Rattle.std.specs.Ordering.{ordering_reverse, ordering_then}
use Rattle.std.specs.declared.cmp.Ordering.{Ordering}
use Rattle.std.specs.declared.cmp.Ordering.TheVariants.{Less, Equal, Greater}
use Rattle.std.proofs.lemmas.Cmp.{int_cmp_total, nat_list_cmp_total, lists_total}
use Rattle.std.proofs.lemmas.Map.Lookups.{CmpEqualImpliesEq, exact_signed, exact_bytes}
use Rattle.mm_value.specs.Order.{value_cmp, row_cmp}
use Rattle.mm_value.specs.declared.values.Value.{Value}
use Rattle.mm_value.specs.declared.values.Value.TheVariants.{Int, Text}

antisymm : (x y : Value) → value_cmp x y ≡ ordering_reverse (value_cmp y x)
antisymm (Int a) (Int b) = int_cmp_total.antisymm a b
antisymm (Int a) (Text b) = refl
antisymm (Text a) (Int b) = refl
antisymm (Text a) (Text b) = nat_list_cmp_total.antisymm a b

trans : (x y z : Value) → value_cmp x y ≡ Less → value_cmp y z ≡ Less → value_cmp x z ≡ Less
trans (Int a) (Int b) (Int c) p q = int_cmp_total.trans a b c p q
trans (Int a) (Int b) (Text c) p q = refl
trans (Int a) (Text b) (Int c) p q = cc
trans (Int a) (Text b) (Text c) p q = refl
trans (Text a) (Int b) z p q = cc
trans (Text a) (Text b) (Int c) p q = cc
trans (Text a) (Text b) (Text c) p q = nat_list_cmp_total.trans a b c p q

congr : (x y z : Value) → value_cmp x y ≡ Equal → value_cmp x z ≡ value_cmp y z
congr (Int a) (Int b) (Int c) p = int_cmp_total.congr a b c p
congr (Int a) (Int b) (Text c) p = refl
congr (Int a) (Text b) z p = cc
congr (Text a) (Int b) z p = cc
congr (Text a) (Text b) (Int c) p = refl
congr (Text a) (Text b) (Text c) p = nat_list_cmp_total.congr a b c p

pub value_cmp_total : IsTotalOrder value_cmp
value_cmp_total = record { antisymm = antisymm; trans = trans; congr = congr }

pub row_cmp_total : IsTotalOrder row_cmp
row_cmp_total = lists_total value_cmp_total

pub value_cmp_exact : CmpEqualImpliesEq value_cmp
value_cmp_exact (Int a) (Int b) p = ap Int (exact_signed a b p)
value_cmp_exact (Int a) (Text b) p = cc
value_cmp_exact (Text a) (Int b) p = cc
value_cmp_exact (Text a) (Text b) p = ap Text (exact_bytes a b p)

-- the first of two comparisons ties if both together do
then_first : (a b : Ordering) → ordering_then a b ≡ Equal → a ≡ Equal
then_first Less b p = p
then_first Equal b p = refl
then_first Greater b p = p

-- .. and so does the second
pub then_second : (a b : Ordering) → ordering_then a b ≡ Equal → b ≡ Equal
then_second Less b p = cc
then_second Equal b p = p
then_second Greater b p = cc

pub row_cmp_exact : CmpEqualImpliesEq row_cmp
row_cmp_exact [] [] p = refl
row_cmp_exact [] (y ∷ ys) p = cc
row_cmp_exact (x ∷ xs) [] p = cc
row_cmp_exact (x ∷ xs) (y ∷ ys) p =
    let head = value_cmp_exact x y (then_first _ (slice_cmp value_cmp xs ys) p) in
    let tail = row_cmp_exact xs ys (then_second (value_cmp x y) _ p) in
    cc
