-- The contribution of rows at one place, row by row.
use Rattle.std.proofs.Common.{◌≡◌, ℕ, suc, List, [], ◌∷◌, ◌++◌, drop, get_or, map, take, refl, sym, ◌∙◌, arith}
use Rattle.std.specs.List.{sum_by}
use Rattle.std.proofs.lemmas.List.Sums.{sum_by-cons}
use Rattle.mm_query.specs.Queries.{bag_of, combinations}
use Rattle.mm_query.specs.declared.bound_query.BoundQuery.{BoundQuery}
use Rattle.mm_multiset.specs.Counts.{count_of}
use Rattle.mm_delta.specs.Terms.{lists_around}
use Rattle.mm_delta.proofs.SumOfTerms.{count_as_sum, weight}
use Rattle.mm_delta.proofs.Found.{Row, Rows}
use Rattle.mm_delta.proofs.Sums.{products_balance, sum_by-combinations, sum_by_same}

zeros : {X : Type 0} (xs : List X) → sum_by (λ x. 0) xs ≡ 0
zeros [] = refl
zeros (x ∷ xs) = omega (arith, sum_by-cons (λ y. 0) x xs, zeros xs)

-- If one place has no row, there is no combination.
none_at : {X : Type 0} (front : List (List X)) (rest : List (List X)) (f : List X → ℕ) → sum_by f (combinations (front ++ [] ∷ rest)) ≡ 0
none_at [] rest f = refl
none_at (xs ∷ front) rest f =
    sum_by-combinations f xs (front ++ [] ∷ rest) ∙ sum_by_same _ (λ x. 0) xs (λ x. none_at front rest (λ c. f (x ∷ c))) ∙ zeros xs

-- The rows of one place, one by one.
pub one_by_one : {X : Type 0} (front : List (List X)) (xs : List X) (rest : List (List X)) (f : List X → ℕ)
    → sum_by f (combinations (front ++ xs ∷ rest)) ≡ sum_by (λ x. sum_by f (combinations (front ++ (x ∷ []) ∷ rest))) xs
one_by_one front [] rest f = none_at front rest f
one_by_one front (x ∷ xs) rest f =
    omega (
      arith,
      products_balance front (x ∷ xs) [] (x ∷ []) xs rest (λ g. omega (arith, sum_by-cons g x xs, sum_by-cons g x [])) f,
      none_at front rest f,
      one_by_one front xs rest f,
      sum_by-cons (λ y. sum_by f (combinations (front ++ (y ∷ []) ∷ rest))) x xs,
    )

-- The count of a term is the sum over its edited rows.
pub count_by_rows : (q : BoundQuery) (after edited before : ℕ → Rows) (from : List ℕ) (k : ℕ) (row : Row)
    → count_of row (bag_of q (lists_around 0 after edited before from k))
    ≡ sum_by (λ x. count_of row (bag_of q (lists_around 0 after (λ _. x ∷ []) before from k))) (edited (get_or from k 0))
count_by_rows q after edited before from k row =
    count_as_sum q row (lists_around 0 after edited before from k)
    ∙ one_by_one (map after (take k from)) (edited (get_or from k 0)) (map before (drop (suc k) from)) (weight q row)
    ∙ sum_by_same _ _ (edited (get_or from k 0)) (λ x. sym (count_as_sum q row (lists_around 0 after (λ _. x ∷ []) before from k)))
