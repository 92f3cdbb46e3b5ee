-- Sums over the plain product.
use Rattle.std.proofs.Common.{◌≡◌, ℕ, ◌+◌, List, [], ◌∷◌, ◌++◌, map, refl, sym, ap, ◌∙◌, arith}
use Rattle.std.specs.List.{flat_map, sum_by}
use Rattle.std.specs.List.Sorted.{IsPermutation}
use Rattle.std.proofs.lemmas.List.Sums.{sum_by-cons, sum_by-append}
use Rattle.std.proofs.lemmas.List.Sorted.{sum_by-IsPermutation}
use Rattle.mm_query.specs.Queries.{combinations}

pub sum_by-map : {X Y : Type 0} (f : Y → ℕ) (g : X → Y) (xs : List X) → sum_by f (map g xs) ≡ sum_by (λ x. f (g x)) xs
sum_by-map f g [] = refl
sum_by-map f g (x ∷ xs) =
    sum_by-cons f (g x) (map g xs) ∙ ap (λ n. f (g x) + n) (sum_by-map f g xs) ∙ sym (sum_by-cons (λ y. f (g y)) x xs)

pub sum_by-flat_map : {X Y : Type 0} (f : Y → ℕ) (g : X → List Y) (xs : List X) → sum_by f (flat_map g xs) ≡ sum_by (λ x. sum_by f (g x)) xs
sum_by-flat_map f g [] = refl
sum_by-flat_map f g (x ∷ xs) =
    sum_by-append f (g x) (flat_map g xs) ∙ ap (λ n. sum_by f (g x) + n) (sum_by-flat_map f g xs) ∙ sym (sum_by-cons (λ y. sum_by f (g y)) x xs)

-- equal terms have equal sums
pub sum_by_same : {X : Type 0} (f g : X → ℕ) (xs : List X) → ((x : X) → f x ≡ g x) → sum_by f xs ≡ sum_by g xs
sum_by_same f g xs h = λ i. sum_by (λ x. h x i) xs

-- A sum over the product is a sum over the first list of sums over the rest.
pub sum_by-combinations : {X : Type 0} (f : List X → ℕ) (xs : List X) (rest : List (List X))
    → sum_by f (combinations (xs ∷ rest)) ≡ sum_by (λ x. sum_by (λ c. f (x ∷ c)) (combinations rest)) xs
sum_by-combinations f xs rest =
    sum_by-flat_map f (λ x. map (λ c. x ∷ c) (combinations rest)) xs
    ∙ sum_by_same _ _ xs (λ x. sum_by-map f (λ c. x ∷ c) (combinations rest))

-- Four sums whose terms balance.
pub sums_balance : {X : Type 0} (a b c d : X → ℕ) (xs : List X) → ((x : X) → a x + b x ≡ c x + d x)
    → sum_by a xs + sum_by b xs ≡ sum_by c xs + sum_by d xs
sums_balance a b c d [] h = refl
sums_balance a b c d (x ∷ xs) h =
    omega (arith, h x, sums_balance a b c d xs h, sum_by-cons a x xs, sum_by-cons b x xs, sum_by-cons c x xs, sum_by-cons d x xs)

-- Two lists have in sum the same as two others, for any term.
abbrev pub Balance : {X : Type 0} → List X → List X → List X → List X → Type 0
Balance {X} new gone old come = (f : X → ℕ) → sum_by f new + sum_by f gone ≡ sum_by f old + sum_by f come

pub balance_from_permutation : {X : Type 0} (new gone old come : List X) → IsPermutation (new ++ gone) (old ++ come) → Balance new gone old come
balance_from_permutation new gone old come h f =
    sym (sum_by-append f new gone) ∙ sym (sum_by-IsPermutation f (new ++ gone) (old ++ come) h) ∙ sum_by-append f old come

-- Lists that balance at one place of a product make products that balance.
pub products_balance : {X : Type 0} (front : List (List X)) (new gone old come : List X) (rest : List (List X)) → Balance new gone old come
    → Balance (combinations (front ++ new ∷ rest)) (combinations (front ++ gone ∷ rest))
    (combinations (front ++ old ∷ rest)) (combinations (front ++ come ∷ rest))
products_balance [] new gone old come rest h f =
    omega (
      arith,
      h (λ x. sum_by (λ c. f (x ∷ c)) (combinations rest)),
      sum_by-combinations f new rest,
      sum_by-combinations f gone rest,
      sum_by-combinations f old rest,
      sum_by-combinations f come rest,
    )
products_balance (xs ∷ front) new gone old come rest h f =
    omega (
      arith,
      sums_balance _ _ _ _ xs (λ x. products_balance front new gone old come rest h (λ c. f (x ∷ c))),
      sum_by-combinations f xs (front ++ new ∷ rest),
      sum_by-combinations f xs (front ++ gone ∷ rest),
      sum_by-combinations f xs (front ++ old ∷ rest),
      sum_by-combinations f xs (front ++ come ∷ rest),
    )
