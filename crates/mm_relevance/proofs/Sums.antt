-- The least sums of walks.
use Rattle.std.proofs.Common.{◌≡◌, ℕ, suc, zero, ◌+◌, ◌*◌, ◌^◌, ◌<◌, ◌≤◌, Bool, true, false, cond, ℤ, pos, ◌+ℤ◌, List, [], ◌∷◌, Option, Some, None, map}
use Rattle.std.proofs.Common.{length, get_or, refl, sym, ap, subst, ◌∙◌, arith}
use Rattle.std.specs.Prelude.{int_lt, ◌<ℤ◌, ◌≤ℤ◌}
use Rattle.std.specs.List.{fold, All, AllByRecursion, Contains}
use Rattle.std.proofs.lemmas.Int.{ints}
use Rattle.std.proofs.lemmas.List.Elements.{All-from_recursion, recursion_from_All}
use Rattle.std.proofs.lemmas.Simd.{map-map}
use Rattle.mm_relevance.specs.declared.term.Point.{Point}
use Rattle.mm_relevance.specs.declared.edge.Edge.{Edge}
use Rattle.mm_relevance.specs.declared.search.Reach.{Reach}
use Rattle.mm_relevance.specs.Relevance.{IsWalk, total}
use Rattle.mm_relevance.specs.Walks.{IsNear, IsWithin, point_eq}
use Rattle.mm_relevance.specs.Walks.{lesser, better_by, better, least, reach_of, rest, reaches_of, stepped, stepped_one, IsSmallSum, IsFit, Takes}
use Rattle.mm_relevance.proofs.Points.{point_eq_is, point_eq_true}

abbrev pub AtMostBy : Option ℤ → ℤ → Type 0
AtMostBy None v = ⊥
AtMostBy (Some u) v = u ≤ℤ v

-- ---- From above: no sum of a walk is less

pick_keeps : (c : Bool) (a b v : ℤ) → (c ≡ true → b <ℤ a) → a ≤ℤ v → AtMostBy (cond c (Some b) (Some a)) v
pick_keeps true a b v h k = let l = h refl in omega (arith, ints)
pick_keeps false a b v h k = k

pick_takes : (c : Bool) (a b v : ℤ) → (c ≡ false → a ≤ℤ b) → b ≤ℤ v → AtMostBy (cond c (Some b) (Some a)) v
pick_takes true a b v h k = k
pick_takes false a b v h k = let l = h refl in omega (arith, ints)

pub less_of : (a b : ℤ) → int_lt a b ≡ true → a <ℤ b
less_of a b h = grind (arith, ints)

pub not_less_of : (a b : ℤ) → int_lt a b ≡ false → b ≤ℤ a
not_less_of a b h = grind (arith, ints)

lesser_keeps : (best : Option ℤ) (b v : ℤ) → AtMostBy best v → AtMostBy (lesser best b) v
lesser_keeps None b v h = absurd h
lesser_keeps (Some a) b v h = pick_keeps (int_lt b a) a b v (less_of b a) h

lesser_takes : (best : Option ℤ) (b v : ℤ) → b ≤ℤ v → AtMostBy (lesser best b) v
lesser_takes None b v h = h
lesser_takes (Some a) b v h = pick_takes (int_lt b a) a b v (not_less_of b a) h

by_keeps : (best : Option ℤ) (cost : ℤ) (sum : Option ℤ) (v : ℤ) → AtMostBy best v → AtMostBy (better_by best cost sum) v
by_keeps best cost None v h = h
by_keeps best cost (Some u) v h = lesser_keeps best (cost +ℤ u) v h

by_takes : (best : Option ℤ) (cost : ℤ) (sum : Option ℤ) (v : ℤ) → AtMostBy sum v → AtMostBy (better_by best cost sum) (cost +ℤ v)
by_takes best cost None v h = absurd h
by_takes best cost (Some u) v h = lesser_takes best (cost +ℤ u) (cost +ℤ v) (omega (arith, ints, h))

either_keeps : (c : Bool) (a b : Option ℤ) (v : ℤ) → AtMostBy a v → AtMostBy b v → AtMostBy (cond c a b) v
either_keeps true a b v h k = h
either_keeps false a b v h k = k

better_keeps : (at : Point) (best : Option ℤ) (r : Reach) (v : ℤ) → AtMostBy best v → AtMostBy (better at best r) v
better_keeps at best r v h = either_keeps (point_eq r.edge.left at) _ _ v (by_keeps best r.edge.cost r.sum v h) h

fold_keeps : (at : Point) (rs : List Reach) (best : Option ℤ) (v : ℤ) → AtMostBy best v → AtMostBy (fold (better at) best rs) v
fold_keeps at [] best v h = h
fold_keeps at (r ∷ rs) best v h = fold_keeps at rs (better at best r) v (better_keeps at best r v h)

better_takes : (at : Point) (best : Option ℤ) (f : Point → Option ℤ) (e : Edge) (v : ℤ) → e.left ≡ at → AtMostBy (f e.right) v
    → AtMostBy (better at best (reach_of f e)) (e.cost +ℤ v)
better_takes at best f e v h k =
    subst (λ c. AtMostBy (cond c (better_by best e.cost (f e.right)) best) (e.cost +ℤ v)) (sym (point_eq_is e.left at h)) (by_takes best e.cost (f e.right) v k)

fold_takes : (at : Point) (f : Point → Option ℤ) (es : List Edge) (best : Option ℤ) (e : Edge) (k : ℕ) → k < length es → get_or es k e ≡ e → e.left ≡ at
    → (v : ℤ) → AtMostBy (f e.right) v
    → AtMostBy (fold (better at) best (map (reach_of f) es)) (e.cost +ℤ v)
fold_takes at f [] best e k inside is left v h = absurd (omega arith)
fold_takes at f (x ∷ es) best e zero inside is left v h =
    fold_keeps at (map (reach_of f) es) (better at best (reach_of f x)) (e.cost +ℤ v)
    (subst (λ y. AtMostBy (better at best (reach_of f y)) (e.cost +ℤ v)) (sym is) (better_takes at best f e v left h))
fold_takes at f (x ∷ es) best e (suc k) inside is left v h = fold_takes at f es (better at best (reach_of f x)) e k (omega arith) is left v h

module _ (es : List Edge) (target : Point) where
  rest_there : (n : ℕ) (p : Point) → p ≡ target → AtMostBy (rest es target n p) (pos 0)
  rest_there zero p h = subst (λ c. AtMostBy (cond c (Some (pos 0)) None) (pos 0)) (sym (point_eq_is p target h)) (omega (arith, ints))
  rest_there (suc n) p h = fold_keeps p (reaches_of es target n) (rest es target n p) (pos 0) (rest_there n p h)

  -- No walk of at most n edges has a lesser sum.
  pub path_bound : (path : List Edge) (n : ℕ) (p : Point) → IsWalk p path target → AllByRecursion (Contains es) path → length path ≤ n
      → AtMostBy (rest es target n p) (total path)
  path_bound [] n p h all few = rest_there n p h
  path_bound (e ∷ path) zero p h all few = absurd (omega arith)
  path_bound (e ∷ path) (suc n) p h all few =
      fold_takes p (rest es target n) es (rest es target n p) e all.0.0 all.0.1 all.0.2 h.0 (total path)
      (path_bound path n e.right h.1 all.1 (omega arith))

  -- A closed walk has a sum that is at least the least sum from its first point.
  pub cycle_bound : (cycle : List Edge) (n : ℕ) → IsWalk target cycle target → AllByRecursion (Contains es) cycle → 1 ≤ length cycle → length cycle ≤ suc n
      → AtMostBy (least target None (reaches_of es target n)) (total cycle)
  cycle_bound [] n h all some few = absurd (omega arith)
  cycle_bound (e ∷ path) n h all some few =
      fold_takes target (rest es target n) es None e all.0.0 all.0.1 all.0.2 h.0 (total path)
      (path_bound path n e.right h.1 all.1 (omega arith))

  -- ---- Steps

  pub stepped_reaches : (n : ℕ) → stepped (reaches_of es target n) ≡ reaches_of es target (suc n)
  stepped_reaches n = map-map (stepped_one (reaches_of es target n)) (reach_of (rest es target n)) es

  -- If a step changes nothing, no further step does.
  pub stays : (n : ℕ) → stepped (reaches_of es target n) ≡ reaches_of es target n → (d m : ℕ) → m ≡ n + d → reaches_of es target m ≡ reaches_of es target n
  stays n h zero m e = ap (reaches_of es target) (let k : m ≡ n = omega arith in k)
  stays n h (suc d) zero e = absurd (omega arith)
  stays n h (suc d) (suc m) e = sym (stepped_reaches m) ∙ ap stepped (stays n h d m (omega arith)) ∙ h
  -- ---- Numbers stay small

abbrev pub IsWithinSum : ℕ → Option ℤ → Type 0
IsWithinSum m None = Unit {0}
IsWithinSum m (Some v) = (v ≤ℤ pos m) × (pos 0 ≤ℤ (v +ℤ pos m))

within_if : (c : Bool) (m : ℕ) (a b : Option ℤ) → IsWithinSum m a → IsWithinSum m b → IsWithinSum m (cond c a b)
within_if true m a b h k = h
within_if false m a b h k = k

within_lesser : (m : ℕ) (best : Option ℤ) (b : ℤ) → IsWithinSum m best → IsWithinSum m (Some b) → IsWithinSum m (lesser best b)
within_lesser m None b h k = k
within_lesser m (Some a) b h k = within_if (int_lt b a) m (Some b) (Some a) k h

within_by : (m k : ℕ) (best : Option ℤ) (cost : ℤ) (sum : Option ℤ) → IsWithinSum m best → IsWithin (2 ^ 66) cost → IsWithinSum k sum → k + 2 ^ 66 ≤ m
    → IsWithinSum m (better_by best cost sum)
within_by m k best cost None h near w le = h
within_by m k best cost (Some u) h near w le =
    within_lesser m best (cost +ℤ u) h (let a = near.0 in let b = near.1 in let c = w.0 in let d = w.1 in (omega (arith, ints), omega (arith, ints)))

within_fold : (at : Point) (f : Point → Option ℤ) (m k : ℕ) → k + 2 ^ 66 ≤ m → ((p : Point) → IsWithinSum k (f p)) → (es : List Edge) (best : Option ℤ)
    → AllByRecursion IsNear es → IsWithinSum m best
    → IsWithinSum m (fold (better at) best (map (reach_of f) es))
within_fold at f m k le w [] best near h = h
within_fold at f m k le w (e ∷ es) best near h =
    within_fold at f m k le w es (better at best (reach_of f e)) near.1
    (within_if (point_eq e.left at) m _ _ (within_by m k best e.cost (f e.right) h near.0 (w e.right) le) h)

within_more : (k m : ℕ) (o : Option ℤ) → k ≤ m → IsWithinSum k o → IsWithinSum m o
within_more k m None le h = tt
within_more k m (Some v) le h = let a = h.0 in let b = h.1 in (omega (arith, ints), omega (arith, ints))

pub rest_within : (es : List Edge) (target : Point) → AllByRecursion IsNear es → (n : ℕ) (p : Point) → IsWithinSum (n * 2 ^ 66) (rest es target n p)
rest_within es target near zero p = within_if (point_eq p target) (0 * 2 ^ 66) (Some (pos 0)) None (omega (arith, ints), omega (arith, ints)) tt
rest_within es target near (suc n) p =
    within_fold p (rest es target n) (suc n * 2 ^ 66) (n * 2 ^ 66) (omega arith) (rest_within es target near n) es (rest es target n p) near
    (within_more (n * 2 ^ 66) (suc n * 2 ^ 66) (rest es target n p) (omega arith) (rest_within es target near n p))

small_sum : (n : ℕ) (o : Option ℤ) → n ≤ 31 → IsWithinSum (n * 2 ^ 66) o → IsSmallSum o
small_sum n None le h = tt
small_sum n (Some v) le h = let a = h.0 in let b = h.1 in (omega (arith, ints), omega (arith, ints))

fit_all : (f : Point → Option ℤ) → ((p : Point) → IsSmallSum (f p)) → (es : List Edge) → AllByRecursion IsNear es → AllByRecursion IsFit (map (reach_of f) es)
fit_all f small [] near = tt
fit_all f small (e ∷ es) near = (record { cost = near.0; sum = small e.right }, fit_all f small es near.1)

pub reaches_fit : (es : List Edge) (target : Point) (n : ℕ) → n ≤ 31 → All IsNear es → All IsFit (reaches_of es target n)
reaches_fit es target n le near =
    let by = recursion_from_All IsNear es near in
    All-from_recursion IsFit (reaches_of es target n)
    (fit_all (rest es target n) (λ p. small_sum n (rest es target n p) le (rest_within es target by n p)) es by)

-- ---- The least sum is the sum over an edge

by_attained : (at : Point) (best : Option ℤ) (r : Reach) (v : ℤ) (c : Bool) (s : Option ℤ) → (c ≡ true → r.edge.left ≡ at) → r.sum ≡ s
    → cond c (better_by best r.edge.cost s) best ≡ Some v → (Takes at (Some v) r → ⊥) → best ≡ Some v
by_attained at best r v false s left is h never = h
by_attained at best r v true None left is h never = h
by_attained at None r v true (Some u) left is h never =
    absurd (never (record { left = left refl; after = u; reached = is; sums = sym h }))
by_attained at (Some a) r v true (Some u) left is h never = go (int_lt (r.edge.cost +ℤ u) a) h
  where
    go : (c : Bool) → cond c (Some (r.edge.cost +ℤ u)) (Some a) ≡ Some v → Some a ≡ Some v
    go true h = absurd (never (record { left = left refl; after = u; reached = is; sums = sym h }))
    go false h = h

fold_attained : (at : Point) (rs : List Reach) (best : Option ℤ) (v : ℤ) → fold (better at) best rs ≡ Some v
    → AllByRecursion (λ r. Takes at (Some v) r → ⊥) rs → best ≡ Some v
fold_attained at [] best v h none = h
fold_attained at (r ∷ rs) best v h none =
    by_attained at best r v (point_eq r.edge.left at) r.sum (point_eq_true r.edge.left at) refl (fold_attained at rs (better at best r) v h none.1) none.0

pub attained : (at : Point) (rs : List Reach) (best : Option ℤ) (v : ℤ) → least at best rs ≡ Some v → All (λ r. Takes at (Some v) r → ⊥) rs → best ≡ Some v
attained at rs best v h none = fold_attained at rs best v h (recursion_from_All (λ (r : Reach). Takes at (Some v) r → ⊥) rs none)
