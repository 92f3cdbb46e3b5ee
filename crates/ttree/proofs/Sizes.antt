-- Lemmas about the number of entries and nodes of a T-tree of a given height.
use Rattle.std.proofs.Common.{◌≡◌, ℕ, zero, suc, ◌+◌, ◌-◌, ◌*◌, ◌^◌, ◌<◌, ◌≤◌, max, length, [], ◌++◌, ⊎_elim, refl, subst, arith, length-append}
use Rattle.std.proofs.lemmas.Bool.{cases_lt}
use Rattle.ttree_node.specs.Tree.{Tree, Empty, Fork, in_order, height_of, node_count}
use Rattle.ttree.specs.Balanced.{IsTTree}
use Rattle.ttree.proofs.Leaves.{one_node}

-- Lemma: there are at most 16 entries per node.
pub entries_at_most : (t : Tree) → IsTTree t → length (in_order t) ≤ 16 * node_count t
entries_at_most Empty is = omega arith
entries_at_most (Fork left entries right) is =
    omega (
      arith,
      entries_at_most left is.0,
      entries_at_most right is.1,
      is.2.fits,
      length-append (in_order left ++ entries) (in_order right),
      length-append (in_order left) entries,
    )

-- Lemma: there is at least one entry per node.
pub nodes_at_most : (t : Tree) → IsTTree t → node_count t ≤ length (in_order t)
nodes_at_most Empty is = omega arith
nodes_at_most (Fork left entries right) is =
    omega (
      arith,
      nodes_at_most left is.0,
      nodes_at_most right is.1,
      is.2.filled,
      length-append (in_order left ++ entries) (in_order right),
      length-append (in_order left) entries,
    )

-- Lemma: there are at least five entries per node, minus 8, since an internal node has at least 14.
pub nodes_by_entries : (t : Tree) → IsTTree t → 5 * node_count t ≤ length (in_order t) + 8
nodes_by_entries Empty is = omega arith
nodes_by_entries (Fork Empty entries right) is =
    omega (
      arith,
      one_node right (omega (arith, is.2.right_low)),
      nodes_at_most right is.1,
      is.2.filled,
      length-append ([] ++ entries) (in_order right),
      length-append [] entries,
    )
nodes_by_entries (Fork (Fork l es r) entries Empty) is =
    let left : Tree = Fork l es r in
    omega (
      arith,
      one_node left (omega (arith, is.2.left_low)),
      nodes_at_most left is.0,
      is.2.filled,
      length-append (in_order left ++ entries) [],
      length-append (in_order left) entries,
    )
nodes_by_entries (Fork (Fork l es r) entries (Fork l' es' r')) is =
    omega (
      arith,
      nodes_by_entries (Fork l es r) is.0,
      nodes_by_entries (Fork l' es' r') is.1,
      is.2.full tt tt,
      length-append (in_order (Fork l es r) ++ entries) (in_order (Fork l' es' r')),
      length-append (in_order (Fork l es r)) entries,
    )

-- The fewest nodes of a balanced tree of height h, and of height h + 1: one more than the sum for the two heights before.
abbrev pub fewest : ℕ → ℕ × ℕ
fewest zero = (0, 1)
fewest (suc h) = let p : ℕ × ℕ = fewest h in (p.1, p.0 + p.1 + 1)

fewest_rises : (h : ℕ) → (fewest h).0 ≤ (fewest h).1
fewest_rises zero = omega arith
fewest_rises (suc h) = omega arith

fewest_above : (h k : ℕ) → (fewest h).0 ≤ (fewest (k + h)).0
fewest_above h zero = let e : 0 + h ≡ h = omega arith in rw e (omega arith)
fewest_above h (suc k) =
    let e : suc k + h ≡ suc (k + h) = omega arith in rw e (omega (arith, fewest_above h k, fewest_rises (k + h)))

-- Lemma: the fewest nodes of a root over two balanced sides.
fewest_over : (m l r in_l in_r : ℕ) → m ≡ max l r → l ≤ r + 1 → r ≤ l + 1 → (fewest l).0 ≤ in_l → (fewest r).0 ≤ in_r → (fewest m).1 ≤ in_l + in_r + 1
fewest_over zero l r in_l in_r highest left_low right_low left right = omega arith
fewest_over (suc k) l r in_l in_r highest left_low right_low left right =
    ⊎_elim
    (λ (l_low : l < suc k).
    let l_is : l ≡ k = omega arith in let r_is : r ≡ suc k = omega arith in
    omega (arith, subst (λ n. (fewest n).0 ≤ in_l) l_is left, subst (λ n. (fewest n).0 ≤ in_r) r_is right))
    (λ (l_high : suc k ≤ l).
    let l_is : l ≡ suc k = omega arith in
    ⊎_elim
    (λ (r_low : r < suc k). let r_is : r ≡ k = omega arith in omega
    (arith, subst (λ n. (fewest n).0 ≤ in_l) l_is left, subst (λ n. (fewest n).0 ≤ in_r) r_is right))
    (λ (r_high : suc k ≤ r). let r_is : r ≡ suc k = omega arith in
    omega (arith, fewest_rises k, subst (λ n. (fewest n).0 ≤ in_l) l_is left, subst (λ n. (fewest n).0 ≤ in_r) r_is right))
    (cases_lt r (suc k)))
    (cases_lt l (suc k))

-- Lemma: a T-tree has at least the fewest nodes of its height.
pub fewest_at_most : (t : Tree) → IsTTree t → (fewest (height_of t)).0 ≤ node_count t
fewest_at_most Empty is = omega arith
fewest_at_most (Fork left entries right) is =
    let e : max (height_of left) (height_of right) + 1 ≡ suc (max (height_of left) (height_of right)) = omega arith in
    rw e (fewest_over (max (height_of left) (height_of right)) (height_of left) (height_of right) (node_count left)
    (node_count right) refl is.2.left_low is.2.right_low (fewest_at_most left is.0) (fewest_at_most right is.1))

-- Lemma: a T-tree of at most 1,048,576 entries has a height of at most 28.
pub height_at_most_28 : (t : Tree) → IsTTree t → length (in_order t) ≤ 1048576 → height_of t ≤ 28
height_at_most_28 t is few =
    ⊎_elim
    (λ (low : height_of t < 29). omega arith)
    (λ (high : 29 ≤ height_of t).
    let e : (height_of t - 29) + 29 ≡ height_of t = omega arith in
    let many : 1346268 ≤ (fewest (height_of t)).0 = subst (λ n. 1346268 ≤ (fewest n).0) e (fewest_above 29 (height_of t - 29)) in
    absurd (omega (arith, fewest_at_most t is, nodes_at_most t is)))
    (cases_lt (height_of t) 29)

-- Lemma: two more levels need at least twice as many nodes.
doubled : (h : ℕ) → 2 * (fewest h).0 ≤ (fewest (h + 2)).0
doubled h = let e : h + 2 ≡ suc (suc h) = omega arith in rw e (omega (arith, fewest_rises h))

-- Lemma: eight more levels need at least 16 times as many nodes.
sixteenfold : (h : ℕ) → 16 * (fewest h).0 ≤ (fewest (h + 8)).0
sixteenfold h =
    let e : h + 2 + 2 + 2 + 2 ≡ h + 8 = omega arith in
    rw (← e) (omega (arith, doubled h, doubled (h + 2), doubled (h + 2 + 2), doubled (h + 2 + 2 + 2)))

-- Lemma: from height 53 on, there are more than 2^31 nodes.
many_above : (h : ℕ) → 53 ≤ h → 2 ^ 31 < (fewest h).0
many_above h high =
    let e : (h - 53) + 29 ≡ h - 24 = omega arith in
    let first : 1346268 ≤ (fewest (h - 24)).0 = subst (λ n. 1346268 ≤ (fewest n).0) e (fewest_above 29 (h - 53)) in
    let e' : (h - 24) + 8 + 8 + 8 ≡ h = omega arith in
    subst (λ n. 2 ^ 31 < (fewest n).0) e'
    (omega (arith, first, sixteenfold (h - 24), sixteenfold ((h - 24) + 8), sixteenfold ((h - 24) + 8 + 8)))

-- Lemma: a T-tree of at most 2^31 nodes has a height of at most 52.
pub height_at_most_52 : (t : Tree) → IsTTree t → node_count t ≤ 2 ^ 31 → height_of t ≤ 52
height_at_most_52 t is few =
    ⊎_elim
    (λ (low : height_of t < 53). omega arith)
    (λ (high : 53 ≤ height_of t). absurd (omega (arith, many_above (height_of t) high, fewest_at_most t is, few)))
    (cases_lt (height_of t) 53)
