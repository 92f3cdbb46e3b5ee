-- A closed walk with a negative sum, from an edge with a negative cost on.
use Rattle.std.proofs.Common.{◌≡◌, ℕ, suc, zero, ◌+◌, ◌<◌, ◌≤◌, Bool, true, false, ◌⊎◌, inl, inr, List, [], ◌∷◌, ◌++◌, ℤ, pos, ◌+ℤ◌, Option, Some, None}
use Rattle.std.proofs.Common.{length, length-append, get_or, ◌&&◌, ◌||◌, take, refl, sym, ap, subst, ◌∙◌, arith}
use Rattle.std.specs.Prelude.{◌<ℤ◌, ◌≤ℤ◌, int_lt}
use Rattle.std.specs.List.{AllByRecursion, Contains, list_any}
use Rattle.std.proofs.lemmas.Int.{ints}
use Rattle.std.proofs.lemmas.Bool.{cases_lt}
use Rattle.std.proofs.lemmas.List.Elements.{recursion_from_All}
use Rattle.mm_relevance.specs.declared.edge.Edge.{Edge}
use Rattle.mm_relevance.specs.declared.term.Point.{Point}
use Rattle.mm_relevance.specs.Relevance.{IsWalk, total}
use Rattle.mm_relevance.specs.Walks.{IsNegative, IsNegativeWalk, IsNoStart, least, point_eq, reaches_of}
use Rattle.mm_relevance.proofs.Points.{and_true, point_eq_true}
use Rattle.mm_relevance.proofs.Sums.{AtMostBy, cycle_bound, less_of, not_less_of}

-- ---- A negative sum has a negative part

pub record Split (es : List Edge) : Type 0 where
  pub before : List Edge
  pub edge : Edge
  pub behind : List Edge
  pub is : es ≡ before ++ edge ∷ behind
  pub negative : edge.cost <ℤ pos 0

split : (es : List Edge) → total es <ℤ pos 0 → Split es
split [] h = absurd (omega (arith, ints))
split (e ∷ es) h = go (split es) (int_lt e.cost (pos 0)) refl
  where
    go : (total es <ℤ pos 0 → Split es) → (b : Bool) → int_lt e.cost (pos 0) ≡ b → Split (e ∷ es)
    go later true is = record { before = []; edge = e; behind = es; is = refl; negative = less_of e.cost (pos 0) is }
    go later false is =
        let high : pos 0 ≤ℤ e.cost = not_less_of e.cost (pos 0) is in
        let s = later (omega (arith, ints, h, high)) in
        record { before = e ∷ s.before; edge = s.edge; behind = s.behind; is = ap (λ l. e ∷ l) s.is; negative = s.negative }

-- ---- Walks and sums of two parts

walk_parts : (xs ys : List Edge) (p q : Point) → IsWalk p (xs ++ ys) q → (m : Point) × IsWalk p xs m × IsWalk m ys q
walk_parts [] ys p q h = (p, refl, h)
walk_parts (x ∷ xs) ys p q h = let parts = walk_parts xs ys x.right q h.1 in (parts.0, (h.0, parts.1), parts.2)

walk_whole : (xs ys : List Edge) (p m q : Point) → IsWalk p xs m → IsWalk m ys q → IsWalk p (xs ++ ys) q
walk_whole [] ys p m q h k = subst (λ r. IsWalk r ys q) (sym h) k
walk_whole (x ∷ xs) ys p m q h k = (h.0, walk_whole xs ys x.right m q h.1 k)

total_whole : (xs ys : List Edge) → total (xs ++ ys) ≡ total xs +ℤ total ys
total_whole [] ys = omega (arith, ints)
total_whole (x ∷ xs) ys = let h = total_whole xs ys in omega (arith, ints, h)

module _ (P : Edge → Type 0) where
  all_whole : (xs ys : List Edge) → AllByRecursion P xs → AllByRecursion P ys → AllByRecursion P (xs ++ ys)
  all_whole [] ys h k = k
  all_whole (x ∷ xs) ys h k = (h.0, all_whole xs ys h.1 k)

  all_parts : (xs ys : List Edge) → AllByRecursion P (xs ++ ys) → AllByRecursion P xs × AllByRecursion P ys
  all_parts [] ys h = (tt, h)
  all_parts (x ∷ xs) ys h = let parts = all_parts xs ys h.1 in ((h.0, parts.0), parts.1)

-- ---- No negative walk is missed

negative_by : (o : Option ℤ) (v : ℤ) → AtMostBy o v → v <ℤ pos 0 → IsNegative o
negative_by None v h k = h
negative_by (Some u) v h k = omega (arith, ints)

-- A closed walk with a negative sum starts at the left point of the edge.
abbrev pub Begins : List Edge → Edge → Type 0
Begins es e = IsNegative (least e.left None (reaches_of es e.left 31))

pub no_walk : (es : List Edge) → ((k : ℕ) (d : Edge) → k < length es → (get_or es k d).cost <ℤ pos 0 → Begins es (get_or es k d) → ⊥)
    → (walk : List Edge) → IsNegativeWalk es walk → ⊥
no_walk es never walk w = turned (split walk w.negative)
  where
    turned : Split walk → ⊥
    turned s =
        let parts = walk_parts s.before (s.edge ∷ s.behind) w.point w.point (subst (λ l. IsWalk w.point l w.point) s.is w.closed) in
        let all = all_parts (Contains es) s.before (s.edge ∷ s.behind)
        (subst (AllByRecursion (Contains es)) s.is (recursion_from_All (Contains es) walk w.among)) in
        let m : Point = parts.0 in
        let path : IsWalk m (s.edge ∷ (s.behind ++ s.before)) m =
        (parts.2.0, walk_whole s.behind s.before s.edge.right w.point m parts.2.1 parts.1) in
        let among : AllByRecursion (Contains es) (s.edge ∷ (s.behind ++ s.before)) = (all.1.0, all_whole (Contains es) s.behind s.before all.1.1 all.0) in
        let sum = ap total s.is in
        let one = total_whole s.before (s.edge ∷ s.behind) in
        let two = total_whole s.behind s.before in
        let negative = w.negative in
        let below : total (s.edge ∷ (s.behind ++ s.before)) <ℤ pos 0 = omega (arith, ints, sum, one, two, negative) in
        let long = ap length s.is in
        let first = length-append s.before (s.edge ∷ s.behind) in
        let second = length-append s.behind s.before in
        let few = w.few in
        let low = cycle_bound es m (s.edge ∷ (s.behind ++ s.before)) 31 path among (omega arith) (omega (arith, long, first, second, few)) in
        let found : IsNegative (least m None (reaches_of es m 31)) =
        negative_by (least m None (reaches_of es m 31)) (total (s.edge ∷ (s.behind ++ s.before))) low below in
        let here : Contains es s.edge = all.1.0 in
        let left : (get_or es here.0 s.edge).left ≡ m = ap (λ (x : Edge). x.left) here.2 ∙ parts.2.0 in
        never here.0 s.edge here.1 (subst (λ (x : Edge). x.cost <ℤ pos 0) (sym here.2) s.negative)
        (subst (λ p. IsNegative (least p None (reaches_of es p 31))) (sym left) found)

-- ---- One more edge without a walk

get_or_any : (xs : List Edge) (i : ℕ) (d f : Edge) → i < length xs → get_or xs i d ≡ get_or xs i f
get_or_any [] i d f h = absurd (omega arith)
get_or_any (x ∷ xs) zero d f h = refl
get_or_any (x ∷ xs) (suc i) d f h = get_or_any xs i d f (omega arith)

-- An edge with a negative cost, at whose left point a negative walk starts.
abbrev pub Starts : List Edge → Edge → Type 0
Starts es e = (e.cost <ℤ pos 0) × Begins es e

pub none_starts : (es : List Edge) (i : ℕ) (d : Edge) → i < length es → ((k : ℕ) (d : Edge) → k < i → Starts es (get_or es k d) → ⊥)
    → (Begins es (get_or es i d) → ⊥)
    → (k : ℕ) (d : Edge) → k < i + 1 → Starts es (get_or es k d) → ⊥
none_starts es i d inside before now k f h p = go (cases_lt k i)
  where
    go : (k < i) ⊎ (i ≤ k) → ⊥
    go (inl l) = before k f l p
    go (inr l) =
        let e : k ≡ i = omega arith in
        now (subst (Begins es) (ap (λ j. get_or es j f) e ∙ get_or_any es i f d inside) p.1)

pub skipped : (es : List Edge) (i : ℕ) → i < length es → IsNoStart es i → ((k : ℕ) (d : Edge) → k < i → Starts es (get_or es k d) → ⊥)
    → (k : ℕ) (d : Edge) → k < i + 1 → Starts es (get_or es k d) → ⊥
skipped es i inside none before k f h p = go (cases_lt k i)
  where
    no : (pos 0 ≤ℤ (get_or es i f).cost) ⊎ ((j : ℕ) × (j < i) × ((get_or es j f).cost <ℤ pos 0) × ((get_or es j f).left ≡ (get_or es i f).left))
        → Starts es (get_or es i f) → ⊥
    no (inl high) q = (let low = q.0 in omega (arith, ints, high, low))
    no (inr (j, less, low, same)) q = before j f less (low, subst (λ at. IsNegative (least at None (reaches_of es at 31))) (sym same) q.1)

    go : (k < i) ⊎ (i ≤ k) → ⊥
    go (inl l) = before k f l p
    go (inr l) =
        let e : k ≡ i = omega arith in
        no (none f) (subst (Starts es) (ap (λ j. get_or es j f) e) p)

-- ---- Edges at which no search starts

any_before : (test : Edge → Bool) (es : List Edge) (i : ℕ) (d : Edge) → list_any test (take i es) ≡ true → (k : ℕ) × (k < i) × (test (get_or es k d) ≡ true)
any_before test [] zero d h = absurd (let b : ⊥ = cc in b)
any_before test [] (suc i) d h = absurd (let b : ⊥ = cc in b)
any_before test (e ∷ es) zero d h = absurd (let b : ⊥ = cc in b)
any_before test (e ∷ es) (suc i) d h = go (any_before test es i d) (test e) refl h
  where
    go : (list_any test (take i es) ≡ true → (k : ℕ) × (k < i) × (test (get_or es k d) ≡ true)) → (b : Bool) → test e ≡ b → (b || list_any test (take i es))
        ≡ true
        → (k : ℕ) × (k < suc i) × (test (get_or (e ∷ es) k d) ≡ true)
    go later true is h = (0, omega arith, is)
    go later false is h = let r = later h in (suc r.0, (let l = r.1 in omega arith), r.2)

pub high_starts_none : (es : List Edge) (i : ℕ) (d : Edge) → i < length es → int_lt (get_or es i d).cost (pos 0) ≡ false → IsNoStart es i
high_starts_none es i d inside h f =
    inl (subst (λ (e : Edge). pos 0 ≤ℤ e.cost) (get_or_any es i d f inside) (not_less_of (get_or es i d).cost (pos 0) h))

pub later_starts_none : (es : List Edge) (i : ℕ) (d : Edge) → i < length es
    → list_any (λ (e : Edge). int_lt e.cost (pos 0) && point_eq e.left (get_or es i d).left) (take i es) ≡ true → IsNoStart es i
later_starts_none es i d inside h f =
    let r = any_before (λ (e : Edge). int_lt e.cost (pos 0) && point_eq e.left (get_or es i d).left) es i f h in
    let both = and_true (int_lt (get_or es r.0 f).cost (pos 0)) (point_eq (get_or es r.0 f).left (get_or es i d).left) r.2 in
    inr (
      r.0,
      r.1,
      less_of (get_or es r.0 f).cost (pos 0) both.0,
      point_eq_true (get_or es r.0 f).left (get_or es i d).left both.1 ∙ ap (λ (e : Edge). e.left) (get_or_any es i d f inside),
    )
