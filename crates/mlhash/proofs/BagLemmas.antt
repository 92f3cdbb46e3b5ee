-- Lemmas about the pairs in the nodes: how writes to nodes change the multiset.
use Rattle.std.proofs.Common.{◌≡◌, ℕ, zero, suc, ◌<◌, Bool, true, false, cond, eqb, ltb, ◌&&◌, inl, inr, List, [], ◌∷◌, ◌++◌, length, map, set}
use Rattle.std.proofs.Common.{refl, sym, ap, ◌∙◌, subst, arith, length-set, get_or-set_same, get_or-set_other}
use Rattle.std.specs.List.{filter, count_by, Contains, All}
use Rattle.std.specs.List.Sorted.{IsPermutation}
use Rattle.std.proofs.lemmas.Bool.{cases_eq, cases_Bool, cond-true, cond-false, false≢true}
use Rattle.std.proofs.lemmas.List.Sorted.{IsPermutation-refl, IsPermutation-sym, IsPermutation-trans, IsPermutation-cons, IsPermutation-map}
use Rattle.std.proofs.lemmas.List.Sorted.{IsPermutation-middle, Contains-permutation}
use Rattle.std.proofs.lemmas.List.Sums.{length-filter}
use Rattle.std.proofs.lemmas.List.Elements.{filter-append, All-nil, All-cons, All-same, All-contains}
use Rattle.std.proofs.lemmas.List.{append-nil, length-map, set-set, set-get_or}
use Rattle.mm_value.specs.declared.row_ref.RowRef.{RowRef}
use Rattle.mlhash.specs.declared.node.Node.{Node}
use Rattle.mlhash.specs.declared.node.TheConstants.{FREE}
use Rattle.mlhash.specs.Pairs.{blank, free_node, is_live, node_at, pair_of, SameEntry}
use Rattle.mlhash.specs.Bag.{refs_of, all_refs}
use Rattle.mlhash.specs.Chain.{Among}
use Rattle.mlhash.specs.Table.{entries}
use Rattle.mlhash.proofs.ChainLemmas.{IsSet}

module _ (q : Node → Bool) where
  -- Lemma: a node that fails the test replaces one that passes it.
  pub filter-set_out : (ns : List Node) (i : ℕ) (n : Node) → i < length ns → q (node_at ns i) ≡ true → q n ≡ false
      → IsPermutation (filter q ns) (node_at ns i ∷ filter q (set ns i n))
  filter-set_out [] i n below was is = absurd (omega arith)
  filter-set_out (m ∷ ns) zero n below was is =
      rw (cond-true (q m) (m ∷ filter q ns) (filter q ns) was, cond-false (q n) (n ∷ filter q ns) (filter q ns) is) (IsPermutation-refl (m ∷ filter q ns))
  filter-set_out (m ∷ ns) (suc i) n below was is =
      let rest : IsPermutation (filter q ns) (node_at ns i ∷ filter q (set ns i n)) = filter-set_out ns i n (omega arith) was is in
      elim (q m) as (λ b. IsPermutation (cond b (m ∷ filter q ns) (filter q ns))
      (node_at ns i ∷ cond b (m ∷ filter q (set ns i n)) (filter q (set ns i n)))) [
        | true ↦ IsPermutation-trans _ _ _ (IsPermutation-cons m _ _ rest)
            (IsPermutation-sym _ _ (IsPermutation-middle (node_at ns i ∷ []) m (filter q (set ns i n))))
        | false ↦ rest
      ]

  -- Lemma: a node that fails the test replaces another one that fails it.
  pub filter-set_none : (ns : List Node) (i : ℕ) (n : Node) → i < length ns → q (node_at ns i) ≡ false → q n ≡ false → filter q (set ns i n) ≡ filter q ns
  filter-set_none [] i n below was is = refl
  filter-set_none (m ∷ ns) zero n below was is =
      cond-false (q n) (n ∷ filter q ns) (filter q ns) is ∙ sym (cond-false (q m) (m ∷ filter q ns) (filter q ns) was)
  filter-set_none (m ∷ ns) (suc i) n below was is =
      ap (λ xs. cond (q m) (m ∷ xs) xs) (filter-set_none ns i n (omega arith) was is)

  -- Lemma: a node that fails the test is appended.
  pub filter-push_none : (ns : List Node) (n : Node) → q n ≡ false → filter q (ns ++ n ∷ []) ≡ filter q ns
  filter-push_none ns n is =
      filter-append q ns (n ∷ []) ∙ ap (λ xs. filter q ns ++ xs) (cond-false (q n) (n ∷ []) [] is) ∙ append-nil (filter q ns)

  filter_nothing : (ns : List Node) → ((i : ℕ) → i < length ns → q (node_at ns i) ≡ true → ⊥) → filter q ns ≡ []
  filter_nothing [] none = refl
  filter_nothing (n ∷ ns) none =
      cond-false (q n) (n ∷ filter q ns) (filter q ns) (elim (cases_Bool (q n)) [ inl t ↦ absurd (none 0 (omega arith) t) | inr f ↦ f ])
      ∙ filter_nothing ns (λ i below t. none (suc i) (omega arith) t)

  map_other : (ns : List Node) (at : ℕ) (n : Node) (is : List ℕ) → (Among at is → ⊥) → map (node_at (set ns at n)) is ≡ map (node_at ns) is
  map_other ns at n [] out = refl
  map_other ns at n (i ∷ is) out =
      let e : node_at (set ns at n) i ≡ node_at ns i = get_or-set_other ns at i n blank (λ e. out (inl (sym e))) in
      ap (λ m. m ∷ map (node_at (set ns at n)) is) e ∙ ap (λ ms. node_at ns i ∷ ms) (map_other ns at n is (λ a. out (inr a)))

  -- Lemma: distinct places that contain all nodes that pass contain exactly those nodes.
  pub filter_places : q free_node ≡ false → (is : List ℕ) (ns : List Node) → IsSet is → ((i : ℕ) → Among i is → i < length ns)
      → ((i : ℕ) → i < length ns → q (node_at ns i) ≡ true → Among i is) → IsPermutation (filter q (map (node_at ns) is)) (filter q ns)
  filter_places void [] ns distinct below every =
      subst (λ xs. IsPermutation [] xs) (sym (filter_nothing ns every)) (IsPermutation-refl [])
  filter_places void (i ∷ is) ns distinct below every =
      let n = node_at ns i in
      let ms = set ns i free_node in
      let rest : List Node = filter q (map (node_at ns) is) in
      let inside : i < length ns = below i (inl refl) in
      let at_i : node_at ms i ≡ free_node = get_or-set_same ns i free_node blank inside in
      let size : length ms ≡ length ns = length-set ns i free_node in
      let step : IsPermutation (filter q (map (node_at ms) is)) (filter q ms) = filter_places void is ms distinct.1
      (λ j a. let b : j < length ns = below j (inr a) in omega (arith, size, b))
      (λ j lt t. elim (cases_eq j i) [
        | inl e ↦ absurd (false≢true (sym void ∙ ap q (sym at_i) ∙ ap (λ k. q (node_at ms k)) (sym e) ∙ t))
        | inr ne ↦ elim (every j (omega (arith, size, lt)) (ap q (sym (get_or-set_other ns i j free_node blank ne)) ∙ t)) [ inl e ↦ absurd (ne e) | inr a ↦ a ]
      ]) in
      let kept : IsPermutation rest (filter q ms) = subst (λ xs. IsPermutation (filter q xs) (filter q ms)) (map_other ns i free_node is distinct.0) step in
      elim (cases_Bool (q n)) [
        | inl t ↦ subst (λ xs. IsPermutation xs (filter q ns)) (sym (cond-true (q n) (n ∷ rest) rest t))
            (IsPermutation-trans _ _ _ (IsPermutation-cons n rest (filter q ms) kept) (IsPermutation-sym _ _ (filter-set_out ns i free_node inside t void)))
        | inr f ↦ subst (λ xs. IsPermutation xs (filter q ns)) (sym (cond-false (q n) (n ∷ rest) rest f))
            (subst (λ xs. IsPermutation rest xs) (filter-set_none ns i free_node inside f void) kept)
      ]

-- Tests of nodes.
abbrev pub is_match : ℕ → Node → Bool
is_match hash n = is_live n && eqb n.hash hash

pub pair_same : (m n : Node) → SameEntry m n → pair_of n ≡ pair_of m
pair_same m n s =
    λ i. (s.hash i, s.reference i)

pub live_same : (m n : Node) → SameEntry m n → is_live n ≡ is_live m
live_same m n s = ap (λ r. ltb r.slot FREE.slot) s.reference

-- Lemma: links are no part of the multiset.
pub entries_same : (ns ms : List Node) → length ms ≡ length ns → ((i : ℕ) → SameEntry (node_at ns i) (node_at ms i)) → entries ms ≡ entries ns
entries_same [] [] size same = refl
entries_same [] (m ∷ ms) size same = absurd (omega arith)
entries_same (n ∷ ns) [] size same = absurd (omega arith)
entries_same (n ∷ ns) (m ∷ ms) size same =
    let s : SameEntry n m = same 0 in
    let rest : entries ms ≡ entries ns = entries_same ns ms (omega arith) (λ i. same (suc i)) in
    let live : map pair_of (cond (is_live m) (m ∷ filter is_live ms) (filter is_live ms)) ≡ map pair_of
    (cond (is_live n) (m ∷ filter is_live ms) (filter is_live ms))
    = ap (λ b. map pair_of (cond b (m ∷ filter is_live ms) (filter is_live ms))) (live_same n m s) in
    let both : map pair_of (cond (is_live n) (m ∷ filter is_live ms) (filter is_live ms)) ≡ map pair_of
    (cond (is_live n) (n ∷ filter is_live ns) (filter is_live ns)) = elim (is_live n) as (λ b. map pair_of
    (cond b (m ∷ filter is_live ms) (filter is_live ms)) ≡ map pair_of (cond b (n ∷ filter is_live ns) (filter is_live ns)))
    [ true ↦ ap (λ e. e ∷ entries ms) (pair_same n m s) ∙ ap (λ es. pair_of n ∷ es) rest | false ↦ rest ] in
    live ∙ both

pub length-entries : (ns : List Node) → length (entries ns) ≡ count_by is_live ns
length-entries ns = length-map (filter is_live ns) pair_of ∙ length-filter is_live ns

-- Lemma: if no live node has this pair, no entry equals it.
none_held : (ns : List Node) (e : ℕ × RowRef) → ((i : ℕ) → i < length ns → is_live (node_at ns i) ≡ true → pair_of (node_at ns i) ≡ e → ⊥)
    → All (λ x. x ≡ e → ⊥) (entries ns)
none_held [] e none = All-nil (λ x. x ≡ e → ⊥)
none_held (n ∷ ns) e none =
    let rest = none_held ns e (λ i below. none (suc i) (omega arith)) in
    elim (cases_Bool (is_live n)) [
      | inl t ↦ All-same (λ x. x ≡ e → ⊥) _ _ (ap (map pair_of) (cond-true (is_live n) (n ∷ filter is_live ns) (filter is_live ns) t))
          (All-cons (λ x. x ≡ e → ⊥) (pair_of n) (entries ns) (none 0 (omega arith) t) rest)
      | inr f ↦ All-same (λ x. x ≡ e → ⊥) _ _
          (ap (map pair_of) (cond-false (is_live n) (n ∷ filter is_live ns) (filter is_live ns) f)) rest
    ]

pub not_held : (ns : List Node) (e : ℕ × RowRef) → ((i : ℕ) → i < length ns → is_live (node_at ns i) ≡ true → pair_of (node_at ns i) ≡ e → ⊥)
    → Contains (entries ns) e → ⊥
not_held ns e none c = All-contains (λ x. x ≡ e → ⊥) (entries ns) e (none_held ns e none) c refl

-- Lemma: writing a free node over a live one removes its pair.
pub entries-set_out : (ns : List Node) (i : ℕ) (n : Node) → i < length ns → is_live (node_at ns i) ≡ true → is_live n ≡ false
    → IsPermutation (entries ns) (pair_of (node_at ns i) ∷ entries (set ns i n))
entries-set_out ns i n below was is =
    IsPermutation-map pair_of _ _ (filter-set_out is_live ns i n below was is)

-- Lemma: writing a live node over a free one inserts its pair.
pub entries-set_in : (ns : List Node) (i : ℕ) (n : Node) → i < length ns → is_live (node_at ns i) ≡ false → is_live n ≡ true
    → IsPermutation (entries (set ns i n)) (pair_of n ∷ entries ns)
entries-set_in ns i n below was is =
    let ms = set ns i n in
    let at : node_at ms i ≡ n = get_or-set_same ns i n blank below in
    let back : set ms i (node_at ns i) ≡ ns = set-set ns i n (node_at ns i) ∙ set-get_or ns i blank in
    let out : IsPermutation (entries ms) (pair_of (node_at ms i) ∷ entries (set ms i (node_at ns i))) = entries-set_out ms i (node_at ns i)
    (omega (arith, length-set ns i n)) (ap is_live at ∙ is) was in
    subst (λ xs. IsPermutation (entries ms) (pair_of n ∷ entries xs)) back
    (subst (λ m. IsPermutation (entries ms) (pair_of m ∷ entries (set ms i (node_at ns i)))) at out)

pub held : (ns : List Node) (i : ℕ) → i < length ns → is_live (node_at ns i) ≡ true → Contains (entries ns) (pair_of (node_at ns i))
held ns i below live =
    Contains-permutation _ _ _ (IsPermutation-sym _ _ (entries-set_out ns i free_node below live refl)) (0, omega arith, refl)

-- Lemma: the references of one hash, computed from the nodes.
pub refs_of-entries : (hash : ℕ) (ns : List Node) → refs_of hash (entries ns) ≡ map (λ n. n.reference) (filter (is_match hash) ns)
refs_of-entries hash [] = refl
refs_of-entries hash (n ∷ ns) =
    let rest = refs_of-entries hash ns in
    elim (is_live n) as (λ b. refs_of hash (map pair_of (cond b (n ∷ filter is_live ns) (filter is_live ns))) ≡ map (λ n. n.reference)
    (cond (b && eqb n.hash hash) (n ∷ filter (is_match hash) ns) (filter (is_match hash) ns))) [
      | true ↦ elim (eqb n.hash hash) as (λ b. map (λ (e : ℕ × RowRef). e.1)
          (cond b (pair_of n ∷ filter (λ (e : ℕ × RowRef). eqb e.0 hash) (entries ns)) (filter (λ (e : ℕ × RowRef). eqb e.0 hash) (entries ns))) ≡ map
          (λ n. n.reference) (cond b (n ∷ filter (is_match hash) ns) (filter (is_match hash) ns))) [ true ↦ ap (λ rs. n.reference ∷ rs) rest | false ↦ rest ]
      | false ↦ rest
    ]

pub live_matches : (hash : ℕ) (ns : List Node) (is : List ℕ) → ((i : ℕ) → Among i is → is_live (node_at ns i) ≡ true)
    → filter (λ n. eqb n.hash hash) (map (node_at ns) is) ≡ filter (is_match hash) (map (node_at ns) is)
live_matches hash ns [] live = refl
live_matches hash ns (i ∷ is) live =
    let n = node_at ns i in
    let rest = live_matches hash ns is (λ j a. live j (inr a)) in
    let F = filter (λ (m : Node). eqb m.hash hash) (map (node_at ns) is) in
    let G = filter (is_match hash) (map (node_at ns) is) in
    ap (λ xs. cond (eqb n.hash hash) (n ∷ xs) xs) rest ∙ ap (λ b. cond (b && eqb n.hash hash) (n ∷ G) G) (sym (live i (inl refl)))

pub all_refs-entries : (ns : List Node) → all_refs (entries ns) ≡ map (λ n. n.reference) (filter is_live ns)
all_refs-entries [] = refl
all_refs-entries (n ∷ ns) =
    elim (is_live n) as (λ b. all_refs (map pair_of (cond b (n ∷ filter is_live ns) (filter is_live ns))) ≡ map (λ n. n.reference)
    (cond b (n ∷ filter is_live ns) (filter is_live ns))) [ true ↦ ap (λ rs. n.reference ∷ rs) (all_refs-entries ns) | false ↦ all_refs-entries ns ]
