-- Lemmas about a removal: the pair of a chain's first node replaces the removed one, and the first node is freed.
use Rattle.std.proofs.Common.{◌≡◌, ◌≢◌, ℕ, ◌+◌, ◌-◌, ◌<◌, ◌≤◌, Bool, true, false, cond, inl, inr, List, [], ◌∷◌, length, min, set, get_or, refl, sym, ap, ◌∙◌}
use Rattle.std.proofs.Common.{subst, arith, length-set, get_or-set_same, get_or-set_other}
use Rattle.std.specs.List.{count_by, Contains}
use Rattle.std.specs.List.Sorted.{IsPermutation}
use Rattle.std.proofs.lemmas.Bool.{cases_eq, false≢true}
use Rattle.std.proofs.lemmas.List.{set-set, set_comm, get_or_read}
use Rattle.std.proofs.lemmas.List.Sorted.{IsPermutation-sym, IsPermutation-trans, IsPermutation-cons}
use Rattle.std.proofs.lemmas.List.Sums.{sum_by-set}
use Rattle.mm_value.specs.declared.row_ref.RowRef.{RowRef}
use Rattle.mlhash.specs.declared.node.Node.{Node}
use Rattle.mlhash.specs.declared.node.TheConstants.{NIL, FREE}
use Rattle.mlhash.specs.declared.place.Place.{Place}
use Rattle.mlhash.specs.Address.{bucket_of}
use Rattle.mlhash.specs.Pairs.{blank, free_node, is_live, node_at, pair_of}
use Rattle.mlhash.specs.Chain.{Among, chain, IsLinked, HasAll, Finds}
use Rattle.mlhash.specs.Table.{entries, IsBucket, IsTable}
use Rattle.mlhash.proofs.BagLemmas.{entries-set_out, not_held}
use Rattle.mlhash.proofs.ChainLemmas.{chain_end, below_linked, IsStep, chain_step, Keeps, keeps_frame, keeps_set, Fronts, fronts_set}
use Rattle.mlhash.proofs.DealLemmas.{among_along}
use Rattle.mlhash.proofs.TableLemmas.{bucket_in}

-- A node `at` of the chain of the bucket b, whose first node is `head`. n1 is written to `at`, and n2 to `head`.
pub record IsTaking (heads : List ℕ) (ns : List Node) (len : ℕ) (p : Place) (free b head at : ℕ) (n1 n2 : Node) : Type 0 where
  pub table : IsTable heads ns len p free
  pub inside : b < length heads
  pub first : head ≡ get_or heads b 0
  pub found : Among at (chain ns head)
  pub hash : n1.hash ≡ (node_at ns head).hash
  pub pair : pair_of n1 ≡ pair_of (node_at ns head)
  pub link : n1.next ≡ (node_at ns at).next
  pub live : is_live n1 ≡ true
  pub link2 : n2.next ≡ free
  pub dead : is_live n2 ≡ false

module _ (heads : List ℕ) (ns : List Node) (len : ℕ) (p : Place) (free b head at : ℕ) (n1 n2 : Node) (k : IsTaking heads ns len p free b head at n1 n2) where
  bucket : IsBucket ns p head b
  bucket = subst (λ h. IsBucket ns p h b) (sym k.first) (k.table.buckets b k.inside)

  pub head_on : head ≢ NIL
  head_on e =
      among_along at _ [] (ap (chain ns) e ∙ chain_end ns k.table.pool.linked.few) k.found

  step : IsStep ns head
  step = chain_step ns head bucket.linked head_on

  head_here : Among head (chain ns head)
  head_here = among_along head _ _ (sym step.is) (inl refl)

  pub head_below : head < length ns
  head_below = step.below

  pub at_below : at < length ns
  at_below = below_linked ns head bucket.linked at k.found

  pub at_live : is_live (node_at ns at) ≡ true
  at_live = (bucket.here at k.found).0

  head_live : is_live (node_at ns head) ≡ true
  head_live = (bucket.here head head_here).0

  size1 : length (set ns at n1) ≡ length ns
  size1 = length-set ns at n1

  size : length (set (set ns at n1) head n2) ≡ length ns
  size = length-set (set ns at n1) head n2 ∙ size1

  head_now : node_at (set (set ns at n1) head n2) head ≡ n2
  head_now = get_or-set_same (set ns at n1) head n2 blank (omega (arith, size1, head_below))

  at_now : (at ≡ head → ⊥) → node_at (set (set ns at n1) head n2) at ≡ n1
  at_now ne =
      get_or-set_other (set ns at n1) head at n2 blank ne ∙ get_or-set_same ns at n1 blank at_below

  other : (i : ℕ) → (i ≡ head → ⊥) → (i ≡ at → ⊥) → node_at (set (set ns at n1) head n2) i ≡ node_at ns i
  other i ne na =
      get_or-set_other (set ns at n1) head i n2 blank ne ∙ get_or-set_other ns at i n1 blank na

  keep1 : (h : ℕ) → IsLinked ns h → Keeps ns (set ns at n1) h
  keep1 h linked =
      keeps_frame ns (set ns at n1) h (omega (arith, size1, linked.few))
      (λ i a. (
        omega (arith, size1, below_linked ns h linked i a),
        elim (cases_eq i at) [
          | inl e ↦ ap (λ x. (node_at (set ns at n1) x).next) e ∙ ap (λ (m : Node). m.next) (get_or-set_same ns at n1 blank at_below) ∙ k.link
              ∙ ap (λ x. (node_at ns x).next) (sym e)
          | inr ne ↦ ap (λ (m : Node). m.next) (get_or-set_other ns at i n1 blank ne)
        ],
      )) linked

  keep : (h : ℕ) → IsLinked ns h → (Among head (chain ns h) → ⊥) → Keeps ns (set (set ns at n1) head n2) h
  keep h linked apart =
      let one = keep1 h linked in
      let two = keeps_set (set ns at n1) head n2 h (λ a. apart (among_along head _ _ one.same a)) one.linked in
      record { linked = two.linked; same = two.same ∙ one.same }

  not_head : (i : ℕ) → is_live (node_at (set (set ns at n1) head n2) i) ≡ true → i ≡ head → ⊥
  not_head i live e =
      false≢true (sym k.dead ∙ ap is_live (sym head_now) ∙ ap (λ x. is_live (node_at (set (set ns at n1) head n2) x)) (sym e) ∙ live)

  bucket_n1 : bucket_of p n1.hash ≡ b
  bucket_n1 = ap (bucket_of p) k.hash ∙ (bucket.here head head_here).1

  own_bucket : IsBucket (set (set ns at n1) head n2) p (node_at ns head).next b
  own_bucket =
      let ms = set (set ns at n1) head n2 in
      let tail = keep (node_at ns head).next step.next step.fresh in
      record {
        linked = tail.linked;
        here =
            λ i a. let a' = among_along i _ _ tail.same a in let ne : i ≡ head → ⊥ = λ e. step.fresh
            (subst (λ x. Among x (chain ns (node_at ns head).next)) e a') in elim (cases_eq i at) [
              | inl e ↦ (let now = ap (node_at ms) e ∙ at_now
                  (λ f. ne (e ∙ f)) in (ap is_live now ∙ k.live, ap (λ (m : Node). bucket_of p m.hash) now ∙ bucket_n1))
              | inr na ↦ (let o = other i ne na in let h = bucket.here i
                  (among_along i _ _ (sym step.is) (inr a')) in (ap is_live o ∙ h.0, ap (λ (m : Node). bucket_of p m.hash) o ∙ h.1))
            ];
        every =
            λ i below live is. let ne = not_head i live in let there : Among i (chain ns head) = elim (cases_eq i at) [
              | inl e ↦ subst (λ x. Among x (chain ns head)) (sym e) k.found
              | inr na ↦ (let o = other i ne na in bucket.every i (omega (arith, size, below)) (ap is_live (sym o) ∙ live)
                  (ap (λ (m : Node). bucket_of p m.hash) (sym o) ∙ is))
            ] in among_along i _ _ (sym tail.same)
            (elim (among_along i _ _ step.is there) [ inl e ↦ absurd (ne e) | inr a ↦ a ]);
      }

  other_bucket : (c : ℕ) → c < length heads → (c ≡ b → ⊥) → IsBucket (set (set ns at n1) head n2) p (get_or heads c 0) c
  other_bucket c lt nb =
      let ms = set (set ns at n1) head n2 in
      let old = k.table.buckets c lt in
      let no_head : Among head (chain ns (get_or heads c 0)) → ⊥ = λ a. nb (sym (old.here head a).1 ∙ (bucket.here head head_here).1) in
      let no_at : Among at (chain ns (get_or heads c 0)) → ⊥ = λ a. nb (sym (old.here at a).1 ∙ (bucket.here at k.found).1) in
      let kept = keep (get_or heads c 0) old.linked no_head in
      record {
        linked = kept.linked;
        here =
            λ i a. let a' = among_along i _ _ kept.same a in let o = other i (λ e. no_head (subst (λ x. Among x (chain ns (get_or heads c 0))) e a'))
            (λ e. no_at (subst (λ x. Among x (chain ns (get_or heads c 0))) e a')) in (
              ap is_live o ∙ (old.here i a').0,
              ap (λ (m : Node). bucket_of p m.hash) o ∙ (old.here i a').1,
            );
        every =
            λ i below live is. let ne = not_head i live in among_along i _ _ (sym kept.same)
            (elim (cases_eq i at) [
              | inl e ↦ absurd (nb (sym is ∙ ap (λ (m : Node). bucket_of p m.hash) (ap (node_at ms) e ∙ at_now (λ f. ne (e ∙ f))) ∙ bucket_n1))
              | inr na ↦ (let o = other i ne na in old.every i (omega (arith, size, below)) (ap is_live (sym o) ∙ live)
                  (ap (λ (m : Node). bucket_of p m.hash) (sym o) ∙ is))
            ]);
      }

  pool_apart : (i : ℕ) → is_live (node_at ns i) ≡ true → Among i (chain ns free) → ⊥
  pool_apart i live a = false≢true (sym (k.table.pool.dead i a) ∙ live)

  front : Fronts (set ns at n1) (set (set ns at n1) head n2) free head
  front =
      let one = keep1 free k.table.pool.linked in
      fronts_set (set ns at n1) head n2 free (omega (arith, size1, head_below)) k.link2
      (λ a. pool_apart head head_live (among_along head _ _ one.same a)) one.linked

  one_less : count_by is_live (set (set ns at n1) head n2) + 1 ≡ len
  one_less =
      let f : Node → ℕ = λ m. cond (is_live m) 1 0 in
      let f' : Bool → ℕ = λ x. cond x 1 0 in
      let e1 = sum_by-set f ns at n1 blank at_below in
      let e2 = sum_by-set f (set ns at n1) head n2 blank (omega (arith, size1, head_below)) in
      let head1 : is_live (node_at (set ns at n1) head) ≡ true = elim (cases_eq head at) [
        | inl e ↦ ap (λ x. is_live (node_at (set ns at n1) x)) e ∙ ap is_live (get_or-set_same ns at n1 blank at_below) ∙ k.live
        | inr ne ↦ ap is_live (get_or-set_other ns at head n1 blank ne) ∙ head_live
      ] in
      let a1 : f (node_at ns at) ≡ 1 = ap f' at_live in
      let a2 : f n1 ≡ 1 = ap f' k.live in
      let a3 : f (node_at (set ns at n1) head) ≡ 1 = ap f' head1 in
      let a4 : f n2 ≡ 0 = ap f' k.dead in
      omega (arith, e1, e2, a1, a2, a3, a4, k.table.counted)

  pub some_entry : 1 ≤ len
  some_entry = omega (arith, one_less)

  pub take_table : IsTable (set heads b (node_at ns head).next) (set (set ns at n1) head n2) (len - 1) p head
  take_table =
      let ms = set (set ns at n1) head n2 in
      let one = keep1 free k.table.pool.linked in
      record {
        counted = omega (arith, one_less);
        size = length-set heads b (node_at ns head).next ∙ k.table.size;
        split = k.table.split;
        limit = omega (arith, length-set heads b (node_at ns head).next, k.table.limit);
        pool = record {
          linked = front.linked;
          dead =
              λ i a. elim (among_along i _ _ front.is a) [
                | inl e ↦ ap (λ x. is_live (node_at ms x)) e ∙ ap is_live head_now ∙ k.dead
                | inr a1 ↦ (let a' = among_along i _ _ one.same a1 in ap is_live
                    (other i (λ e. pool_apart head head_live (subst (λ x. Among x (chain ns free)) e a'))
                    (λ e. pool_apart at at_live (subst (λ x. Among x (chain ns free)) e a'))) ∙ k.table.pool.dead i a')
              ];
          rest = omega (arith, ap length front.is, ap length one.same, k.table.pool.rest, size, one_less);
        };
        buckets =
            λ c lt'. let lt : c < length heads = omega (arith, length-set heads b (node_at ns head).next, lt') in elim (cases_eq c b) [
              | inl e ↦ subst (λ x. IsBucket ms p (get_or (set heads b (node_at ns head).next) x 0) x) (sym e)
                  (subst (λ h. IsBucket ms p h b) (sym (get_or-set_same heads b (node_at ns head).next 0 k.inside)) own_bucket)
              | inr ne ↦ subst
                  (λ h. IsBucket ms p h c) (sym (get_or-set_other heads b c (node_at ns head).next 0 ne)) (other_bucket c lt ne)
            ];
      }

  same_place : at ≡ head → IsPermutation (entries ns) (pair_of (node_at ns at) ∷ entries (set (set ns at n1) head n2))
  same_place e =
      let once : set (set ns at n1) head n2 ≡ set ns at n2 = ap (λ x. set (set ns at n1) x n2) (sym e) ∙ set-set ns at n1 n2 in
      subst (λ ms. IsPermutation (entries ns) (pair_of (node_at ns at) ∷ entries ms)) (sym once) (entries-set_out ns at n2 at_below at_live k.dead)

  two_places : (at ≡ head → ⊥) → IsPermutation (entries ns) (pair_of (node_at ns at) ∷ entries (set (set ns at n1) head n2))
  two_places ne =
      let ms = set (set ns at n1) head n2 in
      let ns0 = set ns at free_node in
      let ne' : head ≡ at → ⊥ = λ e. ne (sym e) in
      let rest = set ns0 head n2 in
      let head0 : node_at ns0 head ≡ node_at ns head = get_or-set_other ns at head free_node blank ne' in
      let out1 : IsPermutation (entries ns) (pair_of (node_at ns at) ∷ entries ns0) = entries-set_out ns at free_node at_below at_live refl in
      let out2 : IsPermutation (entries ns0) (pair_of (node_at ns0 head) ∷ entries rest) = entries-set_out ns0 head n2
      (omega (arith, length-set ns at free_node, head_below)) (ap is_live head0 ∙ head_live) k.dead in
      let out3 : IsPermutation (entries ms) (pair_of (node_at ms at) ∷ entries (set ms at free_node)) = entries-set_out ms at free_node
      (omega (arith, size, at_below)) (ap is_live (at_now ne) ∙ k.live) refl in
      let same : set ms at free_node ≡ rest = set_comm (set ns at n1) head at n2 free_node ne' ∙ ap (λ xs. set xs head n2) (set-set ns at n1 free_node) in
      let pairs : pair_of (node_at ms at) ≡ pair_of (node_at ns0 head) = ap pair_of (at_now ne) ∙ k.pair ∙ ap pair_of (sym head0) in
      let out3' : IsPermutation (entries ms)
      (pair_of (node_at ns0 head) ∷ entries rest) = subst (λ (e : ℕ × RowRef). IsPermutation (entries ms) (e ∷ entries rest)) pairs
      (subst (λ xs. IsPermutation (entries ms) (pair_of (node_at ms at) ∷ entries xs)) same out3) in
      let swap : IsPermutation (entries ns0) (entries ms) = IsPermutation-trans _ _ _ out2 (IsPermutation-sym _ _ out3') in
      IsPermutation-trans _ _ _ out1 (IsPermutation-cons (pair_of (node_at ns at)) _ _ swap)

  pub take_entries : IsPermutation (entries ns) (pair_of (node_at ns at) ∷ entries (set (set ns at n1) head n2))
  take_entries = elim (cases_eq at head) [ inl e ↦ same_place e | inr ne ↦ two_places ne ]

-- Lemma: the head of a hash's bucket is the head of its chain.
pub bucket_at : (heads : List ℕ) (ns : List Node) (len : ℕ) (p : Place) (free hash b head : ℕ) → b ≡ bucket_of p hash → head ≡ get_or heads b 0
    → IsTable heads ns len p free → IsBucket ns p head b
bucket_at heads ns len p free hash b head b_is head_is t =
    subst (λ h. IsBucket ns p h b) (sym head_is) (t.buckets b (omega (arith, b_is, bucket_in heads ns len p free t hash)))

-- Lemma: that chain has all entries of the hash.
pub bucket_has_all : (heads : List ℕ) (ns : List Node) (len : ℕ) (p : Place) (free hash b head : ℕ) → b ≡ bucket_of p hash → head ≡ get_or heads b 0
    → IsTable heads ns len p free → HasAll ns head hash
bucket_has_all heads ns len p free hash b head b_is head_is t i below live same =
    (bucket_at heads ns len p free hash b head b_is head_is t).every i below live (ap (bucket_of p) same ∙ sym b_is)

-- Lemma: a pair that is not on its bucket's chain is not in the multiset.
pub not_found : (heads : List ℕ) (ns : List Node) (len : ℕ) (p : Place) (free hash b head : ℕ) (r : RowRef) (at : ℕ) → b ≡ bucket_of p hash
    → head ≡ get_or heads b 0 → IsTable heads ns len p free → Finds ns head hash r at → at ≡ NIL → Contains (entries ns) (hash, r) → ⊥
not_found heads ns len p free hash b head r at b_is head_is t s end =
    let k = bucket_at heads ns len p free hash b head b_is head_is t in
    not_held ns (hash, r) (λ i below live e. s.none end i (k.every i below live (ap (λ (x : ℕ × RowRef). bucket_of p x.0) e ∙ sym b_is)) e)

-- Lemma: a find in equal nodes.
pub Finds-read : (ms ns : List Node) (head hash : ℕ) (r : RowRef) (at : ℕ) → ms ≡ ns → Finds ms head hash r at → Finds ns head hash r at
Finds-read ms ns head hash r at read s = subst (λ xs. Finds xs head hash r at) read s

-- A node with the pair of another one, and a free node.
abbrev pub pair_in : Node → ℕ → Node
pair_in n next = record { hash = n.hash; reference = n.reference; next = next }

abbrev pub freed : ℕ → Node
freed next = record { hash = 0; reference = FREE; next = next }

-- Lemma: what the code writes if the pair was found. m1 is the first node as read, m2 the found one.
pub taking : (heads : List ℕ) (ns : List Node) (len : ℕ) (p : Place) (free hash b head : ℕ) (r : RowRef) (at : ℕ) (m1 m2 : Node)
    → b ≡ bucket_of p hash → head ≡ get_or heads b 0 → IsTable heads ns len p free → Finds ns head hash r at → at ≢ NIL → m1 ≡ get_or ns head m1
    → m2 ≡ get_or ns at m2 → IsTaking heads ns len p free b head at (pair_in m1 m2.next) (freed free)
taking heads ns len p free hash b head r at m1 m2 b_is head_is t s on read1 read2 =
    let k = bucket_at heads ns len p free hash b head b_is head_is t in
    let found = (s.found on).0 in
    let head_on : head ≢ NIL = λ e. among_along at _ [] (ap (chain ns) e ∙ chain_end ns t.pool.linked.few) found in
    let is1 : m1 ≡ node_at ns head = get_or_read ns head m1 (chain_step ns head k.linked head_on).below read1 blank in
    let is2 : m2 ≡ node_at ns at = get_or_read ns at m2 (below_linked ns head k.linked at found) read2 blank in
    record {
      table = t;
      inside = omega (arith, b_is, bucket_in heads ns len p free t hash);
      first = head_is;
      found = found;
      hash = ap (λ (m : Node). m.hash) is1;
      pair = ap pair_of is1;
      link = ap (λ (m : Node). m.next) is2;
      live = ap is_live is1 ∙ (k.here head (among_along head _ _ (sym (chain_step ns head k.linked head_on).is) (inl refl))).0;
      link2 = refl;
      dead = refl;
    }

-- Lemma: a removal adds one place to the capacity.
pub spare_more : (heads : List ℕ) (ns : List Node) (len : ℕ) (p : Place) (free capacity spare : ℕ) → IsTable heads ns len p free
    → length ns ≤ capacity → 1 ≤ len → min capacity NIL - len ≡ spare → min capacity NIL - (len - 1) ≡ spare + 1
spare_more heads ns len p free capacity spare t fits some is =
    omega (arith, t.pool.rest, t.pool.linked.few, fits, some, is)

-- Lemma: a bucket in which a pair was found has a first node.
pub first_below : (heads : List ℕ) (ns : List Node) (len : ℕ) (p : Place) (free hash b head : ℕ) (r : RowRef) (at : ℕ) → b ≡ bucket_of p hash
    → head ≡ get_or heads b 0 → IsTable heads ns len p free → Finds ns head hash r at → at ≢ NIL → (head < length ns) × (at < length ns)
first_below heads ns len p free hash b head r at b_is head_is t s on =
    let k = bucket_at heads ns len p free hash b head b_is head_is t in
    let found = (s.found on).0 in
    let head_on : head ≢ NIL = λ e. among_along at _ [] (ap (chain ns) e ∙ chain_end ns t.pool.linked.few) found in
    ((chain_step ns head k.linked head_on).below, below_linked ns head k.linked at found)
