-- Lemmas about splits and merges.
use Rattle.std.proofs.Common.{◌≡◌, ◌≢◌, ℕ, ◌+◌, ◌-◌, ◌*◌, ◌%◌, ◌^◌, ◌<◌, ◌≤◌, true, false, bit_and, inl, inr, List, [], ◌∷◌, ◌++◌, length, set, take, get_or}
use Rattle.std.proofs.Common.{sym, ap, ◌∙◌, subst, arith, length-set, length-append, get_or-set_same, get_or-set_other}
use Rattle.std.specs.List.{count_by}
use Rattle.std.proofs.lemmas.Bool.{cases_eq, eqb-true, eqb-false, eq-eqb, false≢true}
use Rattle.std.proofs.lemmas.List.{get_or_append_left, get_or-take, length-take-le}
use Rattle.std.proofs.lemmas.Nat.{pow_pos, and_le_r}
use Rattle.mlhash.specs.declared.node.Node.{Node}
use Rattle.mlhash.specs.declared.node.TheConstants.{NIL}
use Rattle.mlhash.specs.declared.place.Place.{Place}
use Rattle.mlhash.specs.Address.{bucket_of, place_after}
use Rattle.mlhash.specs.Pairs.{is_live, node_at}
use Rattle.mlhash.specs.Chain.{Among, chain, IsLinked, AreApart, stays, Deals}
use Rattle.mlhash.specs.Table.{entries, IsBucket, IsFree, IsTable}
use Rattle.mlhash.proofs.AddressLemmas.{place_after-size, place_after-split, after_split, after_other, split_in_two, before_in, before_other}
use Rattle.mlhash.proofs.AddressLemmas.{place_after-steps, high_mask, level_small}
use Rattle.mlhash.proofs.BagLemmas.{live_same, entries_same, length-entries}
use Rattle.mlhash.proofs.ChainLemmas.{chain_end, below_linked, Keeps, keeps_frame}
use Rattle.mlhash.proofs.DealLemmas.{among_along}

-- Lemma: distributing a chain keeps a chain that shares no node with it.
dealt_keeps : (ns : List Node) (from mask stay onto : ℕ) (ms : List Node) (staying leaving head : ℕ)
    → Deals ns from mask stay onto ms staying leaving → IsLinked ns head → AreApart (chain ns head) (chain ns from) → Keeps ns ms head
dealt_keeps ns from mask stay onto ms staying leaving head d linked apart =
    keeps_frame ns ms head (omega (arith, d.size, linked.few))
    (λ i a. (omega (arith, d.size, below_linked ns head linked i a), ap (λ (n : Node). n.next) (d.others i (apart i a)))) linked

-- Lemma: the number of entries stays the same.
dealt_count : (ns : List Node) (from mask stay onto : ℕ) (ms : List Node) (staying leaving : ℕ) → Deals ns from mask stay onto ms staying leaving
    → count_by is_live ms ≡ count_by is_live ns
dealt_count ns from mask stay onto ms staying leaving d =
    sym (length-entries ms) ∙ ap length (entries_same ns ms d.size d.entries) ∙ length-entries ns

-- Lemma: the free nodes stay the same.
dealt_pool : (ns : List Node) (from mask stay onto : ℕ) (ms : List Node) (staying leaving len free : ℕ)
    → Deals ns from mask stay onto ms staying leaving → ((i : ℕ) → Among i (chain ns from) → is_live (node_at ns i) ≡ true) → IsFree ns len free
    → IsFree ms len free
dealt_pool ns from mask stay onto ms staying leaving len free d live pool =
    let kept = dealt_keeps ns from mask stay onto ms staying leaving free d pool.linked (λ i a f. false≢true (sym (pool.dead i a) ∙ live i f)) in
    record {
      linked = kept.linked;
      dead = λ i a. live_same (node_at ns i) (node_at ms i) (d.entries i) ∙ pool.dead i (among_along i _ _ kept.same a);
      rest = omega (arith, ap length kept.same, pool.rest, d.size);
    }

-- The next bucket is split in two.
pub record IsSplitting (heads : List ℕ) (ns : List Node) (len : ℕ) (p : Place) (free mask from : ℕ) (ms : List Node) (staying leaving : ℕ) : Type 0 where
  pub table : IsTable heads ns len p free
  pub room : length heads + 1 ≤ 2 ^ 31
  pub mask_is : (h : ℕ) → bit_and h mask ≡ h % (8 * 2 ^ p.level)
  pub from_is : from ≡ get_or heads p.split 0
  pub deals : Deals ns from mask p.split NIL ms staying leaving

module _ (heads : List ℕ) (ns : List Node) (len : ℕ) (p : Place) (free mask from : ℕ) (ms : List Node) (staying leaving : ℕ)
    (k : IsSplitting heads ns len p free mask from ms staying leaving) where
  split_inside : p.split < length heads
  split_inside = omega (arith, k.table.size, k.table.split)

  from_bucket : IsBucket ns p from p.split
  from_bucket = subst (λ h. IsBucket ns p h p.split) (sym k.from_is) (k.table.buckets p.split split_inside)

  live_is : (i : ℕ) → is_live (node_at ms i) ≡ is_live (node_at ns i)
  live_is i = live_same (node_at ns i) (node_at ms i) (k.deals.entries i)

  hash_is : (i : ℕ) → (node_at ms i).hash ≡ (node_at ns i).hash
  hash_is i = (k.deals.entries i).hash

  few : length ms ≤ NIL
  few = omega (arith, k.deals.size, from_bucket.linked.few)

  stay_mod : (i : ℕ) → stays mask p.split (node_at ns i) ≡ true → (node_at ns i).hash % (8 * 2 ^ p.level) ≡ p.split
  stay_mod i e = sym (k.mask_is (node_at ns i).hash) ∙ eqb-true _ _ e

  leave_mod : (i : ℕ) → stays mask p.split (node_at ns i) ≡ false → (node_at ns i).hash % (8 * 2 ^ p.level) ≡ p.split → ⊥
  leave_mod i e f = eqb-false _ _ e (k.mask_is (node_at ns i).hash ∙ f)

  not_nil : (i : ℕ) → Among i (chain ns NIL) → ⊥
  not_nil i a = among_along i _ [] (chain_end ns from_bucket.linked.few) a

  not_end : (i : ℕ) → Among i (chain ms NIL) → ⊥
  not_end i a = among_along i _ [] (chain_end ms few) a

  -- A live node whose hash had the bucket is on the chain.
  there : (i : ℕ) → i < length ms → is_live (node_at ms i) ≡ true → bucket_of p (node_at ns i).hash ≡ p.split → Among i (chain ns from)
  there i below live e =
      from_bucket.every i (omega (arith, k.deals.size, below)) (sym (live_is i) ∙ live) e

  staying_bucket : IsBucket ms (place_after p) staying p.split
  staying_bucket = record {
    linked = k.deals.staying_linked;
    here =
        λ i a. elim (k.deals.staying_in i a) [
          | inl n ↦ absurd (not_nil i n)
          | inr q ↦ (let h = from_bucket.here i
              q.0 in (live_is i ∙ h.0, ap (bucket_of (place_after p)) (hash_is i) ∙ after_split p (node_at ns i).hash k.table.split h.1 ∙ stay_mod i q.1))
        ];
    every =
        λ i below live is. let is' = sym (ap (bucket_of (place_after p)) (hash_is i)) ∙ is in let old = before_in p (node_at ns i).hash k.table.split
        (inl is') in elim (k.deals.all_from i (there i below live old)) [
          | inl a ↦ absurd (not_end i a)
          | inr e ↦ elim e
              [ inl a ↦ a | inr a ↦ absurd (leave_mod i (k.deals.leaving_in i a).1 (sym (after_split p (node_at ns i).hash k.table.split old) ∙ is')) ]
        ];
  }

  leaving_bucket : IsBucket ms (place_after p) leaving (length heads)
  leaving_bucket = record {
    linked = k.deals.leaving_linked;
    here =
        λ i a. let q = k.deals.leaving_in i a in let h = from_bucket.here i
        q.0 in (
          live_is i ∙ h.0,
          ap (bucket_of (place_after p)) (hash_is i) ∙ after_split p (node_at ns i).hash k.table.split h.1
              ∙ elim (split_in_two p (node_at ns i).hash k.table.split h.1) [ inl m ↦ absurd (leave_mod i q.1 m) | inr m ↦ m ∙ sym k.table.size ],
        );
    every =
        λ i below live is. let is' = sym (ap (bucket_of (place_after p)) (hash_is i)) ∙ is in let old = before_in p (node_at ns i).hash k.table.split
        (inr (is' ∙ k.table.size)) in elim (k.deals.all_from i (there i below live old)) [
          | inl a ↦ absurd (not_end i a)
          | inr e ↦ elim e [
            | inl a ↦ elim (k.deals.staying_in i a) [
              | inl n ↦ absurd (not_nil i n)
              | inr q ↦ absurd (let m = stay_mod i q.1 in let n = after_split p (node_at ns i).hash k.table.split
                  old in omega (arith, m, n, is', split_inside))
            ]
            | inr a ↦ a
          ]
        ];
  }

  kept_bucket : (c : ℕ) → c < length heads → (c ≡ p.split → ⊥) → IsBucket ms (place_after p) (get_or heads c 0) c
  kept_bucket c lt nc =
      let old = k.table.buckets c lt in
      let apart : AreApart (chain ns (get_or heads c 0)) (chain ns from) = λ i a f. nc (sym (old.here i a).1 ∙ (from_bucket.here i f).1) in
      let kept = dealt_keeps ns from mask p.split NIL ms staying leaving (get_or heads c 0) k.deals old.linked apart in
      record {
        linked = kept.linked;
        here =
            λ i a. let h = old.here i
            (among_along i _ _ kept.same a) in (
              live_is i ∙ h.0,
              ap (bucket_of (place_after p)) (hash_is i) ∙ after_other p (node_at ns i).hash
                  k.table.split (λ e. nc (sym h.1 ∙ e)) ∙ h.1,
            );
        every =
            λ i below live is. let is' = sym (ap (bucket_of (place_after p)) (hash_is i)) ∙ is in let same = before_other p (node_at ns i).hash
            k.table.split (λ e. nc (sym is' ∙ e)) (λ e. omega (arith, is', e, k.table.size, lt)) in among_along i _ _ (sym kept.same)
            (old.every i (omega (arith, k.deals.size, below)) (sym (live_is i) ∙ live) (same ∙ is'));
      }

  pub split_table : IsTable (set (set (heads ++ NIL ∷ []) p.split staying) (length heads) leaving) ms len (place_after p) free
  split_table =
      let grown = heads ++ NIL ∷ [] in
      let g : length grown ≡ length heads + 1 = length-append heads (NIL ∷ []) in
      let once = set grown p.split staying in
      let g1 : length once ≡ length heads + 1 = length-set grown p.split staying ∙ g in
      let g2 : length (set once (length heads) leaving) ≡ length heads + 1 = length-set once (length heads) leaving ∙ g1 in
      record {
        counted = dealt_count ns from mask p.split NIL ms staying leaving k.deals ∙ k.table.counted;
        size = omega (arith, g2, k.table.size, place_after-size p);
        split = place_after-split p k.table.split;
        limit = omega (arith, g2, k.room);
        pool = dealt_pool ns from mask p.split NIL ms staying leaving len free k.deals (λ i a. (from_bucket.here i a).0) k.table.pool;
        buckets =
            λ c lt. elim (cases_eq c (length heads)) [
              | inl e ↦ subst (λ x. IsBucket ms (place_after p) (get_or (set once (length heads) leaving) x 0) x) (sym e)
                  (subst (λ h. IsBucket ms (place_after p) h (length heads)) (sym (get_or-set_same once (length heads) leaving 0 (omega (arith, g1))))
                  leaving_bucket)
              | inr ne ↦ (let one = get_or-set_other once (length heads) c leaving 0 ne in elim (cases_eq c p.split) [
                | inl f ↦ subst (λ h. IsBucket ms (place_after p) h c)
                    (sym (one ∙ ap (λ x. get_or once x 0) f ∙ get_or-set_same grown p.split staying 0 (omega (arith, g, split_inside))))
                    (subst (λ x. IsBucket ms (place_after p) staying x) (sym f) staying_bucket)
                | inr nf ↦ (let inside : c < length
                    heads = (let ne' : c ≢ length heads = ne in omega (arith, g2, lt, ne')) in subst (λ h. IsBucket ms (place_after p) h c)
                    (sym (one ∙ get_or-set_other grown p.split c staying 0 nf ∙ get_or_append_left heads (NIL ∷ []) 0 c inside)) (kept_bucket c inside nf))
              ])
            ];
      }

pub before_split : (q : Place) → (place_after q).split < 4 * 2 ^ (place_after q).level → q.split < 4 * 2 ^ q.level
before_split q lt =
    elim (cases_eq (q.split + 1) (4 * 2 ^ q.level))
    [ inl e ↦ omega (arith, e) | inr ne ↦ (let lt' = subst (λ (r : Place). r.split < 4 * 2 ^ r.level) (place_after-steps q ne) lt in omega (arith, lt')) ]

always_stays : (n : Node) → stays 0 0 n ≡ true
always_stays n = eq-eqb _ _ (omega (arith, and_le_r n.hash 0))

-- The last bucket is merged into the one that it was split from.
pub record IsMerging (heads : List ℕ) (ns : List Node) (len : ℕ) (q : Place) (free last from onto : ℕ) (ms : List Node) (staying leaving : ℕ) : Type 0 where
  pub table : IsTable heads ns len (place_after q) free
  pub last_is : last + 1 ≡ length heads
  pub from_is : from ≡ get_or heads last 0
  pub onto_is : onto ≡ get_or heads q.split 0
  pub deals : Deals ns from 0 0 onto ms staying leaving

pub merge_last : (heads : List ℕ) (ns : List Node) (len : ℕ) (q : Place) (free last : ℕ) → IsTable heads ns len (place_after q) free
    → last + 1 ≡ length heads → last ≡ 4 * 2 ^ q.level + q.split
merge_last heads ns len q free last t e = omega (arith, e, t.size, place_after-size q)

-- Lemma: the two chains of a merge share no node.
pub merge_apart : (heads : List ℕ) (ns : List Node) (len : ℕ) (q : Place) (free last from onto : ℕ) → IsTable heads ns len (place_after q) free
    → last + 1 ≡ length heads → from ≡ get_or heads last 0 → onto ≡ get_or heads q.split 0 → AreApart (chain ns from) (chain ns onto)
merge_apart heads ns len q free last from onto t e f g =
    let at_last = merge_last heads ns len q free last t e in
    let from_bucket = t.buckets last (omega (arith, e)) in
    let onto_bucket = t.buckets q.split (omega (arith, e, at_last)) in
    λ i a b. (let x = (from_bucket.here i (subst (λ h. Among i (chain ns h)) f a)).1 in let y = (onto_bucket.here i
    (subst (λ h. Among i (chain ns h)) g b)).1 in omega (arith, x, y, at_last, pow_pos q.level))

module _ (heads : List ℕ) (ns : List Node) (len : ℕ) (q : Place) (free last from onto : ℕ) (ms : List Node) (staying leaving : ℕ)
    (k : IsMerging heads ns len q free last from onto ms staying leaving) where
  q_split : q.split < 4 * 2 ^ q.level
  q_split = before_split q k.table.split

  at_last : last ≡ 4 * 2 ^ q.level + q.split
  at_last = merge_last heads ns len q free last k.table k.last_is

  last_bucket : IsBucket ns (place_after q) from last
  last_bucket =
      subst (λ h. IsBucket ns (place_after q) h last) (sym k.from_is) (k.table.buckets last (omega (arith, k.last_is)))

  onto_bucket : IsBucket ns (place_after q) onto q.split
  onto_bucket =
      subst (λ h. IsBucket ns (place_after q) h q.split) (sym k.onto_is) (k.table.buckets q.split (omega (arith, k.last_is, at_last)))

  merged_live : (i : ℕ) → is_live (node_at ms i) ≡ is_live (node_at ns i)
  merged_live i = live_same (node_at ns i) (node_at ms i) (k.deals.entries i)

  merged_hash : (i : ℕ) → (node_at ms i).hash ≡ (node_at ns i).hash
  merged_hash i = (k.deals.entries i).hash

  merged_end : (i : ℕ) → Among i (chain ms NIL) → ⊥
  merged_end i a =
      among_along i _ [] (chain_end ms (omega (arith, k.deals.size, last_bucket.linked.few))) a

  merged_bucket : IsBucket ms q staying q.split
  merged_bucket = record {
    linked = k.deals.staying_linked;
    here =
        λ i a. elim (k.deals.staying_in i a) [
          | inl o ↦ (let h = onto_bucket.here i
              o in (merged_live i ∙ h.0, ap (bucket_of q) (merged_hash i) ∙ before_in q (node_at ns i).hash q_split (inl h.1)))
          | inr f ↦ (let h = last_bucket.here i
              f.0 in (merged_live i ∙ h.0, ap (bucket_of q) (merged_hash i) ∙ before_in q (node_at ns i).hash q_split (inr (h.1 ∙ at_last))))
        ];
    every =
        λ i below live is. let is' = sym (ap (bucket_of q) (merged_hash i)) ∙ is in let below' : i < length
        ns = omega (arith, k.deals.size, below) in let live' = sym (merged_live i) ∙ live in let now = after_split q (node_at ns i).hash q_split
        is' in elim (split_in_two q (node_at ns i).hash q_split is') [
          | inl m ↦ k.deals.all_onto i (onto_bucket.every i below' live' (now ∙ m))
          | inr m ↦ elim (k.deals.all_from i (last_bucket.every i below' live' (now ∙ m ∙ sym at_last))) [
            | inl a ↦ absurd (merged_end i a)
            | inr e ↦ elim e
                [ inl a ↦ a | inr a ↦ absurd (false≢true (sym (k.deals.leaving_in i a).1 ∙ always_stays (node_at ns i))) ]
          ]
        ];
  }

  rest_bucket : (c : ℕ) → c < last → (c ≡ q.split → ⊥) → IsBucket ms q (get_or heads c 0) c
  rest_bucket c lt nc =
      let old = k.table.buckets c (omega (arith, k.last_is, lt)) in
      let apart : AreApart (chain ns (get_or heads c 0)) (chain ns from) = λ i a f.
      (let x = (old.here i a).1 in let y = (last_bucket.here i f).1 in omega (arith, x, y, lt)) in
      let kept = dealt_keeps ns from 0 0 onto ms staying leaving (get_or heads c 0) k.deals old.linked apart in
      record {
        linked = kept.linked;
        here =
            λ i a. let h = old.here i
            (among_along i _ _ kept.same a) in (
              merged_live i ∙ h.0,
              ap (bucket_of q) (merged_hash i) ∙ before_other q (node_at ns i).hash q_split
                  (λ e. nc (sym h.1 ∙ e)) (λ e. omega (arith, h.1, e, at_last, lt)) ∙ h.1,
            );
        every =
            λ i below live is. let is' = sym (ap (bucket_of q) (merged_hash i)) ∙ is in among_along i _ _ (sym kept.same)
            (old.every i (omega (arith, k.deals.size, below)) (sym (merged_live i) ∙ live)
            (after_other q (node_at ns i).hash q_split (λ e. nc (sym is' ∙ e)) ∙ is'));
      }

  pub merge_table : IsTable (set (take last heads) q.split staying) ms len q free
  merge_table =
      let cut = take last heads in
      let g : length cut ≡ last = length-take-le last heads (omega (arith, k.last_is)) in
      let g1 : length (set cut q.split staying) ≡ last = length-set cut q.split staying ∙ g in
      record {
        counted = dealt_count ns from 0 0 onto ms staying leaving k.deals ∙ k.table.counted;
        size = g1 ∙ at_last;
        split = q_split;
        limit = omega (arith, g1, k.last_is, k.table.limit);
        pool = dealt_pool ns from 0 0 onto ms staying leaving len free k.deals (λ i a. (last_bucket.here i a).0) k.table.pool;
        buckets =
            λ c lt'. let lt : c < last = omega (arith, g1, lt') in elim (cases_eq c q.split) [
              | inl e ↦ subst (λ x. IsBucket ms q (get_or (set cut q.split staying) x 0) x) (sym e)
                  (subst (λ h. IsBucket ms q h q.split) (sym (get_or-set_same cut q.split staying 0 (omega (arith, g, at_last, pow_pos q.level))))
                  merged_bucket)
              | inr ne ↦ subst (λ h. IsBucket ms q h c) (sym (get_or-set_other cut q.split c staying 0 ne ∙ get_or-take last heads c 0 lt))
                  (rest_bucket c lt ne)
            ];
      }

-- Lemma: distributing a chain keeps the multiset of pairs.
pub dealt_entries : (ns : List Node) (from mask stay onto : ℕ) (ms : List Node) (staying leaving : ℕ)
    → Deals ns from mask stay onto ms staying leaving → entries ms ≡ entries ns
dealt_entries ns from mask stay onto ms staying leaving d =
    entries_same ns ms d.size d.entries

-- Lemma: the values that the code of a split computes.
pub splitting : (heads : List ℕ) (ns : List Node) (len : ℕ) (p : Place) (free from : ℕ) (grown : List ℕ) (xs ms : List Node) (staying leaving : ℕ)
    → IsTable heads ns len p free → 2 * length heads < len → grown ≡ heads ++ NIL ∷ [] → from ≡ get_or grown p.split 0 → xs ≡ ns
    → Deals xs from (8 * 2 ^ p.level % 2 ^ 64 - 1) p.split NIL ms staying leaving
    → IsSplitting heads ns len p free (8 * 2 ^ p.level % 2 ^ 64 - 1) from ms staying leaving
splitting heads ns len p free from grown xs ms staying leaving t crowded grown_is from_is same d =
    let inside : p.split < length heads = omega (arith, t.size, t.split) in
    let small : p.level < 32 = level_small p.level (omega (arith, t.size, t.limit)) in
    record {
      table = t;
      room = omega (arith, crowded, t.pool.rest, t.pool.linked.few);
      mask_is = λ h. high_mask p.level h small;
      from_is = from_is ∙ ap (λ hs. get_or hs p.split 0) grown_is ∙ get_or_append_left heads (NIL ∷ []) 0 p.split inside;
      deals = subst (λ ys. Deals ys from (8 * 2 ^ p.level % 2 ^ 64 - 1) p.split NIL ms staying leaving) same d;
    }

pub split_heads : (heads grown once twice : List ℕ) (split last staying leaving : ℕ) → grown ≡ heads ++ NIL ∷ [] → once ≡ set grown split staying
    → twice ≡ set once (last - 1) leaving → last ≡ length grown → twice ≡ set (set (heads ++ NIL ∷ []) split staying) (length heads) leaving
split_heads heads grown once twice split last staying leaving g o t l =
    let e : last - 1 ≡ length heads = omega (arith, l, ap length g, length-append heads (NIL ∷ [])) in
    t ∙ ap (λ k. set once k leaving) e ∙ ap (λ hs. set hs (length heads) leaving) (o ∙ ap (λ hs. set hs split staying) g)

pub merge_heads : (heads cut whole : List ℕ) (split last staying : ℕ) → last + 1 ≡ length heads → cut ≡ take (length heads - 1) heads
    → whole ≡ set cut split staying → whole ≡ set (take last heads) split staying
merge_heads heads cut whole split last staying l c w =
    let e : length heads - 1 ≡ last = omega (arith, l) in
    w ∙ ap (λ hs. set hs split staying) (c ∙ ap (λ k. take k heads) e)
