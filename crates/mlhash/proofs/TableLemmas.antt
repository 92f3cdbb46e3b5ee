-- Lemmas about the table: the effects of a new node, an insert and a removal.
use Rattle.std.proofs.Common.{◌≡◌, ◌≢◌, ℕ, ◌+◌, ◌-◌, ◌<◌, ◌≤◌, Bool, true, false, cond, inl, inr, List, [], ◌∷◌, ◌++◌, length, min, map, set, get_or, refl}
use Rattle.std.proofs.Common.{sym, ap, ◌∙◌, subst, arith, length-set, length-append, get_or-set_same, get_or-set_other}
use Rattle.std.specs.List.{count_by}
use Rattle.std.specs.List.Sorted.{IsPermutation}
use Rattle.std.proofs.lemmas.Bool.{cases_eq, cases_lt, false≢true}
use Rattle.std.proofs.lemmas.List.{get_or_append_left, get_or_push}
use Rattle.std.proofs.lemmas.List.Sums.{sum_by-set, sum_by_push}
use Rattle.mlhash.specs.declared.node.Node.{Node}
use Rattle.mlhash.specs.declared.node.TheConstants.{NIL}
use Rattle.mlhash.specs.declared.place.Place.{Place}
use Rattle.mlhash.specs.Address.{bucket_of}
use Rattle.mlhash.specs.Pairs.{blank, free_node, is_live, node_at, pair_of}
use Rattle.mlhash.specs.Chain.{Among, IsChain, chain, IsLinked}
use Rattle.mlhash.specs.Table.{entries, IsBucket, IsTable, Stocks}
use Rattle.mlhash.proofs.AddressLemmas.{bucket_below}
use Rattle.mlhash.proofs.BagLemmas.{filter-push_none, entries-set_in}
use Rattle.mlhash.proofs.ChainLemmas.{chain_is, linked_by, chain_end, below_linked, chain_step, Keeps, keeps_frame, keeps_set, fronts_set}
use Rattle.mlhash.proofs.DealLemmas.{among_along}

-- Lemma: the head of a hash's bucket.
pub bucket_in : (heads : List ℕ) (ns : List Node) (len : ℕ) (p : Place) (free : ℕ) → IsTable heads ns len p free → (h : ℕ) → bucket_of p h < length heads
bucket_in heads ns len p free t h = omega (arith, t.size, bucket_below p h)

push_live : (ns : List Node) (i : ℕ) → is_live (node_at (ns ++ free_node ∷ []) i) ≡ true → i < length (ns ++ free_node ∷ []) → i < length ns
push_live ns i live below =
    elim (cases_lt i (length ns)) [
      | inl lt ↦ lt
      | inr ge ↦ absurd (let e : length ns ≡ i = omega (arith, length-append ns (free_node ∷ []), below, ge) in false≢true
          (ap is_live (sym (get_or_push ns free_node blank i e)) ∙ live))
    ]

-- A new node was appended.
pub record IsStocked (heads : List ℕ) (ns : List Node) (len : ℕ) (p : Place) (ms : List Node) (new : ℕ) : Type 0 where
  pub table : IsTable heads ms len p new
  pub on : new ≢ NIL
  pub same : entries ms ≡ entries ns

stock_new : (heads : List ℕ) (ns : List Node) (len : ℕ) (p : Place) → length ns < NIL → IsTable heads ns len p NIL
    → IsStocked heads ns len p (ns ++ free_node ∷ []) (length ns)
stock_new heads ns len p room t =
    let ms = ns ++ free_node ∷ [] in
    let new = length ns in
    let size : length ms ≡ length ns + 1 = length-append ns (free_node ∷ []) in
    let few : length ms ≤ NIL = omega (arith, size, room) in
    let old : (i : ℕ) → i < length ns → node_at ms i ≡ node_at ns i = λ i lt. get_or_append_left ns (free_node ∷ []) blank i lt in
    let at_new : node_at ms new ≡ free_node = get_or_push ns free_node blank new refl in
    let keep : (head : ℕ) → IsLinked ns head → Keeps ns ms head = λ head linked. keeps_frame ns ms head few
    (λ i a. (omega (arith, size, below_linked ns head linked i a), ap (λ (n : Node). n.next) (old i (below_linked ns head linked i a)))) linked in
    let none : chain ns NIL ≡ [] = chain_end ns t.pool.linked.few in
    let links : IsChain ms new (new ∷ []) = (refl, omega (arith, size), λ a. a, ap (λ (n : Node). n.next) at_new) in
    let alone : chain ms new ≡ new ∷ [] = chain_is ms new (new ∷ []) few links in
    record {
      table = record {
        counted = sum_by_push (λ (n : Node). cond (is_live n) 1 0) ns free_node ∙ (let e : count_by is_live ns + 0 ≡ len = omega (arith, t.counted) in e);
        size = t.size;
        split = t.split;
        limit = t.limit;
        pool = record {
          linked = linked_by ms new (new ∷ []) few links;
          dead = λ i a. elim (among_along i _ _ alone a) [ inl e ↦ ap (λ k. is_live (node_at ms k)) e ∙ ap is_live at_new | inr b ↦ absurd b ];
          rest = omega (arith, ap length alone, ap length none, t.pool.rest, size);
        };
        buckets =
            λ b lt. let k = t.buckets b lt in let kept = keep (get_or heads b 0) k.linked in record {
              linked = kept.linked;
              here =
                  λ i a. let a' = among_along i _ _ kept.same a in let e = old i
                  (below_linked ns _ k.linked i a') in (
                    ap is_live e ∙ (k.here i a').0,
                    ap (λ (n : Node). bucket_of p n.hash) e
                        ∙ (k.here i a').1,
                  );
              every =
                  λ i below live is. let lt' = push_live ns i live below in let e = old i lt' in among_along i _ _ (sym kept.same)
                  (k.every i lt' (ap is_live (sym e) ∙ live) (ap (λ (n : Node). bucket_of p n.hash) (sym e) ∙ is));
            };
      };
      on = omega (arith, room);
      same = ap (map pair_of) (filter-push_none is_live ns free_node refl);
    }

pub stocked : (heads : List ℕ) (ns : List Node) (len : ℕ) (p : Place) (free : ℕ) (ms : List Node) (new : ℕ) → (free ≡ NIL → length ns < NIL)
    → IsTable heads ns len p free → Stocks ns free ms new → IsStocked heads ns len p ms new
stocked heads ns len p free ms new room t s =
    elim (cases_eq free NIL) [
      | inl e ↦ (let a = s.added e in subst (λ (x : List Node). IsStocked heads ns len p x new) (sym a.0)
          (subst (λ (x : ℕ). IsStocked heads ns len p (ns ++ free_node ∷ []) x) (sym a.1)
          (stock_new heads ns len p (room e) (subst (λ (x : ℕ). IsTable heads ns len p x) e t))))
      | inr ne ↦ (let k = s.kept ne in subst (λ (x : List Node). IsStocked heads ns len p x new) (sym k.0)
          (subst (λ (x : ℕ). IsStocked heads ns len p ns x) (sym k.1) (record { table = t; on = ne; same = refl })))
    ]

-- Lemma: a table without free nodes has one node per entry.
pub all_used : (heads : List ℕ) (ns : List Node) (len : ℕ) (p : Place) (free : ℕ) → IsTable heads ns len p free → free ≡ NIL → length ns ≡ len
all_used heads ns len p free t e =
    let none : chain ns free ≡ [] = ap (chain ns) e ∙ chain_end ns t.pool.linked.few in
    omega (arith, t.pool.rest, ap length none)

-- Lemma: an entry is prepended to its bucket's chain.
pub put_table : (heads : List ℕ) (ns : List Node) (len : ℕ) (p : Place) (at : ℕ) (n : Node) → at ≢ NIL → is_live n ≡ true
    → n.next ≡ get_or heads (bucket_of p n.hash) 0 → IsTable heads ns len p at
    → IsTable (set heads (bucket_of p n.hash) at) (set ns at n) (len + 1) p (node_at ns at).next
put_table heads ns len p at n on live next t =
    let ms = set ns at n in
    let b = bucket_of p n.hash in
    let b_in : b < length heads = bucket_in heads ns len p at t n.hash in
    let step = chain_step ns at t.pool.linked on in
    let here : Among at (chain ns at) = among_along at _ _ (sym step.is) (inl refl) in
    let dead : is_live (node_at ns at) ≡ false = t.pool.dead at here in
    let size : length ms ≡ length ns = length-set ns at n in
    let at_n : node_at ms at ≡ n = get_or-set_same ns at n blank step.below in
    let other : (i : ℕ) → (i ≡ at → ⊥) → node_at ms i ≡ node_at ns i = λ i ne. get_or-set_other ns at i n blank ne in
    let apart : (c : ℕ) → c < length heads → Among at (chain ns (get_or heads c 0)) → ⊥ = λ c lt a. false≢true (sym dead ∙ ((t.buckets c lt).here at a).0) in
    let tail = keeps_set ns at n (node_at ns at).next step.fresh step.next in
    record {
      counted = let e = sum_by-set (λ (m : Node). cond (is_live m) 1 0) ns at n blank step.below in let e0 : cond (is_live (node_at ns at)) 1
          0 ≡ 0 = ap (λ (x : Bool). let y : ℕ = cond x 1 0 in y) dead in let e1 : cond (is_live n) 1
          0 ≡ 1 = ap (λ (x : Bool). let y : ℕ = cond x 1 0 in y) live in omega (arith, e, e0, e1, t.counted);
      size = length-set heads b at ∙ t.size;
      split = t.split;
      limit = omega (arith, length-set heads b at, t.limit);
      pool = record {
        linked = tail.linked;
        dead =
            λ i a. let a' = among_along i _ _ tail.same a in ap is_live
            (other i (λ e. step.fresh (subst (λ k. Among k (chain ns (node_at ns at).next)) e a'))) ∙ t.pool.dead i (among_along i _ _ (sym step.is) (inr a'));
        rest = omega (arith, ap length step.is, ap length tail.same, t.pool.rest, size);
      };
      buckets =
          λ c lt'. let lt : c < length heads = omega (arith, length-set heads b at, lt') in let k = t.buckets c lt in elim (cases_eq c b) [
            | inl e ↦ (let head_is : get_or (set heads b at) c 0 ≡ at = ap (λ x. get_or (set heads b at) x 0) e ∙ get_or-set_same heads b at 0
                b_in in let front = fronts_set ns at n (get_or heads c 0) step.below (next ∙ ap (λ x. get_or heads x 0) (sym e)) (apart c lt)
                k.linked in subst (λ x. IsBucket ms p x c) (sym head_is) (record {
                  linked = front.linked;
                  here =
                      λ i a. elim (among_along i _ _ front.is a) [
                        | inl f ↦ (
                          ap (λ x. is_live (node_at ms x)) f ∙ ap is_live at_n ∙ live,
                          ap (λ x. bucket_of p (node_at ms x).hash) f
                              ∙ ap (λ (m : Node). bucket_of p m.hash) at_n ∙ sym e,
                        )
                        | inr a' ↦ (let o = other i
                            (λ f. apart c lt (subst (λ x. Among x (chain ns (get_or heads c 0))) f a')) in (
                              ap is_live o ∙ (k.here i a').0,
                              ap (λ (m : Node). bucket_of p m.hash) o ∙ (k.here i a').1,
                            ))
                      ];
                  every =
                      λ i below is_live' is. among_along i _ _ (sym front.is)
                      (elim (cases_eq i at) [
                        | inl f ↦ inl f
                        | inr ne ↦ (let o = other i
                            ne in inr (k.every i (omega (arith, size, below)) (ap is_live (sym o) ∙ is_live')
                            (ap (λ (m : Node). bucket_of p m.hash) (sym o) ∙ is)))
                      ]);
                }))
            | inr ne ↦ (let head_is : get_or (set heads b at) c 0 ≡ get_or heads c 0 = get_or-set_other heads b c at 0 ne in let kept = keeps_set
                ns at n (get_or heads c 0) (apart c lt) k.linked in subst (λ x. IsBucket ms p x c) (sym head_is) (record {
                  linked = kept.linked;
                  here =
                      λ i a. let a' = among_along i _ _ kept.same a in let o = other i
                      (λ f. apart c lt (subst (λ x. Among x (chain ns (get_or heads c 0))) f a')) in (
                        ap is_live o ∙ (k.here i a').0,
                        ap (λ (m : Node). bucket_of p m.hash) o ∙ (k.here i a').1,
                      );
                  every =
                      λ i below is_live' is. among_along i _ _ (sym kept.same)
                      (elim (cases_eq i at) [
                        | inl f ↦ absurd (ne (sym is ∙ ap (λ x. bucket_of p (node_at ms x).hash) f ∙ ap (λ (m : Node). bucket_of p m.hash) at_n))
                        | inr nf ↦ (let o = other i nf in k.every i (omega (arith, size, below)) (ap is_live (sym o) ∙ is_live')
                            (ap (λ (m : Node). bucket_of p m.hash) (sym o) ∙ is))
                      ]);
                }))
          ];
    }

pub put_entries : (heads : List ℕ) (ns : List Node) (len : ℕ) (p : Place) (at : ℕ) (n : Node) → at ≢ NIL → is_live n ≡ true → IsTable heads ns len p at
    → IsPermutation (entries (set ns at n)) (pair_of n ∷ entries ns)
put_entries heads ns len p at n on live t =
    let step = chain_step ns at t.pool.linked on in
    entries-set_in ns at n step.below (t.pool.dead at (among_along at _ _ (sym step.is) (inl refl))) live

-- Lemma: if there is capacity for an entry and no free node, there is capacity for a node.
pub room_for_node : (heads : List ℕ) (ns : List Node) (len : ℕ) (p : Place) (free capacity spare : ℕ) → min capacity NIL - len ≡ spare → 0 < spare
    → IsTable heads ns len p free → free ≡ NIL → (length ns < capacity) × (length ns < NIL)
room_for_node heads ns len p free capacity spare is some t e =
    let used = all_used heads ns len p free t e in
    (omega (arith, used, is, some), omega (arith, used, is, some))

-- Lemma: an insert without a split, as a whole.
pub put_all : (heads : List ℕ) (ns : List Node) (len : ℕ) (p : Place) (at b head next : ℕ) (heads' : List ℕ) (n : Node) → at ≢ NIL → is_live n ≡ true
    → b ≡ bucket_of p n.hash → n.next ≡ head → head ≡ get_or heads b 0 → heads' ≡ set heads b at → next ≡ (node_at ns at).next
    → IsTable heads ns len p at → IsTable heads' (set ns at n) (len + 1) p next
put_all heads ns len p at b head next heads' n on live b_is next_is head_is heads_is at_next t =
    let table = put_table heads ns len p at n on live (next_is ∙ head_is ∙ ap (λ k. get_or heads k 0) b_is) t in
    subst (λ hs. IsTable hs (set ns at n) (len + 1) p next) (sym (heads_is ∙ ap (λ k. set heads k at) b_is))
    (subst (λ k. IsTable (set heads (bucket_of p n.hash) at) (set ns at n) (len + 1) p k) (sym at_next) table)

pub table_along : (hs hs' : List ℕ) (ns ns' : List Node) (len : ℕ) (p p' : Place) (free : ℕ) → hs' ≡ hs → ns' ≡ ns → p' ≡ p
    → IsTable hs ns len p free → IsTable hs' ns' len p' free
table_along hs hs' ns ns' len p p' free e f g t =
    subst (λ xs. IsTable xs ns' len p' free) (sym e)
    (subst (λ xs. IsTable hs xs len p' free) (sym f) (subst (λ (q : Place). IsTable hs ns len q free) (sym g) t))
