-- The pairs in the hash table are those of the live slots.
use Rattle.std.proofs.Common.{◌≡◌, ◌≢◌, ℕ, zero, suc, ◌+◌, Bool, true, false, cond, List, [], ◌∷◌, get_or, map, filter, All, refl, sym, ap, ◌∙◌, subst, arith}
use Rattle.std.specs.Prelude.{◌==◌, IsPermutation}
use Rattle.std.specs.List.{Contains}
use Rattle.std.proofs.lemmas.Bool.{eq-eqb, true≢false}
use Rattle.std.proofs.lemmas.List.Elements.{All-append, All-cons, All-contains, All-filter, All-head}
use Rattle.std.proofs.lemmas.List.Elements.{All-map, All-nil, All-tail, Contains-append_left, Contains-append_right, Contains-push}
use Rattle.std.proofs.lemmas.List.Sorted.{All-permutation, Contains-permutation, IsPermutation-sym}
use Rattle.mm_value.specs.declared.row_ref.RowRef.{RowRef}
use Rattle.mm_value.specs.declared.values.Value.{Value}
use Rattle.mm_partition.specs.Places.{Content, Free, Hidden, IsLive, Live, Places, row_in, slot_at}
use Rattle.mlhash.specs.Bag.{refs_of}
use Rattle.mm_multiset.specs.Counts.{IsThere, row_at}
use Rattle.mm_multiset.specs.declared.entry_ref.EntryRef.{EntryRef}
use Rattle.mm_multiset.specs.RowHash.{row_hash}
use Rattle.mm_multiset.specs.Slots.{pair_of, pairs_from}

-- A property of the pair of each live slot holds for all pairs.
all_pairs : (P : ℕ × RowRef → Type 0) (i : ℕ) (slots : List Content)
    → ((k : ℕ) (row : List Value) → get_or slots k Free ≡ Live row → P (row_hash row, record { slot = i + k })) → All P (pairs_from i slots)
all_pairs P i [] each = All-nil P
all_pairs P i (slot ∷ slots) each =
    All-append P (pair_of i slot) (pairs_from (suc i) slots)
    (first slot (λ row is. subst (λ n. P (row_hash row, record { slot = n })) (let e : i + 0 ≡ i = omega arith in e) (each zero row is)))
    (all_pairs P (suc i) slots
    (λ k row is. subst (λ n. P (row_hash row, record { slot = n })) (let e : i + suc k ≡ suc i + k = omega arith in e) (each (suc k) row is)))
  where
    first : (s : Content) → ((row : List Value) → s ≡ Live row → P (row_hash row, record { slot = i })) → All P (pair_of i s)
    first Free here = All-nil P
    first (Live row) here = All-cons P (row_hash row, record { slot = i }) [] (here row refl) (All-nil P)
    first (Hidden row) here = All-nil P

one : {X : Type 0} (x : X) → Contains (x ∷ []) x
one x = Contains-push [] x

-- The pair of a live slot is one of the pairs.
pub pair_there : (i : ℕ) (slots : List Content) (k : ℕ) (row : List Value) → get_or slots k Free ≡ Live row
    → Contains (pairs_from i slots) (row_hash row, record { slot = i + k })
pair_there i [] k row is = absurd (let no : Free ≡ Live row = is in let f : ⊥ = cc in f)
pair_there i (slot ∷ slots) zero row is =
    subst (λ n. Contains (pairs_from i (slot ∷ slots)) (row_hash row, record { slot = n })) (let e : i ≡ i + 0 = omega arith in e)
    (Contains-append_left (pair_of i slot) (pairs_from (suc i) slots) (row_hash row, record { slot = i })
    (subst (λ s. Contains (pair_of i s) (row_hash row, record { slot = i })) (sym is) (one (row_hash row, record { slot = i }))))
pair_there i (slot ∷ slots) (suc k) row is =
    subst (λ n. Contains (pairs_from i (slot ∷ slots)) (row_hash row, record { slot = n })) (let e : suc i + k ≡ i + suc k = omega arith in e)
    (Contains-append_right (pair_of i slot) (pairs_from (suc i) slots) (row_hash row, record { slot = suc i + k }) (pair_there (suc i) slots k row is))

-- An entry has its pair.
pub pair_by_entry : (slots : List Content) (pairs : List (ℕ × RowRef)) (entry : EntryRef) → IsPermutation pairs (pairs_from 0 slots)
    → IsThere slots entry → Contains pairs (entry.hash, entry.slot)
pair_by_entry slots pairs entry hashed there =
    let first : 0 + entry.slot.slot ≡ entry.slot.slot = omega arith in
    let same : (row_hash (row_at slots entry), record { slot = 0 + entry.slot.slot }) ≡ (entry.hash, entry.slot) =
    λ j. (sym there.hash j, record { slot = first j }) in
    Contains-permutation (pairs_from 0 slots) pairs (entry.hash, entry.slot) (IsPermutation-sym pairs (pairs_from 0 slots) hashed)
    (subst (Contains (pairs_from 0 slots)) same (pair_there 0 slots entry.slot.slot (row_at slots entry) there.live))

-- A pair has its entry.
pub entry_by_pair : (slots : List Content) (pairs : List (ℕ × RowRef)) (entry : EntryRef) → IsPermutation pairs (pairs_from 0 slots)
    → Contains pairs (entry.hash, entry.slot) → IsThere slots entry
entry_by_pair slots pairs entry hashed has =
    All-contains leads (pairs_from 0 slots) (entry.hash, entry.slot)
    (all_pairs leads 0 slots
    (λ k row is.
    let same : get_or slots (0 + k) Free ≡ Live row = ap (λ n. get_or slots n Free) (let e : 0 + k ≡ k = omega arith in e) ∙ is in
    record { live = same ∙ ap Live (sym (ap row_in same)); hash = ap row_hash (sym (ap row_in same)) }))
    (Contains-permutation pairs (pairs_from 0 slots) (entry.hash, entry.slot) hashed has)
  where
    leads : ℕ × RowRef → Type 0
    leads pair = IsThere slots (record { slot = pair.1; hash = pair.0 })

-- A property of the references with a hash holds for each pair with this hash.
of_hash : (P : RowRef → Type 0) (hash : ℕ) (pairs : List (ℕ × RowRef)) → All P (refs_of hash pairs) → All (λ p. p.0 ≡ hash → P p.1) pairs
of_hash P hash [] all = All-nil (λ p. p.0 ≡ hash → P p.1)
of_hash P hash (p ∷ pairs) all = by (p.0 == hash) refl all (of_hash P hash pairs)
  where
    by : (b : Bool) → (p.0 == hash) ≡ b
        → All P (map (λ (e : ℕ × RowRef). e.1) (cond b (p ∷ filter (λ (e : ℕ × RowRef). e.0 == hash) pairs) (filter (λ (e : ℕ × RowRef). e.0 == hash) pairs)))
        → (All P (refs_of hash pairs) → All (λ (q : ℕ × RowRef). q.0 ≡ hash → P q.1) pairs)
        → All (λ (q : ℕ × RowRef). q.0 ≡ hash → P q.1) (p ∷ pairs)
    by true e h rest =
        All-cons (λ (q : ℕ × RowRef). q.0 ≡ hash → P q.1) p pairs (λ _. All-head P p.1 (refs_of hash pairs) h) (rest (All-tail P p.1 (refs_of hash pairs) h))
    by false e h rest =
        All-cons (λ (q : ℕ × RowRef). q.0 ≡ hash → P q.1) p pairs (λ is. absurd (true≢false (sym (eq-eqb p.0 hash is) ∙ e))) (rest h)

module _ (places : Places) (pairs : List (ℕ × RowRef)) (hashed : IsPermutation pairs (pairs_from 0 places.slots)) (hash : ℕ) (found : List RowRef)
    (are : IsPermutation found (refs_of hash pairs)) where
  -- The found references are live.
  pub found_live : All (IsLive places) found
  found_live =
      All-permutation (IsLive places) (refs_of hash pairs) found (IsPermutation-sym found (refs_of hash pairs) are)
      (All-map (IsLive places) (λ (e : ℕ × RowRef). e.1) (filter (λ (e : ℕ × RowRef). e.0 == hash) pairs)
      (All-filter (λ (e : ℕ × RowRef). e.0 == hash) (λ (e : ℕ × RowRef). IsLive places e.1) pairs
      (All-permutation (λ (e : ℕ × RowRef). IsLive places e.1) (pairs_from 0 places.slots) pairs (IsPermutation-sym pairs (pairs_from 0 places.slots) hashed)
      (all_pairs (λ (e : ℕ × RowRef). IsLive places e.1) 0 places.slots
      (λ k row is. (row, ap (λ n. get_or places.slots n Free) (let e : 0 + k ≡ k = omega arith in e) ∙ is))))))

  -- If none of them has the row, no slot has it.
  pub none_found : (row : List Value) → hash ≡ row_hash row → All (λ at. slot_at places at ≢ Live row) found
      → (i : ℕ) → get_or places.slots i Free ≢ Live row
  none_found row is none i here =
      let other : RowRef → Type 0 = λ at. slot_at places at ≢ Live row in
      let all : All (λ (p : ℕ × RowRef). p.0 ≡ hash → other p.1) (pairs_from 0 places.slots) =
      All-permutation (λ (p : ℕ × RowRef). p.0 ≡ hash → other p.1) pairs (pairs_from 0 places.slots) hashed
      (of_hash other hash pairs (All-permutation other found (refs_of hash pairs) are none))
      in
      All-contains (λ (p : ℕ × RowRef). p.0 ≡ hash → other p.1) (pairs_from 0 places.slots) (row_hash row, record { slot = 0 + i }) all
      (pair_there 0 places.slots i row here) (sym is)
      (ap (λ n. get_or places.slots n Free) (let e : 0 + i ≡ i = omega arith in e) ∙ here)
