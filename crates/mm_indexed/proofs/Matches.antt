-- The references of one hash, and those of one value among them.
use Rattle.std.proofs.Common.{◌≡◌, ℕ, suc, ◌+◌, ◌<◌, ◌≤◌, List, [], ◌∷◌, ◌++◌, Bool, true, false, cond, length, get_or, take, drop, Some}
use Rattle.std.proofs.Common.{refl, sym, ap, ◌∙◌, subst, append_assoc, add-one, arith}
use Rattle.std.specs.Prelude.{◌==◌, map, slice_get, slice_set, IsPermutation}
use Rattle.std.specs.List.{All, filter}
use Rattle.std.proofs.Math.Seq.{drop-cons}
use Rattle.std.proofs.lemmas.Bool.{eq-eqb}
use Rattle.std.proofs.lemmas.List.{append-nil, length-append, take_more_set, drop-set-lt, length-set}
use Rattle.std.proofs.lemmas.List.Elements.{All-head, All-tail, All-filter, filter-append}
use Rattle.std.proofs.lemmas.List.Sorted.{IsPermutation-trans, IsPermutation-sym, IsPermutation-map, All-permutation}
use Rattle.mm_value.specs.Hash.{value_hash}
use Rattle.mm_value.specs.declared.row_ref.RowRef.{RowRef}
use Rattle.mm_value.specs.declared.values.Value.{Value}
use Rattle.mlhash.specs.Bag.{refs_of}
use Rattle.mm_row_order.specs.Refs.{Slots, row_at, place_by}
use Rattle.mm_indexed.specs.HashedPairs.{hash_of, hashed_pair}
use Rattle.mm_indexed.specs.Reads.{has_value}
use Rattle.mm_indexed.proofs.Bags.{IsPermutation-filter}
use Rattle.mm_indexed.proofs.RefTests.{same_ref, same_from_test, test_from_same, same_pair, pair_from_test, pair_itself}
use Rattle.mm_row_order.proofs.Seeks.{place_exact}
use Rattle.mm_schema.proofs.Orderings.{equal_from_is_eq}

-- some references from a place on were kept so far, and these remain
pub record Keeping {X : Type 0} (p : X → Bool) (P : X → Type 0) (from : ℕ) (old out : List X) (kept i : ℕ) : Type 0 where
  pub size : length out ≡ length old
  pub behind : kept ≤ i
  pub held : All P (drop i out)
  pub result : take kept out ++ filter p (drop i out) ≡ take from old ++ filter p (drop from old)

module _ {X : Type 0} (p : X → Bool) (P : X → Type 0) (from : ℕ) (old out : List X) (kept i : ℕ) (was : Keeping p P from old out kept i) (x : X)
    (within : i < length out) (is : x ≡ get_or out i x) where
  pub first_left : drop i out ≡ x ∷ drop (i + 1) out
  first_left = rw (add-one i, drop-cons out i x within) (ap (λ (y : X). y ∷ drop (suc i) out) (sym is))

  pub first_held : P x
  first_held = All-head P x (drop (i + 1) out) (subst (All P) first_left was.held)

  result_left : take kept out ++ filter p (x ∷ drop (i + 1) out) ≡ take from old ++ filter p (drop from old)
  result_left = subst (λ (l : List X). take kept out ++ filter p l ≡ take from old ++ filter p (drop from old)) first_left was.result

  pub Keeping-skipped : p x ≡ false → Keeping p P from old out kept (i + 1)
  Keeping-skipped fails =
      let passed : filter p (x ∷ drop (i + 1) out) ≡ filter p (drop (i + 1) out) = rw fails refl in
      let behind = was.behind in
      record {
        size = was.size;
        behind = omega arith;
        held = All-tail P x (drop (i + 1) out) (subst (All P) first_left was.held);
        result = ap (λ (l : List X). take kept out ++ l) (sym passed) ∙ result_left;
      }

  pub Keeping-kept : p x ≡ true → Keeping p P from old (slice_set out kept x) (kept + 1) (i + 1)
  Keeping-kept passes =
      let behind = was.behind in
      let passed : filter p (x ∷ drop (i + 1) out) ≡ x ∷ filter p (drop (i + 1) out) = rw passes refl in
      let front : take (kept + 1) (slice_set out kept x) ≡ take kept out ++ x ∷ [] = take_more_set out kept x (omega arith) in
      let back : drop (i + 1) (slice_set out kept x) ≡ drop (i + 1) out = drop-set-lt (i + 1) out kept x (omega arith) in
      record {
        size = length-set out kept x ∙ was.size;
        behind = omega arith;
        held = subst (All P) (sym back) (All-tail P x (drop (i + 1) out) (subst (All P) first_left was.held));
        result =
            ap (λ (l : List X). l ++ filter p (drop (i + 1) (slice_set out kept x))) front
            ∙ (ap (λ (l : List X). (take kept out ++ x ∷ []) ++ filter p l) back
            ∙ (append_assoc (take kept out) (x ∷ []) (filter p (drop (i + 1) out))
            ∙ (ap (λ (l : List X). take kept out ++ l) (sym passed) ∙ result_left)));
      }

-- the first of the remaining elements becomes the last one done
pub split_next : {X : Type 0} (all done left rest : List X) (x : X) → all ≡ done ++ left → left ≡ x ∷ rest → all ≡ done ++ x ∷ [] ++ rest
split_next all done left rest x split next =
    split ∙ (ap (λ l. done ++ l) next ∙ sym (append_assoc done (x ∷ []) rest))

-- the next element is found if it passes, and not otherwise
module _ {X : Type 0} (p : X → Bool) (done : List X) (x : X) where
  pub filter_found : (found : List X) → found ≡ filter p done → p x ≡ true → found ++ x ∷ [] ≡ filter p (done ++ x ∷ [])
  filter_found found was passes =
      ap (λ l. l ++ x ∷ []) was
      ∙ sym (filter-append p done (x ∷ []) ∙ ap (λ (b : Bool). filter p done ++ cond b (x ∷ []) []) passes)

  pub filter_passed : (found : List X) → found ≡ filter p done → p x ≡ false → found ≡ filter p (done ++ x ∷ [])
  filter_passed found was fails =
      was
      ∙ sym (filter-append p done (x ∷ []) ∙ (ap (λ (b : Bool). filter p done ++ cond b (x ∷ []) []) fails ∙ append-nil (filter p done)))

  -- if it passes, more elements pass than before it
  pub more_pass : (rest : List X) → p x ≡ true → length (filter p done) + 1 ≤ length (filter p (done ++ x ∷ rest))
  more_pass rest passes =
      let first : filter p (x ∷ rest) ≡ x ∷ filter p rest = ap (λ (b : Bool). cond b (x ∷ filter p rest) (filter p rest)) passes in
      omega (
        arith,
        ap length (filter-append p done (x ∷ rest)),
        length-append (filter p done) (filter p (x ∷ rest)),
        ap length first,
      )

-- a second test can be left out if the first one implies it
module _ {X : Type 0} (p u : X → Bool) (implies : (x : X) → p x ≡ true → u x ≡ true) where
  skipped : (x : X) (rest : List X) (b : Bool) → p x ≡ b → u x ≡ false → rest ≡ cond b (x ∷ rest) rest
  skipped x rest true passes fails = let both : true ≡ false = sym (implies x passes) ∙ fails in cc
  skipped x rest false skips fails = refl

  filter_step : (x : X) (some all : List X) (b : Bool) → u x ≡ b → filter p some ≡ filter p all
      → filter p (cond b (x ∷ some) some) ≡ cond (p x) (x ∷ filter p all) (filter p all)
  filter_step x some all true passes e = ap (λ (l : List X). cond (p x) (x ∷ l) l) e
  filter_step x some all false fails e = e ∙ skipped x (filter p all) (p x) refl fails

  pub filter_twice : (xs : List X) → filter p (filter u xs) ≡ filter p xs
  filter_twice [] = refl
  filter_twice (x ∷ xs) = filter_step x (filter u xs) xs (u x) refl (filter_twice xs)

-- the row's value has this hash
abbrev pub has_hash : ℕ → Slots → ℕ → RowRef → Bool
has_hash column now hash at = hash_of (slice_get (row_at now at) column) == hash

-- equal values have one hash
pub hash_from_value : (column : ℕ) (now : Slots) (value : Value) (at : RowRef) → has_value column now value at ≡ true
    → has_hash column now (value_hash value) at ≡ true
hash_from_value column now value at e =
    let is : slice_get (row_at now at) column ≡ Some value =
    place_exact (slice_get (row_at now at) column) value (equal_from_is_eq (place_by column now value at) e)
    in
    eq-eqb (hash_of (slice_get (row_at now at) column)) (value_hash value) (ap hash_of is)

pick : (b : Bool) (e : ℕ × RowRef) (es : List (ℕ × RowRef)) (rs : List RowRef) → map (λ (x : ℕ × RowRef). x.1) es ≡ rs
    → map (λ (x : ℕ × RowRef). x.1) (cond b (e ∷ es) es) ≡ cond b (e.1 ∷ rs) rs
pick true e es rs same = ap (λ (l : List RowRef). e.1 ∷ l) same
pick false e es rs same = same

-- the references of one hash among the pairs of rows
pub refs_of_pairs : (column : ℕ) (now : Slots) (hash : ℕ) (refs : List RowRef)
    → refs_of hash (map (hashed_pair column now) refs) ≡ filter (has_hash column now hash) refs
refs_of_pairs column now hash [] = refl
refs_of_pairs column now hash (at ∷ rest) =
    pick (has_hash column now hash at) (hashed_pair column now at)
    (filter (λ (e : ℕ × RowRef). e.0 == hash) (map (hashed_pair column now) rest)) (filter (has_hash column now hash) rest)
    (refs_of_pairs column now hash rest)

module _ (column : ℕ) (now : Slots) (pairs : List (ℕ × RowRef)) (refs : List RowRef) (all : IsPermutation pairs (map (hashed_pair column now) refs))
    (hash : ℕ) (behind : List RowRef) (found : IsPermutation behind (refs_of hash pairs)) where
  pub found_of_hash : IsPermutation behind (filter (has_hash column now hash) refs)
  found_of_hash =
      let tests = λ (e : ℕ × RowRef). e.0 == hash in
      let passing : IsPermutation (filter tests pairs) (filter tests (map (hashed_pair column now) refs)) =
      IsPermutation-filter same_pair pair_from_test pair_itself tests pairs (map (hashed_pair column now) refs) all
      in
      let moved : IsPermutation (refs_of hash pairs) (refs_of hash (map (hashed_pair column now) refs)) =
      IsPermutation-map (λ (e : ℕ × RowRef). e.1) (filter tests pairs) (filter tests (map (hashed_pair column now) refs)) passing
      in
      subst (IsPermutation behind) (refs_of_pairs column now hash refs)
      (IsPermutation-trans behind (refs_of hash pairs) (refs_of hash (map (hashed_pair column now) refs)) found moved)

  -- a property of the references of all rows holds for those found
  pub All-found : (P : RowRef → Type 0) → All P refs → All P behind
  All-found P holds =
      let some : List RowRef = filter (has_hash column now hash) refs in
      All-permutation P some behind (IsPermutation-sym behind some found_of_hash) (All-filter (has_hash column now hash) P refs holds)

  -- the references found that have the value are all that have it
  pub matches_found : (value : Value) → hash ≡ value_hash value
      → IsPermutation (filter (has_value column now value) behind) (filter (has_value column now value) refs)
  matches_found value is =
      let test = has_value column now value in
      let some : List RowRef = filter (has_hash column now hash) refs in
      let implies : (at : RowRef) → test at ≡ true → has_hash column now hash at ≡ true = λ at e.
      subst (λ (n : ℕ). has_hash column now n at ≡ true) (sym is) (hash_from_value column now value at e)
      in
      subst (IsPermutation (filter test behind)) (filter_twice test (has_hash column now hash) implies refs)
      (IsPermutation-filter same_ref same_from_test (λ (a : RowRef). test_from_same a a refl) test behind some found_of_hash)
