-- The changes of one list after those of the lists before it.
use Rattle.std.proofs.Common.{◌≡◌, ◌≢◌, ℕ, zero, suc, ℤ, pos, ◌+◌, ◌+ℤ◌, ◌<◌, ◌≤ℤ◌, ◌⊎◌, inl, inr, Bool, true, false, cond, List, [], ◌∷◌, ◌++◌, Some, drop}
use Rattle.std.proofs.Common.{get_or, length, map, refl, sym, take, ap, ◌∙◌, subst, arith}
use Rattle.std.specs.Prelude.{◌==◌, slice_get}
use Rattle.std.specs.List.{All}
use Rattle.std.specs.Option.{unwrap_or}
use Rattle.std.proofs.lemmas.Bool.{eqb-true}
use Rattle.std.proofs.lemmas.Int.{ints}
use Rattle.std.proofs.lemmas.List.{drop-map}
use Rattle.std.proofs.lemmas.List.Elements.{All-append, All-drop, All-head, All-map, All-nil, All-tail, All-weaker}
use Rattle.mm_value.specs.Equality.{same_row}
use Rattle.mm_value.specs.declared.values.Value.{Value}
use Rattle.mm_multiset.specs.Counts.{Counts, count_in, count_of, signed_count, total_of}
use Rattle.mm_multiset.specs.declared.signed.Signed.{Signed}
use Rattle.mm_standing.specs.Bags.{Brings, CanAdd, IsSmall, IsWithin, count_with, entries_at, list_change, row_change, sum_over, total_with}
use Rattle.mm_standing.specs.declared.change.RowChange.{RowChange}
use Rattle.mm_standing.proofs.Adding.{entries_here, not_same}
use Rattle.mm_standing.proofs.Net.{sum_of}
use Rattle.mm_standing.proofs.Stages.{nothing_left}
use Rattle.mm_standing.proofs.Others.{Rows}
use Rattle.mm_schema.specs.Rows.{most_rows}

-- The changes as those of a list.
abbrev pub changes_in : ℕ → List Signed → List RowChange
changes_in list changes = map (λ (change : Signed). record { list = list; change = change }) changes

-- ---- lists

pub drop_joined : {X : Type 0} (k : ℕ) (xs ys : List X) → (drop k (xs ++ ys) ≡ drop k xs ++ ys) ⊎ ((j : ℕ) × (drop k (xs ++ ys) ≡ drop j ys))
drop_joined zero xs ys = inl refl
drop_joined (suc k) [] ys = inr (suc k, refl)
drop_joined (suc k) (x ∷ xs) ys = drop_joined k xs ys

-- A property of the first elements and of the next one.
pub All_more : {X : Type 0} (P : X → Type 0) (xs : List X) (i : ℕ) (x : X) → x ≡ get_or xs i x → All P (take i xs) → P x → All P (take (suc i) xs)
All_more P [] i x is all here k d within = absurd (omega (arith, within))
All_more P (y ∷ ys) zero x is all here zero d within = subst P is here
All_more P (y ∷ ys) zero x is all here (suc k) d within = absurd (omega (arith, within))
All_more P (y ∷ ys) (suc i) x is all here zero d within = all 0 d (omega arith)
All_more P (y ∷ ys) (suc i) x is all here (suc k) d within = All_more P ys i x is (All-tail P y (take i ys) all) here k d (omega (arith, within))

-- ---- sums

abbrev pick : Bool → ℤ → ℤ
pick b n = cond b n (pos 0)

pub sum_joined : {X : Type 0} (f : X → ℤ) (xs ys : List X) → sum_over f (xs ++ ys) ≡ sum_over f xs +ℤ sum_over f ys
sum_joined f [] ys = none (sum_over f ys)
  where
    none : (a : ℤ) → a ≡ pos 0 +ℤ a
    none a = omega (arith, ints)
sum_joined f (x ∷ xs) ys = ap (λ s. f x +ℤ s) (sum_joined f xs ys) ∙ apart (f x) (sum_over f xs) (sum_over f ys)
  where
    apart : (a b c : ℤ) → a +ℤ (b +ℤ c) ≡ (a +ℤ b) +ℤ c
    apart a b c = omega (arith, ints)

-- One more term.
pub sum_more : {X : Type 0} (f : X → ℤ) (xs : List X) (i : ℕ) (d : X) → i < length xs → sum_over f (take (suc i) xs)
    ≡ sum_over f (take i xs) +ℤ f (get_or xs i d)
sum_more f [] i d within = absurd (omega (arith, within))
sum_more f (x ∷ xs) zero d within = one (f x)
  where
    one : (a : ℤ) → a +ℤ pos 0 ≡ pos 0 +ℤ a
    one a = omega (arith, ints)
sum_more f (x ∷ xs) (suc i) d within =
    ap (λ s. f x +ℤ s) (sum_more f xs i d (omega (arith, within))) ∙ apart (f x) (sum_over f (take i xs)) (f (get_or xs i d))
  where
    apart : (a b c : ℤ) → a +ℤ (b +ℤ c) ≡ (a +ℤ b) +ℤ c
    apart a b c = omega (arith, ints)

-- The sum of the changes of a list for the count of a row.
row_sum : (at list : ℕ) (row : List Value) (changes : List Signed) → sum_over (row_change list row) (changes_in at changes)
    ≡ pick (at == list) (signed_count row changes)
row_sum at list row [] = by (at == list)
  where
    by : (b : Bool) → pos 0 ≡ pick b (pos 0)
    by true = refl
    by false = refl
row_sum at list row (c ∷ cs) =
    ap (λ s. row_change list row (record { list = at; change = c }) +ℤ s) (row_sum at list row cs)
    ∙ by (at == list) (pick (same_row row c.row) c.count) (signed_count row cs)
  where
    by : (b : Bool) (n s : ℤ) → pick b (n +ℤ pos 0) +ℤ pick b s ≡ pick b (n +ℤ s)
    by true n s = omega (arith, ints)
    by false n s = refl

-- The sum of the changes of a list for the number of its rows.
list_sum : (at list : ℕ) (changes : List Signed) → sum_over (list_change list) (changes_in at changes) ≡ pick (at == list) (sum_of changes)
list_sum at list [] = by (at == list)
  where
    by : (b : Bool) → pos 0 ≡ pick b (pos 0)
    by true = refl
    by false = refl
list_sum at list (c ∷ cs) =
    ap (λ s. list_change list (record { list = at; change = c }) +ℤ s) (list_sum at list cs)
    ∙ by (at == list) c.count (sum_of cs)
  where
    by : (b : Bool) (n s : ℤ) → pick b n +ℤ pick b s ≡ pick b (n +ℤ s)
    by true n s = refl
    by false n s = refl

-- Changes of earlier lists add nothing to a list.
none_of_it : (list : ℕ) (f : RowChange → ℤ) → ((c : RowChange) → (c.list == list) ≡ false → f c ≡ pos 0)
    → (changes : List RowChange) → All (λ (c : RowChange). c.list < list) changes → sum_over f changes ≡ pos 0
none_of_it list f none [] below = refl
none_of_it list f none (c ∷ cs) below =
    two (f c) (sum_over f cs) (none c (apart c.list list (All-head (λ (d : RowChange). d.list < list) c cs below)))
    (none_of_it list f none cs (All-tail (λ (d : RowChange). d.list < list) c cs below))
  where
    two : (a b : ℤ) → a ≡ pos 0 → b ≡ pos 0 → a +ℤ b ≡ pos 0
    two a b p q = omega (arith, ints)

    apart : (a b : ℕ) → a < b → (a == b) ≡ false
    apart a b less = by (a == b) refl
      where
        by : (t : Bool) → (a == b) ≡ t → t ≡ false
        by true e = absurd (omega (arith, less, eqb-true a b e))
        by false e = refl

-- ---- one more list

module _ (bags : List Counts) (n : ℕ) (bag : Counts) (there : n < length bags) (is : bag ≡ get_or bags n bag) where
  here : entries_at bags n ≡ bag.entries
  here = entries_here bags n bag bag there is

  module _ (rest : List RowChange) (below : All (λ (c : RowChange). c.list < n) rest) (changes : List Signed) where
    -- The counts of the list have its changes added, and those of other lists the rest.
    count_here : (list : ℕ) (row : List Value) → (n == list) ≡ true
        → count_with bags (rest ++ changes_in n changes) list row ≡ pos (count_in row bag.entries) +ℤ signed_count row changes
    count_here list row e =
        let same : n ≡ list = eqb-true n list e in
        subst (λ l. count_with bags (rest ++ changes_in n changes) l row ≡ pos (count_in row bag.entries) +ℤ signed_count row changes) same
        (join (count_in row (entries_at bags n)) (count_in row bag.entries) _ (sum_over (row_change n row) rest)
        (sum_over (row_change n row) (changes_in n changes)) (signed_count row changes)
        (ap (count_in row) here) (sum_joined (row_change n row) rest (changes_in n changes))
        (none_of_it n (row_change n row) (λ c apart. ap (λ b. pick b (signed_count row (c.change ∷ []))) apart) rest below)
        (row_sum n n row changes ∙ ap (λ b. pick b (signed_count row changes)) (subst (λ l. (n == l) ≡ true) (sym same) e)))
      where
        join : (a b : ℕ) (s r t z : ℤ) → a ≡ b → s ≡ r +ℤ t → r ≡ pos 0 → t ≡ z → pos a +ℤ s ≡ pos b +ℤ z
        join a b s r t z p q u v = omega (arith, ints)

    total_here : (list : ℕ) → (n == list) ≡ true → total_with bags (rest ++ changes_in n changes) list ≡ pos (total_of bag.entries) +ℤ sum_of changes
    total_here list e =
        let same : n ≡ list = eqb-true n list e in
        subst (λ l. total_with bags (rest ++ changes_in n changes) l ≡ pos (total_of bag.entries) +ℤ sum_of changes) same
        (join (total_of (entries_at bags n)) (total_of bag.entries) _ (sum_over (list_change n) rest) (sum_over (list_change n) (changes_in n changes))
        (sum_of changes)
        (ap total_of here) (sum_joined (list_change n) rest (changes_in n changes))
        (none_of_it n (list_change n) (λ c apart. ap (λ b. pick b c.change.count) apart) rest below)
        (list_sum n n changes ∙ ap (λ b. pick b (sum_of changes)) (subst (λ l. (n == l) ≡ true) (sym same) e)))
      where
        join : (a b : ℕ) (s r t z : ℤ) → a ≡ b → s ≡ r +ℤ t → r ≡ pos 0 → t ≡ z → pos a +ℤ s ≡ pos b +ℤ z
        join a b s r t z p q u v = omega (arith, ints)

    count_elsewhere : (list : ℕ) (row : List Value) → (n == list) ≡ false → count_with bags (rest ++ changes_in n changes) list row
        ≡ count_with bags rest list row
    count_elsewhere list row e =
        join (count_in row (entries_at bags list)) _ (sum_over (row_change list row) rest) (sum_over (row_change list row) (changes_in n changes))
        (sum_joined (row_change list row) rest (changes_in n changes))
        (row_sum n list row changes ∙ ap (λ b. pick b (signed_count row changes)) e)
      where
        join : (a : ℕ) (s r t : ℤ) → s ≡ r +ℤ t → t ≡ pos 0 → pos a +ℤ s ≡ pos a +ℤ r
        join a s r t p q = omega (arith, ints)

    total_elsewhere : (list : ℕ) → (n == list) ≡ false → total_with bags (rest ++ changes_in n changes) list ≡ total_with bags rest list
    total_elsewhere list e =
        join (total_of (entries_at bags list)) _ (sum_over (list_change list) rest) (sum_over (list_change list) (changes_in n changes))
        (sum_joined (list_change list) rest (changes_in n changes))
        (list_sum n list changes ∙ ap (λ b. pick b (sum_of changes)) e)
      where
        join : (a : ℕ) (s r t : ℤ) → s ≡ r +ℤ t → t ≡ pos 0 → pos a +ℤ s ≡ pos a +ℤ r
        join a s r t p q = omega (arith, ints)

    within_joined : IsWithin bags rest → ((row : List Value) → pos 0 ≤ℤ (pos (count_in row bag.entries) +ℤ signed_count row changes))
        → (pos (total_of bag.entries) +ℤ sum_of changes) ≤ℤ pos most_rows → IsWithin bags (rest ++ changes_in n changes)
    within_joined w counts total = record {
      counts = λ list row. count_at list row (n == list) refl;
      totals = λ list. total_at list (n == list) refl;
    }
      where
        count_at : (list : ℕ) (row : List Value) (b : Bool) → (n == list) ≡ b → pos 0 ≤ℤ count_with bags (rest ++ changes_in n changes) list row
        count_at list row true e = subst (λ z. pos 0 ≤ℤ z) (sym (count_here list row e)) (counts row)
        count_at list row false e = subst (λ z. pos 0 ≤ℤ z) (sym (count_elsewhere list row e)) (w.counts list row)

        total_at : (list : ℕ) (b : Bool) → (n == list) ≡ b → total_with bags (rest ++ changes_in n changes) list ≤ℤ pos most_rows
        total_at list true e = subst (λ z. z ≤ℤ pos most_rows) (sym (total_here list e)) total
        total_at list false e = subst (λ z. z ≤ℤ pos most_rows) (sym (total_elsewhere list e)) (w.totals list)

-- ---- the first lists

module _ {Q : Type 0} (bags : List Counts) (queries : List Q) (over : Q → Rows) where
  -- The changes of the first n lists, which can be applied, and lead to the rows of their queries.
  pub record IsStage (n : ℕ) (found : List RowChange) : Type 0 where
    pub there : All (λ (c : RowChange). c.list < n) found
    pub small : All IsSmall found
    pub within : CanAdd bags found
    pub counts : (list : ℕ) → list < n → (query : Q) → slice_get queries list ≡ Some query
        → (row : List Value) → count_with bags found list row ≡ pos (count_of row (over query))

  -- No list yet.
  pub stage_none : CanAdd bags [] → IsStage 0 []
  stage_none can = record {
    there = All-nil (λ (c : RowChange). c.list < 0);
    small = All-nil IsSmall;
    within = can;
    counts = λ list below. absurd (omega (arith, below));
  }

  module _ (n : ℕ) (found : List RowChange) (bag : Counts) (query : Q) (changes : List Signed)
      (stage : IsStage n found) (there : n < length bags) (is : bag ≡ get_or bags n bag) (at : slice_get queries n ≡ Some query)
      (brings : Brings changes bag.entries (over query)) where
    joined : CanAdd bags (found ++ changes_in n changes)
    joined k = by (drop_joined k found (changes_in n changes))
      where
        by : ((drop k (found ++ changes_in n changes) ≡ drop k found ++ changes_in n changes) ⊎
            ((j : ℕ) × (drop k (found ++ changes_in n changes) ≡ drop j (changes_in n changes))))
            → IsWithin bags (drop k (found ++ changes_in n changes))
        by (inl e) =
            subst (IsWithin bags) (sym e)
            (within_joined bags n bag there is (drop k found) (All-drop (λ (c : RowChange). c.list < n) k found stage.there) changes
            (stage.within k) (brings.stages 0) (brings.totals 0))
        by (inr (j, e)) =
            subst (IsWithin bags) (sym (e ∙ drop-map (λ (change : Signed). record { list = n; change = change }) j changes))
            (within_joined bags n bag there is [] (All-nil (λ (c : RowChange). c.list < n)) (drop j changes)
            (nothing_left bags found stage.within) (brings.stages j) (brings.totals j))

    -- One more list.
    pub stage_more : IsStage (n + 1) (found ++ changes_in n changes)
    stage_more = record {
      there = All-append (λ (c : RowChange). c.list < n + 1) found (changes_in n changes)
          (All-weaker (λ (c : RowChange). c.list < n) (λ (c : RowChange). c.list < n + 1) (λ c h. omega (arith, h)) found stage.there)
          (All-map (λ (c : RowChange). c.list < n + 1) (λ (change : Signed). record { list = n; change = change }) changes (λ k d within. omega arith));
      small = All-append IsSmall found (changes_in n changes) stage.small
          (All-map IsSmall (λ (change : Signed). record { list = n; change = change }) changes brings.small);
      within = joined;
      counts = λ list below other got row. by list below other got row (n == list) refl;
    }
      where
        by : (list : ℕ) → list < n + 1 → (other : Q) → slice_get queries list ≡ Some other → (row : List Value) → (b : Bool) → (n == list) ≡ b
            → count_with bags (found ++ changes_in n changes) list row ≡ pos (count_of row (over other))
        by list below other got row true e =
            let same : query ≡ other = ap (λ o. unwrap_or o query) (sym at ∙ ap (slice_get queries) (eqb-true n list e) ∙ got) in
            count_here bags n bag there is found stage.there changes list row e ∙ brings.counts row ∙ ap (λ q. pos (count_of row (over q))) same
        by list below other got row false e =
            let differs : list ≢ n = not_same n list e in
            count_elsewhere bags n bag there is found stage.there changes list row e
            ∙ stage.counts list (omega (arith, below, differs)) other got row
