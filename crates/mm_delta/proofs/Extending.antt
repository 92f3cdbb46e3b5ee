-- The steps of the walk.
use Rattle.std.proofs.Common.{◌≡◌, ℕ, ◌+◌, ◌<◌, ◌≤◌, ◌++◌, Bool, true, false, cond, Some, List, [], ◌∷◌, get_or, set, length, map, take, sym, ap, subst, ◌∙◌}
use Rattle.std.proofs.Common.{arith}
use Rattle.std.specs.List.{flat_map, sum_by}
use Rattle.std.proofs.lemmas.List.{map-append, take_all, take_more, take-map}
use Rattle.std.proofs.lemmas.List.Sums.{sum_by_push, sum_by-take-le}
use Rattle.mm_store.specs.Tables.{Tables}
use Rattle.mm_query.specs.Queries.{Partial, none_fails, same_row}
use Rattle.mm_query.specs.declared.bound_query.BoundQuery.{BoundQuery}
use Rattle.mm_delta.specs.Candidates.{candidates, having, passes, required}
use Rattle.mm_multiset.specs.Counts.{count_of}
use Rattle.mm_delta.specs.Steps.{AreAlike, HasTables}
use Rattle.mm_delta.specs.Walk.{AreOpen, found}
use Rattle.mm_delta.proofs.Found.{Row, Rows, open_set}
use Rattle.mm_delta.proofs.Lists.{sum_by-filter-le}
use Rattle.mm_delta.proofs.Skip.{found_having, found_none}
use Rattle.mm_delta.proofs.Sums.{sum_by-flat_map}

pub one_more : {A : Type 0} (f : A → Row) (items : List A) (i : ℕ) (x : A) → i < length items → x ≡ get_or items i x
    → map f (take (i + 1) items) ≡ map f (take i items) ++ f x ∷ []
one_more f items i x inside is =
    ap (map f) (take_more items i x inside ∙ ap (λ y. take i items ++ y ∷ []) (sym is)) ∙ map-append f (take i items) (x ∷ [])

pub count_more : {A : Type 0} (g : Row → ℕ) (f : A → Row) (items : List A) (i : ℕ) (x : A) (first out next : ℕ) → i < length items → x ≡ get_or items i x
    → out ≡ first + sum_by g (map f (take i items)) → next ≡ out + g (f x)
    → next ≡ first + sum_by g (map f (take (i + 1) items))
count_more g f items i x first out next inside is h e =
    omega (arith, h, e, ap (sum_by g) (one_more f items i x inside is), sum_by_push g (map f (take i items)) (f x))

pub reads_more : {A : Type 0} (g : Row → ℕ) (f : A → Row) (items : List A) (i : ℕ) (x : A) (first reads next : ℕ) → i < length items → x ≡ get_or items i x
    → reads ≤ first + sum_by g (map f (take i items)) → next ≤ reads + g (f x)
    → next ≤ first + sum_by g (map f (take (i + 1) items))
reads_more g f items i x first reads next inside is h e =
    omega (arith, h, e, ap (sum_by g) (one_more f items i x inside is), sum_by_push g (map f (take i items)) (f x))

-- The contribution of the first items is no more than that of all.
pub part_le : {A : Type 0} (g : Row → ℕ) (f : A → Row) (items : List A) (i : ℕ) → sum_by g (map f (take i items)) ≤ sum_by g (map f items)
part_le g f items i = omega (arith, ap (sum_by g) (sym (take-map f i items)), sum_by-take-le g (map f items) i)

module _ (q : BoundQuery) (indexed : ℕ → ℕ → Bool) (before rows : ℕ → Rows) (js : List ℕ) (m : Partial) where
  pub found_stops : (out : ℕ) (row : Row) → none_fails q.atoms m ≡ false → out ≡ out + count_of row (found q rows js m)
  found_stops out row h = omega (arith, ap (count_of row) (found_none q rows js m h))

  pub open_next : (j : ℕ) (rest : List ℕ) (x : Row) (next : Partial) → js ≡ j ∷ rest → AreOpen js m → next ≡ set m j (Some x) → AreOpen rest next
  open_next j rest x next e h n =
      let here : AreOpen (j ∷ rest) m = subst (λ l. AreOpen l m) e h in
      subst (AreOpen rest) (sym n) (open_set rest m j x here.2 here.3)

  pub found_done : {A : Type 0} (row : Row) (j : ℕ) (rest : List ℕ) (f : A → Row) (items : List A) (i first out : ℕ) → js ≡ j ∷ rest → AreOpen js m
      → none_fails q.atoms m ≡ true → AreAlike (map f items) (having (required (indexed j) q.atoms m j) (rows j)) → length items ≤ i
      → out ≡ first + sum_by (λ x. count_of row (found q rows rest (set m j (Some x)))) (map f (take i items))
      → out ≡ first + count_of row (found q rows js m)
  found_done row j rest f items i first out e h fits alike all is =
      let here : AreOpen (j ∷ rest) m = subst (λ l. AreOpen l m) e h in
      let g : Row → Rows = λ x. found q rows rest (set m j (Some x)) in
      omega (
        arith,
        is,
        ap (λ l. sum_by (λ x. count_of row (g x)) (map f l)) (take_all i items all),
        alike (λ x. count_of row (g x)),
        sum_by-flat_map (λ r. cond (same_row row r) 1 0) g (having (required (indexed j) q.atoms m j) (rows j)),
        ap (count_of row) (found_having (indexed j) q rows j rest m here.1 here.0 (rows j)),
        ap (λ b. count_of row (cond b (flat_map g (rows j)) [])) fits,
        ap (λ l. count_of row (found q rows l m)) e,
      )

  pub reads_done : {A : Type 0} (j : ℕ) (rest : List ℕ) (f : A → Row) (items : List A) (i : ℕ) (first middle last : ℕ) → js ≡ j ∷ rest
      → none_fails q.atoms m ≡ true → AreAlike (map f items) (having (required (indexed j) q.atoms m j) (rows j))
      → middle ≤ first + length (having (required (indexed j) q.atoms m j) (before j))
      → last ≤ middle + sum_by (λ x. candidates indexed q.atoms before rows rest (set m j (Some x))) (map f (take i items))
      → last ≤ first + candidates indexed q.atoms before rows js m
  reads_done j rest f items i first middle last e fits alike here is =
      let g : Row → ℕ = λ x. candidates indexed q.atoms before rows rest (set m j (Some x)) in
      omega (
        arith,
        here,
        is,
        ap (sum_by g) (sym (take-map f i items)),
        sum_by-take-le g (map f items) i,
        alike g,
        sum_by-filter-le g (passes (required (indexed j) q.atoms m j)) (rows j),
        ap (λ l. candidates indexed q.atoms before rows l m) e,
        ap (λ b. cond b (length (having (required (indexed j) q.atoms m j) (before j)) + sum_by g (rows j)) 0) fits,
      )

pub tables_next : (tables : List ℕ) (store now : Tables) (js : List ℕ) (j : ℕ) (rest : List ℕ) → js ≡ j ∷ rest → HasTables tables store js → now ≡ store
    → HasTables tables now rest
tables_next tables store now js j rest e h same =
    let here : HasTables tables store (j ∷ rest) = subst (HasTables tables store) e h in
    subst (λ s. HasTables tables s rest) (sym same) here.1
