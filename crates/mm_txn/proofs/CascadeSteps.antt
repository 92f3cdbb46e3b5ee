-- The cascaded deletions, table by table.
use Rattle.std.proofs.Common.{◌≡◌, ◌≢◌, ℕ, zero, suc, ◌+◌, ◌≤◌, Bool, true, false, cond, ◌||◌, List, [], ◌∷◌, ◌++◌, Some, None, inl, inr, drop, filter}
use Rattle.std.proofs.Common.{length, map, slice_get, refl, sym, ap, ◌∙◌, arith}
use Rattle.std.specs.List.{AllByRecursion, IsDistinct, filter_map, list_any}
use Rattle.std.proofs.lemmas.Bool.{cases_Bool, false≢true}
use Rattle.std.proofs.lemmas.List.Folds.{list_any-append}
use Rattle.std.proofs.lemmas.Map.Keys.{IsDistinct-head, IsDistinct-tail}
use Rattle.mm_row_order.specs.Refs.{Slots, row_at}
use Rattle.mm_store.specs.Edits.{pairs_of}
use Rattle.mm_tables.specs.declared.edit.Edit.TheVariants.{Delete}
use Rattle.mm_schema.specs.Instance.{Instance, TableEdits}
use Rattle.mm_schema.specs.Name.{same_name}
use Rattle.mm_schema.specs.References.{RefersBack, cascading_of, references_of, refers}
use Rattle.mm_schema.specs.Rows.{Pair}
use Rattle.mm_schema.specs.Schema.{Schema, key_named}
use Rattle.mm_schema.specs.declared.column.Column.{Column}
use Rattle.mm_schema.specs.declared.table.Table.{Table}
use Rattle.mm_schema.proofs.Instances.{name_of, pairs_of-other}
use Rattle.mm_schema.proofs.NameLemmas.{differs_back, same_bytes}
use Rattle.mm_schema.proofs.StrictOrder.{AllByRecursion-IsIn, IsIn}
use Rattle.mm_schema.proofs.Duplicates.{Row}
use Rattle.mm_query.specs.Edits.{also, is_cascaded, old_rows, removals_of, with_cascades}
use Rattle.mm_query.proofs.FoundTargets.{none_by_each}
use Rattle.mm_value.specs.declared.row_ref.RowRef.{RowRef}
use Rattle.mm_txn.proofs.CascadePlaces.{among_references, lacks_at}
use Rattle.mm_txn.proofs.EditsMade.{pairs-gone}

-- ---- the tables up to that of the command

module _ (schema : Schema) (own : TableEdits) where
  abbrev es : List TableEdits
  es = own ∷ []

  -- Edits of one table cascade to no row of a table whose columns refer only to other tables.
  none_cascaded : (columns : List Column) → AllByRecursion (λ (r : ℕ × List ℕ). same_name own.table r.1 ≡ false) (references_of columns) → (row : Row)
      → is_cascaded schema es columns row ≡ false
  none_cascaded columns others row =
      none_by_each (λ (r : ℕ × List ℕ). list_any (refers r.0 (key_named r.1 schema) row) (old_rows r.1 es)) (cascading_of columns)
      (λ r here. ap (λ (ps : List Pair). list_any (refers r.0 (key_named r.1 schema) row) (filter_map (λ (p : Pair). p.0) ps))
      (pairs_of-other own.table own.pairs r.1
      (AllByRecursion-IsIn (λ (q : ℕ × List ℕ). same_name own.table q.1 ≡ false) (references_of columns) r others (among_references 0 columns r here))))

  none_left : (columns : List Column) (rows : List Row) → ((row : Row) → is_cascaded schema es columns row ≡ false)
      → filter (is_cascaded schema es columns) rows ≡ []
  none_left columns [] none = refl
  none_left columns (r ∷ rs) none =
      ap (λ b. cond b (r ∷ filter (is_cascaded schema es columns) rs) (filter (is_cascaded schema es columns) rs)) (none r) ∙ none_left columns rs none

  others_back : (names : List (List ℕ)) → list_any (same_name own.table) names ≡ false → (rs : List (ℕ × List ℕ))
      → AllByRecursion (λ (r : ℕ × List ℕ). list_any (same_name r.1) names ≡ true) rs → AllByRecursion (λ (r : ℕ × List ℕ). same_name own.table r.1 ≡ false) rs
  others_back names lack [] back = tt
  others_back names lack (r ∷ rs) back = (one, others_back names lack rs back.1)
    where
      one : same_name own.table r.1 ≡ false
      one = elim (cases_Bool (same_name own.table r.1)) [
        | inl same ↦ absurd (false≢true (sym lack ∙ ap (λ n. list_any (same_name n) names) (same_bytes own.table r.1 same) ∙ back.0))
        | inr other ↦ other
      ]

  skip : (t : Table) (ts : List Table) (r : List Row) (rows : Instance) → ((row : Row) → is_cascaded schema es t.definition.columns row ≡ false)
      → with_cascades schema (t ∷ ts) (r ∷ rows) es ≡ with_cascades schema ts rows es
  skip t ts r rows none =
      ap (λ gone. with_cascades schema ts rows (also es (name_of t) (removals_of gone))) (none_left t.definition.columns r none)

  -- The tables up to that of the edits add no deletions.
  pub up_to_own : (names : List (List ℕ)) → list_any (same_name own.table) names ≡ false → (n : ℕ) (ts : List Table) (rows : Instance) → RefersBack names ts
      → IsDistinct same_name (map name_of ts) → (t : Table) → slice_get ts n ≡ Some t → own.table ≡ name_of t
      → with_cascades schema ts rows es ≡ with_cascades schema (drop (n + 1) ts) (drop (n + 1) rows) es
  up_to_own names lack n [] rows back distinct t at is = cc
  up_to_own names lack n (x ∷ xs) [] back distinct t at is = no_rows (drop (n + 1) (x ∷ xs)) (drop (n + 1) []) (dropped (n + 1))
    where
      dropped : (k : ℕ) → drop {A = List Row} k [] ≡ []
      dropped zero = refl
      dropped (suc k) = refl

      no_rows : (us : List Table) (rest : Instance) → rest ≡ [] → es ≡ with_cascades schema us rest es
      no_rows [] rest none = refl
      no_rows (u ∷ us) [] none = refl
      no_rows (u ∷ us) (r ∷ rest) none = cc
  up_to_own names lack zero (x ∷ xs) (r ∷ rows) back distinct t at is =
      skip x xs r rows (none_cascaded x.definition.columns (others_back names lack (references_of x.definition.columns) back.0))
  up_to_own names lack (suc n) (x ∷ xs) (r ∷ rows) back distinct t at is =
      skip x xs r rows (none_cascaded x.definition.columns (others_back names lack (references_of x.definition.columns) back.0))
      ∙ up_to_own (names ++ name_of x ∷ []) still n xs rows back.1 (IsDistinct-tail same_name (name_of x) (map name_of xs) distinct) t at is
      ∙ ap (λ k. with_cascades schema (drop k (x ∷ xs)) (drop k (r ∷ rows)) es) (let same : suc (n + 1) ≡ suc n + 1 = omega arith in same)
    where
      differs : same_name own.table (name_of x) ≡ false
      differs = ap (λ m. same_name m (name_of x)) is
          ∙ differs_back (name_of x) (name_of t) (lacks_at (name_of x) xs (IsDistinct-head same_name (name_of x) (map name_of xs) distinct) n t at)

      still : list_any (same_name own.table) (names ++ name_of x ∷ []) ≡ false
      still = list_any-append (same_name own.table) names (name_of x ∷ []) ∙ (λ i. lack i || (differs i || false))

-- ---- one more table

drop_at : {X : Type 0} (xs : List X) (k : ℕ) (x : X) → slice_get xs k ≡ Some x → drop k xs ≡ x ∷ drop (k + 1) xs
drop_at [] k x at = cc
drop_at (y ∷ ys) zero x at = let same : y ≡ x = cc in ap (λ z. z ∷ ys) same
drop_at (y ∷ ys) (suc k) x at = drop_at ys k x at ∙ ap (λ n. x ∷ drop n (y ∷ ys)) (let same : suc (k + 1) ≡ suc k + 1 = omega arith in same)

pub one_table : (schema : Schema) (ts : List Table) (rows : Instance) (k : ℕ) (t : Table) (r : List Row) (es : List TableEdits) → slice_get ts k ≡ Some t
    → slice_get rows k ≡ Some r
    → with_cascades schema (drop k ts) (drop k rows) es
    ≡ with_cascades schema (drop (k + 1) ts) (drop (k + 1) rows) (also es (name_of t) (removals_of (filter (is_cascaded schema es t.definition.columns) r)))
one_table schema ts rows k t r es at beside = λ i. with_cascades schema (drop_at ts k t at i) (drop_at rows k r beside i) es

pub also_some : (es : List TableEdits) (name : List ℕ) (pairs : List Pair) → pairs ≢ [] → also es name pairs ≡ es ++ record { table = name; pairs = pairs } ∷ []
also_some edits name [] some = absurd (some refl)
also_some edits name (p ∷ ps) some = refl

pub all_done : (schema : Schema) (ts : List Table) (rows : Instance) (k : ℕ) (es : List TableEdits) → length ts ≤ k
    → with_cascades schema (drop k ts) (drop k rows) es ≡ es
all_done schema ts rows k es past = ap (λ us. with_cascades schema us (drop k rows) es) (none ts k past)
  where
    none : (us : List Table) (n : ℕ) → length us ≤ n → drop n us ≡ []
    none [] zero past = refl
    none [] (suc n) past = refl
    none (u ∷ us) zero past = absurd (omega (arith, past))
    none (u ∷ us) (suc n) past = none us n (omega (arith, past))

-- ---- deletions of references

rows_filtered : (now : Slots) (q : RowRef → Bool) (p : Row → Bool) (refs : List RowRef) → ((at : RowRef) → IsIn at refs → q at ≡ p (row_at now at))
    → map (row_at now) (filter q refs) ≡ filter p (map (row_at now) refs)
rows_filtered now q p [] same = refl
rows_filtered now q p (x ∷ xs) same =
    by (q x) (p (row_at now x)) (same x (inl refl)) (rows_filtered now q p xs (λ at here. same at (inr here)))
  where
    by : (a b : Bool) → a ≡ b → map (row_at now) (filter q xs) ≡ filter p (map (row_at now) xs)
        → map (row_at now) (cond a (x ∷ filter q xs) (filter q xs)) ≡ cond b (row_at now x ∷ filter p (map (row_at now) xs)) (filter p (map (row_at now) xs))
    by true true e later = ap (λ rows. row_at now x ∷ rows) later
    by false false e later = later
    by true false e later = cc
    by false true e later = cc

-- The pairs of the deletions of the references whose rows pass a test.
pub pairs_filtered : (now : Slots) (q : RowRef → Bool) (p : Row → Bool) (refs : List RowRef) → ((at : RowRef) → IsIn at refs → q at ≡ p (row_at now at))
    → pairs_of now (map Delete (filter q refs)) ≡ removals_of (filter p (map (row_at now) refs))
pairs_filtered now q p refs same = pairs-gone now (filter q refs) ∙ ap removals_of (rows_filtered now q p refs same)
