-- References along an index.
use Rattle.std.proofs.Common.{◌≡◌, ℕ, ◌<◌, Bool, true, false, cond, List, [], ◌∷◌, ◌++◌, length, get_or, Option, inl, inr, refl, sym, ap, ◌∙◌, subst, arith}
use Rattle.std.specs.List.{All, filter}
use Rattle.std.specs.List.Sorted.{IsPermutation}
use Rattle.std.proofs.lemmas.Bool.{cases_Bool, false≢true}
use Rattle.std.proofs.lemmas.List.Elements.{All-head, All-tail, Contains-get_or}
use Rattle.std.proofs.lemmas.List.Sorted.{IsPermutation-refl}
use Rattle.mm_order.specs.Probe.{entries_between}
use Rattle.mm_partition.specs.Places.{IsLive, slot_at}
use Rattle.mm_indexed.proofs.Bags.{IsPermutation-filter}
use Rattle.mm_indexed.proofs.RefTests.{same_from_test, test_from_same}
use Rattle.mm_tables.specs.Edits.{same_ref}
use Rattle.mm_indexed.specs.Kept.{IsKept, StoredRows}
use Rattle.mm_indexed.specs.Reads.{Appends, HasIndex, IsRange}
use Rattle.mm_row_order.specs.Ends.{end_place}
use Rattle.mm_indexed.specs.declared.indexes.index.Index.{Index}
use Rattle.mm_schema.specs.declared.index.IndexKind.{IndexKind}
use Rattle.mm_schema.specs.declared.index.IndexKind.TheVariants as kind
use Rattle.mm_store.specs.Looked.{IsIndexOn}
use Rattle.mm_store.specs.declared.index_ref.IndexRef.{IndexRef}
use Rattle.mm_store.specs.declared.index_ref.IndexRef.TheVariants.{Key, Tree, Hash}
use Rattle.mm_value.specs.declared.row_ref.RowRef.{RowRef}
use Rattle.mm_value.specs.declared.values.Value.{Value}

-- ---- lists

-- Filtering first by a weaker test changes nothing.
module _ {X : Type 0} (p q : X → Bool) where
  passed : (x : X) (xs : List X) (b : Bool) → b ≡ q x → (p x ≡ true → b ≡ true) → filter p (filter q xs) ≡ filter p xs
      → filter p (cond b (x ∷ filter q xs) (filter q xs)) ≡ cond (p x) (x ∷ filter p xs) (filter p xs)
  passed x xs true is implies same = ap (λ ys. cond (p x) (x ∷ ys) ys) same
  passed x xs false is implies same =
      elim (cases_Bool (p x)) [
        | inl met ↦ absurd (false≢true (implies met))
        | inr unmet ↦ same ∙ sym (ap (λ b. cond b (x ∷ filter p xs) (filter p xs)) unmet)
      ]

  pub filter_within : (xs : List X) → ((x : X) → p x ≡ true → q x ≡ true) → filter p (filter q xs) ≡ filter p xs
  filter_within [] implies = refl
  filter_within (x ∷ xs) implies = passed x xs (q x) refl (implies x) (filter_within xs implies)

  -- Two tests that agree on each element filter a list in the same way.
  pub filter_same : (xs : List X) → All (λ x. p x ≡ q x) xs → filter p xs ≡ filter q xs
  filter_same [] all = refl
  filter_same (x ∷ xs) all =
      let same = All-head (λ y. p y ≡ q y) x xs all in
      let later = filter_same xs (All-tail (λ y. p y ≡ q y) x xs all) in
      λ i. cond (same i) (x ∷ later i) (later i)

-- The elements of a permuted list that pass are a permutation of those of the list.
pub filter_moved : (p : RowRef → Bool) (xs ys : List RowRef) → IsPermutation xs ys → IsPermutation (filter p xs) (filter p ys)
filter_moved p xs ys moved = IsPermutation-filter same_ref same_from_test (λ a. test_from_same a a refl) p xs ys moved

any_of : {X : Type 0} (xs : List X) (n : ℕ) → n < length xs → X
any_of [] n within = absurd (omega arith)
any_of (x ∷ xs) n within = x

-- Elements appended to an empty list are the whole list.
pub appended : (Holds : List RowRef → Type 0) (old new : List RowRef) → old ≡ [] → Appends Holds old new → Holds new
appended Holds old new none (found, is, holds) = subst Holds (sym (is ∙ ap (λ xs. xs ++ found) none)) holds

-- ---- along an index

module _ (stored : StoredRows) (kept : IsKept stored.places.types stored.key (slot_at stored.places) stored.refs stored.indexes) where
  pub all_live : All (IsLive stored.places) stored.refs
  all_live k d within = (kept.held (get_or stored.refs k d)).0 (Contains-get_or stored.refs k d within)

  -- The column of an index is a column of the relation.
  pub column_in : (index column : ℕ) (kind : IndexKind) → HasIndex stored.indexes index column kind → column < length stored.places.types
  column_in index column kind has =
      let d : Index = any_of stored.indexes index has.0 in
      subst (λ n. n < length stored.places.types) (has.1 d).0 (kept.columns index d has.0)

  pub on_column : (column : ℕ) (index : IndexRef) → IsIndexOn stored column index → column < length stored.places.types
  on_column column Key is = subst (λ n. n < length stored.places.types) (sym is) kept.key_in
  on_column column (Tree place) has = column_in place column kind.Tree has
  on_column column (Hash place) has = column_in place column kind.Hash has

  -- The entries between two keys are a range along the key.
  pub key_range : (low high : Option Value) (found : List RowRef)
      → found ≡ entries_between (end_place stored.key (slot_at stored.places) low) (end_place stored.key (slot_at stored.places) high) stored.refs
      → IsRange stored.key stored low high found
  key_range low high found is = (stored.refs, record { ordered = kept.by_key; same = IsPermutation-refl stored.refs }, is)
