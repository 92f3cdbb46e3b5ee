-- An index that is filled reference by reference.
use Rattle.std.proofs.Common.{◌≡◌, ◌≢◌, ℕ, suc, ◌+◌, ◌<◌, List, [], ◌∷◌, ◌++◌, length, take, drop, get_or, sym, ap, ◌∙◌, subst, arith}
use Rattle.std.specs.Prelude.{IsPermutation}
use Rattle.std.specs.List.{All, AllPairs, remove}
use Rattle.std.proofs.Common.{length-take}
use Rattle.std.proofs.lemmas.List.{append-nil, take_more, get_or-take, get_or_default}
use Rattle.std.proofs.lemmas.List.Elements.{All-cons, All-append, All-nil, All-take, All-drop, Contains-get_or}
use Rattle.std.proofs.lemmas.List.Sorted.{IsPermutation-sym, IsPermutation-middle}
use Rattle.mm_value.specs.declared.col_type.ColType.{ColType}
use Rattle.mm_value.specs.declared.row_ref.RowRef.{RowRef}
use Rattle.mm_value.specs.declared.values.Value.{Value}
use Rattle.mm_partition.specs.Places.{Live}
use Rattle.mm_partition.specs.Types.{HasTypes}
use Rattle.mm_row_order.specs.Orders.{refs_by_total}
use Rattle.mm_row_order.specs.Refs.{Slots, HasRow, IsWide, refs_by}
use Rattle.mm_row_order.specs.InOrder.{InOrder}
use Rattle.mm_indexed.specs.Index.{Keeps, column_of}
use Rattle.mm_indexed.specs.Kept.{IsKept}
use Rattle.mm_indexed.specs.declared.indexes.index.Index.{Index}
use Rattle.mm_indexed.proofs.Levels.{Keeps-permutation}
use Rattle.mm_indexed.proofs.Entries.{wide_from}
use Rattle.mm_indexed.proofs.Ordered.{less_than_itself}

-- the references before one are apart from it
pub absent_before : (refs : List RowRef) (i : ℕ) (d : RowRef) → AllPairs (λ a b. a ≢ b) refs → i < length refs
    → All (λ a. a ≢ get_or refs i d) (take i refs)
absent_before refs i d apart inside k e within =
    let below : k < i = omega (arith, length-take i refs) in
    let is : get_or (take i refs) k e ≡ get_or refs k d = get_or-take i refs k e below ∙ get_or_default refs k e d (omega arith) in
    subst (λ (x : RowRef). x ≢ get_or refs i d) (sym is) (apart k i d below inside)

-- one reference more
pub Keeps-more : (key : ℕ) (now : Slots) (refs : List RowRef) (i : ℕ) (d : RowRef) (x : Index) → i < length refs
    → Keeps key now (get_or refs i d ∷ take i refs) x → Keeps key now (take (i + 1) refs) x
Keeps-more key now refs i d x inside keeps =
    let at : RowRef = get_or refs i d in
    let is : take (i + 1) refs ≡ take i refs ++ at ∷ [] = take_more refs i d inside in
    let moved : IsPermutation (take i refs ++ at ∷ []) (at ∷ take i refs) =
    subst (λ xs. IsPermutation (take i refs ++ at ∷ []) (at ∷ xs)) (append-nil (take i refs)) (IsPermutation-middle (take i refs) at []) in
    subst (λ xs. Keeps key now xs x) (sym is)
    (Keeps-permutation key now (at ∷ take i refs) (take i refs ++ at ∷ []) (IsPermutation-sym (take i refs ++ at ∷ []) (at ∷ take i refs) moved) x keeps)

-- no reference is twice in the order of the key
pub distinct : (key : ℕ) (now : Slots) (refs : List RowRef) → InOrder key key now refs → AllPairs (λ a b. a ≢ b) refs
distinct key now refs ordered i j d before within same =
    let a : RowRef = get_or refs i d in
    less_than_itself (refs_by key key now a a) ((refs_by_total key key now).antisymm a a)
    (ap (refs_by key key now a) same ∙ ordered.ascending i j d before within)

-- a table with one more index
pub IsKept-added : (types : List ColType) (key : ℕ) (now : Slots) (refs : List RowRef) (indexes : List Index) (x : Index)
    → IsKept types key now refs indexes → column_of x < length types → Keeps key now refs x → IsKept types key now refs (indexes ++ x ∷ [])
IsKept-added types key now refs indexes x was within keeps = record {
  key_in = was.key_in;
  columns = All-append (λ y. column_of y < length types) indexes (x ∷ []) was.columns
      (All-cons (λ y. column_of y < length types) x [] within (All-nil (λ y. column_of y < length types)));
  typed = was.typed;
  held = was.held;
  by_key = was.by_key;
  keep = All-append (Keeps key now refs) indexes (x ∷ []) was.keep (All-cons (Keeps key now refs) x [] keeps (All-nil (Keeps key now refs)));
}

-- .. and with one index less
pub IsKept-removed : (types : List ColType) (key : ℕ) (now : Slots) (refs : List RowRef) (indexes : List Index)
    → IsKept types key now refs indexes → (i : ℕ) → IsKept types key now refs (remove indexes i)
IsKept-removed types key now refs indexes was i = record {
  key_in = was.key_in;
  columns = All-append (λ y. column_of y < length types) (take i indexes) (drop (suc i) indexes)
      (All-take (λ y. column_of y < length types) i indexes was.columns)
      (All-drop (λ y. column_of y < length types) (suc i) indexes was.columns);
  typed = was.typed;
  held = was.held;
  by_key = was.by_key;
  keep = All-append (Keeps key now refs) (take i indexes) (drop (suc i) indexes)
      (All-take (Keeps key now refs) i indexes was.keep) (All-drop (Keeps key now refs) (suc i) indexes was.keep);
}

-- its references are of rows in use
pub live_refs : (types : List ColType) (key : ℕ) (now : Slots) (refs : List RowRef) (indexes : List Index)
    → IsKept types key now refs indexes → All (HasRow now) refs
live_refs types key now refs indexes was k d below = (was.held (get_or refs k d)).0 (Contains-get_or refs k d below)

-- references of rows in use have each column of the table
pub wide_refs : (types : List ColType) (column key : ℕ) (now : Slots) (refs : List RowRef)
    → ((at : RowRef) (row : List Value) → now at ≡ Live row → HasTypes types row) → column < length types → key < length types
    → All (HasRow now) refs → All (IsWide column key now) refs
wide_refs types column key now refs typed column_in key_in live k d below =
    wide_from types column key now (get_or refs k d) (live k d below) (typed (get_or refs k d)) column_in key_in
