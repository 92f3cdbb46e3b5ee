-- The references found by a look-up or by a walk over the key.
use Rattle.std.proofs.Common.{◌≡◌, ℕ, ◌<◌, true, List, [], ◌∷◌, ◌++◌, length, get_or, Some, None, Option, refl, sym, ap, ◌∙◌, subst, arith}
use Rattle.std.specs.Prelude.{pos}
use Rattle.std.specs.List.{All, filter}
use Rattle.std.specs.List.Sorted.{IsPermutation}
use Rattle.std.specs.Option.{option_cmp}
use Rattle.std.specs.Ordering.{is_eq}
use Rattle.std.proofs.lemmas.List.Elements.{All-filter, Contains-get_or}
use Rattle.std.proofs.lemmas.List.Sorted.{All-permutation, IsPermutation-sym}
use Rattle.std.proofs.lemmas.Option.{slice_get-get_or}
use Rattle.mm_partition.specs.Places.{IsLive, slot_at, row_in}
use Rattle.mm_indexed.proofs.Typed.{HasTypes-length}
use Rattle.mm_indexed.specs.Kept.{IsKept, StoredRows}
use Rattle.mm_indexed.specs.Reads.{Appends, AreMatches, IsRange, has_value}
use Rattle.mm_row_order.specs.Refs.{Slots, row_at}
use Rattle.mm_indexed.specs.declared.indexes.index.Index.{Index}
use Rattle.mm_store.specs.Looked.{IsIndexOn}
use Rattle.mm_store.specs.declared.index_ref.IndexRef.{IndexRef}
use Rattle.mm_store.specs.declared.index_ref.IndexRef.TheVariants.{Key, Tree, Hash}
use Rattle.mm_value.specs.Order.{value_cmp}
use Rattle.mm_value.specs.declared.row_ref.RowRef.{RowRef}
use Rattle.mm_value.specs.declared.values.Value.{Value}
use Rattle.mm_value.specs.declared.values.Value.TheVariants.{Int}
use Rattle.mm_delta.specs.Candidates.{Required, passes}
use Rattle.mm_delta.proofs.Goes.{filter_same}
use Rattle.mm_store.proofs.Looked.{any_of}

pub filter_everything : {X : Type 0} (xs : List X) → filter (λ x. true) xs ≡ xs
filter_everything [] = refl
filter_everything (x ∷ xs) = ap (λ l. x ∷ l) (filter_everything xs)

module _ (stored : StoredRows) (was : IsKept stored.places.types stored.key (slot_at stored.places) stored.refs stored.indexes) where
  abbrev now : Slots
  now = slot_at stored.places

  -- the rows that have the required value
  abbrev pub Finds : Option Required → List RowRef → Type 0
  Finds required found = IsPermutation found (filter (λ at. passes required (row_at now at)) stored.refs)

  column_in : (column : ℕ) (index : IndexRef) → IsIndexOn stored column index → column < length stored.places.types
  column_in column Key is = subst (λ n. n < length stored.places.types) (sym is) was.key_in
  column_in column (Tree place) has =
      let d : Index = any_of stored.indexes place has.0 in subst (λ n. n < length stored.places.types) (has.1 d).0 (was.columns place d has.0)
  column_in column (Hash place) has =
      let d : Index = any_of stored.indexes place has.0 in subst (λ n. n < length stored.places.types) (has.1 d).0 (was.columns place d has.0)

  all_live : All (IsLive stored.places) stored.refs
  all_live k d within = (was.held (get_or stored.refs k d)).0 (Contains-get_or stored.refs k d within)

  same_value : (column : ℕ) (value : Value) → column < length stored.places.types
      → All (λ at. has_value column now value at ≡ passes (Some (column, value)) (row_at now at)) stored.refs
  same_value column value within k d below =
      let at : RowRef = get_or stored.refs k d in
      let live = all_live k d below in
      let wide : length (row_at now at) ≡ length stored.places.types =
      ap (λ c. length (row_in c)) live.1 ∙ HasTypes-length stored.places.types live.0 (was.typed at live.0 live.1) in
      ap (λ o. is_eq (option_cmp value_cmp o (Some value))) (slice_get-get_or (row_at now at) column (Int (pos 0)) (omega (arith, within, wide)))

  -- A look-up appends to an empty list exactly the rows with the value.
  pub found_by_value : (column : ℕ) (index : IndexRef) (value : Value) (old new : List RowRef) → IsIndexOn stored column index → old ≡ []
      → Appends (AreMatches column now value stored.refs) old new → Finds (Some (column, value)) new
  found_by_value column index value old new on empty (found, is, same) =
      subst (IsPermutation new) (filter_same (has_value column now value) (λ at. passes (Some (column, value)) (row_at now at)) stored.refs
      (same_value column value (column_in column index on)))
      (subst (λ l. IsPermutation l (filter (has_value column now value) stored.refs)) (sym (is ∙ ap (λ l. l ++ found) empty)) same)

  -- A walk over the whole key appends to an empty list all rows.
  pub found_by_key : (old new : List RowRef) → old ≡ [] → Appends (IsRange stored.key stored None None) old new → Finds None new
  found_by_key old new empty (found, is, range) =
      let all : new ≡ range.0 = is ∙ ap (λ l. l ++ found) empty ∙ range.2 ∙ filter_everything range.0 in
      subst (IsPermutation new) (sym (filter_everything stored.refs)) (subst (λ l. IsPermutation l stored.refs) (sym all) range.1.same)

  pub found_live : (required : Option Required) (found : List RowRef) → Finds required found → All (IsLive stored.places) found
  found_live required found same =
      All-permutation (IsLive stored.places) (filter (λ at. passes required (row_at now at)) stored.refs) found
      (IsPermutation-sym found (filter (λ at. passes required (row_at now at)) stored.refs) same)
      (All-filter (λ at. passes required (row_at now at)) (IsLive stored.places) stored.refs all_live)
