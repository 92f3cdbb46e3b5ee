-- The range from a key to itself, if no two rows have one key.
use Rattle.std.proofs.Common.{◌≡◌, ◌≢◌, ◌⊎◌, ℕ, zero, suc, ◌<◌, Bool, true, false, ◌&&◌, cond, List, [], ◌∷◌, ◌++◌, Option, None, Some, Result, Ok, Err}
use Rattle.std.proofs.Common.{get_or, length, append-nil, refl, sym, ap, ◌∙◌, subst, ⊎_elim, arith}
use Rattle.std.specs.Prelude.{◌↔◌, IfNone, IfSome, OnOk, slice_get}
use Rattle.std.specs.List.{All, Contains, filter}
use Rattle.std.specs.Option.{option_cmp}
use Rattle.std.specs.Ordering.{is_eq, is_ge, is_le}
use Rattle.std.specs.declared.cmp.Ordering.{Ordering}
use Rattle.std.specs.declared.cmp.Ordering.TheVariants.{Less, Equal, Greater}
use Rattle.std.proofs.lemmas.Bool.{cases_Bool, cases_order}
use Rattle.std.proofs.lemmas.List.{get_or_default}
use Rattle.std.proofs.lemmas.List.Elements.{filter_agree}
use Rattle.mm_order.specs.Probe.{entries_between, is_between}
use Rattle.mm_value.specs.Order.{value_cmp}
use Rattle.mm_value.specs.declared.row_ref.RowRef.{RowRef}
use Rattle.mm_value.specs.declared.values.Value.{Value}
use Rattle.mm_schema.proofs.Orderings.{equal_from_is_eq}
use Rattle.mm_schema.specs.Rows.{column_cmp}
use Rattle.mm_row_order.specs.InOrder.{KeysApart}
use Rattle.mm_row_order.specs.Ends.{end_place}
use Rattle.mm_indexed.specs.Reads.{IsOnly, has_value}
use Rattle.mm_row_order.specs.Refs.{Slots, HasRow, row_at}
use Rattle.mm_indexed.specs.Twins.{AreApart}
use Rattle.mm_indexed.proofs.RefTests.{same_or_apart}
use Rattle.mm_row_order.proofs.Seeks.{place_exact, place_own}

-- ---- one element that passes

module _ {X : Type 0} (p : X → Bool) where
  none_pass : (xs : List X) → ((k : ℕ) (d : X) → k < length xs → p (get_or xs k d) ≡ false) → filter p xs ≡ []
  none_pass [] none = refl
  none_pass (x ∷ xs) none =
      ap (λ b. cond b (x ∷ filter p xs) (filter p xs)) (none 0 x (omega arith)) ∙ none_pass xs (λ k d within. none (suc k) d (omega (arith, within)))

  one_passes : (xs : List X) (i : ℕ) (x : X) → i < length xs → get_or xs i x ≡ x → p x ≡ true
      → ((k : ℕ) (d : X) → k < length xs → k ≢ i → p (get_or xs k d) ≡ false) → filter p xs ≡ x ∷ []
  one_passes [] i x within is passes others = absurd (omega (arith, within))
  one_passes (y ∷ ys) zero x within is passes others =
      ap (λ b. cond b (y ∷ filter p ys) (filter p ys)) (ap p is ∙ passes)
      ∙ (λ j. is j ∷ none_pass ys (λ k d inside. others (suc k) d (omega (arith, inside)) (λ same. let no : ⊥ = omega (arith, same) in no)) j)
  one_passes (y ∷ ys) (suc i) x within is passes others =
      ap (λ b. cond b (y ∷ filter p ys) (filter p ys)) (others 0 y (omega arith) (λ same. let no : ⊥ = omega (arith, same) in no))
      ∙ one_passes ys i x (omega (arith, within)) is passes
      (λ k d inside apart. others (suc k) d (omega (arith, inside)) (λ same. apart (omega (arith, same))))

-- ---- the rows of a key

-- rows of one value compare equal
pub tied_by_value : (key : ℕ) (now : Slots) (value : Value) (a b : RowRef) → slice_get (row_at now a) key ≡ Some value
    → slice_get (row_at now b) key ≡ Some value → column_cmp key (row_at now a) (row_at now b) ≡ Equal
tied_by_value key now value a b is_a is_b =
    subst (λ (o : Option Value). option_cmp value_cmp (slice_get (row_at now a) key) o ≡ Equal) (sym is_b)
    (place_own (slice_get (row_at now a) key) value is_a)

-- if no two rows have one key, the row found is the only one with the key
pub found_only : (key : ℕ) (now : Slots) (value : Value) (refs : List RowRef) → ((r : RowRef) → Contains refs r ↔ HasRow now r) → AreApart key now
    → (found : Option RowRef) → IfSome found (Contains refs) → IfSome found (λ at. slice_get (row_at now at) key ≡ Some value)
    → IfSome found (IsOnly key now value)
found_only key now value refs held apart None here fits = tt
found_only key now value refs held apart (Some at) here fits = λ other live own.
    ⊎_elim
    (λ (same : other ≡ at). same)
    (λ (differ : other ≢ at). absurd (apart at ((held at).0 here) (other, live, differ, tied_by_value key now value other at own fits)))
    (same_or_apart other at)

-- a consequence, under a premise, of a success
pub OnOk-under : {T E : Type 0} (A P : Type 0) (result : Result T E) → (A → OnOk result P) → OnOk result (A → P)
OnOk-under A P (Err error) holds = tt
OnOk-under A P (Ok done) holds = holds

pub not_apart : (o : Ordering) → (is_ge o && is_le o) ≡ is_eq o
not_apart Less = refl
not_apart Equal = refl
not_apart Greater = refl

module _ (key : ℕ) (now : Slots) (refs : List RowRef) (keys_apart : KeysApart key now refs) (value : Value) where
  abbrev has : RowRef → Bool
  has = has_value key now value

  matches : entries_between (end_place key now (Some value)) (end_place key now (Some value)) refs ≡ filter has refs
  matches = filter_agree (is_between (end_place key now (Some value)) (end_place key now (Some value))) has
      (λ at. not_apart (end_place key now (Some value) at)) refs

  key_of : (r : RowRef) → has r ≡ true → slice_get (row_at now r) key ≡ Some value
  key_of r passes =
      place_exact (slice_get (row_at now r) key) value
      (equal_from_is_eq (option_cmp value_cmp (slice_get (row_at now r) key) (Some value)) passes)

  -- If no row has the key, the range is empty.
  pub none_of_key : All (λ at. slice_get (row_at now at) key ≢ Some value) refs
      → entries_between (end_place key now (Some value)) (end_place key now (Some value)) refs ≡ []
  none_of_key none = matches ∙ none_pass has refs (λ k d within. ⊎_elim
      (λ (passes : has (get_or refs k d) ≡ true). absurd (none k d within (key_of (get_or refs k d) passes)))
      (λ (fails : has (get_or refs k d) ≡ false). fails)
      (cases_Bool (has (get_or refs k d))))

  module _ (at : RowRef) (place : Contains refs at) (own : slice_get (row_at now at) key ≡ Some value) where
    own_at : (d : RowRef) → get_or refs place.0 d ≡ at
    own_at d = get_or_default refs place.0 d at place.1 ∙ place.2

    apart : (k : ℕ) (d : RowRef) → k < length refs → k ≢ place.0 → has (get_or refs k d) ≡ true → ⊥
    apart k d within other passes =
        let mine = key_of (get_or refs k d) passes in
        let theirs = subst (λ r. slice_get (row_at now r) key ≡ Some value) (sym (own_at d)) own in
        ⊎_elim
        (λ (same : k ≡ place.0). other same)
        (λ (o : (k < place.0) ⊎ (place.0 < k)). ⊎_elim
        (λ (less : k < place.0). keys_apart k place.0 d less place.1
        (tied_by_value key now value (get_or refs k d) (get_or refs place.0 d) mine theirs))
        (λ (more : place.0 < k). keys_apart place.0 k d more within
        (tied_by_value key now value (get_or refs place.0 d) (get_or refs k d) theirs mine)) o)
        (cases_order k place.0)

    -- If a row has the key, the range is exactly that row.
    pub one_of_key : entries_between (end_place key now (Some value)) (end_place key now (Some value)) refs ≡ at ∷ []
    one_of_key = matches ∙ one_passes has refs place.0 at place.1 place.2 (ap is_eq (place_own (slice_get (row_at now at) key) value own))
        (λ k d within other. ⊎_elim
        (λ (passes : has (get_or refs k d) ≡ true). absurd (apart k d within other passes))
        (λ (fails : has (get_or refs k d) ≡ false). fails)
        (cases_Bool (has (get_or refs k d))))

  -- So the result of a search by the key is that range.
  pub pushed_key : {T E : Type 0} (result : Result T E) (found : Option RowRef) (old new : List RowRef) → IfSome found (Contains refs)
      → IfSome found (λ at. slice_get (row_at now at) key ≡ Some value) → IfNone found (All (λ at. slice_get (row_at now at) key ≢ Some value) refs)
      → OnOk result (IfSome found (λ at. new ≡ old ++ at ∷ [])) → OnOk result (IfNone found (new ≡ old))
      → OnOk result (new ≡ old ++ entries_between (end_place key now (Some value)) (end_place key now (Some value)) refs)
  pushed_key (Err error) found old new held fits none some nothing = tt
  pushed_key (Ok done) (Some at) old new held fits none some nothing = some ∙ ap (λ l. old ++ l) (sym (one_of_key at held fits))
  pushed_key (Ok done) None old new held fits none some nothing = nothing ∙ (sym (append-nil old) ∙ ap (λ l. old ++ l) (sym (none_of_key none)))
