-- The rows after the edits of a command are the rows before, changed by the pairs of the edits.
use Rattle.std.proofs.Common.{◌≡◌, ◌≢◌, ℕ, suc, ◌<◌, ◌⊎◌, ⊎_elim, Bool, true, false, ◌||◌}
use Rattle.std.proofs.Common.{List, [], ◌∷◌, ◌++◌, length, map, get_or, refl, sym, ap, ap₂, ◌∙◌, subst, arith}
use Rattle.std.specs.Prelude.{IsPermutation}
use Rattle.std.specs.List.{All, Contains, filter, filter_map, list_any}
use Rattle.std.specs.Ordering.{is_eq, ordering_then}
use Rattle.std.specs.declared.cmp.Ordering.{Ordering}
use Rattle.std.specs.declared.cmp.Ordering.TheVariants.{Less, Equal, Greater}
use Rattle.std.proofs.lemmas.Bool.{or_parts, or_from, cases_Bool, cases_order, false≢true}
use Rattle.std.proofs.lemmas.List.{get_or_default, get_or-map, length-map}
use Rattle.std.proofs.lemmas.List.Elements.{All-head, All-tail, Contains-get_or}
use Rattle.std.proofs.lemmas.List.Kept.{AllPairs-cons}
use Rattle.std.proofs.lemmas.List.Sorted.{IsPermutation-append_left, IsPermutation-map, IsPermutation-sym, IsPermutation-trans}
use Rattle.mm_value.proofs.SameRows.{rows_exact}
use Rattle.mm_value.specs.Equality.{same_row}
use Rattle.mm_value.specs.declared.col_type.ColType.{ColType}
use Rattle.mm_value.specs.declared.row_ref.RowRef.{RowRef}
use Rattle.mm_value.specs.declared.values.Value.{Value}
use Rattle.mm_schema.specs.Rows.{IsInKeyOrder, Pair, changed, column_cmp, has_duplicate_keys, same_in_column, unsorted}
use Rattle.mm_schema.specs.Sorting.{in_order}
use Rattle.mm_schema.proofs.Duplicates.{column_cmp_total, has_duplicate_keys-IsPermutation}
use Rattle.mm_schema.proofs.InOrder.{IsPermutation-in_order, IsStrictlySortedBy-in_order, in_order_is}
use Rattle.mm_schema.proofs.Orderings.{equal_from_is_eq}
use Rattle.mm_schema.proofs.StrictOrder.{IsStrictlySortedBy-from_neighbours}
use Rattle.mm_partition.specs.Places.{slot_at}
use Rattle.mm_row_order.specs.InOrder.{InOrder, KeysApart}
use Rattle.mm_row_order.specs.Refs.{Slots, row_at}
use Rattle.mm_indexed.specs.Kept.{IsKept, StoredRows}
use Rattle.mm_indexed.specs.RowLists.{rows_of}
use Rattle.mm_indexed.specs.Twins.{AreApart}
use Rattle.mm_indexed.specs.declared.indexes.index.Index.{Index}
use Rattle.mm_indexed.proofs.Apart.{strict_rows}
use Rattle.mm_indexed.proofs.Bags.{IsPermutation-filter}
use Rattle.mm_indexed.proofs.Building.{distinct}
use Rattle.mm_tables.specs.Edits.{Fits}
use Rattle.mm_tables.specs.Commands.{after, IsCommand}
use Rattle.mm_tables.specs.declared.edit.Edit.{Edit}
use Rattle.mm_tables.specs.declared.edit.Edit.TheVariants.{Stage, Insert, Update, Move, Delete}
use Rattle.mm_tables.proofs.Slots.{equal_turns}
use Rattle.mm_base.specs.EditPairs.{edit_pairs, rows_with}
use Rattle.mm_base.specs.RowLists.{live_references, rows_in, AreSmall}
use Rattle.mm_base.proofs.AfterEdits.{stays_in, came, kept, AreReferences-after, rows_after}
use Rattle.mm_base.proofs.References.{AreReferences, AreReferences-live, IsPermutation-references, none_in, one_of}

-- ---- two rows with one key

module _ (key : ℕ) (now : Slots) where
  -- a reference, and others whose rows have other keys
  none_alike : (r : RowRef) (rs : List RowRef) → All (λ b. column_cmp key (row_at now r) (row_at now b) ≢ Equal) rs
      → list_any (same_in_column key (row_at now r)) (map (row_at now) rs) ≡ false
  none_alike r [] apart = refl
  none_alike r (b ∷ bs) apart =
      or_from _ _
      (⊎_elim
      (λ (same : same_in_column key (row_at now r) (row_at now b) ≡ true).
      absurd (All-head (λ x. column_cmp key (row_at now r) (row_at now x) ≢ Equal) b bs apart (equal_from_is_eq _ same)))
      (λ (differs : same_in_column key (row_at now r) (row_at now b) ≡ false). differs)
      (cases_Bool (same_in_column key (row_at now r) (row_at now b))))
      (none_alike r bs (All-tail (λ x. column_cmp key (row_at now r) (row_at now x) ≢ Equal) b bs apart))

  -- rows with distinct keys have no duplicates ..
  pub none_from_apart : (refs : List RowRef) → KeysApart key now refs → has_duplicate_keys key (map (row_at now) refs) ≡ false
  none_from_apart [] apart = refl
  none_from_apart (r ∷ rs) apart =
      or_from _ _ (none_alike r rs (λ k d within. apart 0 (suc k) d (omega arith) (omega arith)))
      (none_from_apart rs (λ i j d before within. apart (suc i) (suc j) d (omega arith) (omega arith)))

  or_true : (b : Bool) → (b || true) ≡ true
  or_true true = refl
  or_true false = refl

  any_here : (p : List Value → Bool) (rs : List RowRef) (b : RowRef) → Contains rs b → p (row_at now b) ≡ true → list_any p (map (row_at now) rs) ≡ true
  any_here p [] b here is = absurd (none_in b here)
  any_here p (x ∷ xs) b here is =
      ⊎_elim
      (λ (same : x ≡ b). ap (λ t. t || list_any p (map (row_at now) xs)) (ap (λ r. p (row_at now r)) same ∙ is))
      (λ (later : Contains xs b). ap (λ t. p (row_at now x) || t) (any_here p xs b later is) ∙ or_true (p (row_at now x)))
      (one_of b x xs here)

  -- .. and conversely
  pub apart_from_none : (refs : List RowRef) → has_duplicate_keys key (map (row_at now) refs) ≡ false → KeysApart key now refs
  apart_from_none [] none = λ i j d before within. absurd (omega arith)
  apart_from_none (r ∷ rs) none =
      let parts = or_parts (list_any (same_in_column key (row_at now r)) (map (row_at now) rs)) (has_duplicate_keys key (map (row_at now) rs)) none in
      AllPairs-cons (λ a b. column_cmp key (row_at now a) (row_at now b) ≢ Equal) r rs
      (λ k d within same.
      false≢true (sym parts.0 ∙ any_here (same_in_column key (row_at now r)) rs (get_or rs k d) (Contains-get_or rs k d within) (ap is_eq same)))
      (apart_from_none rs parts.1)

  module _ (refs : List RowRef) (are : AreReferences now refs) where
    pub KeysApart-from : AreApart key now → KeysApart key now refs
    KeysApart-from apart i j d before within tie =
        let a : RowRef = get_or refs i d in
        let b : RowRef = get_or refs j d in
        apart b ((are.held b).0 (Contains-get_or refs j d within))
        (a, (are.held a).0 (Contains-get_or refs i d (omega arith)), are.apart i j d before within, tie)

    AreApart-from : KeysApart key now refs → AreApart key now
    AreApart-from keys at live (other, other_live, differ, tie) =
        let mine = (are.held at).1 live in
        let theirs = (are.held other).1 other_live in
        let other_at : get_or refs theirs.0 at ≡ other = get_or_default refs theirs.0 at other theirs.1 ∙ theirs.2 in
        ⊎_elim
        (λ (same : mine.0 ≡ theirs.0). differ (sym other_at ∙ (ap (λ n. get_or refs n at) (sym same) ∙ mine.2)))
        (λ (o : (mine.0 < theirs.0) ⊎ (theirs.0 < mine.0)).
        ⊎_elim
        (λ (less : mine.0 < theirs.0).
        keys mine.0 theirs.0 at less theirs.1
        (ap₂ (λ x y. column_cmp key (row_at now x) (row_at now y)) mine.2 other_at ∙ equal_turns key (row_at now other) (row_at now at) tie))
        (λ (more : theirs.0 < mine.0).
        keys theirs.0 mine.0 at more mine.1 (ap₂ (λ x y. column_cmp key (row_at now x) (row_at now y)) other_at mine.2 ∙ tie))
        o)
        (cases_order mine.0 theirs.0)

    -- the list has no two rows with one key exactly if no two rows in use have one
    pub none_if_apart : AreApart key now → has_duplicate_keys key (map (row_at now) refs) ≡ false
    none_if_apart apart = none_from_apart refs (KeysApart-from apart)

    pub apart_if_none : has_duplicate_keys key (map (row_at now) refs) ≡ false → AreApart key now
    apart_if_none none = AreApart-from (apart_from_none refs none)

-- ---- the rows of a table

less_alone : (o : Ordering) → ordering_then o o ≡ Less → o ≡ Less
less_alone Less e = refl
less_alone Equal e = e
less_alone Greater e = cc

pub AreReferences-kept : (types : List ColType) (key : ℕ) (now : Slots) (refs : List RowRef) (indexes : List Index) → IsKept types key now refs indexes
    → AreReferences now refs
AreReferences-kept types key now refs indexes is = record { apart = distinct key now refs is.by_key; held = is.held }

-- the row at a place is that of the reference there
at_place : (now : Slots) (refs : List RowRef) (r : RowRef) (i : ℕ) (d : List Value) → i < length refs
    → get_or (map (row_at now) refs) i d ≡ row_at now (get_or refs i r)
at_place now refs r i d within =
    get_or_default (map (row_at now) refs) i d (row_at now r) (omega (arith, within, length-map refs (row_at now)))
    ∙ get_or-map (row_at now) refs i r (row_at now r) within

in_key_order : (key : ℕ) (now : Slots) (refs : List RowRef) → InOrder key key now refs → KeysApart key now refs → IsInKeyOrder key (map (row_at now) refs)
in_key_order key now refs ordered apart =
    IsStrictlySortedBy-from_neighbours (column_cmp_total key) (map (row_at now) refs)
    (λ k d within.
    let below : suc k < length refs = omega (arith, within, length-map refs (row_at now)) in
    let r : RowRef = record { slot = 0 } in
    rw (at_place now refs r k d (omega (arith, below)), at_place now refs r (suc k) d below)
    (less_alone (column_cmp key (row_at now (get_or refs k r)) (row_at now (get_or refs (suc k) r)))
    (strict_rows key key now refs ordered apart k (suc k) r (omega arith) below)))

-- The rows of a table are those of its slots.
pub rows_of-slots : (stored : StoredRows) → IsKept stored.places.types stored.key (slot_at stored.places) stored.refs stored.indexes
    → AreSmall (slot_at stored.places) → AreApart stored.key (slot_at stored.places) → rows_of stored ≡ rows_in stored.key (slot_at stored.places)
rows_of-slots stored is small apart =
    let now : Slots = slot_at stored.places in
    let mine = AreReferences-kept stored.places.types stored.key now stored.refs stored.indexes is in
    let live = AreReferences-live now small in
    sym (in_order_is stored.key (map (row_at now) (live_references now)) (map (row_at now) stored.refs)
    (IsPermutation-map (row_at now) (live_references now) stored.refs (IsPermutation-references now (live_references now) stored.refs live mine))
    (in_key_order stored.key now stored.refs is.by_key (KeysApart-from stored.key now stored.refs mine apart)))

-- ---- the edits of a command

pub changed_unsorted : (key : ℕ) (pairs : List Pair) (rows : List (List Value)) → 0 < length pairs
    → changed key pairs rows ≡ in_order (column_cmp key) (unsorted key pairs rows)
changed_unsorted key [] rows some = absurd (omega arith)
changed_unsorted key (p ∷ ps) rows some = refl

pub some_pairs : (key : ℕ) (now : Slots) (e : Edit) (es : List Edit) → Fits key now e → 0 < length (edit_pairs now (e ∷ es))
some_pairs key now (Stage r) es fits = absurd fits
some_pairs key now (Insert r) es fits = omega arith
some_pairs key now (Update a b) es fits = omega arith
some_pairs key now (Move a b) es fits = omega arith
some_pairs key now (Delete r) es fits = omega arith

module _ (key : ℕ) (now : Slots) (apart : AreApart key now) (small : AreSmall now) where
  pub are : AreReferences now (live_references now)
  are = AreReferences-live now small

  pub sorted : IsPermutation (map (row_at now) (live_references now)) (rows_in key now)
  sorted = IsPermutation-in_order (column_cmp key) (map (row_at now) (live_references now))

  -- the references of the rows in use after the edits
  abbrev pub left : (edits : List Edit) → IsCommand key edits now → List RowRef
  left edits command = kept key now edits command apart (live_references now) are ++ came edits

  are_left : (edits : List Edit) (command : IsCommand key edits now) → AreReferences (after edits now) (left edits command)
  are_left edits command = AreReferences-after key now edits command apart (live_references now) are

  -- the changed rows before they are sorted are the rows afterwards
  unsorted_left : (edits : List Edit) (command : IsCommand key edits now)
      → IsPermutation (unsorted key (edit_pairs now edits) (rows_in key now)) (map (row_at (after edits now)) (left edits command))
  unsorted_left edits command =
      let pairs : List Pair = edit_pairs now edits in
      let rows : List (List Value) = map (row_at now) (live_references now) in
      let stays : List Value → Bool = stays_in key pairs in
      subst (IsPermutation (unsorted key pairs (rows_in key now))) (rows_after key now edits command apart (live_references now) are)
      (IsPermutation-append_left (filter_map (λ (p : Pair). p.1) pairs) (filter stays (rows_in key now)) (filter stays rows)
      (IsPermutation-filter same_row (λ a b. (rows_exact a b).0) (λ a. (rows_exact a a).1 refl) stays (rows_in key now) rows
      (IsPermutation-sym rows (rows_in key now) sorted)))

  pub changed_left : (edits : List Edit) (command : IsCommand key edits now)
      → IsPermutation (rows_with key now edits) (map (row_at (after edits now)) (left edits command))
  changed_left [] command =
      IsPermutation-trans (rows_in key now) (map (row_at now) (live_references now)) (map (row_at now) (left [] command))
      (IsPermutation-sym (map (row_at now) (live_references now)) (rows_in key now) sorted)
      (IsPermutation-map (row_at now) (live_references now) (left [] command)
      (IsPermutation-references now (live_references now) (left [] command) are (are_left [] command)))
  changed_left (e ∷ es) command =
      let rows : List (List Value) = unsorted key (edit_pairs now (e ∷ es)) (rows_in key now) in
      IsPermutation-trans (rows_with key now (e ∷ es)) rows (map (row_at (after (e ∷ es) now)) (left (e ∷ es) command))
      (subst (λ (xs : List (List Value)). IsPermutation xs rows)
      (sym (changed_unsorted key (edit_pairs now (e ∷ es)) (rows_in key now) (some_pairs key now e es (All-head (Fits key now) e es command.fits))))
      (IsPermutation-sym rows (in_order (column_cmp key) rows) (IsPermutation-in_order (column_cmp key) rows)))
      (unsorted_left (e ∷ es) command)

  -- No two rows have one key after the edits exactly if no two of the changed rows have one.
  pub none_if_apart-after : (edits : List Edit) → IsCommand key edits now → AreApart key (after edits now)
      → has_duplicate_keys key (rows_with key now edits) ≡ false
  none_if_apart-after edits command apart_after =
      has_duplicate_keys-IsPermutation key _ _ (changed_left edits command)
      ∙ none_if_apart key (after edits now) (left edits command) (are_left edits command) apart_after

  pub apart_if_none-after : (edits : List Edit) → IsCommand key edits now → has_duplicate_keys key (rows_with key now edits) ≡ false
      → AreApart key (after edits now)
  apart_if_none-after edits command none =
      apart_if_none key (after edits now) (left edits command) (are_left edits command)
      (sym (has_duplicate_keys-IsPermutation key _ _ (changed_left edits command)) ∙ none)

  pub duplicates_if_twins : (edits : List Edit) → IsCommand key edits now → (AreApart key (after edits now) → ⊥)
      → has_duplicate_keys key (rows_with key now edits) ≡ true
  duplicates_if_twins edits command twins =
      ⊎_elim
      (λ (yes : has_duplicate_keys key (rows_with key now edits) ≡ true). yes)
      (λ (no : has_duplicate_keys key (rows_with key now edits) ≡ false). absurd (twins (apart_if_none-after edits command no)))
      (cases_Bool (has_duplicate_keys key (rows_with key now edits)))

  -- The rows after the edits are the rows before, changed by the pairs of the edits.
  pub rows_in-after : (edits : List Edit) → IsCommand key edits now → AreApart key (after edits now) → AreSmall (after edits now)
      → rows_in key (after edits now) ≡ rows_with key now edits
  rows_in-after [] command apart_after small_after = refl
  rows_in-after (e ∷ es) command apart_after small_after =
      let then : Slots = after (e ∷ es) now in
      let rows : List (List Value) = unsorted key (edit_pairs now (e ∷ es)) (rows_in key now) in
      let fresh : List RowRef = live_references then in
      let are_fresh : AreReferences then fresh = AreReferences-live then small_after in
      let moved : IsPermutation rows (rows_in key then) =
      IsPermutation-trans rows (map (row_at then) (left (e ∷ es) command)) (rows_in key then) (unsorted_left (e ∷ es) command)
      (IsPermutation-trans (map (row_at then) (left (e ∷ es) command)) (map (row_at then) fresh) (rows_in key then)
      (IsPermutation-map (row_at then) (left (e ∷ es) command) fresh
      (IsPermutation-references then (left (e ∷ es) command) fresh (are_left (e ∷ es) command) are_fresh))
      (IsPermutation-in_order (column_cmp key) (map (row_at then) fresh))) in
      sym
      (changed_unsorted key (edit_pairs now (e ∷ es)) (rows_in key now) (some_pairs key now e es (All-head (Fits key now) e es command.fits))
      ∙ in_order_is key rows (rows_in key then) moved
      (IsStrictlySortedBy-in_order key (map (row_at then) fresh) (none_if_apart key then fresh are_fresh apart_after)))
