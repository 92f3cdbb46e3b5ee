-- The contributions of the places of FROM to a change.
use Rattle.std.proofs.Common.{◌≡◌, ℕ, zero, suc, ◌+◌, ◌<◌, ◌≤◌, ◌==◌, ℤ, pos, ◌-ℤ◌, Bool, true, false, cond, not, List, [], ◌∷◌, ◌++◌, get_or, length, map}
use Rattle.std.proofs.Common.{refl, sym, ap, ◌∙◌, arith}
use Rattle.std.specs.List.{All, filter, range_with_len, sum_by}
use Rattle.std.specs.Option.{option_map_or}
use Rattle.std.proofs.lemmas.Int.{ints}
use Rattle.std.proofs.lemmas.List.{length-map}
use Rattle.std.proofs.lemmas.List.FromFn.{map-range_with_len_more}
use Rattle.std.proofs.lemmas.List.Sums.{sum_by-append, sum_by-cons, sum_by_push}
use Rattle.mm_partition.specs.Places.{slot_at}
use Rattle.mm_store.specs.Joined.{IsTable}
use Rattle.mm_store.specs.Edits.{rows_after, rows_come, rows_gone}
use Rattle.mm_indexed.specs.Kept.{StoredRows}
use Rattle.mm_row_order.specs.Refs.{row_at}
use Rattle.mm_indexed.specs.RowLists.{rows_of}
use Rattle.mm_tables.specs.declared.edit.Edit.{Edit}
use Rattle.mm_store.specs.Tables.{IsAt, Tables}
use Rattle.mm_value.specs.declared.values.Value.{Value}
use Rattle.mm_query.specs.Queries.{bag_of}
use Rattle.mm_query.specs.declared.bound_query.BoundQuery.{BoundQuery}
use Rattle.mm_multiset.specs.Counts.{Entries, count_in, count_of}
use Rattle.mm_delta.specs.Edited.{after_at, before_at, come_at, edits_at, gone_at, old_slots}
use Rattle.mm_delta.specs.Steps.{EachFit, HasTables, row_reads}
use Rattle.mm_delta.specs.Terms.{lists_around}
use Rattle.mm_delta.specs.Walk.{other_places}
use Rattle.mm_delta.specs.declared.edited.TableChange.{TableChange}
use Rattle.mm_delta.proofs.ByRows.{count_by_rows}
use Rattle.mm_delta.proofs.SumOfTerms.{half, half_all, one_place}
use Rattle.mm_delta.proofs.Goes.{edits_balance}
use Rattle.mm_delta.proofs.OldSlots.{gone_rows}
use Rattle.mm_delta.proofs.Sums.{Balance, sum_by-map}
use Rattle.mm_delta.proofs.UnseenEdits.{same_count, seen_balance, seen_come, seen_gone}

-- ---- the edited rows

-- The old rows, by the relation of the table.
pub gone_is : (store : Tables) (changes : List TableChange) (table : ℕ) (stored : StoredRows) → IsAt store table stored
    → gone_at store changes table ≡ map (row_at (slot_at stored.places)) (old_slots (edits_at changes table))
gone_is store changes table stored at =
    ap (λ o. option_map_or (λ (s : StoredRows). rows_gone (slot_at s.places) (edits_at changes table)) o []) at
    ∙ gone_rows (slot_at stored.places) (edits_at changes table)

-- The new rows, likewise.
pub come_is : (store : Tables) (changes : List TableChange) (table : ℕ) (stored : StoredRows) → IsAt store table stored
    → come_at store changes table ≡ rows_come (slot_at stored.places) (edits_at changes table)
come_is store changes table stored at =
    ap (λ o. option_map_or (λ (s : StoredRows). rows_come (slot_at s.places) (edits_at changes table)) o []) at

-- The rows of a table after the change plus the old rows are those before it plus the new rows.
pub table_balance : (store : Tables) (changes : List TableChange) (table : ℕ) (stored : StoredRows) → IsAt store table stored
    → IsTable stored → EachFit store changes
    → Balance (after_at store changes table) (gone_at store changes table) (before_at store table) (come_at store changes table)
table_balance store changes table stored at is_table fit f =
    let after_is : after_at store changes table ≡ rows_after stored (edits_at changes table) =
    ap (λ o. option_map_or (λ (s : StoredRows). rows_after s (edits_at changes table)) o []) at in
    let before_is : before_at store table ≡ rows_of stored = ap (λ o. option_map_or rows_of o []) at in
    omega (
      arith,
      ap (sum_by f) after_is,
      ap (sum_by f) before_is,
      ap (sum_by f) (gone_is store changes table stored at),
      ap (sum_by f) (come_is store changes table stored at),
      edits_balance stored is_table (edits_at changes table) (fit table stored at) f,
    )

-- ---- the other places

tables_from : (tables : List ℕ) (store : Tables) (k i n : ℕ) → i + n ≤ length tables → All (λ table. table < length store.tables) tables
    → HasTables tables store (filter (λ j. not (j == k)) (range_with_len i n))
tables_from tables store k i zero h all = tt
tables_from tables store k i (suc n) h all =
    kept (i == k) (omega (arith, h), all i 0 (omega (arith, h))) (tables_from tables store k (i + 1) n (omega (arith, h)) all)
  where
    kept : (b : Bool) → ((i < length tables) × (get_or tables i 0 < length store.tables))
        → HasTables tables store (filter (λ j. not (j == k)) (range_with_len (i + 1) n))
        → HasTables tables store (cond (not b) (i ∷ filter (λ j. not (j == k)) (range_with_len (i + 1) n))
        (filter (λ j. not (j == k)) (range_with_len (i + 1) n)))
    kept true here rest = rest
    kept false here rest = (here, rest)

-- Each other place has its table.
pub others_there : (tables : List ℕ) (store : Tables) (k : ℕ) → All (λ table. table < length store.tables) tables
    → HasTables tables store (other_places (length tables) k)
others_there tables store k all = tables_from tables store k 0 (length tables) (omega arith) all

-- ---- one place

-- The contribution of some edited rows, if the store equals the one before.
pub term_count : (q : BoundQuery) (store now : Tables) (changes : List TableChange) (tables : List ℕ) (k : ℕ) (row : List Value)
    (edited rows : List (List Value)) (old new : ℕ) → now ≡ store → rows ≡ edited
    → new ≡ old + sum_by (λ x. count_of row (bag_of q (lists_around 0 (after_at now changes) (λ _. x ∷ []) (before_at now) tables k))) rows
    → new ≡ old + sum_by (λ x. count_of row (bag_of q (lists_around 0 (after_at store changes) (λ _. x ∷ []) (before_at store) tables k))) edited
term_count q store now changes tables k row edited rows old new same is h =
    h
    ∙ (λ i. old + sum_by (λ x. count_of row (bag_of q (lists_around 0 (after_at (same i) changes) (λ _. x ∷ []) (before_at (same i)) tables k))) (is i))

-- The contribution of the rows that the query reads, new minus old, is that of all edited rows.
pub net_count : (q : BoundQuery) (store : Tables) (changes : List TableChange) (tables : List ℕ) (k : ℕ) (stored : StoredRows) → k < length tables
    → IsAt store (get_or tables k 0) stored → (row : List Value) (comes comes' goes goes' : ℕ)
    → goes' ≡ goes + sum_by (λ x. count_of row (bag_of q (lists_around 0 (after_at store changes) (λ _. x ∷ []) (before_at store) tables k)))
    (seen_gone q k (slot_at stored.places) (edits_at changes (get_or tables k 0)))
    → comes' ≡ comes + sum_by (λ x. count_of row (bag_of q (lists_around 0 (after_at store changes) (λ _. x ∷ []) (before_at store) tables k)))
    (seen_come q k (slot_at stored.places) (edits_at changes (get_or tables k 0)))
    → comes' + goes + count_of row (bag_of q (lists_around 0 (after_at store changes) (gone_at store changes) (before_at store) tables k))
    ≡ goes' + comes + count_of row (bag_of q (lists_around 0 (after_at store changes) (come_at store changes) (before_at store) tables k))
net_count q store changes tables k stored within at row comes comes' goes goes' g c =
    let adds : List Value → ℕ = λ x. count_of row (bag_of q (lists_around 0 (after_at store changes) (λ _. x ∷ []) (before_at store) tables k)) in
    omega (
      arith,
      g,
      c,
      seen_balance q k (slot_at stored.places) adds
          (λ x y alike. same_count q (after_at store changes) (before_at store) tables k row x y within alike) (edits_at changes (get_or tables k 0)),
      count_by_rows q (after_at store changes) (gone_at store changes) (before_at store) tables k row,
      count_by_rows q (after_at store changes) (come_at store changes) (before_at store) tables k row,
      ap (sum_by adds) (gone_is store changes (get_or tables k 0) stored at),
      ap (sum_by adds) (come_is store changes (get_or tables k 0) stored at),
    )

-- The rows read for them, likewise.
pub reads_same : (q : BoundQuery) (store now : Tables) (changes : List TableChange) (tables : List ℕ) (skipped : ℕ → List Value → Bool) (k : ℕ)
    (rows edited : List (List Value))
    → now ≡ store → rows ≡ edited → sum_by (row_reads q now changes tables skipped k) rows ≡ sum_by (row_reads q store changes tables skipped k) edited
reads_same q store now changes tables skipped k rows edited same is = λ i. sum_by (row_reads q (same i) changes tables skipped k) (is i)

ones : (f : List Value → ℕ) (xs : List (List Value)) → sum_by (λ x. 1 + f x) xs ≡ length xs + sum_by f xs
ones f [] = refl
ones f (x ∷ xs) = omega (arith, ones f xs, sum_by-cons f x xs, sum_by-cons (λ y. 1 + f y) x xs)

-- The bound of a place's reads, by parts.
pub bound_is : (f : List Value → ℕ) (gone come : List (List Value))
    → sum_by (λ x. 1 + f x) (gone ++ come) ≡ (length gone + sum_by f gone) + (length come + sum_by f come)
bound_is f gone come = omega (arith, sum_by-append (λ x. 1 + f x) gone come, ones f gone, ones f come)

-- There are as many old rows as edits that name one.
pub gone_length : (store : Tables) (changes : List TableChange) (table : ℕ) (stored : StoredRows) → IsAt store table stored → (edits : List Edit)
    → edits ≡ edits_at changes table → length (old_slots edits) ≡ length (gone_at store changes table)
gone_length store changes table stored at edits is =
    ap (λ e. length (old_slots e)) is
    ∙ sym (ap length (gone_is store changes table stored at) ∙ length-map (old_slots (edits_at changes table)) (row_at (slot_at stored.places)))

-- ---- place by place

-- Two empty bags balance.
pub counts_none : (row : List Value) (comes goes : Entries) (n : ℕ) → comes ≡ [] → goes ≡ [] → count_in row comes + n ≡ count_in row goes + n
counts_none row comes goes n e f = ap (λ es. count_in row es + n) (e ∙ sym f)

-- A sum over one more place.
pub range_more : (f : ℕ → ℕ) (k : ℕ) → sum_by f (range_with_len 0 (k + 1)) ≡ sum_by f (range_with_len 0 k) + f k
range_more f k =
    sym (sum_by-map (λ n. n) f (range_with_len 0 (k + 1)))
    ∙ ap (sum_by (λ n. n)) (map-range_with_len_more f 0 k k (omega arith))
    ∙ sum_by_push (λ n. n) (map f (range_with_len 0 k)) (f k)
    ∙ ap (λ n. n + f k) (sum_by-map (λ n. n) f (range_with_len 0 k))

-- A sum over fewer places is no more.
pub range_le : (f : ℕ → ℕ) (k more : ℕ) → sum_by f (range_with_len 0 k) ≤ sum_by f (range_with_len 0 (k + more))
range_le f k zero = omega (arith, ap (λ n. sum_by f (range_with_len 0 n)) (plus_none k))
  where
    plus_none : (n : ℕ) → n + 0 ≡ n
    plus_none n = omega arith
range_le f k (suc more) =
    omega (arith, range_le f k more, range_more f (k + more), ap (λ n. sum_by f (range_with_len 0 n)) (one_on k more))
  where
    one_on : (k more : ℕ) → k + suc more ≡ (k + more) + 1
    one_on k more = omega arith

module _ (q : BoundQuery) (store : Tables) (changes : List TableChange) (tables : List ℕ) (row : List Value) where
  abbrev pub halfway : ℕ → ℕ
  halfway k = count_of row (bag_of q (half 0 (after_at store changes) (before_at store) tables k))

  abbrev pub added : (ℕ → List (List Value)) → ℕ → ℕ
  added edited k = count_of row (bag_of q (lists_around 0 (after_at store changes) edited (before_at store) tables k))

  -- One more place.
  pub counts_more : (k : ℕ) (stored : StoredRows) (first comes comes' goes goes' : ℕ) → k < length tables → IsAt store (get_or tables k 0) stored
      → IsTable stored → EachFit store changes
      → comes + first ≡ goes + halfway k → comes' + goes + added (gone_at store changes) k ≡ goes' + comes + added (come_at store changes) k
      → comes' + first ≡ goes' + halfway (k + 1)
  counts_more k stored first comes comes' goes goes' within at is_table fit so_far net =
      omega (
        arith,
        so_far,
        net,
        one_place 0 q (before_at store) (after_at store changes) (gone_at store changes) (come_at store changes) tables row k within
            (table_balance store changes (get_or tables k 0) stored at is_table fit),
        ap halfway (next k),
      )
    where
      next : (k : ℕ) → k + 1 ≡ suc k
      next k = omega arith

  -- All places.
  pub counts_all : (k comes goes : ℕ) (signed : ℤ) → k ≡ length tables → comes + count_of row (bag_of q (map (before_at store) tables)) ≡ goes + halfway k
      → signed ≡ pos comes -ℤ pos goes
      → signed ≡ pos (count_of row (bag_of q (map (after_at store changes) tables))) -ℤ pos (count_of row (bag_of q (map (before_at store) tables)))
  counts_all k comes goes signed all so_far is =
      omega (
        arith,
        ints,
        so_far,
        is,
        ap halfway all ∙ ap (λ l. count_of row (bag_of q l)) (half_all 0 (after_at store changes) (before_at store) tables),
      )
