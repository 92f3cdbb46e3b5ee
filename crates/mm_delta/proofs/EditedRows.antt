-- Edited rows are rows of their table, before the change or after it.
use Rattle.std.proofs.Common.{◌≡◌, ℕ, ◌<◌, ◌≤◌, inl, inr, cond, List, [], get_or, length, map, sym, ap, subst, ◌∙◌, arith}
use Rattle.std.specs.List.{All, Contains}
use Rattle.std.specs.Option.{option_map_or}
use Rattle.std.proofs.lemmas.List.{get_or-map, length-map}
use Rattle.std.proofs.lemmas.List.Elements.{All-map}
use Rattle.std.proofs.lemmas.List.Sums.{get_or-le-sum_by}
use Rattle.mm_partition.specs.Places.{slot_at}
use Rattle.mm_store.specs.Edits.{rows_after}
use Rattle.mm_indexed.specs.Kept.{StoredRows}
use Rattle.mm_row_order.specs.Refs.{row_at}
use Rattle.mm_indexed.specs.RowLists.{rows_of}
use Rattle.mm_store.proofs.Shown.{table_seen}
use Rattle.mm_store.specs.Joined.{IsTable}
use Rattle.mm_store.specs.Seen.{Seen}
use Rattle.mm_store.specs.Tables.{IsAt, Tables}
use Rattle.mm_value.specs.declared.row_ref.RowRef.{RowRef}
use Rattle.mm_value.specs.Equality.{same_row}
use Rattle.mm_value.specs.EqualityLaws.{same_row_equiv}
use Rattle.mm_value.proofs.SameRows.{rows_exact}
use Rattle.mm_multiset.specs.Counts.{count_of}
use Rattle.mm_delta.specs.Edited.{after_at, before_at, come_at, edits_at, gone_at, old_slots}
use Rattle.mm_delta.specs.Skipping.{IsRowOf}
use Rattle.mm_delta.specs.Steps.{EachFit}
use Rattle.mm_delta.specs.declared.edited.TableChange.{TableChange}
use Rattle.mm_delta.proofs.Found.{Row, Rows}
use Rattle.mm_delta.proofs.Goes.{after_edits}
use Rattle.mm_delta.proofs.Reordering.{place_of}
use Rattle.mm_delta.proofs.OldSlots.{old_live}
use Rattle.mm_delta.proofs.Terms.{come_is, gone_is}

-- A row of a list is counted there ..
counted_there : (rows : Rows) (i : ℕ) (d : Row) → i < length rows → 1 ≤ count_of (get_or rows i d) rows
counted_there rows i d inside =
    let row : Row = get_or rows i d in
    omega (arith, get_or-le-sum_by (λ r. cond (same_row row r) 1 0) rows i d inside, ap {B = ℕ} (λ b. cond b 1 0) (same_row_equiv.refl row))

-- .. and a counted row is in it.
stands_where_counted : (rows : Rows) (row : Row) → 1 ≤ count_of row rows → Contains rows row
stands_where_counted rows row counted =
    let place = place_of row rows (omega arith) in
    (place.0, place.1, sym ((rows_exact row (get_or rows place.0 row)).0 place.2))

mapped_there : (f : RowRef → Row) (refs : List RowRef) (at : RowRef) → Contains refs at → Contains (map f refs) (f at)
mapped_there f refs at (k, within, is) = (k, omega (arith, within, length-map refs f), get_or-map f refs k at (f at) within ∙ ap f is)

module _ (seen : Seen) (changes : List TableChange) (table : ℕ) (stored : StoredRows) (at : IsAt seen.store table stored) (fit : EachFit seen.store changes)
  where
    abbrev store : Tables
    store = seen.store

    is_table : IsTable stored
    is_table = table_seen seen table stored at

    -- An old row is one before the change.
    pub gone_are_rows : All (IsRowOf store changes table) (gone_at store changes table)
    gone_are_rows =
        subst (All (IsRowOf store changes table)) (sym (gone_is store changes table stored at))
        (All-map (IsRowOf store changes table) (row_at (slot_at stored.places)) (old_slots (edits_at changes table))
        (λ k d within.
        let gone : RowRef = get_or (old_slots (edits_at changes table)) k d in
        let before_is : before_at store table ≡ rows_of stored = ap (λ o. option_map_or rows_of o []) at in
        inl (subst (λ l. Contains l (row_at (slot_at stored.places) gone)) (sym before_is)
        (mapped_there (row_at (slot_at stored.places)) stored.refs gone ((is_table.kept.held gone).1
        (old_live stored.key (slot_at stored.places) (edits_at changes table) (fit table stored at).fits k d within))))))

    -- A new row is one after the change.
    pub come_are_rows : All (IsRowOf store changes table) (come_at store changes table)
    come_are_rows k d within =
        let row : Row = get_or (come_at store changes table) k d in
        let after_is : after_at store changes table ≡ rows_after stored (edits_at changes table) =
        ap (λ o. option_map_or (λ (s : StoredRows). rows_after s (edits_at changes table)) o []) at in
        inr (stands_where_counted (after_at store changes table) row
        (omega (
          arith,
          ap (count_of row) after_is,
          after_edits stored is_table (edits_at changes table) (fit table stored at) (λ r. cond (same_row row r) 1 0),
          ap (count_of row) (come_is store changes table stored at),
          counted_there (come_at store changes table) k d within,
        )))
