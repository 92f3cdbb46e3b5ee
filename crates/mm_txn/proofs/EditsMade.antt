-- The old and new rows of the edits of an INSERT, an UPDATE and a DELETE.
use Rattle.std.proofs.Common.{◌≡◌, ◌≢◌, ℕ, ◌<◌, Bool, List, [], ◌∷◌, Some, None, length, get_or, map, refl, sym, ap, ◌∙◌, subst, arith}
use Rattle.std.specs.List.{All, AllPairs, filter, filter_map}
use Rattle.std.proofs.lemmas.List.{get_or-map, length-map}
use Rattle.std.proofs.lemmas.List.Elements.{All-map, All-nil}
use Rattle.mm_value.specs.declared.row_ref.RowRef.{RowRef}
use Rattle.mm_value.specs.declared.values.Value.{Value}
use Rattle.mm_partition.specs.Places.{slot_at}
use Rattle.mm_partition.specs.Types.{HasTypes}
use Rattle.mm_query.specs.Atoms.{updated_row}
use Rattle.mm_query.specs.Edits.{removals_of}
use Rattle.mm_query.specs.declared.atom.Assignment.{Assignment}
use Rattle.mm_schema.specs.Rows.{Pair}
use Rattle.mm_store.specs.Edits.{AreFit, pairs_of, rows_come}
use Rattle.mm_indexed.specs.Kept.{IsKept, StoredRows}
use Rattle.mm_row_order.specs.Refs.{HasRow, Slots, row_at}
use Rattle.mm_select.proofs.Fits.{filter-map}
use Rattle.mm_tables.specs.Commands.{IsApart}
use Rattle.mm_tables.specs.Edits.{Fits, came_by}
use Rattle.mm_tables.specs.declared.edit.Edit.{Edit}
use Rattle.mm_tables.specs.declared.edit.Edit.TheVariants.{Delete}
use Rattle.mm_txn.specs.RowEdits.{BringNone, updated_at, updates_of}
use Rattle.mm_txn.proofs.RowsPassing.{passing_apart, passing_live}

-- ---- DELETE

gone_apart : (refs : List RowRef) → AllPairs (λ a b. a ≢ b) refs → AllPairs IsApart (map Delete refs)
gone_apart refs apart i j d before within =
    let r : RowRef = record { slot = 0 } in
    let inside : j < length refs = omega (arith, within, length-map refs Delete) in
    subst (λ (e : Edit). IsApart e (get_or (map Delete refs) j d)) (sym (get_or-map Delete refs i r d (omega (arith, before, inside))))
    (subst (λ (e : Edit). IsApart (Delete (get_or refs i r)) e) (sym (get_or-map Delete refs j r d inside)) (apart i j r before inside))

pub none-gone : (refs : List RowRef) → BringNone (map Delete refs)
none-gone refs = All-map (λ (e : Edit). came_by e ≡ None) Delete refs (λ k d within. refl)

come-gone : (now : Slots) (refs : List RowRef) → rows_come now (map Delete refs) ≡ []
come-gone now [] = refl
come-gone now (x ∷ xs) = come-gone now xs

pub pairs-gone : (now : Slots) (refs : List RowRef) → pairs_of now (map Delete refs) ≡ removals_of (map (row_at now) refs)
pairs-gone now [] = refl
pairs-gone now (x ∷ xs) = ap (λ (pairs : List Pair). (Some (row_at now x), None) ∷ pairs) (pairs-gone now xs)

-- for rows that pass a test
pub fit-gone : (stored : StoredRows) → IsKept stored.places.types stored.key (slot_at stored.places) stored.refs stored.indexes → (p : RowRef → Bool)
    → AreFit stored (map Delete (filter p stored.refs))
fit-gone stored kept p =
    let now : Slots = slot_at stored.places in
    let refs : List RowRef = filter p stored.refs in
    record {
      ready = record {
        fits = All-map (Fits stored.key now) Delete refs (passing_live stored kept p);
        apart = gone_apart refs (passing_apart stored kept p);
      };
      typed = subst (All (HasTypes stored.places.types)) (sym (come-gone now refs)) (All-nil (HasTypes stored.places.types));
    }

pub pairs-removed : (now : Slots) (p : List Value → Bool) (refs : List RowRef)
    → pairs_of now (map Delete (filter (λ at. p (row_at now at)) refs)) ≡ removals_of (filter p (map (row_at now) refs))
pairs-removed now p refs = pairs-gone now (filter (λ at. p (row_at now at)) refs) ∙ ap removals_of (sym (filter-map p (row_at now) refs))

-- ---- UPDATE

-- the new rows
pub updated_come : (assignments : List (Assignment ℕ)) (rows : List (List Value))
    → filter_map (λ (p : Pair). p.1) (updates_of assignments rows) ≡ map (updated_row assignments) rows
updated_come assignments [] = refl
updated_come assignments (r ∷ rs) = ap (λ rows. updated_row assignments r ∷ rows) (updated_come assignments rs)

pub updated_refs : (now : Slots) (assignments : List (Assignment ℕ)) (refs : List RowRef)
    → map (updated_at now assignments) refs ≡ map (updated_row assignments) (map (row_at now) refs)
updated_refs now assignments [] = refl
updated_refs now assignments (x ∷ xs) = ap (λ rows. updated_at now assignments x ∷ rows) (updated_refs now assignments xs)
