-- The row that a foreign key refers to is the only one with its key.
use Rattle.std.proofs.Common.{◌≡◌, ℕ, zero, suc, ◌<◌, List, [], ◌∷◌, None, Some, get_or, length, map, refl, sym, ap, ◌∙◌, subst, arith}
use Rattle.std.specs.Prelude.{pos, slice_get}
use Rattle.std.specs.List.{Contains}
use Rattle.std.specs.List.Sorted.{IsPermutation}
use Rattle.std.specs.declared.cmp.Ordering.{Ordering}
use Rattle.std.proofs.lemmas.List.Elements.{filter_agree}
use Rattle.std.proofs.lemmas.List.Sorted.{IsPermutation-refl}
use Rattle.mm_order.specs.Probe.{is_between}
use Rattle.mm_store.specs.declared.index_ref.IndexRef.TheVariants as index
use Rattle.std.specs.Option.{option_map, unwrap_or}
use Rattle.std.proofs.lemmas.Option.{slice_get-get_or}
use Rattle.mm_partition.specs.Places.{IsLive, slot_at, row_in}
use Rattle.mm_query.specs.Atoms.{value_in}
use Rattle.mm_query.specs.Queries.{Partial, value_at}
use Rattle.mm_query.specs.declared.bound_query.FieldPlace.{FieldPlace}
use Rattle.mm_indexed.proofs.Apart.{KeysApart-refs}
use Rattle.mm_indexed.proofs.OneKey.{one_of_key as range_of_key, not_apart}
use Rattle.mm_indexed.proofs.Typed.{HasTypes-length}
use Rattle.mm_indexed.specs.Kept.{StoredRows}
use Rattle.mm_indexed.specs.Reads.{AreMatches, has_value}
use Rattle.mm_row_order.specs.Refs.{HasRow, Slots, place_by, row_at}
use Rattle.mm_select.proofs.Fits.{row_here}
use Rattle.mm_store.proofs.Joining.{one_relation}
use Rattle.mm_link.specs.Links.{RefersTo}
use Rattle.mm_store.specs.Joined.{IsTable}
use Rattle.mm_store.specs.Tables.{IsAt, Tables}
use Rattle.mm_templist.specs.Combos.{AreLive, row_of, rows_of_combo}
use Rattle.mm_value.specs.declared.row_ref.RowRef.{RowRef}
use Rattle.mm_value.specs.declared.values.Value.{Value}
use Rattle.mm_value.specs.declared.values.Value.TheVariants.{Int}
use Rattle.mm_join.proofs.JoinKeys.{shifted_by_0}
use Rattle.mm_join.proofs.Found.{finds_matches}
use Rattle.mm_join.specs.Equated.{HaveMatches, IsPartner, plain_key, sought}

-- ---- the row with a key

module _ (stored : StoredRows) (always : IsTable stored) (value : Value) (at : RowRef) (live : HasRow (slot_at stored.places) at)
    (own : slice_get (row_at (slot_at stored.places) at) stored.key ≡ Some value) where
  -- The matches of its key are this reference alone.
  one_of_key : AreMatches stored.key (slot_at stored.places) value stored.refs (at ∷ [])
  one_of_key =
      let place : RowRef → Ordering = place_by stored.key (slot_at stored.places) value in
      subst (IsPermutation (at ∷ []))
      (sym (range_of_key stored.key (slot_at stored.places) stored.refs
      (KeysApart-refs stored.key stored.key (slot_at stored.places) stored.refs always.apart always.kept.by_key) value at ((always.kept.held at).1 live) own)
      ∙ filter_agree (is_between place place) (has_value stored.key (slot_at stored.places) value) (λ other. not_apart (place other)) stored.refs)
      (IsPermutation-refl (at ∷ []))

-- ---- the row that a combination's row refers to

read_at : {X : Type 0} (xs : List X) (i : ℕ) (x d : X) → slice_get xs i ≡ Some x → get_or xs i d ≡ x
read_at [] i x d is = cc
read_at (y ∷ ys) zero x d is = cc
read_at (y ∷ ys) (suc i) x d is = read_at ys i x d is

module _ (store : Tables) where
  -- Each reference of a combination is live in its table.
  pub live_at : (tables : List ℕ) (front : List RowRef) → AreLive store tables front → (k : ℕ) (d : RowRef) → k < length tables
      → (stored : StoredRows) × IsAt store (get_or tables k 0) stored × IsLive stored.places (get_or front k d)
  live_at [] [] live k d within = absurd (omega (arith, within))
  live_at [] (r ∷ refs) live k d within = absurd live
  live_at (t ∷ tables) [] live k d within = absurd live
  live_at (t ∷ tables) (r ∷ refs) live zero d within = live.0
  live_at (t ∷ tables) (r ∷ refs) live (suc k) d within = live_at tables refs live.1 k d (omega (arith, within))

  -- The row of each reference is at its position.
  pub row_there : (tables : List ℕ) (front : List RowRef) → AreLive store tables front → (k : ℕ) (d : RowRef) → k < length tables
      → get_or (map Some (rows_of_combo store tables front)) k None ≡ Some (row_of store (get_or tables k 0) (get_or front k d))
  row_there [] [] live k d within = absurd (omega (arith, within))
  row_there [] (r ∷ refs) live k d within = absurd live
  row_there (t ∷ tables) [] live k d within = absurd live
  row_there (t ∷ tables) (r ∷ refs) live zero d within = refl
  row_there (t ∷ tables) (r ∷ refs) live (suc k) d within = row_there tables refs live.1 k d (omega (arith, within))

  module _ (tables : List ℕ) (front : List RowRef) (live : AreLive store tables front) (field : FieldPlace) (within : field.place < length tables)
      (partial : Partial) (chosen : partial ≡ map Some (rows_of_combo store tables front)) (table : ℕ) (relation : StoredRows)
      (here : IsAt store table relation) (always : IsTable relation) (d : RowRef)
    where
      abbrev from : ℕ
      from = get_or tables field.place 0

      abbrev source : RowRef
      source = get_or front field.place d

      own_value : (stored : StoredRows) → IsAt store from stored
          → unwrap_or (value_at partial field) (Int (pos 0)) ≡ value_in field.column (row_at (slot_at stored.places) source)
      own_value stored at =
          ap (λ p. unwrap_or (value_at p field) (Int (pos 0))) chosen
          ∙ (ap (λ o. unwrap_or (option_map (value_in field.column) o) (Int (pos 0))) (row_there tables front live field.place d within)
          ∙ ap (value_in field.column) (row_here store from stored at source))

      -- The referenced row is the only one with the value as its key.
      followed_matches : (stored : StoredRows) → IsAt store from stored → (to : RowRef)
          → RefersTo field.column relation.key (slot_at relation.places) (row_at (slot_at stored.places) source) to
          → AreMatches relation.key (slot_at relation.places) (unwrap_or (value_at partial field) (Int (pos 0))) relation.refs (to ∷ [])
      followed_matches stored at to refers =
          let slots : Slots = slot_at relation.places in
          let wide : relation.key < length (row_at slots to) =
          omega (
            arith,
            always.kept.key_in,
            HasTypes-length relation.places.types refers.live.0 (always.kept.typed to refers.live.0 refers.live.1),
            ap (λ content. length (row_in content)) refers.live.1,
          ) in
          let key : slice_get (row_at slots to) relation.key ≡ Some (value_in relation.key (row_at slots to)) =
          slice_get-get_or (row_at slots to) relation.key (Int (pos 0)) wide in
          let same : unwrap_or (value_at partial field) (Int (pos 0)) ≡ value_in relation.key (row_at slots to) =
          own_value stored at
          ∙ read_at (row_at (slot_at stored.places) source) field.column (value_in relation.key (row_at slots to)) (Int (pos 0)) (refers.same ∙ key) in
          one_of_key relation always (unwrap_or (value_at partial field) (Int (pos 0))) to refers.live (key ∙ ap Some (sym same))

      -- If the column refers to one table only, this row is the only one with the value.
      partner_matches : ((to : ℕ) → Contains store.links (record { from = from; column = field.column; to = to }) → to ≡ table)
          → (stored : StoredRows) → IsAt store from stored → (to : RowRef)
          → (target : StoredRows) × (place : ℕ) × Contains store.links (record { from = from; column = field.column; to = place })
          × IsAt store place target × RefersTo field.column target.key (slot_at target.places) (row_at (slot_at stored.places) source) to
          → AreMatches relation.key (slot_at relation.places) (unwrap_or (value_at partial field) (Int (pos 0))) relation.refs (to ∷ [])
      partner_matches only stored at to (target, place, among, there, refers) =
          let same : target ≡ relation = one_relation target relation (sym (subst (λ n. IsAt store n target) (only place among) there) ∙ here) in
          followed_matches stored at to
          (subst (λ (s : StoredRows). RefersTo field.column s.key (slot_at s.places) (row_at (slot_at stored.places) source) to) same refers)

      -- So its reference includes all rows with the value that the field requires.
      pub partner_have : ((to : ℕ) → Contains store.links (record { from = from; column = field.column; to = to }) → to ≡ table)
          → (to : RowRef) → IsPartner store from field.column source to
          → HaveMatches relation.key (slot_at relation.places) (sought (plain_key relation.key field) partial) relation.refs (to ∷ [])
      partner_have only to refers =
          let stored = live_at tables front live field.place d within in
          let value : Value = unwrap_or (value_at partial field) (Int (pos 0)) in
          subst (λ v. HaveMatches relation.key (slot_at relation.places) v relation.refs (to ∷ [])) (sym (shifted_by_0 value))
          (finds_matches relation always.kept index.Key relation.key always.kept.key_in value (to ∷ [])
          (partner_matches only stored.0 stored.1 to (refers stored.0 stored.1))).matches
