-- The rows of a combination, one after another.
use Rattle.std.proofs.Common.{◌≡◌, ℕ, zero, suc, Bool, cond, ◌+◌, ◌<◌, ◌≤◌, List, [], ◌∷◌, ◌++◌, Option, Some, get_or, drop, take, length, map, refl}
use Rattle.std.proofs.Common.{sym, ap, ◌∙◌, subst, append_assoc, arith, length-append, length-drop}
use Rattle.std.proofs.lemmas.List.{map-append, take-append-drop, take_more}
use Rattle.std.specs.Option.{option_map}
use Rattle.mm_partition.specs.Views.{viewed}
use Rattle.mm_partition.specs.declared.view.RowView.{RowView}
use Rattle.mm_partition.specs.Places.{IsLive}
use Rattle.mm_query.proofs.PlainEval.{empty_by_length}
use Rattle.mm_query.specs.Queries.{none_fails, rows_read}
use Rattle.mm_query.specs.declared.atom.Atom.{Atom}
use Rattle.mm_query.specs.declared.bound_query.FieldPlace.{FieldPlace}
use Rattle.mm_indexed.specs.Kept.{StoredRows}
use Rattle.mm_select.proofs.Walks.{matches_append, matches_one}
use Rattle.mm_select.specs.Matches.{matches}
use Rattle.mm_store.specs.Tables.{IsAt, Tables}
use Rattle.mm_templist.specs.Combos.{AreLive, row_of, rows_of_combo}
use Rattle.mm_value.specs.declared.row_ref.RowRef.{RowRef}
use Rattle.mm_value.specs.declared.values.Value.{Value}

drop_next : {X : Type 0} (xs : List X) (i : ℕ) (d : X) → i < length xs → drop i xs ≡ get_or xs i d ∷ drop (i + 1) xs
drop_next [] i d within = absurd (omega (arith, within))
drop_next (x ∷ xs) zero d within = refl
drop_next (x ∷ xs) (suc i) d within =
    let more : suc i + 1 ≡ suc (i + 1) = omega arith in
    drop_next xs i d (omega (arith, within)) ∙ ap (λ n. get_or xs i d ∷ drop n (x ∷ xs)) (sym more)

module _ (store : Tables) where
  live_tables : (tables : List ℕ) (at : RowRef) (refs : List RowRef) → AreLive store tables (at ∷ refs) → 0 < length tables
  live_tables [] at refs live = absurd live
  live_tables (table ∷ tables) at refs live = omega arith

  module _ (tables : List ℕ) (refs : List RowRef) (i : ℕ) (d : RowRef) (within : i < length refs) (live : AreLive store (drop i tables) (drop i refs)) where
    abbrev at : RowRef
    at = get_or refs i d

    next_ref : drop i refs ≡ at ∷ drop (i + 1) refs
    next_ref = drop_next refs i d within

    -- There is a table for the next reference.
    pub table_within : i < length tables
    table_within =
        let some : 0 < length (drop i tables) = live_tables (drop i tables) at (drop (i + 1) refs) (subst (AreLive store (drop i tables)) next_ref live) in
        omega (arith, some, length-drop i tables)

    next_table : drop i tables ≡ get_or tables i 0 ∷ drop (i + 1) tables
    next_table = drop_next tables i 0 table_within

    live_both : AreLive store (get_or tables i 0 ∷ drop (i + 1) tables) (at ∷ drop (i + 1) refs)
    live_both = subst (λ ts. AreLive store ts (at ∷ drop (i + 1) refs)) next_table (subst (AreLive store (drop i tables)) next_ref live)

    -- The next reference is live.
    pub next_live : (stored : StoredRows) × IsAt store (get_or tables i 0) stored × IsLive stored.places at
    next_live = live_both.0

    -- The references after it are live too.
    pub rest_live : AreLive store (drop (i + 1) tables) (drop (i + 1) refs)
    rest_live = live_both.1

    -- The next row is appended to the others.
    pub chosen_next : (chosen : List (Option (List Value))) (whole : List (Option (List Value)))
        → chosen ++ map Some (rows_of_combo store (drop i tables) (drop i refs)) ≡ whole
        → chosen ++ Some (row_of store (get_or tables i 0) at) ∷ [] ++ map Some (rows_of_combo store (drop (i + 1) tables) (drop (i + 1) refs)) ≡ whole
    chosen_next chosen whole so_far =
        append_assoc chosen (Some (row_of store (get_or tables i 0) at) ∷ []) (map Some (rows_of_combo store (drop (i + 1) tables) (drop (i + 1) refs)))
        ∙ (sym (λ j. chosen ++ map Some (rows_of_combo store (next_table j) (next_ref j))) ∙ so_far)

  no_rows : (tables : List ℕ) → rows_of_combo store tables [] ≡ []
  no_rows [] = refl
  no_rows (table ∷ tables) = refl

  -- No reference is left.
  pub none_left : (tables : List ℕ) (refs : List RowRef) (i : ℕ) → length refs ≤ i → rows_of_combo store (drop i tables) (drop i refs) ≡ []
  none_left tables refs i past =
      let none : length (drop i refs) ≡ 0 = omega (arith, past, length-drop i refs) in
      ap (rows_of_combo store (drop i tables)) (empty_by_length (drop i refs) none) ∙ no_rows (drop i tables)

-- A row that is appended is read after the others.
pub pushed_row : (old new : List (Option RowView)) (last : Option RowView) → new ≡ old ++ last ∷ []
    → rows_read viewed new ≡ rows_read viewed old ++ option_map viewed last ∷ []
pushed_row old new last pushed = ap (rows_read viewed) pushed ∙ map-append (option_map viewed) old (last ∷ [])

-- The test of the rows, with a further row appended, decides whether that row's reference matches.
pub told_match : (store : Tables) (table : ℕ) (atoms : List (Atom FieldPlace)) (front : List RowRef) (at : RowRef) (b : Bool)
    (old new read : List (Option RowView)) (last : RowView) → row_of store table at ≡ viewed last → new ≡ old ++ Some last ∷ []
    → read ≡ new → b ≡ none_fails atoms (rows_read viewed read)
    → matches store table atoms (rows_read viewed old) front (at ∷ []) ≡ cond b ((front ++ at ∷ []) ∷ []) []
told_match store table atoms front at b old new read last is pushed same told =
    matches_one store table atoms (rows_read viewed old) front at (viewed last) b is
    (told ∙ ap (none_fails atoms) (ap (rows_read viewed) same ∙ pushed_row old new (Some last) pushed))

module _ (store : Tables) (table : ℕ) (atoms : List (Atom FieldPlace)) (rows : List (Option (List Value))) (front : List RowRef) where
  abbrev found : List RowRef → List (List RowRef)
  found candidates = matches store table atoms rows front candidates

  -- The matches of one more candidate follow those found before.
  pub matches_step : (old : List (List RowRef)) (candidates : List RowRef) (i : ℕ) (d : RowRef) → i < length candidates
      → old ++ found (take i candidates) ++ found (get_or candidates i d ∷ []) ≡ old ++ found (take (i + 1) candidates)
  matches_step old candidates i d within =
      append_assoc old (found (take i candidates)) (found (get_or candidates i d ∷ []))
      ∙ ap (λ l. old ++ l)
      (sym (ap found (take_more candidates i d within) ∙ matches_append store table atoms rows front (take i candidates) (get_or candidates i d ∷ [])))

  -- There are no more of them than matches of all candidates.
  pub matches_part : (old : List (List RowRef)) (candidates : List RowRef) (i : ℕ) (d : RowRef) → i < length candidates
      → length (old ++ found (take i candidates) ++ found (get_or candidates i d ∷ [])) ≤ length (old ++ found candidates)
  matches_part old candidates i d within =
      let whole : take (i + 1) candidates ++ drop (i + 1) candidates ≡ candidates = take-append-drop (i + 1) candidates in
      let all : found candidates ≡ found (take (i + 1) candidates) ++ found (drop (i + 1) candidates) =
      sym (ap found whole) ∙ matches_append store table atoms rows front (take (i + 1) candidates) (drop (i + 1) candidates) in
      omega (
        arith,
        ap length (matches_step old candidates i d within),
        length-append old (found (take (i + 1) candidates)),
        length-append old (found candidates),
        ap length all,
        length-append (found (take (i + 1) candidates)) (found (drop (i + 1) candidates)),
      )
