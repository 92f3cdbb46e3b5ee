-- Matches, one candidate after another.
use Rattle.std.proofs.Common.{◌≡◌, ℕ, ◌<◌, Bool, true, false, cond, List, [], ◌∷◌, ◌++◌, Some, get_or, length, map, sym, ap, ◌∙◌, subst}
use Rattle.std.specs.List.{All, Contains, filter}
use Rattle.std.proofs.lemmas.List.{append-nil, map-append}
use Rattle.std.proofs.lemmas.List.Elements.{All-contains, Contains-append_left, Contains-append_right, Contains-push, filter-append}
use Rattle.mm_partition.specs.Places.{Live, slot_at, row_in}
use Rattle.mm_query.specs.Queries.{Partial, none_fails}
use Rattle.mm_query.specs.declared.atom.Atom.{Atom}
use Rattle.mm_query.specs.declared.bound_query.FieldPlace.{FieldPlace}
use Rattle.mm_indexed.specs.Kept.{StoredRows}
use Rattle.mm_store.proofs.Joining.{some_at}
use Rattle.mm_store.specs.Tables.{IsAt, Tables}
use Rattle.mm_templist.specs.Combos.{row_of}
use Rattle.mm_value.specs.declared.row_ref.RowRef.{RowRef}
use Rattle.mm_value.specs.declared.values.Value.{Value}
use Rattle.mm_select.proofs.Fits.{row_here}
use Rattle.mm_select.specs.Matches.{matches, matching}

-- A property of all elements holds for the next one.
pub holds_next : {X : Type 0} (P : X → Type 0) (all done rest : List X) (x : X) → all ≡ done ++ x ∷ rest → All P all → P x
holds_next P all done rest x split every =
    All-contains P all x every
    (subst (λ l. Contains l x) (sym split) (Contains-append_right done (x ∷ rest) x (Contains-append_left (x ∷ []) rest x (Contains-push [] x))))

-- At the end all elements are done.
pub split_all : {X : Type 0} (all done left : List X) → all ≡ done ++ left → left ≡ [] → all ≡ done
split_all all done left split none = split ∙ (ap (λ l. done ++ l) none ∙ append-nil done)

-- The only element of a list is its first one.
pub one_first : (tables : List ℕ) (table : ℕ) → tables ≡ table ∷ [] → tables ≡ get_or tables 0 0 ∷ []
one_first tables table one = one ∙ ap (λ l. get_or l 0 0 ∷ []) (sym one)

module _ (store : Tables) (table : ℕ) where
  -- The row of a reference is the row that the store returns.
  pub row_given : (at : RowRef) (row : List Value) → table < length store.tables
      → ((stored : StoredRows) → IsAt store table stored → slot_at stored.places at ≡ Live row) → row_of store table at ≡ row
  row_given at row within given =
      let (stored, here) = some_at store.tables table within in
      row_here store table stored here at ∙ ap row_in (given stored here)

  module _ (atoms : List (Atom FieldPlace)) (rows : Partial) (front : List RowRef) where
    abbrev fits : RowRef → Bool
    fits at = none_fails atoms (rows ++ Some (row_of store table at) ∷ [])

    pub matches_append : (xs ys : List RowRef)
        → matches store table atoms rows front (xs ++ ys) ≡ matches store table atoms rows front xs ++ matches store table atoms rows front ys
    matches_append xs ys =
        ap (map (λ at. front ++ at ∷ [])) (filter-append fits xs ys)
        ∙ map-append (λ at. front ++ at ∷ []) (filter fits xs) (filter fits ys)

    -- A candidate matches if its row fits.
    pub matches_one : (at : RowRef) (row : List Value) (b : Bool) → row_of store table at ≡ row → b ≡ none_fails atoms (rows ++ Some row ∷ [])
        → matches store table atoms rows front (at ∷ []) ≡ cond b ((front ++ at ∷ []) ∷ []) []
    matches_one at row b is told =
        by b (fits at) (told ∙ ap (λ r. none_fails atoms (rows ++ Some r ∷ [])) (sym is))
      where
        by : (b c : Bool) → b ≡ c → map (λ at. front ++ at ∷ []) (cond c (at ∷ []) []) ≡ cond b ((front ++ at ∷ []) ∷ []) []
        by b true same = ap (λ b. cond b ((front ++ at ∷ []) ∷ []) []) (sym same)
        by b false same = ap (λ b. cond b ((front ++ at ∷ []) ∷ []) []) (sym same)

-- One more element passes the test.
filter_more : {X : Type 0} (p : X → Bool) (xs : List X) (x : X) → true ≡ p x → filter p (xs ++ x ∷ []) ≡ filter p xs ++ x ∷ []
filter_more p xs x passes = filter-append p xs (x ∷ []) ∙ ap (λ b. filter p xs ++ cond b (x ∷ []) []) (sym passes)

-- One more element fails the test.
filter_still : {X : Type 0} (p : X → Bool) (xs : List X) (x : X) → false ≡ p x → filter p (xs ++ x ∷ []) ≡ filter p xs
filter_still p xs x fails = filter-append p xs (x ∷ []) ∙ (ap (λ b. filter p xs ++ cond b (x ∷ []) []) (sym fails) ∙ append-nil (filter p xs))

-- In the same store, one more reference matches if its row fits.
module _ (store other : Tables) (same : other ≡ store) (table : ℕ) (atoms : List (Atom FieldPlace)) (done : List RowRef) (at : RowRef) where
  fits_same : none_fails atoms (Some (row_of other table at) ∷ []) ≡ none_fails atoms (Some (row_of store table at) ∷ [])
  fits_same = ap (λ s. none_fails atoms (Some (row_of s table at) ∷ [])) same

  pub matching_more : true ≡ none_fails atoms (Some (row_of other table at) ∷ [])
      → matching store table atoms [] (done ++ at ∷ []) ≡ matching store table atoms [] done ++ at ∷ []
  matching_more told = filter_more (λ x. none_fails atoms (Some (row_of store table x) ∷ [])) done at (told ∙ fits_same)

  -- One more reference does not match if its row does not fit.
  pub matching_still : false ≡ none_fails atoms (Some (row_of other table at) ∷ [])
      → matching store table atoms [] (done ++ at ∷ []) ≡ matching store table atoms [] done
  matching_still told = filter_still (λ x. none_fails atoms (Some (row_of store table x) ∷ [])) done at (told ∙ fits_same)
