-- One round of a join: the combinations found for a combination of the outer list, and the rows read.
use Rattle.std.proofs.Common.{◌≡◌, ◌⊎◌, ℕ, ◌+◌, ◌<◌, ◌≤◌, List, [], ◌∷◌, ◌++◌, Err, Some, length, map, take, sym, ap, ◌∙◌, subst, arith}
use Rattle.std.specs.List.{All, slice_get, sum_by}
use Rattle.mm_query.specs.Queries.{Partial}
use Rattle.mm_query.specs.declared.atom.Atom.{Atom}
use Rattle.mm_query.specs.declared.bound_query.FieldPlace.{FieldPlace}
use Rattle.mm_schema.specs.Refused.{first_refusal}
use Rattle.mm_select.specs.Matches.{matches}
use Rattle.mm_store.specs.Tables.{Tables, rows_at}
use Rattle.mm_templist.specs.Combos.{AreLive, Combos, combo_rows, rows_of_combo}
use Rattle.mm_value.specs.declared.refusal.Refusal.{Refusal}
use Rattle.mm_value.specs.declared.refusal.Refusal.TheVariants.{Memory}
use Rattle.mm_value.specs.declared.row_ref.RowRef.{RowRef}
use Rattle.mm_join.proofs.Behind.{length_rows}
use Rattle.mm_join.proofs.JoinSteps.{Row}
use Rattle.mm_join.proofs.Progress.{Progress, candidates_step, due_on_way, one_more, one_more_within}
use Rattle.mm_join.specs.Caps.{cap_conditions}
use Rattle.mm_join.specs.Joins.{Joins, found}
use Rattle.mm_join.specs.AccessMethods.{AreCandidates, and_prefix, found_behind, inner_of, reads_along, with_prefix}
use Rattle.mm_join.specs.declared.inner.Inner.{Inner}
use Rattle.mm_join.specs.declared.join.Join.{Join}
use Rattle.mm_join.specs.declared.access_methods.AccessMethod.{AccessMethod}
use Rattle.mm_join.specs.declared.access_methods.AccessMethod.TheVariants as method
use Rattle.mm_join.specs.declared.look_up.Among.{Among}
use Rattle.mm_join.specs.declared.look_up.Among.TheVariants as among

-- A refused join has a valid reason.
pub refused : (store : Tables) (join : Join) (table : ℕ) (refusal : Refusal)
    → (first_refusal (cap_conditions join.cap (found store join table)) ≡ Some refusal) ⊎ (refusal ≡ Memory) → Joins store join table (Err refusal)
refused store join table refusal due = record { due = due; joined = tt; live = tt; tables = tt; fields = tt }

-- ---- the store, the tables and the atoms, with the names that a call has for them

module _ (store : Tables) (join : Join) (table : ℕ) (inner : Inner) (is : inner ≡ inner_of join table) (s : Tables) (same : s ≡ store) where
  module _ (front : List RowRef) (ts : List ℕ) (own : ts ≡ join.outer.now.tables) where
    pub candidates_here : (most : ℕ) (candidates : List RowRef)
        → AreCandidates s inner.table inner.atoms.now (rows_of_combo s ts front) most candidates
        → AreCandidates store inner.table join.atoms.now (rows_of_combo store join.outer.now.tables front) most candidates
    candidates_here most candidates are =
        subst (λ (rows : List Row). AreCandidates store inner.table join.atoms.now rows most candidates) (λ j. rows_of_combo (same j) (own j) front)
        (subst (λ (atoms : List (Atom FieldPlace)). AreCandidates store inner.table atoms (rows_of_combo s ts front) most candidates) (λ j. (is j).atoms.now)
        (subst (λ (st : Tables). AreCandidates st inner.table inner.atoms.now (rows_of_combo s ts front) most candidates) same are))

    pub few_here : (method w : AccessMethod) → w ≡ method → (n : ℕ) → n ≤ found_behind w (rows_at s.tables inner.table) (rows_of_combo s ts front)
        → n ≤ found_behind method (rows_at store.tables inner.table) (rows_of_combo store join.outer.now.tables front)
    few_here method w kept n few =
        subst (λ k. n ≤ k) (λ j. found_behind (kept j) (rows_at (same j).tables inner.table) (rows_of_combo (same j) (own j) front)) few

  -- After the candidates of a combination, the join has processed one combination more.
  pub found_step : (i : ℕ) (combos : List (List RowRef)) (front : List RowRef) (rows : Partial) (candidates : List RowRef) (most : ℕ)
      → inner.table < length store.tables → All (AreLive store join.outer.now.tables) join.outer.now.combos
      → slice_get join.outer.now.combos i ≡ Some front → rows ≡ map Some (rows_of_combo store join.outer.now.tables front)
      → AreCandidates store inner.table join.atoms.now (rows_of_combo store join.outer.now.tables front) most candidates
      → Progress store join.outer.now.tables inner.table join.atoms.now join.outer.now.combos i combos
      → Progress store join.outer.now.tables inner.table join.atoms.now join.outer.now.combos (i + 1)
      (combos ++ matches s inner.table inner.atoms.now rows front candidates)
  found_step i combos front rows candidates most within all there chosen are so_far =
      subst (Progress store join.outer.now.tables inner.table join.atoms.now join.outer.now.combos (i + 1))
      (sym (λ j. combos ++ matches (same j) inner.table (is j).atoms.now rows front candidates))
      (candidates_step store join.outer.now.tables inner.table join.atoms.now join.outer.now.combos i combos front rows candidates most within all there
      chosen are so_far)

  -- If the combinations so far exceed the cap, all combinations do.
  pub due_here : (i : ℕ) (tried : List (List RowRef)) (refusal : Refusal) → join.descriptor.tables.now ≡ join.outer.now.tables ++ table ∷ []
      → Progress store join.outer.now.tables inner.table join.atoms.now join.outer.now.combos i tried
      → first_refusal (cap_conditions inner.cap tried) ≡ Some refusal
      → first_refusal (cap_conditions join.cap (found store join table)) ≡ Some refusal
  due_here i tried refusal next so_far due =
      due_on_way store join.outer.now join.descriptor.tables.now join.atoms.now table inner.table (λ j. (is j).table) next join.cap i tried refusal so_far
      (subst (λ n. first_refusal (cap_conditions n tried) ≡ Some refusal) (λ j. (is j).cap) due)

-- ---- rows read

-- The prefix counts as one read, whatever else is read.
prefix_counted : (method : AccessMethod) (n : ℕ) → with_prefix method n ≡ with_prefix method 0 + n
prefix_counted (method.All refs) n = omega arith
prefix_counted (method.Followed field) n = omega arith
prefix_counted (method.Sought look_up) n = by look_up.among
  where
    by : (among : Among) → and_prefix among n ≡ and_prefix among 0 + n
    by (among.Index index) = omega arith
    by (among.Built pairs) = omega arith
    by (among.Walk cursor) = omega arith

pub prefix_within : (method w : AccessMethod) → w ≡ method → (before after : ℕ) → after ≤ with_prefix w before → after ≤ before + with_prefix method 0
prefix_within method w same before after within =
    let here : after ≤ with_prefix method before = subst (λ m. after ≤ with_prefix m before) same within in
    omega (arith, here, prefix_counted method before)

module _ (method : AccessMethod) (rows : List Row) (store : Tables) (outer : Combos) (i : ℕ) (front : List RowRef) (at : slice_get outer.combos i ≡ Some front)
    (live : AreLive store outer.tables front) where
  own_cost : reads_along method rows (rows_of_combo store outer.tables front)
      ≡ with_prefix method 0 + (length outer.tables + found_behind method rows (rows_of_combo store outer.tables front))
  own_cost =
      ap (λ n. with_prefix method (n + found_behind method rows (rows_of_combo store outer.tables front))) (length_rows store outer.tables front live)
      ∙ prefix_counted method (length outer.tables + found_behind method rows (rows_of_combo store outer.tables front))

  pub spent_more : sum_by (reads_along method rows) (take (i + 1) (combo_rows store outer))
      ≡ sum_by (reads_along method rows) (take i (combo_rows store outer))
      + (with_prefix method 0 + (length outer.tables + found_behind method rows (rows_of_combo store outer.tables front)))
  spent_more =
      one_more (reads_along method rows) store outer i front at ∙ ap (λ n. sum_by (reads_along method rows) (take i (combo_rows store outer)) + n) own_cost

  pub spent_within : sum_by (reads_along method rows) (take i (combo_rows store outer))
      + (with_prefix method 0 + (length outer.tables + found_behind method rows (rows_of_combo store outer.tables front)))
      ≤ sum_by (reads_along method rows) (combo_rows store outer)
  spent_within =
      subst (λ n. sum_by (reads_along method rows) (take i (combo_rows store outer)) + n ≤ sum_by (reads_along method rows) (combo_rows store outer)) own_cost
      (one_more_within (reads_along method rows) store outer i front at)
