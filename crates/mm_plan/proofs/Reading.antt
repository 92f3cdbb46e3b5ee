-- The remaining reads of a plan, step by step.
use Rattle.std.proofs.Common.{◌≡◌, ℕ, ◌+◌, ◌≤◌, cond, List, [], ◌∷◌, ◌++◌, Some, length, map, take, drop, add-one, sym, ap, ◌∙◌, arith}
use Rattle.std.specs.List.{count_by}
use Rattle.std.specs.Prelude.{slice_get}
use Rattle.std.proofs.Math.Seq.{drop-cons}
use Rattle.std.proofs.lemmas.List.{length-map, length-take-le, map-append, take_more}
use Rattle.std.proofs.lemmas.List.Sorted.{sum_by-IsPermutation}
use Rattle.std.proofs.lemmas.Option.{get_or_from_slice_get, slice_get_within}
use Rattle.mm_plan.proofs.Joining.{none_fails_yet}
use Rattle.mm_plan.specs.Steps.{Reaches, may_look, reads_each, reads_once, step_reads, steps_reads}
use Rattle.mm_plan.specs.declared.step.Step.{Step}
use Rattle.mm_plan.specs.declared.step.Step.TheVariants as step
use Rattle.mm_query.specs.declared.atom.Atom.{Atom}
use Rattle.mm_query.specs.declared.bound_query.FieldPlace.{FieldPlace}
use Rattle.mm_indexed.specs.Kept.{StoredRows}
use Rattle.mm_select.specs.Fitting.{AreFitting, fitting}
use Rattle.mm_store.specs.Tables.{Tables, rows_at}
use Rattle.mm_templist.specs.Combos.{Combos, combo_rows}
use Rattle.mm_value.specs.declared.values.Value.{Value}

next : {X : Type 0} (xs : List X) (place : ℕ) (x : X) → slice_get xs place ≡ Some x → drop place xs ≡ x ∷ drop (place + 1) xs
next xs place x at =
    drop-cons xs place x (slice_get_within xs place x at)
    ∙ (λ i. get_or_from_slice_get xs place x x at i ∷ drop (sym (add-one place) i) xs)

one_more : {X : Type 0} (xs : List X) (place : ℕ) (x : X) → slice_get xs place ≡ Some x → take (place + 1) xs ≡ take place xs ++ x ∷ []
one_more xs place x at =
    take_more xs place x (slice_get_within xs place x at)
    ∙ ap (λ y. take place xs ++ y ∷ []) (get_or_from_slice_get xs place x x at)

module _ (atoms : List (Atom FieldPlace)) where
  -- The next step takes its part of the remaining reads.
  pub turn : (rows : ℕ → List (List Value)) (tables : List ℕ) (steps : List Step) (place table : ℕ) (own : Step)
      → slice_get tables place ≡ Some table → slice_get steps place ≡ Some own
      → steps_reads atoms (map rows (take place tables)) (drop place steps) (map rows (drop place tables))
      ≡ step_reads atoms place own (rows table) (fitting atoms (map rows (take place tables)))
      + steps_reads atoms (map rows (take (place + 1) tables)) (drop (place + 1) steps) (map rows (drop (place + 1) tables))
  turn rows tables steps place table own at_table at_step =
      let so_many : length (map rows (take place tables)) ≡ place =
      length-map (take place tables) rows ∙ taken tables place table at_table in
      (λ i. steps_reads atoms (map rows (take place tables)) (next steps place own at_step i) (map rows (next tables place table at_table i)))
      ∙ (λ i. step_reads atoms (so_many i) own (rows table) (fitting atoms (map rows (take place tables)))
      + steps_reads atoms (before i) (drop (place + 1) steps) (map rows (drop (place + 1) tables)))
    where
      taken : (tables : List ℕ) (place table : ℕ) → slice_get tables place ≡ Some table → length (take place tables) ≡ place
      taken tables place table at = length-take-le place tables (omega (arith, slice_get_within tables place table at))

      before : map rows (take place tables) ++ rows table ∷ [] ≡ map rows (take (place + 1) tables)
      before = sym (map-append rows (take place tables) (table ∷ [])) ∙ ap (map rows) (sym (one_more tables place table at_table))

  -- A step reads as many rows after the combinations of a list as after the fitting ones.
  pub as_fitting : (store : Tables) (list : Combos) (tables : List ℕ) → AreFitting store atoms list → list.tables ≡ tables
      → (place : ℕ) (own : Step) (rows : List (List Value))
      → step_reads atoms place own rows (fitting atoms (map (rows_at store.tables) tables)) ≡ step_reads atoms place own rows (combo_rows store list)
  as_fitting store list tables fits is place own rows =
      ap (λ ts. step_reads atoms place own rows (fitting atoms (map (rows_at store.tables) ts))) (sym is)
      ∙ ap (λ n. reads_once own rows + n)
      (sum_by-IsPermutation (reads_each atoms place own rows) (combo_rows store list) (fitting atoms (map (rows_at store.tables) list.tables)) fits)

  -- Before the first table there is only the combination of no rows.
  pub alone : fitting atoms [] ≡ [] ∷ []
  alone = ap (λ b. cond b ([] ∷ []) []) (none_fails_yet atoms)

  -- After this combination, the first step reads the rows that it may read.
  pub first_reads : (stored : StoredRows) (own : Step) (rows : List (List Value)) → Reaches stored atoms own
      → count_by (may_look atoms 0 own []) rows ≤ step_reads atoms 0 own rows ([] ∷ [])
  first_reads stored step.Scan rows reached = omega (arith)
  first_reads stored (step.LookUp index atom) rows reached = omega (arith)
  first_reads stored (step.Range index atom) rows reached = omega (arith)
  first_reads stored (step.Precomputed atom) rows reached = absurd reached
  first_reads stored (step.TreeMerge outer inner atom) rows reached = absurd reached
  first_reads stored (step.TreeJoin index atom) rows reached = absurd reached
  first_reads stored (step.HashJoin index atom) rows reached = absurd reached
  first_reads stored (step.BuiltHash atom) rows reached = absurd reached
  first_reads stored step.NestedLoops rows reached = absurd reached
