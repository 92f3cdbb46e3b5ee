-- The number of rows that a query reads, by its plan.
use Rattle.std.proofs.Common.{◌≡◌, ℕ, ◌+◌, ◌*◌, ◌≤◌, List, Option, length, map, sym, ap, ◌∙◌, subst, arith}
use Rattle.std.proofs.lemmas.List.{length-map}
use Rattle.std.proofs.lemmas.List.Sorted.{length_permutation}
use Rattle.mm_plan.proofs.NamedSteps.{plan_named}
use Rattle.mm_plan.specs.Choosing.{steps_of}
use Rattle.mm_plan.specs.Kept.{AreKept, HaveOneKey, instance_of}
use Rattle.mm_query.proofs.PlacedQueries.{query_within}
use Rattle.mm_query.specs.Resolving.{placed_query, places_in}
use Rattle.mm_query.specs.State.{Saved}
use Rattle.mm_query.specs.declared.atom.Atom.{Atom}
use Rattle.mm_query.specs.declared.bound_query.Bound.{Bound}
use Rattle.mm_query.specs.declared.bound_query.BoundQuery.{BoundQuery}
use Rattle.mm_query.specs.declared.bound_query.FieldPlace.{FieldPlace}
use Rattle.mm_query.specs.declared.query.Query.{Query}
use Rattle.mm_schema.specs.Schema.{Schema}
use Rattle.mm_select.specs.Fitting.{AreFitting, fitting}
use Rattle.mm_store.specs.Tables.{Tables, rows_at}
use Rattle.mm_templist.specs.Combos.{Combos, rows_of_combo}
use Rattle.mm_value.specs.declared.values.Value.{Value}
use Rattle.mm_txn.specs.Bound.{IsBoundQuery}
use Rattle.mm_txn.specs.Reads.{ReadsByPlan, bound_rows, bound_steps, select_reads, shown_reads}
use Rattle.mm_txn.proofs.Selecting.{lists_are}

-- The rows of all combinations of a list are those of the matching combinations.
pub few_shown : (store : Tables) (atoms : List (Atom FieldPlace)) (list : Combos) (tables : List ℕ) → list.tables ≡ tables → AreFitting store atoms list
    → length list.combos * length list.tables ≡ shown_reads atoms (map (rows_at store.tables) tables)
few_shown store atoms list tables joined fits =
    let rows : List ℕ → List (List (List Value)) = map (rows_at store.tables) in
    let many : length list.combos ≡ length (fitting atoms (rows list.tables)) =
    sym (length-map list.combos (rows_of_combo store list.tables)) ∙ sym (length_permutation _ (fitting atoms (rows list.tables)) fits) in
    (λ i. many i * sym (length-map list.tables (rows_at store.tables)) i)
    ∙ ap (λ ts. shown_reads atoms (rows ts)) joined

-- Finding the combinations may read fewer rows than the bound.
pub reads_found : (new old finding showing : ℕ) → new ≤ old + finding → new ≤ old + (finding + showing)
reads_found new old finding showing within = omega (arith, within)

-- The rows read to find the combinations, and then to show them.
pub reads_shown : (new found old finding showing : ℕ) → found ≤ old + finding → new ≤ found + showing → new ≤ old + (finding + showing)
reads_shown new found old finding showing first then = omega (arith, first, then)

-- A view counts from 0.
pub reads_from_none : (new old bound : ℕ) → old ≡ 0 → new ≤ old + bound → new ≤ bound
reads_from_none new old bound none within = omega (arith, none, within)

-- A bound query's reads are within the plan of its query, if the store has the tables of the catalog.
pub reads_by_plan : (schema : Schema) (store : Tables) (queries : List BoundQuery) (saved : Option Saved) (query : Query) (bound : Bound)
    → AreKept schema store → HaveOneKey schema.tables → IsBoundQuery schema query bound
    → (reads : ℕ) → reads ≤ select_reads bound.query.atoms (bound_steps store bound) (bound_rows store bound)
    → ReadsByPlan query (record { schema = schema; rows = instance_of store.tables; queries = queries; saved = saved }) reads
reads_by_plan schema store queries saved query bound kept keys is reads within =
    let atoms = (placed_query schema query).atoms in
    let places = places_in schema query.from in
    record {
      steps = steps_of store atoms places;
      plan = plan_named schema store query kept keys is.due;
      within = subst (λ tables. reads ≤ select_reads atoms (steps_of store atoms places) tables)
          (lists_are schema store kept.relations query.from (query_within schema query is.due).tables)
          (subst (λ ts. reads ≤ select_reads atoms (steps_of store atoms ts) (map (rows_at store.tables) ts)) is.tables
          (subst (λ (q : BoundQuery). reads ≤ select_reads q.atoms (steps_of store q.atoms bound.tables) (map (rows_at store.tables) bound.tables))
          is.placed within));
    }
