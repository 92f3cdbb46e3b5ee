-- The rows of all tables after the edits of several tables, place by place.
use Rattle.std.proofs.Common.{◌≡◌, ℕ, zero, suc, ◌<◌, ◌≤◌, ◌==◌, Bool, true, false, cond, List, [], ◌∷◌, Option, Some, None, find, length, map, slice_get}
use Rattle.std.proofs.Common.{refl, sym, ap, subst, ◌∙◌, inl, inr, arith}
use Rattle.std.specs.List.{All, AllByRecursion, AllPairs, position_or_len}
use Rattle.std.specs.Option.{option_map_or}
use Rattle.std.proofs.lemmas.Bool.{cases_Bool, eqb-false, eqb-true, ne_eqb}
use Rattle.std.proofs.lemmas.List.{length-map}
use Rattle.std.proofs.lemmas.List.Elements.{All-tail, recursion_from_All}
use Rattle.std.proofs.lemmas.Option.{slice_get_within}
use Rattle.mm_partition.specs.Places.{slot_at}
use Rattle.mm_indexed.specs.Kept.{StoredRows}
use Rattle.mm_store.specs.Edits.{pairs_of as edit_pairs}
use Rattle.mm_indexed.specs.RowLists.{rows_of}
use Rattle.mm_schema.specs.Columns.{key_place}
use Rattle.mm_schema.specs.Instance.{Instance, TableEdits as NamedEdits, changed_instance, pairs_of}
use Rattle.mm_schema.specs.Name.{same_name}
use Rattle.mm_schema.specs.Rows.{Pair, changed}
use Rattle.mm_schema.specs.Schema.{HasDistinctNames, Schema}
use Rattle.mm_schema.specs.declared.table.Table.{Table}
use Rattle.mm_schema.proofs.Instances.{AreBeside, name_of, pairs_of-other, pairs_of-own}
use Rattle.mm_schema.proofs.NameLemmas.{same_bytes, same_name_refl}
use Rattle.mm_query.specs.Machine.{after_edits}
use Rattle.mm_laws.proofs.StillFound.{beside_still}
use Rattle.mm_standing.specs.Queries.{RowsByPlace}
use Rattle.mm_store.specs.Edits.{rows_after}
use Rattle.mm_store.specs.Tables.{Tables}
use Rattle.mm_plan.specs.Kept.{AreOf, instance_of}
use Rattle.mm_txn.specs.PlacedEdits.{AreEdits, FitsAt, HaveRows, PlacedEdits, edits_at, named, pairs_at, rows_edited}
use Rattle.mm_txn.specs.Listed.{rows_by_place}
use Rattle.mm_txn.proofs.DatabaseSteps.{some_there}
use Rattle.mm_txn.proofs.IndexSteps.{own_place}
use Rattle.mm_txn.proofs.Placed.{rows_at_place}
use Rattle.mm_txn.proofs.RowsBeside.{are_beside, as_many_rows, beside}

-- ---- one step

pub beside_after : (ts : List Table) (es : List NamedEdits) (rows : Instance) → AreBeside ts rows → AreBeside ts (after_edits ts es rows)
beside_after ts [] rows beside = beside
beside_after ts (e ∷ es) rows beside = beside_after ts es (changed_instance ts (e ∷ []) rows) (beside_still ts (e ∷ []) rows beside)

pub as_many : (ts : List Table) (rows : Instance) → AreBeside ts rows → length rows ≡ length ts
as_many [] [] beside = refl
as_many (t ∷ ts) (r ∷ rs) beside = ap (λ n. suc n) (as_many ts rs beside)
as_many [] (r ∷ rs) beside = absurd beside
as_many (t ∷ ts) [] beside = absurd beside

-- The rows at a place are changed by the pairs of its table's name.
changed_at : (ts : List Table) (es : List NamedEdits) (rows : Instance) → AreBeside ts rows → (k : ℕ) (t : Table) → slice_get ts k ≡ Some t
    → rows_by_place (changed_instance ts es rows) k ≡ changed (key_place t.definition.columns) (pairs_of (name_of t) es) (rows_by_place rows k)
changed_at [] es rows beside k t there = cc
changed_at (u ∷ us) es [] beside k t there = absurd beside
changed_at (u ∷ us) es (r ∷ rs) beside zero t there =
    let same : u ≡ t = cc in
    ap (λ (v : Table). changed (key_place v.definition.columns) (pairs_of (name_of v) es) r) same
changed_at (u ∷ us) es (r ∷ rs) beside (suc k) t there = changed_at us es rs beside k t there

-- ---- all steps

-- Places ascend, and are below this number of tables.
abbrev pub InTurn : ℕ → List PlacedEdits → Type 0
InTurn many [] = Unit {0}
InTurn many (c ∷ cs) = (c.0 < many) × AllByRecursion (λ (d : PlacedEdits). c.0 < d.0) cs × InTurn many cs

-- No change is for the place.
abbrev pub NoneAt : ℕ → List PlacedEdits → Type 0
NoneAt k cs = AllByRecursion (λ (c : PlacedEdits). (c.0 == k) ≡ false) cs

pub none_at : (k : ℕ) (cs : List PlacedEdits) → NoneAt k cs → edits_at cs k ≡ []
none_at k cs none = ap (λ (found : Option PlacedEdits). option_map_or (λ (c : PlacedEdits). c.1) found []) (by cs none)
  where
    by : (cs : List PlacedEdits) → NoneAt k cs → find (λ (c : PlacedEdits). c.0 == k) cs ≡ None
    by [] none = refl
    by (c ∷ cs) none = ap (λ (b : Bool). cond b (Some c) (find (λ (d : PlacedEdits). d.0 == k) cs)) none.0 ∙ by cs none.1

pub none_later : (k : ℕ) (cs : List PlacedEdits) → AllByRecursion (λ (d : PlacedEdits). k < d.0) cs → NoneAt k cs
none_later k [] later = tt
none_later k (c ∷ cs) later = (let above = later.0 in ne_eqb c.0 k (λ same. absurd (omega (arith, same, above))), none_later k cs later.1)

none_past : (rs : List StoredRows) (k : ℕ) → slice_get rs k ≡ None → length rs ≤ k
none_past [] k none = omega arith
none_past (r ∷ rs) zero none = cc
none_past (r ∷ rs) (suc k) none = let later = none_past rs k none in omega arith

past_end : (rows : Instance) (k : ℕ) → length rows ≤ k → rows_by_place rows k ≡ []
past_end [] k past = refl
past_end (r ∷ rs) zero past = absurd (omega arith)
past_end (r ∷ rs) (suc k) past = past_end rs k (omega arith)

module _ (schema : Schema) (distinct : HasDistinctNames schema) where
  -- Tables have one name exactly if they are at one place.
  same_places : (i k : ℕ) (u t : Table) → slice_get schema.tables i ≡ Some u → slice_get schema.tables k ≡ Some t → (i == k) ≡ false
      → same_name (name_of u) (name_of t) ≡ false
  same_places i k u t at there differs = elim (cases_Bool (same_name (name_of u) (name_of t))) [
    | inl same ↦
        let one : i ≡ k =
        sym (own_place schema.tables i u at distinct)
        ∙ (ap (λ n. position_or_len (λ v. same_name n (name_of v)) schema.tables) (same_bytes (name_of u) (name_of t) same)
        ∙ own_place schema.tables k t there distinct) in
        absurd (eqb-false i k differs one)
    | inr other ↦ other
  ]

  module _ (rs : List StoredRows) where
    -- The pairs of one change are for the table at its place alone.
    pairs_for : (c : PlacedEdits) (u : Table) → slice_get schema.tables c.0 ≡ Some u → (k : ℕ) (t : Table) → slice_get schema.tables k ≡ Some t
        → (b : Bool) → (c.0 == k) ≡ b → pairs_of (name_of t) (named schema rs c ∷ []) ≡ cond b (pairs_at rs c) []
    pairs_for c u at k t there true is =
        let same : c.0 ≡ k = eqb-true c.0 k is in
        let one : u ≡ t = let read : Some u ≡ Some t = sym at ∙ (ap (slice_get schema.tables) same ∙ there) in cc in
        pairs_of-own (named schema rs c).table (pairs_at rs c) (name_of t)
        (ap (λ (v : Option Table). same_name (option_map_or name_of v []) (name_of t)) at
        ∙ (ap (λ (v : Table). same_name (name_of v) (name_of t)) one ∙ same_name_refl (name_of t)))
    pairs_for c u at k t there false is =
        pairs_of-other (named schema rs c).table (pairs_at rs c) (name_of t)
        (ap (λ (v : Option Table). same_name (option_map_or name_of v []) (name_of t)) at ∙ same_places c.0 k u t at there is)

    module _ (k : ℕ) (t : Table) (there : slice_get schema.tables k ≡ Some t) (stored : StoredRows) (at : slice_get rs k ≡ Some stored) where
      abbrev key : ℕ
      key = key_place t.definition.columns

      abbrev pairs_there : List PlacedEdits → List Pair
      pairs_there cs = edit_pairs (slot_at stored.places) (edits_at cs k)

      made_at : (cs : List PlacedEdits) → InTurn (length schema.tables) cs → (rows : Instance) → AreBeside schema.tables rows
          → rows_by_place (after_edits schema.tables (map (named schema rs) cs) rows) k ≡ changed key (pairs_there cs) (rows_by_place rows k)
      made_at [] turn rows beside = refl
      made_at (c ∷ cs) turn rows beside =
          let e : NamedEdits = named schema rs c in
          let table = some_there schema.tables c.0 turn.0 in
          made_at cs turn.2 (changed_instance schema.tables (e ∷ []) rows) (beside_still schema.tables (e ∷ []) rows beside)
          ∙ (ap (changed key (pairs_there cs)) (changed_at schema.tables (e ∷ []) rows beside k t there
          ∙ ap (λ ps. changed key ps (rows_by_place rows k)) (pairs_for c table.0 table.1 k t there (c.0 == k) refl))
          ∙ by (c.0 == k) refl)
        where
          by : (b : Bool) → (c.0 == k) ≡ b
              → changed key (pairs_there cs) (changed key (cond b (pairs_at rs c) []) (rows_by_place rows k))
              ≡ changed key (edit_pairs (slot_at stored.places)
              (option_map_or (λ (d : PlacedEdits). d.1) (cond b (Some c) (find (λ (d : PlacedEdits). d.0 == k) cs)) []))
              (rows_by_place rows k)
          by true is =
              let same : c.0 ≡ k = eqb-true c.0 k is in
              let none : edits_at cs k ≡ [] = none_at k cs (none_later k cs (subst (λ (n : ℕ). AllByRecursion (λ (d : PlacedEdits). n < d.0) cs) same turn.1))
              in
              let own : pairs_at rs c ≡ edit_pairs (slot_at stored.places) c.1 =
              ap (λ (s : Option StoredRows). option_map_or (λ stored. edit_pairs (slot_at stored.places) c.1) s []) (ap (slice_get rs) same ∙ at) in
              λ i. changed key (edit_pairs (slot_at stored.places) (none i)) (changed key (own i) (rows_by_place rows k))
          by false is = refl

  -- ---- the rows of a store

  module _ (store : Tables) (are : AreOf schema.tables store.tables) (changes : List PlacedEdits) (turn : InTurn (length schema.tables) changes) where
    -- The rows of all tables after the edits.
    abbrev pub all_after : Instance
    all_after = after_edits schema.tables (map (named schema store.tables) changes) (instance_of store.tables)

    pub beside_rows_after : AreBeside schema.tables all_after
    beside_rows_after =
        beside_after schema.tables (map (named schema store.tables) changes) (instance_of store.tables) (are_beside schema.tables store.tables are)

    pub many_after : length all_after ≡ length store.tables
    many_after = as_many schema.tables all_after beside_rows_after ∙ sym (as_many_rows schema.tables store.tables are)

    -- At each place the rows are those after its edits.
    pub after_edited : rows_by_place all_after ≡ rows_edited store changes
    after_edited = λ i k. by k (slice_get store.tables k) refl i
      where
        by : (k : ℕ) (found : Option StoredRows) → slice_get store.tables k ≡ found → rows_by_place all_after k ≡ rows_edited store changes k
        by k None none =
            past_end all_after k (let past = none_past store.tables k none in omega (arith, many_after, past))
            ∙ sym (ap (λ (s : Option StoredRows). option_map_or (λ stored. rows_after stored (edits_at changes k)) s []) none)
        by k (Some stored) at =
            let there = beside schema.tables store.tables k stored are at in
            let key : key_place there.table.definition.columns ≡ stored.key = sym there.is_of.key in
            let before : rows_by_place (instance_of store.tables) k ≡ rows_of stored =
            sym (rows_at_place store.tables k) ∙ ap (λ (s : Option StoredRows). option_map_or rows_of s []) at in
            made_at store.tables k there.table there.there stored at changes turn (instance_of store.tables) (are_beside schema.tables store.tables are)
            ∙ ((λ i. changed (key i) (edit_pairs (slot_at stored.places) (edits_at changes k)) (before i))
            ∙ sym (ap (λ (s : Option StoredRows). option_map_or (λ stored. rows_after stored (edits_at changes k)) s []) at))

-- ---- relations that have rows for each place

module _ (rows : RowsByPlace) (old new : Tables) (have : HaveRows rows old new) where
  rows_now : (k : ℕ) → k < length old.tables → rows_by_place (instance_of new.tables) k ≡ rows k
  rows_now k within =
      let stored = some_there old.tables k within in
      let now = have.each k stored.0 stored.1 in
      sym (rows_at_place new.tables k) ∙ (ap (λ (s : Option StoredRows). option_map_or rows_of s []) now.1 ∙ now.2.rows_are)

  -- The relations have all rows of a state that has the same rows place by place.
  pub instance_is : (all : Instance) → length all ≡ length old.tables → rows_by_place all ≡ rows → instance_of new.tables ≡ all
  instance_is all many same =
      same_by_place (instance_of new.tables) all (length-map new.tables rows_of ∙ (have.count ∙ sym many))
      (λ k within. rows_now k (omega (arith, within, many, have.count, length-map new.tables rows_of)) ∙ ap (λ (by : RowsByPlace). by k) (sym same))
    where
      same_by_place : (xs ys : Instance) → length xs ≡ length ys → ((k : ℕ) → k < length xs → rows_by_place xs k ≡ rows_by_place ys k) → xs ≡ ys
      same_by_place [] [] size each = refl
      same_by_place [] (y ∷ ys) size each = absurd (omega arith)
      same_by_place (x ∷ xs) [] size each = absurd (omega arith)
      same_by_place (x ∷ xs) (y ∷ ys) size each =
          λ i. each 0 (omega arith) i ∷ same_by_place xs ys (omega arith) (λ k within. each (suc k) (omega arith)) i

-- Edits of tables are in turn.
pub in_turn : (store : Tables) (changes : List PlacedEdits) → AreEdits store changes → InTurn (length store.tables) changes
in_turn store changes are = each changes are.fit are.ascend
  where
    each : (cs : List PlacedEdits) → All (FitsAt store) cs → AllPairs (λ (a b : PlacedEdits). a.0 < b.0) cs → InTurn (length store.tables) cs
    each [] fit ascend = tt
    each (c ∷ cs) fit ascend =
        let here = fit 0 c (omega arith) in (
          slice_get_within store.tables c.0 here.0 here.1,
          recursion_from_All (λ (d : PlacedEdits). c.0 < d.0) cs (λ i d within. ascend 0 (suc i) d (omega arith) (omega arith)),
          each cs (All-tail (FitsAt store) c cs fit) (λ i j d below within. ascend (suc i) (suc j) d (omega arith) (omega arith)),
        )
