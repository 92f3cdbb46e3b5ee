-- Edits of several tables that are made one after another, the last table first: the rows in between, and the rows that refer to a deleted
-- row.
use Rattle.std.proofs.Common.{◌≡◌, ◌≢◌, ℕ, ◌<◌, ◌≤◌, Bool, true, false, cond, ◌&&◌, ◌||◌, List, [], ◌∷◌, ◌++◌, Option, Some, None, length, refl, sym, ap}
use Rattle.std.proofs.Common.{subst, ◌∙◌, ⊎_elim, inl, inr, arith}
use Rattle.std.specs.Prelude.{find, slice_get, slice_set}
use Rattle.std.specs.Bool.{◌==◌}
use Rattle.std.specs.List.{All, list_any}
use Rattle.std.specs.Option.{option_map_or}
use Rattle.std.proofs.lemmas.Bool.{cases_Bool, cases_lt, eq-eqb, eqb-true, false≢true}
use Rattle.std.proofs.lemmas.List.{length-set}
use Rattle.std.proofs.lemmas.List.Elements.{All-head, All-tail, All-weaker}
use Rattle.std.proofs.lemmas.Option.{slice_get_past, slice_get_within}
use Rattle.mm_partition.specs.Places.{slot_at}
use Rattle.mm_indexed.specs.Kept.{StoredRows}
use Rattle.mm_indexed.specs.RowLists.{rows_of}
use Rattle.mm_tables.specs.declared.edit.Edit.{Edit}
use Rattle.mm_schema.specs.References.{lacks_target_row, lose_targets}
use Rattle.mm_schema.specs.Rows.{Pair}
use Rattle.mm_schema.specs.declared.reference.Reference.{Reference}
use Rattle.mm_store.specs.Edits.{pairs_of, rows_after}
use Rattle.mm_store.specs.Tables.{HasRows, IsAt, Tables, Turns, finds_orphan, has_orphans, key_at, makes_orphan, makes_orphans, rows_at}
use Rattle.mm_value.specs.declared.values.Value.{Value}
use Rattle.mm_store.proofs.Joining.{get_set_other, get_set_same, one_relation, some_at}
use Rattle.mm_standing.specs.Queries.{RowsByPlace}
use Rattle.mm_txn.specs.PlacedEdits.{HaveRows, PlacedEdits, edits_at, leaves_orphan, pairs_at, rows_edited}

-- ---- edits at a place

module _ (place : ℕ) where
  abbrev edits_of : Option PlacedEdits → List Edit
  edits_of found = option_map_or (λ (c : PlacedEdits). c.1) found []

  -- The edits of a place are found ..
  pub edits_own : (c : PlacedEdits) (cs : List PlacedEdits) → c.0 ≡ place → edits_at (c ∷ cs) place ≡ c.1
  edits_own c cs same = ap (λ b. edits_of (cond b (Some c) (find (λ (d : PlacedEdits). d.0 == place) cs))) (eq-eqb c.0 place same)

  -- .. after those of other places, ..
  pub edits_other : (c : PlacedEdits) (cs : List PlacedEdits) → c.0 ≢ place → edits_at (c ∷ cs) place ≡ edits_at cs place
  edits_other c cs apart =
      elim (cases_Bool (c.0 == place)) [
        | inl own ↦ absurd (apart (eqb-true c.0 place own))
        | inr other ↦ ap (λ b. edits_of (cond b (Some c) (find (λ (d : PlacedEdits). d.0 == place) cs))) other
      ]

  pub edits_behind : (front back : List PlacedEdits) → All (λ (c : PlacedEdits). c.0 < place) front → edits_at (front ++ back) place ≡ edits_at back place
  edits_behind [] back before = refl
  edits_behind (c ∷ cs) back before =
      edits_other c (cs ++ back) (λ same. absurd (omega (arith, same, All-head (λ (d : PlacedEdits). d.0 < place) c cs before)))
      ∙ edits_behind cs back (All-tail (λ (d : PlacedEdits). d.0 < place) c cs before)

-- ---- the rows that tables have

past_all : (tables : List StoredRows) (place : ℕ) → slice_get tables place ≡ None → length tables ≤ place
past_all tables place gone =
    ⊎_elim
    (λ (within : place < length tables). absurd (let there = some_at tables place within in let both : ◌≡◌ {A = Option StoredRows} None (Some there.0) = sym
    gone ∙ there.1 in cc))
    (λ (past : length tables ≤ place). past)
    (cases_lt place (length tables))

-- If relations have rows by their places, each place has its rows.
pub rows_have : (rows : RowsByPlace) (old new : Tables) → HaveRows rows old new → (place : ℕ) → (slice_get old.tables place ≡ None → rows place ≡ [])
    → rows_at new.tables place ≡ rows place
rows_have rows old new have place none = by (slice_get old.tables place) refl
  where
    by : (found : Option StoredRows) → slice_get old.tables place ≡ found → rows_at new.tables place ≡ rows place
    by None gone =
        ap (λ (f : Option StoredRows). option_map_or rows_of f []) (slice_get_past new.tables place (omega (arith, have.count, past_all old.tables place gone)))
        ∙ sym (none gone)
    by (Some stored) there =
        let now = have.each place stored there in
        ap (λ (f : Option StoredRows). option_map_or rows_of f []) now.1 ∙ now.2.rows_are

-- After the edits each place has the edited rows.
pub edited_have : (old new : Tables) (changes : List PlacedEdits) → HaveRows (rows_edited old changes) old new → (place : ℕ)
    → rows_at new.tables place ≡ rows_edited old changes place
edited_have old new changes have place =
    rows_have (rows_edited old changes) old new have place
    (λ gone. ap (λ (f : Option StoredRows). option_map_or (λ (s : StoredRows). rows_after s (edits_at changes place)) f []) gone)

-- ---- tables whose edits are made

-- The edits of some tables are made, none of them before the others, and no others.
pub record IsPartly (old : Tables) (done : List PlacedEdits) (new : Tables) : Type 0 where
  pub have : HaveRows (rows_edited old done) old new
  pub others : (place : ℕ) → All (λ (c : PlacedEdits). place < c.0) done → slice_get new.tables place ≡ slice_get old.tables place
  pub links : new.links ≡ old.links

pub IsPartly-none : (old : Tables) → IsPartly old [] old
IsPartly-none old = record {
  have = record {
    count = refl;
    each = λ place stored there. (
      stored,
      there,
      record {
        rows_are = sym (ap (λ (f : Option StoredRows). option_map_or (λ (s : StoredRows). rows_after s []) f []) there);
        types = refl;
        key = refl;
        indexes = record { size = refl; each = λ k d below. (refl, refl) };
      },
    );
  };
  others = λ place before. refl;
  links = refl;
}

module _ (old : Tables) (c : PlacedEdits) (done : List PlacedEdits) (mid : Tables) (behind : All (λ (d : PlacedEdits). c.0 < d.0) done)
    (partly : IsPartly old done mid) (stored : StoredRows) (there : IsAt old c.0 stored) where
  -- The relation of an earlier table is unchanged.
  pub still_there : IsAt mid c.0 stored
  still_there = partly.others c.0 behind ∙ there

  pub only_there : (other : StoredRows) → IsAt mid c.0 other → other ≡ stored
  only_there other at = one_relation other stored (sym at ∙ still_there)

  within : c.0 < length mid.tables
  within = slice_get_within mid.tables c.0 stored still_there

  module _ (new : Tables) (next : StoredRows) (turned : Turns mid c.0 next new) (has : HasRows stored (rows_after stored c.1) next)
      (links : new.links ≡ mid.links) where
    own_place : (place : ℕ) → c.0 ≡ place → (s : StoredRows) → IsAt old place s
        → (now : StoredRows) × IsAt new place now × HasRows s (rows_edited old (c ∷ done) place) now
    own_place place same s at =
        let is : stored ≡ s = one_relation stored s (sym there ∙ (ap (slice_get old.tables) same ∙ at)) in
        let rows : rows_after stored c.1 ≡ rows_edited old (c ∷ done) place =
        ap (rows_after stored) (sym (edits_own place c done same))
        ∙ sym (ap (λ (f : Option StoredRows). option_map_or (λ (k : StoredRows). rows_after k (edits_at (c ∷ done) place)) f [])
        (sym (ap (slice_get old.tables) same) ∙ there)) in (
          next,
          ap (λ (ts : List StoredRows). slice_get ts place) turned
              ∙ subst (λ (p : ℕ). slice_get (slice_set mid.tables c.0 next) p ≡ Some next) same (get_set_same mid.tables c.0 next within),
          subst (λ (k : StoredRows). HasRows k (rows_edited old (c ∷ done) place) next) is
              (subst (λ (xs : List (List Value)). HasRows stored xs next) rows has),
        )

    other_place : (place : ℕ) → c.0 ≢ place → (s : StoredRows) → IsAt old place s
        → (now : StoredRows) × IsAt new place now × HasRows s (rows_edited old (c ∷ done) place) now
    other_place place apart s at =
        let now = partly.have.each place s at in (
          now.0,
          ap (λ (ts : List StoredRows). slice_get ts place) turned
              ∙ (get_set_other mid.tables c.0 place next (λ same. apart (sym same)) ∙ now.1),
          subst (λ (es : List Edit). HasRows s (option_map_or (λ (k : StoredRows). rows_after k es) (slice_get old.tables place) []) now.0)
              (sym (edits_other place c done apart)) now.2,
        )

    -- The edits of one table more are made.
    pub IsPartly-more : IsPartly old (c ∷ done) new
    IsPartly-more = record {
      have = record {
        count = ap (λ (ts : List StoredRows). length ts) turned ∙ (length-set mid.tables c.0 next ∙ partly.have.count);
        each = λ place s at.
            elim (cases_Bool (c.0 == place)) [
              | inl own ↦ own_place place (eqb-true c.0 place own) s at
              | inr other ↦ other_place place (λ same. false≢true (sym other ∙ eq-eqb c.0 place same)) s at
            ];
      };
      others = λ place before.
          ap (λ (ts : List StoredRows). slice_get ts place) turned
          ∙ (get_set_other mid.tables c.0 place next
          (λ same. absurd (omega (arith, same, All-head (λ (d : PlacedEdits). place < d.0) c done before)))
          ∙ partly.others place (All-tail (λ (d : PlacedEdits). place < d.0) c done before));
      links = links ∙ partly.links;
    }

-- ---- rows that refer to a deleted row, or to none

same_behind : (b x y : Bool) → (b ≡ true → x ≡ y) → (b && x) ≡ (b && y)
same_behind true x y same = same refl
same_behind false x y same = refl

same_of_all : (p q : Reference → Bool) → ((r : Reference) → r.to < r.from → p r ≡ q r) → (links : List Reference)
    → All (λ (r : Reference). r.to < r.from) links → list_any p links ≡ list_any q links
same_of_all p q same [] back = refl
same_of_all p q same (r ∷ rs) back =
    let first = same r (All-head (λ (x : Reference). x.to < x.from) r rs back) in
    let rest = same_of_all p q same rs (All-tail (λ (x : Reference). x.to < x.from) r rs back) in
    λ i. first i || rest i

module _ (old : Tables) (front : List PlacedEdits) (c : PlacedEdits) (done : List PlacedEdits) (mid : Tables)
    (before : All (λ (d : PlacedEdits). d.0 < c.0) front) (partly : IsPartly old done mid) (stored : StoredRows) (there : IsAt old c.0 stored) where
  abbrev all : List PlacedEdits
  all = front ++ c ∷ done

  abbrev pairs : List Pair
  pairs = pairs_of (slot_at stored.places) c.1

  -- Later tables have their rows after all edits.
  rows_behind : (from : ℕ) → c.0 < from → rows_at mid.tables from ≡ rows_edited old all from
  rows_behind from past =
      edited_have old mid done partly.have from
      ∙ ap (λ (es : List Edit). option_map_or (λ (s : StoredRows). rows_after s es) (slice_get old.tables from) [])
      (sym (edits_behind from front (c ∷ done) (All-weaker (λ (d : PlacedEdits). d.0 < c.0) (λ (d : PlacedEdits). d.0 < from)
      (λ d less. omega (arith, less, past)) front before)
      ∙ edits_other from c done (λ same. absurd (omega (arith, same, past)))))

  same_orphan : (r : Reference) → r.to < r.from → makes_orphan mid.tables c.0 stored.key pairs r ≡ leaves_orphan old all c r
  same_orphan r back =
      same_behind (r.to == c.0) _ _
      (λ own.
      let is : r.to ≡ c.0 = eqb-true r.to c.0 own in
      let key : stored.key ≡ key_at old.tables c.0 = sym (ap (λ (f : Option StoredRows). option_map_or (λ (s : StoredRows). s.key) f 0) there) in
      let rows : rows_at mid.tables r.from ≡ rows_edited old all r.from = rows_behind r.from (omega (arith, is, back)) in
      let gone : pairs ≡ pairs_at old.tables c =
      sym (ap (λ (f : Option StoredRows). option_map_or (λ (s : StoredRows). pairs_of (slot_at s.places) c.1) f []) there) in
      λ i. lose_targets r.column (key i) (rows i) (gone i))

  -- The store finds, once the edits of the later tables are made, the orphans that all edits leave.
  pub orphans_same : All (λ (r : Reference). r.to < r.from) old.links
      → makes_orphans mid c.0 stored.key pairs ≡ list_any (leaves_orphan old all c) old.links
  orphans_same back =
      ap (list_any (makes_orphan mid.tables c.0 stored.key pairs)) partly.links
      ∙ same_of_all (makes_orphan mid.tables c.0 stored.key pairs) (leaves_orphan old all c) same_orphan old.links back

  module _ (behind : All (λ (d : PlacedEdits). c.0 < d.0) done) (rows : List (List Value)) where
    same_target : (r : Reference) → r.to < r.from → finds_orphan mid.tables c.0 rows r ≡ finds_orphan old.tables c.0 rows r
    same_target r back =
        same_behind (r.from == c.0) _ _
        (λ own.
        let is : r.from ≡ c.0 = eqb-true r.from c.0 own in
        let there : slice_get mid.tables r.to ≡ slice_get old.tables r.to =
        partly.others r.to (All-weaker (λ (d : PlacedEdits). c.0 < d.0) (λ (d : PlacedEdits). r.to < d.0) (λ d more. omega (arith, is, back, more))
        done behind) in
        λ i. list_any (lacks_target_row r.column (option_map_or (λ (s : StoredRows). s.key) (there i) 0) (option_map_or rows_of (there i) [])) rows)

    -- Rows of a table lack a target then exactly if they lack one before: the target is in an earlier table.
    pub targets_same : All (λ (r : Reference). r.to < r.from) old.links → has_orphans mid c.0 rows ≡ has_orphans old c.0 rows
    targets_same back =
        ap (list_any (finds_orphan mid.tables c.0 rows)) partly.links
        ∙ same_of_all (finds_orphan mid.tables c.0 rows) (finds_orphan old.tables c.0 rows) same_target old.links back

-- An element found in a part of a list is found in the list, ..
pub found_among : {X : Type 0} (p : X → Bool) (front : List X) (x : X) (back : List X) → p x ≡ true → list_any p (front ++ x ∷ back) ≡ true
found_among p [] x back found = ap (λ b. b || list_any p back) found
found_among p (y ∷ ys) x back found = ap (λ b. p y || b) (found_among p ys x back found) ∙ or_true (p y)
  where
    or_true : (b : Bool) → (b || true) ≡ true
    or_true true = refl
    or_true false = refl
