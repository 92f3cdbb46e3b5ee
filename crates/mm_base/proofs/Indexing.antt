-- An index of one table is added or dropped, and everything else stays.
use Rattle.std.proofs.Common.{◌≡◌, ◌≢◌, ℕ, suc, ⊎_elim, List, [], ◌∷◌, length, map, get_or, refl, sym, ap, ap₂, ◌∙◌, subst, arith}
use Rattle.std.specs.Prelude.{Result, Ok, Err, OnOk, OnErr}
use Rattle.std.proofs.lemmas.Bool.{cases_eq}
use Rattle.std.proofs.lemmas.List.{length-map}
use Rattle.std.proofs.lemmas.Simd.{map-map}
use Rattle.mm_link.specs.declared.link.Link.{Link}
use Rattle.mm_partition.specs.Places.{Places, extent_of}
use Rattle.mm_schema.specs.declared.index.IndexKind.{IndexKind}
use Rattle.mm_tables.specs.Tables.{Shape, Stored, IndexAdded, KeepsOthers, extents_of, keys_of, shape_of, slots_of, state_of, without_index}
use Rattle.mm_tables.specs.declared.logged_table.LoggedTable.{LoggedTable}
use Rattle.mm_base.specs.Bases.{IsSound}
use Rattle.mm_base.specs.Joined.{HaveEntriesFor}
use Rattle.mm_base.proofs.Chained.{KeepsSize-refl, entries_kept, sound_alike}
use Rattle.mm_base.proofs.Joining.{no_more, types_of}

-- ---- one table

-- The tables have the same rows in the same slots. Indexes may differ.
pub record SamePlaces (old new : LoggedTable) : Type 0 where
  pub key : new.rows.key ≡ old.rows.key
  pub places : new.rows.places ≡ old.rows.places

pub SamePlaces-refl : (t : LoggedTable) → SamePlaces t t
SamePlaces-refl t = record { key = refl; places = refl }

SamePlaces-equal : (old new : LoggedTable) → new ≡ old → SamePlaces old new
SamePlaces-equal old new same = subst (SamePlaces old) (sym same) (SamePlaces-refl old)

pub SamePlaces-added : (column : ℕ) (kind : IndexKind) (old new : LoggedTable) → IndexAdded column kind old new → SamePlaces old new
SamePlaces-added column kind old new added = record {
  key = ap (λ (t : LoggedTable). t.rows.key) added.rest;
  places = ap (λ (t : LoggedTable). t.rows.places) added.rest;
}

pub SamePlaces-dropped : (index : ℕ) (old new : LoggedTable) → new ≡ without_index index old → SamePlaces old new
SamePlaces-dropped index old new dropped = record {
  key = ap (λ (t : LoggedTable). t.rows.key) dropped;
  places = ap (λ (t : LoggedTable). t.rows.places) dropped;
}

-- ---- all tables

-- one value of each table
all_same : {X : Type 0} (f : LoggedTable → X) (old new : List LoggedTable) → length new ≡ length old
    → ((t : ℕ) (d : LoggedTable) → f (get_or new t d) ≡ f (get_or old t d)) → map f new ≡ map f old
all_same f [] [] size same = refl
all_same f [] (y ∷ ys) size same = absurd (omega (arith, size))
all_same f (x ∷ xs) [] size same = absurd (omega (arith, size))
all_same {X} f (x ∷ xs) (y ∷ ys) size same =
    ap₂ (λ (z : X) (zs : List X). z ∷ zs) (same 0 x) (all_same f xs ys (omega (arith, size)) (λ t d. same (suc t) d))

module _ (old new : List LoggedTable) (state : state_of new ≡ state_of old)
    (each : (t : ℕ) (d : LoggedTable) → SamePlaces (get_or old t d) (get_or new t d)) where
  size : length new ≡ length old
  size = sym (length-map new slots_of) ∙ (ap length state ∙ length-map old slots_of)

  pub keys_stay : keys_of new ≡ keys_of old
  keys_stay =
      map-map (λ (x : Shape). x.key) shape_of new
      ∙ (all_same (λ (t : LoggedTable). t.rows.key) old new size (λ t d. (each t d).key) ∙ sym (map-map (λ (x : Shape). x.key) shape_of old))

  types_stay : types_of new ≡ types_of old
  types_stay =
      map-map (λ (x : Shape). x.types) shape_of new
      ∙ (all_same (λ (t : LoggedTable). t.rows.places.types) old new size (λ t d. ap (λ (p : Places). p.types) (each t d).places)
      ∙ sym (map-map (λ (x : Shape). x.types) shape_of old))

  extents_stay : extents_of new ≡ extents_of old
  extents_stay = all_same (λ (t : LoggedTable). extent_of t.rows.places) old new size (λ t d. ap extent_of (each t d).places)

  pub entries_stay : (links : List Link) (t n : ℕ) → HaveEntriesFor n t old links → HaveEntriesFor n t new links
  entries_stay links = entries_kept old new links links (no_more old new extents_stay) (KeepsSize-refl links)

pub sound_stays : (old new : Stored) (links : List Link) → new ≡ record old { tables = new.tables } → state_of new.tables ≡ state_of old.tables
    → ((t : ℕ) (d : LoggedTable) → SamePlaces (get_or old.tables t d) (get_or new.tables t d)) → IsSound old links → IsSound new links
sound_stays old new links rest state each =
    sound_alike old new links (keys_stay old.tables new.tables state each) (types_stay old.tables new.tables state each)
    (extents_stay old.tables new.tables state each) state (ap (λ (s : Stored). s.log) rest)

-- ---- one table of several

module _ (i : ℕ) (old new : List LoggedTable) (others : KeepsOthers i old new) where
  pub each_same : ((d : LoggedTable) → SamePlaces (get_or old i d) (get_or new i d)) → (t : ℕ) (d : LoggedTable) → SamePlaces (get_or old t d) (get_or new t d)
  each_same here t d =
      ⊎_elim
      (λ (same : t ≡ i). subst (λ (n : ℕ). SamePlaces (get_or old n d) (get_or new n d)) (sym same) (here d))
      (λ (apart : t ≢ i). SamePlaces-equal (get_or old t d) (get_or new t d) (others t d apart))
      (cases_eq t i)

  pub each_dropped : (index : ℕ) → ((d : LoggedTable) → get_or new i d ≡ without_index index (get_or old i d))
      → (t : ℕ) (d : LoggedTable) → SamePlaces (get_or old t d) (get_or new t d)
  each_dropped index dropped = each_same (λ d. SamePlaces-dropped index (get_or old i d) (get_or new i d) (dropped d))

-- an index was added, or nothing changed
pub each_added : {T E : Type 0} (result : Result T E) (column : ℕ) (kind : IndexKind) (i : ℕ) (old new : Stored)
    → OnOk result ((d : LoggedTable) → IndexAdded column kind (get_or old.tables i d) (get_or new.tables i d)) → OnErr result (new ≡ old)
    → KeepsOthers i old.tables new.tables → (t : ℕ) (d : LoggedTable) → SamePlaces (get_or old.tables t d) (get_or new.tables t d)
each_added (Ok done) column kind i old new added same others =
    each_same i old.tables new.tables others (λ d. SamePlaces-added column kind (get_or old.tables i d) (get_or new.tables i d) (added d))
each_added (Err error) column kind i old new added same others = λ t d.
    SamePlaces-equal (get_or old.tables t d) (get_or new.tables t d) (ap (λ (s : Stored). get_or s.tables t d) same)
