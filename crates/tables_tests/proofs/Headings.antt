-- Lemmas about the tables of the tests.
use Rattle.std.proofs.Common.{◌≡◌, ◌≢◌, ◌⊎◌, ⊎_elim, inl, inr, ℕ, ◌<◌, zero, suc, List, [], ◌∷◌, length, map, get_or, refl, sym, ap, ap₂, ◌∙◌, subst, arith}
use Rattle.std.specs.Prelude.{Result, OnOk, OnErr}
use Rattle.std.specs.List.{Contains}
use Rattle.std.proofs.lemmas.Bool.{cases_eq}
use Rattle.std.proofs.lemmas.List.{length-map, get_or_default}
use Rattle.mm_schema.specs.declared.index.IndexKind.{IndexKind}
use Rattle.mm_partition.specs.Places.{slot_at}
use Rattle.mm_row_order.specs.Refs.{Slots}
use Rattle.mm_indexed.specs.Kept.{StoredRows}
use Rattle.mm_tables.specs.Tables.{Stored, HoldsAt, IndexAdded, KeepsOthers, shape_of, slots_of, state_of, slots_in, key_in}
use Rattle.mm_tables.specs.declared.logged_table.LoggedTable.{LoggedTable}
use Rattle.mm_tables.proofs.InTables.{key_read, slots_read}
use Rattle.mm_tables.proofs.Slots.{either_way}
use Rattle.tables_tests.specs.Samples.{Heading, heading_of, AreSample}

pub sample_len : (s : Stored) → AreSample s → length s.tables ≡ 2
sample_len s was = sym (length-map s.tables shape_of) ∙ (sym (length-map (map shape_of s.tables) heading_of) ∙ ap length was)

-- ---- a table gets an index

same_headings : (old new : List LoggedTable) → length new ≡ length old
    → ((k : ℕ) (d : LoggedTable) → heading_of (shape_of (get_or new k d)) ≡ heading_of (shape_of (get_or old k d)))
    → map heading_of (map shape_of new) ≡ map heading_of (map shape_of old)
same_headings [] [] size same = refl
same_headings [] (y ∷ ys) size same = let no : ⊥ = omega (arith, size) in absurd no
same_headings (x ∷ xs) [] size same = let no : ⊥ = omega (arith, size) in absurd no
same_headings (x ∷ xs) (y ∷ ys) size same =
    ap₂ (λ (h : Heading) (hs : List Heading). h ∷ hs) (same 0 x) (same_headings xs ys (omega (arith, size)) (λ k d. same (suc k) d))

pub AreSample-indexed : {T E : Type 0} (column : ℕ) (kind : IndexKind) (t : ℕ) (old new : Stored) (r : Result T E)
    → OnOk r ((d : LoggedTable) → IndexAdded column kind (get_or old.tables t d) (get_or new.tables t d)) → OnErr r (new ≡ old)
    → KeepsOthers t old.tables new.tables → state_of new.tables ≡ state_of old.tables → AreSample old → AreSample new
AreSample-indexed column kind t old new r added err others state was =
    let size : length new.tables ≡ length old.tables = sym (length-map new.tables slots_of) ∙ (ap length state ∙ length-map old.tables slots_of) in
    either_way r _ _ (AreSample new) added err
    (λ is. same_headings old.tables new.tables size (λ k d.
    ⊎_elim
    (λ (here : k ≡ t).
    subst (λ (n : ℕ). heading_of (shape_of (get_or new.tables n d)) ≡ heading_of (shape_of (get_or old.tables n d))) (sym here)
    (ap (λ (x : LoggedTable). heading_of (shape_of x)) (is d).rest))
    (λ (apart : k ≢ t). ap (λ (x : LoggedTable). heading_of (shape_of x)) (others k d apart))
    (cases_eq k t))
    ∙ was)
    (λ (is : new ≡ old). subst AreSample (sym is) was)

-- ---- a table that was read

pub in_table : (P : ℕ → Slots → Type 0) (tables : List LoggedTable) (t : ℕ) (rows : StoredRows) → t < length tables
    → HoldsAt (λ x. rows ≡ x.rows) tables t → P rows.key (slot_at rows.places) → P (key_in tables t) (slots_in tables t)
in_table P tables t rows within read holds =
    let any : LoggedTable = record { rows = rows; owed = record { key = 0; indexes = 0 } } in
    let item : LoggedTable = get_or tables t any in
    let here : item ≡ get_or tables t item = get_or_default tables t any item within in
    let there : P item.rows.key (slots_of item) = subst (λ (r : StoredRows). P r.key (slot_at r.places)) (read any) holds in
    subst (λ (k : ℕ). P k (slots_in tables t)) (sym (key_read tables t item within here))
    (subst (P item.rows.key) (sym (slots_read tables t item within here)) there)

-- ---- lists

-- an element is the first one, or one of the others
pub contains_cases : {X : Type 0} (a : X) (xs : List X) (x : X) → Contains (a ∷ xs) x → (a ≡ x) ⊎ Contains xs x
contains_cases a xs x (zero, within, is) = inl is
contains_cases a xs x (suc k, within, is) = inr (k, omega arith, is)

pub contains_none : {X : Type 0} (x : X) → Contains [] x → ⊥
contains_none x (k, within, is) = let no : ⊥ = omega arith in no
