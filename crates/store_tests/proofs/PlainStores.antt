-- The changes of the tests leave plain tables plain.
use Rattle.std.proofs.Common.{◌≡◌, ℕ, ◌<◌, ◌≤◌, ◌⊎◌, inl, inr, List, Some, None, length, slice_get, get_or, sym, ap, ◌∙◌, subst, arith}
use Rattle.std.proofs.lemmas.List.{length-set}
use Rattle.std.proofs.lemmas.List.Elements.{All-get_or, All-same, All-set}
use Rattle.std.proofs.lemmas.Option.{get_or_from_slice_get, slice_get_cases, slice_get_within}
use Rattle.mm_indexed.specs.Index.{AddsIndex, EachTurns}
use Rattle.mm_indexed.specs.Kept.{StoredRows}
use Rattle.mm_indexed.proofs.Turning.{All-turned}
use Rattle.mm_schema.specs.declared.index.IndexKind.{IndexKind}
use Rattle.mm_store.specs.Tables.{IsAt, SameForm, Tables, Turns}
use Rattle.store_tests.specs.SampleStore.{ArePlain, IsPlain}

-- a table is at each place below the count
in_case : (items : List StoredRows) (place : ℕ) → place < length items
    → ((x : StoredRows) × (place < length items) × (slice_get items place ≡ Some x) × (get_or items place x ≡ x))
    ⊎ ((length items ≤ place) × (slice_get items place ≡ None))
    → (x : StoredRows) × (slice_get items place ≡ Some x)
in_case items place within (inl (x, below, at, read)) = (x, at)
in_case items place within (inr (past, none)) = absurd (omega (arith, within, past))

pub at_place : (view : Tables) (place : ℕ) → place < length view.tables → (stored : StoredRows) × IsAt view place stored
at_place view place within = in_case view.tables place within (slice_get_cases view.tables place).1

-- each table is plain
pub plain_at : (view : Tables) (place : ℕ) → ArePlain view → (stored : StoredRows) → IsAt view place stored → IsPlain stored
plain_at view place plain stored at = subst IsPlain (get_or_from_slice_get view.tables place stored stored at)
    (All-get_or IsPlain view.tables place stored (slice_get_within view.tables place stored at) plain)

-- after one table is replaced by a plain one, all are plain, and as many
pub still_plain : (old new : Tables) (place : ℕ) (x : StoredRows) → ArePlain old → Turns old place x new → IsPlain x → ArePlain new
still_plain old new place x plain turned fits = All-same IsPlain new.tables _ turned (All-set IsPlain old.tables place x fits plain)

pub as_many : (old new : Tables) (place : ℕ) (x : StoredRows) → Turns old place x new → length new.tables ≡ length old.tables
as_many old new place x turned = ap (λ (ts : List StoredRows). length ts) turned ∙ length-set old.tables place x

-- a change that keeps the forms of all tables leaves them plain
pub plain_formed : (old new : Tables) → EachTurns SameForm old.tables new.tables → ArePlain old → ArePlain new
plain_formed old new forms plain =
    All-turned SameForm IsPlain IsPlain old.tables new.tables forms (λ x y is same. record { types = same.types ∙ is.types }) plain

-- so does one more index
pub plain_indexed : (old new : Tables) (place column : ℕ) (kind : IndexKind) → place < length old.tables → ArePlain old
    → ((stored : StoredRows) → IsAt old place stored → (x : StoredRows) × Turns old place x new × (x ≡ record stored { indexes = x.indexes })
    × AddsIndex column kind stored.indexes x.indexes)
    → (length new.tables ≡ length old.tables) × ArePlain new
plain_indexed old new place column kind within plain told =
    let found = at_place old place within in
    let turned = told found.0 found.1 in
    let was = plain_at old place plain found.0 found.1 in
    let fits : IsPlain turned.0 = record { types = ap (λ (s : StoredRows). s.places.types) turned.2 ∙ was.types } in
    (as_many old new place turned.0 turned.1, still_plain old new place turned.0 plain turned.1 fits)
