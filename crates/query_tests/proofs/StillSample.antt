-- The changes of the tests to the tables of a sample leave a sample.
use Rattle.std.proofs.Common.{◌≡◌, ℕ, ◌<◌, List, length, sym, ap, ◌∙◌, subst, arith}
use Rattle.std.proofs.lemmas.List.Elements.{All-same}
use Rattle.mm_indexed.specs.Kept.{StoredRows}
use Rattle.mm_indexed.specs.Index.{AddsIndex, EachTurns}
use Rattle.mm_schema.specs.declared.index.IndexKind.{IndexKind}
use Rattle.store_tests.proofs.PlainStores.{plain_at, plain_formed, plain_indexed}
use Rattle.store_tests.proofs.StagedRows.{plain_staged, size_staged}
use Rattle.store_tests.specs.SampleStore.{ArePlain, IsPlain}
use Rattle.mm_store.specs.Staging.{HasStaged}
use Rattle.mm_store.specs.Tables.{IsAt, SameForm, Tables, Turns}
use Rattle.mm_value.specs.declared.col_type.ColType.{ColType}
use Rattle.query_tests.specs.Sample.{IsSample}

-- each table has two columns
pub two_at : (view : Tables) (place : ℕ) → IsSample view → (stored : StoredRows) → IsAt view place stored → length stored.places.types ≡ 2
two_at view place sample stored at = ap (λ (types : List ColType). length types) (plain_at view place sample.plain stored at).types

still_sample : (old new : Tables) → IsSample old → (length new.tables ≡ length old.tables) × ArePlain new → IsSample new
still_sample old new sample is = record { two = is.0 ∙ sample.two; plain = is.1 }

-- each table keeps its form
pub formed : (old new : Tables) → EachTurns SameForm old.tables new.tables → IsSample old → IsSample new
formed old new forms sample =
    let size = forms.size in
    still_sample old new sample (omega arith, plain_formed old new forms sample.plain)

-- rows of one table are staged
pub staged : (old new : Tables) (place : ℕ) → place < 2 → IsSample old → HasStaged place old new → IsSample new
staged old new place within sample kept =
    let there : place < length old.tables = subst (λ (n : ℕ). place < n) (sym sample.two) within in
    still_sample old new sample (size_staged place old new there kept, plain_staged place old new there kept sample.plain)

-- one table has another index, and keeps its columns
pub indexed : (old new : Tables) (place : ℕ) (column : ℕ) (kind : IndexKind) → place < 2 → IsSample old
    → ((stored : StoredRows) → IsAt old place stored → (x : StoredRows) × Turns old place x new × (x ≡ record stored { indexes = x.indexes })
    × AddsIndex column kind stored.indexes x.indexes) → IsSample new
indexed old new place column kind within sample told =
    still_sample old new sample (plain_indexed old new place column kind (subst (λ (n : ℕ). place < n) (sym sample.two) within) sample.plain told)

-- no table has changed
pub unchanged : (old new : Tables) → new.tables ≡ old.tables → IsSample old → IsSample new
unchanged old new same sample = record {
  two = ap (λ (ts : List StoredRows). length ts) same ∙ sample.two;
  plain = All-same IsPlain new.tables old.tables same sample.plain;
}
