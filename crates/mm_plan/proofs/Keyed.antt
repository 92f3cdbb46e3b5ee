-- The keys of steps.
use Rattle.std.proofs.Common.{◌≡◌, ◌+◌, ◌<◌, ℕ, Bool, true, List, Option, Some, get_or, length, sym, ap, ◌∙◌, subst}
use Rattle.std.proofs.lemmas.Option.{get_or_from_slice_get, same_Some, slice_get_within}
use Rattle.std.specs.List.{sum_by}
use Rattle.std.specs.Option.{option_and_then, option_map_or}
use Rattle.std.specs.Prelude.{slice_get, slice_index}
use Rattle.mm_join.specs.Equated.{IsJoin, plain_key}
use Rattle.mm_join.specs.Keys.{key_of}
use Rattle.mm_join.specs.Reads.{has_prefix, merge_reads, reads_behind}
use Rattle.mm_join.specs.declared.key.JoinKey.{JoinKey}
use Rattle.mm_plan.proofs.Referred.{unshifted}
use Rattle.mm_plan.specs.Naming.{key_by}
use Rattle.mm_plan.specs.Steps.{HasKey, RefersPlainly, passes_key}
use Rattle.mm_query.specs.Queries.{Partial}
use Rattle.mm_query.specs.declared.atom.Atom.{Atom}
use Rattle.mm_query.specs.declared.bound_query.FieldPlace.{FieldPlace}
use Rattle.mm_indexed.specs.Kept.{StoredRows}
use Rattle.mm_base.specs.Columns.{IsReference}
use Rattle.mm_store.specs.Tables.{IsAt, Tables}
use Rattle.mm_value.specs.declared.values.Value.{Value}

module _ (atoms : List (Atom FieldPlace)) (place atom : ℕ) (key : JoinKey) (is : HasKey atoms place atom (λ k. k ≡ key)) where
  -- A property of the atom's key holds for this key.
  pub key_holds : (Holds : JoinKey → Type 0) → HasKey atoms place atom Holds → Holds key
  key_holds Holds (own, k, at, has, holds) =
      let same : own ≡ is.0 = same_Some own is.0 (sym at ∙ is.2) in
      let keys : k ≡ is.1 = same_Some k is.1 (sym has ∙ (ap (key_of place) same ∙ is.3)) in
      subst Holds (keys ∙ is.4) holds

  -- This key is the key of the atom at its position.
  pub by_place : key_by atoms place atom ≡ Some key
  by_place = ap (option_and_then (key_of place)) is.2 ∙ (is.3 ∙ ap Some is.4)

  -- A test passes for the atom's key exactly if it passes for this key.
  pub passed_key : (test : JoinKey → Bool) → passes_key test atoms place atom ≡ test key
  passed_key test =
      ap (λ o. option_map_or (λ own. option_map_or test (key_of place own) true) o true) is.2
      ∙ (ap (λ o. option_map_or test o true) is.3 ∙ ap test is.4)

  -- So the rows that may follow by the atom are those that may follow by the key.
  pub reads_by_key : (follow : JoinKey → Partial → List Value → Bool) (rows : List (List Value)) (outers : List (List (List Value)))
      → sum_by (reads_behind (λ seen row. passes_key (λ k. follow k seen row) atoms place atom) rows) outers
      ≡ sum_by (reads_behind (follow key) rows) outers
  reads_by_key follow rows outers = λ i. sum_by (reads_behind (λ seen row. passed_key (λ k. follow k seen row) i) rows) outers

  -- The same holds for a merge, which also reads a prefix of each combination.
  pub merge_reads_by_key : (rows : List (List Value)) (outers : List (List (List Value)))
      → sum_by (λ combination. 1 + reads_behind (λ seen row. passes_key (λ k. has_prefix k seen row) atoms place atom) rows combination) outers
      ≡ sum_by (merge_reads key rows) outers
  merge_reads_by_key rows outers = λ i. sum_by (λ combination. 1 + reads_behind (λ seen row. passed_key (λ k. has_prefix k seen row) i) rows combination) outers

-- An atom with a key that has some property has a key.
pub any_key : (atoms : List (Atom FieldPlace)) (place atom : ℕ) (Holds : JoinKey → Type 0) → HasKey atoms place atom Holds
    → HasKey atoms place atom (λ key. Unit {0})
any_key atoms place atom Holds (own, key, at, has, holds) = (own, key, at, has, tt)

module _ (atoms : List (Atom FieldPlace)) (place atom : ℕ) (has : HasKey atoms place atom (λ key. Unit {0})) where
  -- The atom at the position exists.
  pub atom_there : atom < length atoms
  atom_there = slice_get_within atoms atom has.0 has.2

  pub atom_read : (own : Atom FieldPlace) → own ≡ get_or atoms atom own → slice_get atoms atom ≡ Some own
  atom_read own is = has.2 ∙ ap Some (sym (is ∙ get_or_from_slice_get atoms atom has.0 own has.2))

  -- The key that is read from the atom is its key.
  pub key_read : (own : Atom FieldPlace) → own ≡ get_or atoms atom own → (found : Option JoinKey) → found ≡ key_of place own → found ≡ Some has.1
  key_read own is found are = are ∙ (ap (key_of place) (is ∙ get_or_from_slice_get atoms atom has.0 own has.2) ∙ has.3)

  pub key_given : (key : JoinKey) → Some key ≡ Some has.1 → HasKey atoms place atom (λ k. k ≡ key)
  key_given key same = (has.0, has.1, has.2, has.3, same_Some has.1 key (sym same))

-- A key that refers plainly to a table requires the row that its field refers to.
pub followed : (store : Tables) (atoms : List (Atom FieldPlace)) (outers : List ℕ) (table : ℕ) (key : JoinKey) → RefersPlainly store outers table key
    → key.field.place < length outers → IsJoin atoms outers key → (stored : StoredRows) → IsAt store table stored
    → (key.field.place < length outers) × IsReference store.links (slice_index outers key.field.place) key.field.column table
    × IsJoin atoms outers (plain_key stored.key key.field)
followed store atoms outers table key (none, column, refers) earlier asked stored here =
    (earlier, refers, unshifted atoms outers key stored.key (column stored here) none asked)
