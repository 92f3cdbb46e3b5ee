-- Columns with an index.
use Rattle.std.proofs.Common.{◌≡◌, ℕ, ◌<◌, ◌==◌, Bool, true, false, ◌||◌, length, get_or, Option, Some, None, inl, inr, refl, sym, ap, ◌∙◌, subst}
use Rattle.std.specs.Prelude.{is_some}
use Rattle.std.specs.List.{list_any}
use Rattle.std.specs.Option.{option_map_or}
use Rattle.std.proofs.lemmas.Bool.{cases_Bool, eq-eqb, eqb-true}
use Rattle.std.proofs.lemmas.List.{get_or_default}
use Rattle.std.proofs.lemmas.List.Folds.{list_any_at, list_any_none}
use Rattle.mm_indexed.specs.Index.{column_of, kind_of, IsOn}
use Rattle.mm_indexed.specs.Kept.{StoredRows}
use Rattle.mm_indexed.specs.Reads.{HasIndex}
use Rattle.mm_indexed.specs.declared.indexes.index.Index.{Index}
use Rattle.mm_schema.specs.declared.index.IndexKind.{IndexKind}
use Rattle.mm_schema.specs.declared.index.IndexKind.TheVariants as kind
use Rattle.mm_store.specs.Looked.{IsFirstOn, IsIndexOn}
use Rattle.mm_store.specs.Tables.{IsAt, Tables}
use Rattle.mm_store.specs.declared.index_ref.IndexRef.{IndexRef}
use Rattle.mm_store.specs.declared.index_ref.IndexRef.TheVariants.{Key, Tree, Hash}
use Rattle.mm_store.proofs.Joining.{some_at}
use Rattle.mm_delta.specs.Edited.{has_index, is_indexed}
use Rattle.mm_query.proofs.Updates.{or_false}
use Rattle.mm_store.proofs.Looked.{any_of}

either : (a b : Bool) → b ≡ true → (a || b) ≡ true
either true b h = refl
either false b h = h

module _ (stored : StoredRows) (column : ℕ) where
  abbrev on : Index → Bool
  on index = column_of index == column

  placed : (place : ℕ) (k : IndexKind) → HasIndex stored.indexes place column k → is_indexed stored column ≡ true
  placed place k has =
      let d : Index = any_of stored.indexes place has.0 in
      either (column == stored.key) (list_any on stored.indexes)
      (list_any_at on stored.indexes place d has.0 (eq-eqb (column_of (get_or stored.indexes place d)) column (has.1 d).0))

  there : (index : IndexRef) → IsIndexOn stored column index → is_indexed stored column ≡ true
  there Key is = ap (λ b. b || list_any on stored.indexes) (eq-eqb column stored.key is)
  there (Tree place) has = placed place kind.Tree has
  there (Hash place) has = placed place kind.Hash has

  of_kind : (place : ℕ) → place < length stored.indexes → (d : Index) → column_of (get_or stored.indexes place d) ≡ column
      → (k : IndexKind) → kind_of (get_or stored.indexes place d) ≡ k → HasIndex stored.indexes place column k
  of_kind place within d is k e =
      (within, λ other. subst (IsOn column k) (get_or_default stored.indexes place d other within) (is, e))

  absent : ((index : IndexRef) → IsIndexOn stored column index → ⊥) → (place : ℕ) → place < length stored.indexes → (d : Index)
      → column_of (get_or stored.indexes place d) ≡ column → (k : IndexKind) → kind_of (get_or stored.indexes place d) ≡ k → ⊥
  absent none place within d is kind.Tree e = none (Tree place) (of_kind place within d is kind.Tree e)
  absent none place within d is kind.Hash e = none (Hash place) (of_kind place within d is kind.Hash e)

  not_there : ((index : IndexRef) → IsIndexOn stored column index → ⊥) → is_indexed stored column ≡ false
  not_there none =
      or_false (column == stored.key) (list_any on stored.indexes)
      (elim (cases_Bool (column == stored.key)) [
        | inl met ↦ absurd (none Key (eqb-true column stored.key met))
        | inr unmet ↦ unmet
      ])
      (list_any_none on stored.indexes (λ place d within.
      elim (cases_Bool (on (get_or stored.indexes place d))) [
        | inl met ↦ absurd (absent none place within d (eqb-true (column_of (get_or stored.indexes place d)) column met)
            (kind_of (get_or stored.indexes place d)) refl)
        | inr unmet ↦ unmet
      ]))

  -- There is a first index exactly if there is one.
  pub first_indexed : (o : Option IndexRef) → IsFirstOn stored column o → is_some o ≡ is_indexed stored column
  first_indexed None none = sym (not_there none)
  first_indexed (Some index) first = sym (there index first.0)

pub first_at : (store : Tables) (table column : ℕ) (o : Option IndexRef) → table < length store.tables
    → ((stored : StoredRows) → IsAt store table stored → IsFirstOn stored column o) → is_some o ≡ has_index store table column
first_at store table column o within first =
    let at = some_at store.tables table within in
    first_indexed at.0 column o (first at.0 at.1) ∙ ap (λ s. option_map_or (λ (stored : StoredRows). is_indexed stored column) s false) (sym at.1)
