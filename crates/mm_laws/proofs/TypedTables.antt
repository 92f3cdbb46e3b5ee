-- Rows that have the types of their columns, in all tables.
use Rattle.std.proofs.Common.{◌≡◌, ℕ, Bool, true, false, cond, not, List, [], ◌∷◌, ◌++◌, Option, Some, filter, find, map, refl, sym, subst}
use Rattle.std.specs.List.{All, IsDistinct}
use Rattle.std.proofs.lemmas.List.Elements.{All-nil}
use Rattle.std.proofs.lemmas.Map.Keys.{IsDistinct-tail}
use Rattle.mm_schema.specs.Columns.{key_place}
use Rattle.mm_schema.specs.Instance.{Instance, changed_instance, pairs_of, rows_named, without_rows}
use Rattle.mm_schema.specs.Name.{same_name}
use Rattle.mm_schema.specs.Rows.{Pair, changed}
use Rattle.mm_schema.specs.declared.table.Table.{Table}
use Rattle.mm_schema.proofs.Instances.{AreBeside, changed_instance-others, edits_of_one, name_of, others_lack, pairs_of-other, pairs_of-own}
use Rattle.mm_schema.proofs.Duplicates.{Row}
use Rattle.mm_laws.specs.Typing.{AreTyped, HasTypes}
use Rattle.mm_laws.proofs.NamedRows.{has}
use Rattle.mm_laws.proofs.TypedPlaces.{columns_in}
use Rattle.mm_laws.proofs.TypedRows.{coming, held_by_changed}

beside_from_types : (tables : List Table) (rows : Instance) → AreTyped tables rows → AreBeside tables rows
beside_from_types [] [] typed = tt
beside_from_types (t ∷ ts) (r ∷ rs) typed = beside_from_types ts rs typed.1
beside_from_types [] (r ∷ rs) typed = absurd typed
beside_from_types (t ∷ ts) [] typed = absurd typed

-- The rows of the table with a name have the types of its columns.
pub named_typed : (name : List ℕ) (tables : List Table) (rows : Instance) → AreTyped tables rows
    → All (HasTypes (columns_in (find (has name) tables))) (rows_named name tables rows)
named_typed name [] [] typed = All-nil _
named_typed name (t ∷ ts) (r ∷ rs) typed = by (has name t) (named_typed name ts rs typed.1)
  where
    by : (b : Bool) → All (HasTypes (columns_in (find (has name) ts))) (rows_named name ts rs)
        → All (HasTypes (columns_in (cond b (Some t) (find (has name) ts)))) (cond b r (rows_named name ts rs))
    by true later = typed.0
    by false later = later
named_typed name [] (r ∷ rs) typed = absurd typed
named_typed name (t ∷ ts) [] typed = absurd typed

-- ---- changes of the catalog

-- A new table has no row, so its rows have their types, ..
pub typed_behind : (tables : List Table) (rows : Instance) (table : Table) → AreTyped tables rows
    → AreTyped (tables ++ table ∷ []) (rows ++ [] ∷ [])
typed_behind [] [] table typed = (All-nil _, tt)
typed_behind (t ∷ ts) (r ∷ rs) table typed = (typed.0, typed_behind ts rs table typed.1)
typed_behind [] (r ∷ rs) table typed = absurd typed
typed_behind (t ∷ ts) [] table typed = absurd typed

module _ (gone : List ℕ) where
  abbrev stays : Table → Bool
  stays t = not (same_name gone (name_of t))

  -- .. dropping a table leaves those of the others unchanged, ..
  pub typed_without : (tables : List Table) (rows : Instance) → AreTyped tables rows
      → AreTyped (filter stays tables) (without_rows gone tables rows)
  typed_without [] [] typed = tt
  typed_without (t ∷ ts) (r ∷ rs) typed = by (same_name gone (name_of t)) (typed_without ts rs typed.1)
    where
      by : (b : Bool) → AreTyped (filter stays ts) (without_rows gone ts rs)
          → AreTyped (cond (not b) (t ∷ filter stays ts) (filter stays ts)) (cond b (without_rows gone ts rs) (r ∷ without_rows gone ts rs))
      by true later = later
      by false later = (typed.0, later)
  typed_without [] (r ∷ rs) typed = absurd typed
  typed_without (t ∷ ts) [] typed = absurd typed

-- .. and a change of other things than the definitions leaves all unchanged.
pub typed_kept : (change : Table → Table) → ((t : Table) → (change t).definition ≡ t.definition) → (tables : List Table) (rows : Instance)
    → AreTyped tables rows → AreTyped (map change tables) rows
typed_kept change same [] [] typed = tt
typed_kept change same (t ∷ ts) (r ∷ rs) typed =
    (subst (λ d. All (HasTypes d.columns) r) (sym (same t)) typed.0, typed_kept change same ts rs typed.1)
typed_kept change same [] (r ∷ rs) typed = absurd typed
typed_kept change same (t ∷ ts) [] typed = absurd typed

-- ---- changes of rows

module _ (name : List ℕ) (pairs : List Pair) where
  -- the new rows have the types of the columns of the table with the name
  abbrev ComeTyped : Option Table → Type 0
  ComeTyped table = All (HasTypes (columns_in table)) (coming pairs)

  own_or_other : (t : Table) (ts : List Table) (r : List Row) (rs : Instance) (b : Bool) → has name t ≡ b → AreTyped (t ∷ ts) (r ∷ rs)
      → IsDistinct same_name (map name_of (t ∷ ts)) → ComeTyped (cond b (Some t) (find (has name) ts))
      → (ComeTyped (find (has name) ts) → AreTyped ts (changed_instance ts (edits_of_one name pairs) rs))
      → AreTyped (t ∷ ts) (changed_instance (t ∷ ts) (edits_of_one name pairs) (r ∷ rs))
  own_or_other t ts r rs true own typed distinct new rest = (
    held_by_changed (HasTypes t.definition.columns) (key_place t.definition.columns) (pairs_of (name_of t) (edits_of_one name pairs)) r typed.0
        (subst (λ ps. All (HasTypes t.definition.columns) (coming ps)) (sym (pairs_of-own name pairs (name_of t) own)) new),
    subst (AreTyped ts) (sym (changed_instance-others name pairs ts rs (beside_from_types ts rs typed.1) (others_lack name t ts own distinct))) typed.1,
  )
  own_or_other t ts r rs false other typed distinct new rest = (
    subst (λ ps. All (HasTypes t.definition.columns) (changed (key_place t.definition.columns) ps r)) (sym (pairs_of-other name pairs (name_of t) other))
        typed.0,
    rest new,
  )

  -- Rows have their types after a change of one table whose new rows have the types of its columns.
  pub typed_changed : (tables : List Table) (rows : Instance) → AreTyped tables rows → IsDistinct same_name (map name_of tables)
      → ComeTyped (find (has name) tables) → AreTyped tables (changed_instance tables (edits_of_one name pairs) rows)
  typed_changed [] [] typed distinct new = tt
  typed_changed (t ∷ ts) (r ∷ rs) typed distinct new =
      own_or_other t ts r rs (has name t) refl typed distinct new
      (typed_changed ts rs typed.1 (IsDistinct-tail same_name (name_of t) (map name_of ts) distinct))
  typed_changed [] (r ∷ rs) typed distinct new = absurd typed
  typed_changed (t ∷ ts) [] typed distinct new = absurd typed
