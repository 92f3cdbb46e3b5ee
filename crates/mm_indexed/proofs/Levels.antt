-- Rows whose values in two columns stay the same, and indexes that contain them.
use Rattle.std.proofs.Common.{◌≡◌, ℕ, suc, arith, true, List, [], ◌∷◌, get_or, Option, None, Some, refl, sym, ap, ap₂, ◌∙◌, subst}
use Rattle.std.specs.Prelude.{◌&&◌, IsPermutation, map, slice_get}
use Rattle.std.specs.List.{All, Contains}
use Rattle.std.specs.Option.{option_cmp}
use Rattle.std.specs.declared.cmp.Ordering.TheVariants.{Equal}
use Rattle.std.proofs.lemmas.Bool.{and_parts}
use Rattle.std.proofs.lemmas.List.Elements.{All-contains, Contains-get_or}
use Rattle.std.proofs.lemmas.List.Sorted.{IsPermutation-trans, IsPermutation-map, Contains-permutation}
use Rattle.mm_value.specs.Order.{value_cmp}
use Rattle.mm_value.specs.declared.row_ref.RowRef.{RowRef}
use Rattle.mm_value.specs.declared.values.Value.{Value}
use Rattle.mm_value.proofs.Orders.{value_cmp_exact}
use Rattle.mm_schema.specs.Rows.{column_cmp, same_in_column}
use Rattle.mm_schema.proofs.Orderings.{equal_from_is_eq}
use Rattle.mm_schema.proofs.Duplicates.{same_in_column_comm}
use Rattle.mm_schema.specs.declared.index.IndexKind.TheVariants as kind
use Rattle.mm_partition.specs.Places.{row_in}
use Rattle.mm_row_order.specs.Refs.{Slots, IsWide, row_at, refs_by}
use Rattle.mm_indexed.specs.HashedPairs.{hash_of, hashed_pair}
use Rattle.mm_row_order.specs.InOrder.{InOrder}
use Rattle.mm_indexed.specs.Index.{Keeps, column_of, kind_of, tie_column}
use Rattle.mm_indexed.specs.Stays.{agrees}
use Rattle.mm_indexed.specs.declared.indexes.index.Index.{Index}
use Rattle.mm_indexed.specs.declared.indexes.index.Index.TheVariants.{Tree, Hash}
use Rattle.mm_indexed.proofs.Ordered.{IsOrdered-agree}

-- the reference has rows of the same values in two columns
abbrev pub IsLevel : ℕ → ℕ → Slots → Slots → RowRef → Type 0
IsLevel column key old new at =
    (slice_get (row_at new at) column ≡ slice_get (row_at old at) column) × (slice_get (row_at new at) key ≡ slice_get (row_at old at) key)

options_exact : (a b : Option Value) → option_cmp value_cmp a b ≡ Equal → a ≡ b
options_exact None None e = refl
options_exact None (Some y) e = cc
options_exact (Some x) None e = cc
options_exact (Some x) (Some y) e = ap Some (value_cmp_exact x y e)

-- rows that compare equal by a column have one value there
pub one_value : (column : ℕ) (a b : List Value) → column_cmp column a b ≡ Equal → slice_get a column ≡ slice_get b column
one_value column a b same = options_exact (slice_get a column) (slice_get b column) same

module _ (column key : ℕ) (old new : Slots) where
  -- two rows that change places agree as before
  pub agrees_swapped : (at other : RowRef) → row_at new at ≡ row_at old other → row_at new other ≡ row_at old at
      → agrees column key new at (Some other) ≡ agrees column key old at (Some other)
  agrees_swapped at other first second =
      let one : (c : ℕ) → same_in_column c (row_at new at) (row_at new other) ≡ same_in_column c (row_at old at) (row_at old other) =
      λ c. ap₂ (same_in_column c) first second ∙ same_in_column_comm c (row_at old other) (row_at old at) in
      ap₂ (λ x y. x && y) (one column) (one key)

  -- if they agree, the reference has the same values
  pub level_swapped : (at other : RowRef) → row_at new at ≡ row_at old other → agrees column key old at (Some other) ≡ true
      → IsLevel column key old new at
  level_swapped at other first alike =
      let parts = and_parts (same_in_column column (row_at old at) (row_at old other)) (same_in_column key (row_at old at) (row_at old other)) alike in
      let one : (c : ℕ) → same_in_column c (row_at old at) (row_at old other) ≡ true → slice_get (row_at new at) c ≡ slice_get (row_at old at) c =
      λ c same. ap (λ r. slice_get r c) first
      ∙ sym (one_value c (row_at old at) (row_at old other) (equal_from_is_eq (column_cmp c (row_at old at) (row_at old other)) same)) in
      (one column parts.0, one key parts.1)

  -- unchanged rows have the same values
  pub levels_same : (refs : List RowRef) → All (λ r. new r ≡ old r) refs → All (IsLevel column key old new) refs
  levels_same refs same k d within =
      let row : row_at new (get_or refs k d) ≡ row_at old (get_or refs k d) = ap row_in (same k d within) in
      (ap (λ r. slice_get r column) row, ap (λ r. slice_get r key) row)

  -- ---- the effect on the order and the pairs

  pub InOrder-level : (refs : List RowRef) → All (IsLevel column key old new) refs → All (IsWide column key new) refs
      → InOrder column key old refs → InOrder column key new refs
  InOrder-level refs level wide was =
      IsOrdered-agree (IsWide column key old) (IsWide column key new) (refs_by column key old) (refs_by column key new) refs was wide
      (λ a b in_a in_b.
      let level_a : IsLevel column key old new a = All-contains (IsLevel column key old new) refs a level in_a in
      let level_b : IsLevel column key old new b = All-contains (IsLevel column key old new) refs b level in_b in
      rw (level_a.0, level_b.0, level_a.1, level_b.1))

  pub pairs_level : (refs : List RowRef) → All (IsLevel column key old new) refs
      → map (hashed_pair column new) refs ≡ map (hashed_pair column old) refs
  pairs_level [] level = refl
  pairs_level (r ∷ rs) level =
      let first : hashed_pair column new r ≡ hashed_pair column old r =
      ap (λ o. (hash_of o, r)) (level 0 r (omega arith)).0 in
      ap₂ (λ p ps. p ∷ ps) first (pairs_level rs (λ k d within. level (suc k) d (omega arith)))

-- an index keeps rows whose values in its columns do not change
pub Keeps-level : (key : ℕ) (old new : Slots) (held : List RowRef) (x : Index) → All (IsLevel (column_of x) (tie_column key x) old new) held
    → All (IsWide (column_of x) key new) held → Keeps key old held x → Keeps key new held x
Keeps-level key old new held (Tree column refs) level wide keeps =
    let within : (at : RowRef) → Contains refs.refs at → Contains held at =
    (λ at here. Contains-permutation refs.refs held at keeps.1 here) in (
      InOrder-level column key old new refs.refs
          (λ k d below. All-contains (IsLevel column key old new) held (get_or refs.refs k d) level
          (within (get_or refs.refs k d) (Contains-get_or refs.refs k d below)))
          (λ k d below. All-contains (IsWide column key new) held (get_or refs.refs k d) wide
          (within (get_or refs.refs k d) (Contains-get_or refs.refs k d below)))
          keeps.0,
      keeps.1,
    )
Keeps-level key old new held (Hash column pairs) level wide keeps =
    subst (IsPermutation pairs.entries) (sym (pairs_level column column old new held level)) keeps

-- indexes of the same column and kind have the same tie column
pub tie_same : (key : ℕ) (x y : Index) → column_of y ≡ column_of x → kind_of y ≡ kind_of x → tie_column key y ≡ tie_column key x
tie_same key (Tree column refs) (Tree other more) in_column of_kind = refl
tie_same key (Tree column refs) (Hash other more) in_column of_kind = let no : kind.Hash ≡ kind.Tree = of_kind in cc
tie_same key (Hash column pairs) (Tree other more) in_column of_kind = let no : kind.Tree ≡ kind.Hash = of_kind in cc
tie_same key (Hash column pairs) (Hash other more) in_column of_kind = in_column

-- the order in which the references are listed does not matter
pub Keeps-permutation : (key : ℕ) (now : Slots) (held other : List RowRef) → IsPermutation held other → (x : Index) → Keeps key now held x
    → Keeps key now other x
Keeps-permutation key now held other moved (Tree column refs) keeps = (keeps.0, IsPermutation-trans refs.refs held other keeps.1 moved)
Keeps-permutation key now held other moved (Hash column pairs) keeps =
    IsPermutation-trans pairs.entries (map (hashed_pair column now) held) (map (hashed_pair column now) other) keeps
    (IsPermutation-map (hashed_pair column now) held other moved)

-- these references have the same content as before
abbrev pub Same : Slots → Slots → List RowRef → Type 0
Same old new refs = All (λ r. new r ≡ old r) refs

pub InOrder-stays : (column key : ℕ) (old new : Slots) (refs : List RowRef) → Same old new refs → InOrder column key old refs → InOrder column key new refs
InOrder-stays column key old new refs same was =
    IsOrdered-agree (IsWide column key old) (IsWide column key new) (refs_by column key old) (refs_by column key new) refs was
    (λ k d within. let wide : IsWide column key old (get_or refs k d) = was.covered k d within in
    record { row = wide.row; live = same k d within ∙ wide.live; column_in = wide.column_in; key_in = wide.key_in })
    (λ a b in_a in_b.
    let same_a : row_at new a ≡ row_at old a = ap row_in (All-contains (λ r. new r ≡ old r) refs a same in_a) in
    let same_b : row_at new b ≡ row_at old b = ap row_in (All-contains (λ r. new r ≡ old r) refs b same in_b) in
    rw (same_a, same_b))

-- slots without an entry may change
pub Keeps-stays : (key : ℕ) (old new : Slots) (held : List RowRef) → Same old new held → (x : Index) → Keeps key old held x → Keeps key new held x
Keeps-stays key old new held same (Tree column refs) keeps =
    let own : Same old new refs.refs = λ k d within. All-contains (λ r. new r ≡ old r) held (get_or refs.refs k d) same
    (Contains-permutation refs.refs held (get_or refs.refs k d) keeps.1 (Contains-get_or refs.refs k d within)) in
    (InOrder-stays column key old new refs.refs own keeps.0, keeps.1)
Keeps-stays key old new held same (Hash column pairs) keeps =
    subst (IsPermutation pairs.entries) (sym (pairs_level column column old new held (levels_same column column old new held same))) keeps
