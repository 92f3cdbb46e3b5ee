-- The capacity of a table and its shape, after a change.
use Rattle.std.proofs.Common.{◌≡◌, ℕ, suc, ◌+◌, ◌*◌, ◌≤◌, List, [], ◌∷◌, length, refl, sym, subst, ap, ap₂, arith}
use Rattle.std.specs.List.{sum_by}
use Rattle.std.proofs.lemmas.List.Sums.{sum_by-cons}
use Rattle.std.specs.Prelude.{map, remove, take, drop}
use Rattle.std.proofs.lemmas.List.Elements.{All-append, All-take, All-drop}
use Rattle.mm_value.specs.declared.row_ref.RowRef.{RowRef}
use Rattle.mm_indexed.specs.Index.{EachTurns, HasTrimmedRoom, SameEntries, SameIndex, Trimmed, column_of, kind_of, spare_of}
use Rattle.mm_indexed.specs.Kept.{StoredRows, UsesRoom, SameTable}
use Rattle.mm_indexed.specs.declared.indexes.index.Index.{Index}
use Rattle.mm_indexed.specs.declared.indexes.index.Index.TheVariants.{Tree, Hash}
use Rattle.mm_schema.specs.declared.index.IndexKind.TheVariants as kinds
use Rattle.mm_schema.specs.declared.index.IndexKind.{IndexKind}
use Rattle.mm_indexed.proofs.Turning.{All-turned}
use Rattle.mm_tables.specs.Edits.{key_places_made, places_made, key_places, places, Owes}
use Rattle.mm_tables.specs.Tables.{Shape, HasSpare, HasRoom, HasCapacity, HasRoomFor, HasFewSpares}
use Rattle.mm_tables.specs.declared.edit.Edit.{Edit}
use Rattle.mm_tables.specs.declared.edit.Edit.TheVariants.{Stage, Insert, Update, Move, Delete}
use Rattle.mm_tables.specs.declared.index_room.IndexRoom.{IndexRoom}
use Rattle.mm_tables.specs.declared.logged_table.LoggedTable.{LoggedTable}

pub HasSpare-less : (k m j n : ℕ) (rows : StoredRows) → j ≤ k → n ≤ m → HasSpare k m rows → HasSpare j n rows
HasSpare-less k m j n rows few less was = record {
  key = omega (arith, few, was.key);
  indexes = λ i d within. omega (arith, less, was.indexes i d within);
}

pub HasSpare-after : (k m j n : ℕ) (old new : StoredRows) → SameTable k m old new → HasSpare (j + k) (n + m) old → HasSpare j n new
HasSpare-after k m j n old new same was = record {
  key = omega (arith, same.spare, was.key);
  indexes = All-turned (UsesRoom m) (λ x. n + m ≤ spare_of x) (λ x. n ≤ spare_of x) old.indexes new.indexes same.indexes
      (λ x y room uses. omega (arith, room, uses.spare)) was.indexes;
}

pub HasSpare-kept : (old new : StoredRows) → SameTable 0 0 old new → (k m : ℕ) → HasSpare k m old → HasSpare k m new
HasSpare-kept old new same k m was = HasSpare-after 0 0 k m old new same (HasSpare-less k m (k + 0) (m + 0) old (omega arith) (omega arith) was)

-- an index is dropped
pub HasSpare-dropped : (k m i : ℕ) (old new : StoredRows) → new ≡ record old { indexes = remove old.indexes i } → HasSpare k m old → HasSpare k m new
HasSpare-dropped k m i old new is was = subst (HasSpare k m) (sym is) (record {
  key = was.key;
  indexes = All-append (λ x. m ≤ spare_of x) (take i old.indexes) (drop (suc i) old.indexes)
      (All-take (λ x. m ≤ spare_of x) i old.indexes was.indexes) (All-drop (λ x. m ≤ spare_of x) (suc i) old.indexes was.indexes);
})

-- the capacity if no entries were counted
module _ (old new : LoggedTable) (owed : new.owed ≡ old.owed) (spare : (k m : ℕ) → HasSpare k m old.rows → HasSpare k m new.rows) where
  pub HasSpare-same : HasSpare old.owed.key old.owed.indexes old.rows → HasSpare new.owed.key new.owed.indexes new.rows
  HasSpare-same was =
      subst (λ (r : IndexRoom). HasSpare r.key r.indexes new.rows) (sym owed) (spare old.owed.key old.owed.indexes was)

  pub HasRoom-less : (j n k m : ℕ) → old.rows.places.room ≤ new.rows.places.room + j → HasRoom (n + j) k m old → HasRoom n k m new
  HasRoom-less j n k m room was = record {
    rows = omega (arith, room, was.rows);
    spare = subst (λ (r : IndexRoom). HasSpare (r.key + k) (r.indexes + m) new.rows) (sym owed)
        (spare (old.owed.key + k) (old.owed.indexes + m) was.spare);
  }

  pub HasRoom-more : (n k m : ℕ) → old.rows.places.room ≤ new.rows.places.room → HasRoom n k m old → HasRoom n k m new
  HasRoom-more n k m room was = record {
    rows = omega (arith, room, was.rows);
    spare = subst (λ (r : IndexRoom). HasSpare (r.key + k) (r.indexes + m) new.rows) (sym owed)
        (spare (old.owed.key + k) (old.owed.indexes + m) was.spare);
  }

-- a staged row adds nothing to the capacity that a table owes
pub owes_no_more : (old new : LoggedTable) (r : RowRef) → new.owed ≡ old.owed → Owes (Stage r) old.owed new.owed
owes_no_more old new r same = record {
  key = omega (arith, ap (λ (o : IndexRoom). o.key) same);
  indexes = omega (arith, ap (λ (o : IndexRoom). o.indexes) same);
}

pub HasRoom-fewer : (n k m h i j : ℕ) (t : LoggedTable) → h ≤ n → i ≤ k → j ≤ m → HasRoom n k m t → HasRoom h i j t
HasRoom-fewer n k m h i j t rows keys entries was = record {
  rows = omega (arith, rows, was.rows);
  spare = HasSpare-less (t.owed.key + k) (t.owed.indexes + m) (t.owed.key + i) (t.owed.indexes + j) t.rows (omega (arith, keys)) (omega (arith, entries))
      was.spare;
}

-- ---- the capacity that edits need

pub edit_places_few : (e : Edit) → (key_places e ≤ 2) × (places e ≤ 2)
edit_places_few (Stage r) = (omega arith, omega arith)
edit_places_few (Insert r) = (omega arith, omega arith)
edit_places_few (Update a b) = (omega arith, omega arith)
edit_places_few (Move a b) = (omega arith, omega arith)
edit_places_few (Delete r) = (omega arith, omega arith)

all_places_few : (edits : List Edit) → (sum_by key_places edits ≤ 2 * length edits) × (sum_by places edits ≤ 2 * length edits)
all_places_few [] = (omega arith, omega arith)
all_places_few (e ∷ es) =
    let rest : (sum_by key_places es ≤ 2 * length es) × (sum_by places es ≤ 2 * length es) = all_places_few es in
    (omega (arith, sum_by-cons key_places e es, (edit_places_few e).0, rest.0), omega (arith, sum_by-cons places e es, (edit_places_few e).1, rest.1))

-- capacity for a number of edits is capacity for any edits of that number
pub HasRoomFor-any : (edits : List Edit) (t : LoggedTable) → HasCapacity 0 (length edits) t → HasRoomFor edits t
HasRoomFor-any edits t was =
    HasRoom-fewer 0 (2 * length edits) (2 * length edits) 0 (sum_by key_places edits) (sum_by places edits) t (omega arith) (all_places_few edits).0
    (all_places_few edits).1 was

-- capacity for a first edit and the others
pub HasRoomFor-cons : (e : Edit) (es : List Edit) (t : LoggedTable) → HasRoomFor (e ∷ es) t
    → HasRoom 0 (sum_by key_places es + key_places e) (sum_by places es + places e) t
HasRoomFor-cons e es t was =
    HasRoom-fewer 0 (sum_by key_places (e ∷ es)) (sum_by places (e ∷ es)) 0 (sum_by key_places es + key_places e) (sum_by places es + places e) t
    (omega arith) (omega (arith, sum_by-cons key_places e es)) (omega (arith, sum_by-cons places e es)) was

-- an edit uses its part of the capacity
pub HasRoom-used : (e : Edit) (old new : LoggedTable) → Owes e old.owed new.owed → SameTable (key_places_made e) (places_made e) old.rows new.rows
    → new.rows.places.room ≡ old.rows.places.room → (n k m : ℕ) → HasRoom n (k + key_places e) (m + places e) old → HasRoom n k m new
HasRoom-used e old new owes same room n k m was = record {
  rows = omega (arith, room, was.rows);
  spare = HasSpare-after (key_places_made e) (places_made e) (new.owed.key + k) (new.owed.indexes + m) old.rows new.rows same
      (HasSpare-less (old.owed.key + (k + key_places e)) (old.owed.indexes + (m + places e)) (new.owed.key + k + key_places_made e)
      (new.owed.indexes + m + places_made e) old.rows (omega (arith, owes.key)) (omega (arith, owes.indexes)) was.spare);
}

abbrev kind_at : Index → ℕ × IndexKind
kind_at x = (column_of x, kind_of x)

-- entries of one column and kind
kind_same : (x y : Index) → SameEntries x y → kind_at y ≡ kind_at x
kind_same (Tree column refs) (Tree other more) same = λ i. (same.0 i, kinds.Tree)
kind_same (Tree column refs) (Hash other more) same = absurd same
kind_same (Hash column pairs) (Tree other more) same = absurd same
kind_same (Hash column pairs) (Hash other more) same = λ i. (same.0 i, kinds.Hash)

-- a trimmed tree has capacity for few entries
few_trimmed : (n : ℕ) (x y : Index) → Trimmed n x y → kind_of y ≡ kinds.Tree → spare_of y ≤ n
few_trimmed n (Tree column refs) (Tree other more) trimmed is = trimmed.spare.few
few_trimmed n (Tree column refs) (Hash other more) trimmed is = absurd trimmed.same
few_trimmed n (Hash column pairs) (Tree other more) trimmed is = absurd trimmed.same
few_trimmed n (Hash column pairs) (Hash other more) trimmed is = let no : ⊥ = cc in absurd no

pub HasFewSpares-trimmed : (n : ℕ) (old : StoredRows) (new : LoggedTable) → HasTrimmedRoom n old.spare new.rows.spare
    → EachTurns (Trimmed n) old.indexes new.rows.indexes → HasFewSpares n new
HasFewSpares-trimmed n old new key turns = record {
  key = key.few;
  each = All-turned (Trimmed n) (λ x. Unit {0}) (λ x. kind_of x ≡ kinds.Tree → spare_of x ≤ n) old.indexes new.rows.indexes turns
      (λ x y any trimmed. few_trimmed n x y trimmed) (λ k d within. tt);
}

kinds_after : (m : ℕ) (old new : List Index) → EachTurns (UsesRoom m) old new → map kind_at new ≡ map kind_at old
kinds_after m [] [] turns = refl
kinds_after m [] (y ∷ ys) turns = let no : ⊥ = omega (arith, turns.size) in absurd no
kinds_after m (x ∷ xs) [] turns = let no : ⊥ = omega (arith, turns.size) in absurd no
kinds_after m (x ∷ xs) (y ∷ ys) turns =
    let first : SameIndex x y = (turns.each 0 x (omega arith)).same in
    let here : kind_at y ≡ kind_at x = λ i. (first.0 i, first.1 i) in
    let rest : EachTurns (UsesRoom m) xs ys = record
    { size = omega (arith, turns.size); each = λ k d within. turns.each (suc k) d (omega (arith, within)) } in
    ap₂ (λ (a : ℕ × IndexKind) (more : List (ℕ × IndexKind)). a ∷ more) here (kinds_after m xs ys rest)

abbrev pub shape_rows : StoredRows → Shape
shape_rows rows = record { key = rows.key; types = rows.places.types; indexes = map kind_at rows.indexes }

pub shape_after : (n m : ℕ) (old new : StoredRows) → SameTable n m old new → shape_rows new ≡ shape_rows old
shape_after n m old new same = λ i. record {
  key = same.key i;
  types = same.types i;
  indexes = kinds_after m old.indexes new.indexes same.indexes i;
}

-- ---- trees are trimmed

kinds_trimmed : (n : ℕ) (old new : List Index) → EachTurns (Trimmed n) old new → map kind_at new ≡ map kind_at old
kinds_trimmed n [] [] turns = refl
kinds_trimmed n [] (y ∷ ys) turns = let no : ⊥ = omega (arith, turns.size) in absurd no
kinds_trimmed n (x ∷ xs) [] turns = let no : ⊥ = omega (arith, turns.size) in absurd no
kinds_trimmed n (x ∷ xs) (y ∷ ys) turns =
    let rest : EachTurns (Trimmed n) xs ys = record
    { size = omega (arith, turns.size); each = λ k d within. turns.each (suc k) d (omega (arith, within)) } in
    ap₂ (λ (a : ℕ × IndexKind) (more : List (ℕ × IndexKind)). a ∷ more) (kind_same x y (turns.each 0 x (omega arith)).same) (kinds_trimmed n xs ys rest)

pub shape_trimmed : (n : ℕ) (old new : StoredRows) → new ≡ record old { spare = new.spare; indexes = new.indexes }
    → EachTurns (Trimmed n) old.indexes new.indexes → shape_rows new ≡ shape_rows old
shape_trimmed n old new rest turns = λ i. record {
  key = (ap (λ (r : StoredRows). r.key) rest) i;
  types = (ap (λ (r : StoredRows). r.places.types) rest) i;
  indexes = kinds_trimmed n old.indexes new.indexes turns i;
}
