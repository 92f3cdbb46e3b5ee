-- Names of a query and their positions, if nothing refuses the query and the store keeps the catalog's tables.
use Rattle.std.proofs.Common.{◌≡◌, ⊎_elim, ℕ, zero, suc, ◌+◌, ◌<◌, Bool, true, false, cond, not, ◌&&◌, List, [], ◌∷◌, length, get_or, Option, Some, None}
use Rattle.std.proofs.Common.{refl, sym, ap, ◌∙◌, subst, arith}
use Rattle.std.specs.Prelude.{◌==◌, find, is_none, nat_lt, position, slice_get}
use Rattle.std.specs.List.{list_any, position_or_len}
use Rattle.std.specs.Option.{option_and_then, option_map, option_map_or, unwrap_or}
use Rattle.std.proofs.lemmas.Bool.{cases_Bool, eq-eqb, eqb-true, false≢true, ne_eqb, or_parts}
use Rattle.std.proofs.lemmas.List.Quantifiers.{position-Some}
use Rattle.std.proofs.lemmas.List.Sums.{sum_by-cons}
use Rattle.std.proofs.lemmas.Option.{get_or_from_slice_get, same_Some, slice_get-map}
use Rattle.mm_plan.specs.Kept.{AreIndexes, AreOf, IsIndex, IsOf}
use Rattle.mm_query.specs.Resolving.{alias_place, field_lacks_column, lacks_alias, placed_field, places_in, table_of}
use Rattle.mm_query.specs.Placing.{lacks_column, placed}
use Rattle.mm_query.specs.Serving.{serves}
use Rattle.mm_query.specs.Serving as serving
use Rattle.mm_query.specs.Fields.{FieldName}
use Rattle.mm_query.specs.declared.query.FromItem.{FromItem}
use Rattle.mm_indexed.specs.Index.{column_of, kind_of}
use Rattle.mm_indexed.specs.Kept.{StoredRows}
use Rattle.mm_indexed.specs.Served.{is_on, same_kind}
use Rattle.mm_indexed.specs.declared.indexes.index.Index.{Index}
use Rattle.mm_schema.proofs.NameLemmas.{same_bytes, same_name_refl}
use Rattle.mm_schema.proofs.Places.{find_at_place, find_nowhere, no_table, place_within, within_from_some}
use Rattle.mm_schema.specs.Columns.{column_named, column_place, is_key, key_count, key_place}
use Rattle.mm_schema.specs.Name.{same_name}
use Rattle.mm_schema.specs.Schema.{Schema, lacks_table, table_named, table_place}
use Rattle.mm_schema.specs.declared.column.Column.{Column}
use Rattle.mm_schema.specs.declared.index.IndexDef.{IndexDef}
use Rattle.mm_schema.specs.declared.index.IndexKind.{IndexKind}
use Rattle.mm_schema.specs.declared.index.IndexKind.TheVariants as kind
use Rattle.mm_schema.specs.declared.table.Table.{Table}

-- ---- positions of names

pub there : {X : Type 0} (xs : List X) (place : ℕ) → place < length xs → (x : X) × (slice_get xs place ≡ Some x)
there [] place within = absurd (omega arith)
there (x ∷ xs) zero within = (x, refl)
there (x ∷ xs) (suc place) within = there xs place (omega arith)

-- A test that no element passes fails for each.
pub fails_at : {X : Type 0} (p : X → Bool) (xs : List X) (place : ℕ) (x : X) → list_any p xs ≡ false → slice_get xs place ≡ Some x → p x ≡ false
fails_at p [] place x none at = cc
fails_at p (y ∷ ys) zero x none at = ap p (sym (same_Some y x at)) ∙ (or_parts (p y) (list_any p ys) none).0
fails_at p (y ∷ ys) (suc place) x none at = fails_at p ys place x (or_parts (p y) (list_any p ys) none).1 at

pub eq_back : (m n : ℕ) → (m == n) ≡ (n == m)
eq_back m n = ⊎_elim
    (λ (same : (m == n) ≡ true). same ∙ sym (eq-eqb n m (sym (eqb-true m n same))))
    (λ (apart : (m == n) ≡ false).
    ⊎_elim
    (λ (same : (n == m) ≡ true). absurd (false≢true (sym apart ∙ eq-eqb m n (sym (eqb-true n m same)))))
    (λ (other : (n == m) ≡ false). apart ∙ sym other)
    (cases_Bool (n == m)))
    (cases_Bool (m == n))

eq_suc : (m n : ℕ) → (suc m == suc n) ≡ (m == n)
eq_suc m n = ⊎_elim
    (λ (same : (m == n) ≡ true). eq-eqb (suc m) (suc n) (ap suc (eqb-true m n same)) ∙ sym same)
    (λ (other : (m == n) ≡ false).
    ne_eqb (suc m) (suc n) (λ is. let one : m ≡ n = omega (arith, is) in false≢true (sym other ∙ eq-eqb m n one)) ∙ sym other)
    (cases_Bool (m == n))

-- Names are equal exactly if they are at the same position.
module _ {X : Type 0} (name : X → List ℕ) (xs : List X) (a b : List ℕ) (i j : ℕ) (d : X)
    (at_a : position (λ x. same_name a (name x)) xs ≡ Some i) (at_b : position (λ x. same_name b (name x)) xs ≡ Some j) where
  same_from_place : (i == j) ≡ true → same_name a b ≡ true
  same_from_place equal =
      let one : i ≡ j = eqb-true i j equal in
      let of_a : a ≡ name (get_or xs i d) = same_bytes a (name (get_or xs i d)) (position-Some (λ x. same_name a (name x)) xs i d at_a).1 in
      let of_b : b ≡ name (get_or xs j d) = same_bytes b (name (get_or xs j d)) (position-Some (λ x. same_name b (name x)) xs j d at_b).1 in
      let both : a ≡ b = of_a ∙ (ap (λ n. name (get_or xs n d)) one ∙ sym of_b) in
      ap (λ n. same_name n b) both ∙ same_name_refl b

  place_from_same : same_name a b ≡ true → (i == j) ≡ true
  place_from_same same =
      let one : Some i ≡ Some j = sym at_a ∙ (ap (λ (n : List ℕ). position (λ x. same_name n (name x)) xs) (same_bytes a b same) ∙ at_b) in
      eq-eqb i j (same_Some i j one)

  pub same_place : (i == j) ≡ same_name a b
  same_place = ⊎_elim
      (λ (same : same_name a b ≡ true). place_from_same same ∙ sym same)
      (λ (differ : same_name a b ≡ false).
      ⊎_elim
      (λ (equal : (i == j) ≡ true). absurd (false≢true (sym differ ∙ same_from_place equal)))
      (λ (apart : (i == j) ≡ false). apart ∙ sym differ)
      (cases_Bool (i == j)))
      (cases_Bool (same_name a b))

-- ---- the key

at_key : (c : Column) (at : ℕ) → is_key c ≡ true → cond (not (is_key c)) (1 + at) 0 ≡ 0
at_key c at is = ap (λ b. cond (not b) (1 + at) 0) is

past_key : (c : Column) (at : ℕ) → is_key c ≡ false → cond (not (is_key c)) (1 + at) 0 ≡ suc at
past_key c at is = let e : 1 + at ≡ suc at = omega arith in ap (λ b. cond (not b) (1 + at) 0) is ∙ e

counted : (c : Column) (cs : List Column) (b : Bool) → is_key c ≡ b → key_count (c ∷ cs) ≡ cond b 1 0 + key_count cs
counted c cs b is = sum_by-cons (λ column. cond (is_key column) 1 0) c cs ∙ ap (λ own. cond own 1 0 + key_count cs) is

none_of_all : (columns : List Column) (place : ℕ) (column : Column) → key_count columns ≡ 0 → slice_get columns place ≡ Some column → is_key column ≡ false
none_of_all [] place column none at = cc
none_of_all (c ∷ cs) place column none at = ⊎_elim
    (λ (own : is_key c ≡ true). let many = counted c cs true own in absurd (omega (arith, many, none)))
    (λ (plain : is_key c ≡ false). let rest = counted c cs false plain in
    by place at plain (λ n there. none_of_all cs n column (omega (arith, rest, none)) there))
    (cases_Bool (is_key c))
  where
    by : (n : ℕ) → slice_get (c ∷ cs) n ≡ Some column → is_key c ≡ false → ((m : ℕ) → slice_get cs m ≡ Some column → is_key column ≡ false)
        → is_key column ≡ false
    by zero at plain later = ap is_key (sym (same_Some c column at)) ∙ plain
    by (suc n) at plain later = later n at

-- Only the key column is at the key's position.
pub key_alone : (columns : List Column) (place : ℕ) (column : Column) → key_count columns ≡ 1 → slice_get columns place ≡ Some column
    → (place == key_place columns) ≡ is_key column
key_alone [] place column one at = cc
key_alone (c ∷ cs) place column one at = ⊎_elim
    (λ (own : is_key c ≡ true).
    let count = counted c cs true own in
    ap (λ n. place == n) (at_key c (key_place cs) own) ∙ at_front place at own (omega (arith, count, one)))
    (λ (plain : is_key c ≡ false).
    let count = counted c cs false plain in
    ap (λ n. place == n) (past_key c (key_place cs) plain) ∙ behind place at plain (λ n there. key_alone cs n column (omega (arith, count, one)) there))
    (cases_Bool (is_key c))
  where
    at_front : (n : ℕ) → slice_get (c ∷ cs) n ≡ Some column → is_key c ≡ true → key_count cs ≡ 0 → (n == 0) ≡ is_key column
    at_front zero at own none = eq-eqb 0 0 refl ∙ sym (ap is_key (sym (same_Some c column at)) ∙ own)
    at_front (suc n) at own none = ne_eqb (suc n) 0 (λ is. absurd (omega (arith, is))) ∙ sym (none_of_all cs n column none at)

    behind : (n : ℕ) → slice_get (c ∷ cs) n ≡ Some column → is_key c ≡ false
        → ((m : ℕ) → slice_get cs m ≡ Some column → (m == key_place cs) ≡ is_key column) → (n == suc (key_place cs)) ≡ is_key column
    behind zero at plain later = ne_eqb 0 (suc (key_place cs)) (λ is. absurd (omega (arith, is))) ∙ sym (ap is_key (sym (same_Some c column at)) ∙ plain)
    behind (suc n) at plain later = eq_suc n (key_place cs) ∙ later n at

-- ---- indexes

pub as_many : (columns : List Column) (ds : List IndexDef) (xs : List Index) → AreIndexes columns ds xs → length xs ≡ length ds
as_many columns [] [] are = refl
as_many columns [] (x ∷ xs) are = absurd are
as_many columns (e ∷ ds) [] are = absurd are
as_many columns (e ∷ ds) (x ∷ xs) are = ap suc (as_many columns ds xs are.1)

module _ (columns : List Column) (name : List ℕ) (k : ℕ) (at : column_place name columns ≡ Some k) (d : Column) (own : IndexKind) where
  kinds_agree : (a b : IndexKind) → same_kind a b ≡ serving.same_kind b a
  kinds_agree kind.Tree kind.Tree = refl
  kinds_agree kind.Tree kind.Hash = refl
  kinds_agree kind.Hash kind.Tree = refl
  kinds_agree kind.Hash kind.Hash = refl

  and_back : (a b : Bool) → (a && b) ≡ (b && a)
  and_back true true = refl
  and_back true false = refl
  and_back false true = refl
  and_back false false = refl

  serves_is : (definition : IndexDef) (x : Index) → IsIndex columns definition x → is_on k own x ≡ serves own name definition
  serves_is definition x is =
      ap (λ b. b && same_kind (kind_of x) own)
      (eq_back (column_of x) k ∙ same_place (λ (c : Column). c.name) columns name definition.column k (column_of x) d at is.column)
      ∙ (ap (λ b. same_name name definition.column && b) (ap (λ a. same_kind a own) is.kind ∙ kinds_agree definition.kind own)
      ∙ and_back (same_name name definition.column) (serving.same_kind own definition.kind))

  front_is : (ds : List IndexDef) (xs : List Index) → AreIndexes columns ds xs → position_or_len (is_on k own) xs ≡ position_or_len (serves own name) ds
  front_is [] [] are = refl
  front_is [] (x ∷ xs) are = absurd are
  front_is (e ∷ ds) [] are = absurd are
  front_is (e ∷ ds) (x ∷ xs) are = λ i. cond (not (serves_is e x are.0 i)) (1 + front_is ds xs are.1 i) 0

  -- The first index of a kind on a column is at the same position by its column and by its name.
  pub place_is : (ds : List IndexDef) (xs : List Index) → AreIndexes columns ds xs → position (is_on k own) xs ≡ position (serves own name) ds
  place_is ds xs are = λ i. cond (nat_lt (front_is ds xs are i) (as_many columns ds xs are i)) (Some (front_is ds xs are i)) None

-- The name at this position is the name of the definition that is found.
module _ (test : IndexDef → Bool) (ds : List IndexDef) where
  some_name : (n : ℕ) (o : Option IndexDef) → slice_get ds n ≡ o → n < length ds
      → Some (option_map_or (λ (d : IndexDef). d.name) o []) ≡ option_map (λ (d : IndexDef). d.name) o
  some_name n None at within = let found = there ds n within in absurd (cc (found.1, at))
  some_name n (Some d) at within = refl

  name_by : (o : Option ℕ) → position test ds ≡ o
      → option_map (λ n. option_map_or (λ (d : IndexDef). d.name) (slice_get ds n) []) o ≡ option_map (λ (d : IndexDef). d.name) (find test ds)
  name_by None is = sym (ap (option_map (λ (d : IndexDef). d.name)) (find_nowhere test ds is))
  name_by (Some n) is =
      some_name n (slice_get ds n) refl (within_from_some test ds n is) ∙ sym (ap (option_map (λ (d : IndexDef). d.name)) (find_at_place test ds n is))

  pub name_found : option_map (λ n. option_map_or (λ (d : IndexDef). d.name) (slice_get ds n) []) (position test ds)
      ≡ option_map (λ (d : IndexDef). d.name) (find test ds)
  name_found = name_by (position test ds) refl

-- ---- tables of FROM

of_at : (tables : List Table) (relations : List StoredRows) (place : ℕ) (table : Table) → AreOf tables relations → slice_get tables place ≡ Some table
    → (stored : StoredRows) × (slice_get relations place ≡ Some stored) × IsOf table stored
of_at [] relations place table are at = cc
of_at (t ∷ ts) [] place table are at = absurd are
of_at (t ∷ ts) (r ∷ rs) zero table are at = (r, refl, subst (λ (x : Table). IsOf x r) (same_Some t table at) are.0)
of_at (t ∷ ts) (r ∷ rs) (suc place) table are at = of_at ts rs place table are.1 at

-- The table of an item of FROM, and the relation that keeps it.
pub record Stands (schema : Schema) (relations : List StoredRows) (item : FromItem) : Type 0 where
  pub place : ℕ
  pub table : Table
  pub stored : StoredRows
  pub place_is : table_place item.table schema ≡ Some place
  pub table_is : slice_get schema.tables place ≡ Some table
  pub named : table_named item.table schema ≡ Some table
  pub stored_is : slice_get relations place ≡ Some stored
  pub kept : IsOf table stored

module _ (schema : Schema) (relations : List StoredRows) (are : AreOf schema.tables relations) (item : FromItem) where
  stands_by : (o : Option ℕ) → table_place item.table schema ≡ o → lacks_table item.table schema ≡ false → Stands schema relations item
  stands_by None is has = absurd (false≢true (sym has ∙ ap is_none (no_table item.table schema is)))
  stands_by (Some place) is has =
      let found = there schema.tables place (place_within item.table schema place is) in
      let keeps = of_at schema.tables relations place found.0 are found.1 in
      record {
        place = place;
        table = found.0;
        stored = keeps.0;
        place_is = is;
        table_is = found.1;
        named = find_at_place (λ table. same_name item.table table.definition.name) schema.tables place is ∙ found.1;
        stored_is = keeps.1;
        kept = keeps.2;
      }

  pub stands : lacks_table item.table schema ≡ false → Stands schema relations item
  stands has = stands_by (table_place item.table schema) refl has

-- The column that a field refers to, and its position.
pub record IsField (schema : Schema) (relations : List StoredRows) (from : List FromItem) (field : FieldName) : Type 0 where
  pub place : ℕ
  pub item : FromItem
  pub alias_is : alias_place from field.alias ≡ Some place
  pub item_is : slice_get from place ≡ Some item
  pub alias : item.alias ≡ field.alias
  pub of : Stands schema relations item
  pub number : ℕ
  pub column : Column
  pub number_is : column_place field.column of.table.definition.columns ≡ Some number
  pub column_is : slice_get of.table.definition.columns number ≡ Some column
  pub name : column.name ≡ field.column

module _ (schema : Schema) (relations : List StoredRows) (from : List FromItem) (are : AreOf schema.tables relations)
    (tables : list_any (λ (item : FromItem). lacks_table item.table schema) from ≡ false) (field : FieldName) where
  abbrev is_item : FromItem → Bool
  is_item item = same_name field.alias item.alias

  abbrev is_column : Column → Bool
  is_column column = same_name field.column column.name

  named_at : {X : Type 0} (name : X → List ℕ) (a : List ℕ) (xs : List X) (i : ℕ) (x : X) → position (λ x. same_name a (name x)) xs ≡ Some i
      → slice_get xs i ≡ Some x → name x ≡ a
  named_at name a xs i x at found =
      let passes = (position-Some (λ x. same_name a (name x)) xs i x at).1 in
      let here : get_or xs i x ≡ x = get_or_from_slice_get xs i x x found in
      sym (same_bytes a (name x) (ap (λ y. same_name a (name y)) (sym here) ∙ passes))

  column_by : (place : ℕ) (item : FromItem) (of : Stands schema relations item) (o : Option ℕ) → alias_place from field.alias ≡ Some place
      → slice_get from place ≡ Some item → column_place field.column of.table.definition.columns ≡ o
      → field_lacks_column schema from field ≡ false → IsField schema relations from field
  column_by place item of None at found is has =
      let table_is : table_of schema from field.alias ≡ Some of.table =
      ap (option_and_then (λ (item : FromItem). table_named item.table schema)) (find_at_place is_item from place at ∙ found) ∙ of.named in
      absurd (false≢true (sym has
      ∙ (ap (λ (t : Option Table). option_map_or (λ (u : Table). lacks_column u.definition.columns field.column) t false) table_is ∙ ap is_none is)))
  column_by place item of (Some number) at found is has =
      let own = there of.table.definition.columns number (within_from_some is_column of.table.definition.columns number is) in
      record {
        place = place;
        item = item;
        alias_is = at;
        item_is = found;
        alias = named_at (λ (x : FromItem). x.alias) field.alias from place item at found;
        of = of;
        number = number;
        column = own.0;
        number_is = is;
        column_is = own.1;
        name = named_at (λ (x : Column). x.name) field.column of.table.definition.columns number own.0 is own.1;
      }

  place_by : (o : Option ℕ) → alias_place from field.alias ≡ o → lacks_alias from field ≡ false → field_lacks_column schema from field ≡ false
      → IsField schema relations from field
  place_by None is here has = absurd (false≢true (sym here ∙ ap is_none is))
  place_by (Some place) is here has =
      let found = there from place (within_from_some is_item from place is) in
      let of = stands schema relations are found.0 (fails_at (λ (item : FromItem). lacks_table item.table schema) from place found.0 tables found.1) in
      column_by place found.0 of (column_place field.column of.table.definition.columns) is found.1 refl has

  pub field_told : lacks_alias from field ≡ false → field_lacks_column schema from field ≡ false → IsField schema relations from field
  field_told here has = place_by (alias_place from field.alias) refl here has

module _ {schema : Schema} {relations : List StoredRows} {from : List FromItem} {field : FieldName} (own : IsField schema relations from field) where
  pub table_is : table_of schema from field.alias ≡ Some own.of.table
  table_is =
      ap (option_and_then (λ (item : FromItem). table_named item.table schema))
      (find_at_place (λ (item : FromItem). same_name field.alias item.alias) from own.place own.alias_is ∙ own.item_is)
      ∙ own.of.named

  pub placed_is : placed_field schema from field ≡ record { place = own.place; column = own.number }
  placed_is = λ i. record {
    place = unwrap_or (own.alias_is i) 0;
    column = (ap (λ (t : Option Table). option_map_or (λ (u : Table). placed u.definition.columns field.column) t 0) table_is
        ∙ ap (λ (o : Option ℕ). unwrap_or o 0) own.number_is) i;
  }

  -- The column of this name is the column at the field's position.
  pub column_found : option_and_then (λ (table : Table). column_named field.column table.definition.columns) (table_of schema from field.alias)
      ≡ Some own.column
  column_found =
      ap (option_and_then (λ (table : Table). column_named field.column table.definition.columns)) table_is
      ∙ (find_at_place (λ (column : Column). same_name field.column column.name) own.of.table.definition.columns own.number own.number_is ∙ own.column_is)

-- The positions of the tables of FROM.
pub table_at : (schema : Schema) (relations : List StoredRows) (from : List FromItem) (place : ℕ) (item : FromItem) (of : Stands schema relations item)
    → slice_get from place ≡ Some item → get_or (places_in schema from) place 0 ≡ of.place
table_at schema relations from place item of at =
    get_or_from_slice_get (places_in schema from) place of.place 0
    (slice_get-map (λ (item : FromItem). unwrap_or (table_place item.table schema) 0) from place
    ∙ (ap (option_map (λ (item : FromItem). unwrap_or (table_place item.table schema) 0)) at ∙ ap (λ (o : Option ℕ). Some (unwrap_or o 0)) of.place_is))
