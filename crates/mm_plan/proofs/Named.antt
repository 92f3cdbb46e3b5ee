-- The names of the steps of a query are its plan.
use Rattle.std.proofs.Common.{◌≡◌, ℕ, zero, suc, ◌+◌, ◌<◌, Bool, true, false, cond, not, List, [], ◌∷◌, length, get_or, map, Option, Some, None, refl, sym}
use Rattle.std.proofs.Common.{ap, ◌∙◌, subst, arith}
use Rattle.std.specs.Prelude.{◌==◌, find, nat_lt, position, slice_get}
use Rattle.std.specs.List.{list_any, position_or_len}
use Rattle.std.specs.Option.{option_and_then, option_map, option_map_or, unwrap_or}
use Rattle.std.proofs.lemmas.Bool.{eqb-true, or_parts}
use Rattle.std.proofs.lemmas.Bool.Decides.{nat_tests}
use Rattle.std.proofs.lemmas.List.Elements.{All-get_or}
use Rattle.std.proofs.lemmas.Option.{get_or_from_slice_get, same_Some, slice_get_within}
use Rattle.mm_plan.proofs.Fields.{IsField, Stands, column_found, eq_back, fails_at, key_alone, name_found, place_is, placed_is, same_place, table_at, table_is}
use Rattle.mm_plan.specs.Choosing.{bounded_column, compared_column, equated_column, first_from, first_hash, first_rule, first_step, first_tree, hash_at}
use Rattle.mm_plan.specs.Choosing.{tree_at}
use Rattle.mm_plan.specs.Kept.{AreKept, HaveOneKey}
use Rattle.mm_plan.specs.Naming.{Names, alias_at, column_at, field_named, index_at, look_up_named, named, tree_named}
use Rattle.mm_plan.specs.declared.choosing.FirstRule.TheVariants as first
use Rattle.mm_plan.specs.declared.step.Step.{Step}
use Rattle.mm_plan.specs.declared.step.Step.TheVariants as step
use Rattle.mm_query.specs.Choosing.{first_given, first_there}
use Rattle.mm_query.specs.Placing.{mapped_atom, mapped_operand}
use Rattle.mm_query.specs.Plans.{compared_field, first_line, hash_line, is_equality, is_of, range_line, tree_line}
use Rattle.mm_query.specs.Resolving.{alias_place, has_duplicate_aliases, placed_field, places_in}
use Rattle.mm_query.specs.Serving.{created_index, hash_on, is_key_field, serves, tree_on}
use Rattle.mm_query.specs.declared.atom.Atom.{Atom}
use Rattle.mm_query.specs.declared.atom.Operand.{Operand}
use Rattle.mm_query.specs.declared.atom.Operand.TheVariants.{Literal, Column as Other, Shifted}
use Rattle.mm_query.specs.declared.bound_query.FieldPlace.{FieldPlace}
use Rattle.mm_query.specs.declared.plan_line.PlanLine.{PlanLine}
use Rattle.mm_query.specs.declared.plan_line.PlanLine.TheVariants as line
use Rattle.mm_query.specs.Fields.{FieldName}
use Rattle.mm_query.specs.declared.query.FromItem.{FromItem}
use Rattle.mm_query.specs.declared.query.Query.{Query}
use Rattle.mm_indexed.specs.Kept.{StoredRows}
use Rattle.mm_indexed.specs.Served.{is_on}
use Rattle.mm_schema.proofs.NameLemmas.{differs_back, same_name_refl}
use Rattle.mm_schema.specs.Columns.{is_key, key_count}
use Rattle.mm_schema.specs.Name.{same_name}
use Rattle.mm_schema.specs.Schema.{Schema}
use Rattle.mm_schema.specs.declared.column.Column.{Column}
use Rattle.mm_schema.specs.declared.index.IndexDef.{IndexDef}
use Rattle.mm_schema.specs.declared.index.IndexId.{IndexId}
use Rattle.mm_schema.specs.declared.index.IndexId.TheVariants as id
use Rattle.mm_schema.specs.declared.index.IndexKind.{IndexKind}
use Rattle.mm_schema.specs.declared.index.IndexKind.TheVariants as kind
use Rattle.mm_schema.specs.declared.table.Table.{Table}
use Rattle.mm_store.specs.Tables.{Tables}
use Rattle.mm_store.specs.declared.index_ref.IndexRef.{IndexRef}
use Rattle.mm_store.specs.declared.index_ref.IndexRef.TheVariants as index

-- ---- choices and names

module _ {S L : Type 0} (name : S → L) where
  pub first_there_named : (xs : List (Option S)) → option_map name (first_there xs) ≡ first_there (map (option_map name) xs)
  first_there_named [] = refl
  first_there_named (Some x ∷ xs) = refl
  first_there_named (None ∷ xs) = first_there_named xs

  pub else_named : (o : Option S) (d : S) → name (unwrap_or o d) ≡ unwrap_or (option_map name o) (name d)
  else_named None d = refl
  else_named (Some s) d = refl

  alone : (o : Option L) → first_there (o ∷ []) ≡ o
  alone None = refl
  alone (Some x) = refl

  one_more : (a b : Option S) (l : Option L) (ls : List (Option L)) → option_map name a ≡ l → option_map name b ≡ first_there ls
      → option_map name (first_there (a ∷ b ∷ [])) ≡ first_there (l ∷ ls)
  one_more None b l ls here rest =
      first_there_named (b ∷ []) ∙ (alone (option_map name b) ∙ (rest ∙ ap (λ o. first_there (o ∷ ls)) here))
  one_more (Some s) b l ls here rest = ap (λ o. first_there (o ∷ ls)) here

-- The step that is chosen for the first atom is named as the line that the rules choose by names.
module _ (name : Step → PlanLine) (place : FieldName → FieldPlace) (give : ℕ → Atom FieldPlace → Option Step) (line_of : Atom FieldName → Option PlanLine) where
  pub first_named : (n : ℕ) (atoms : List (Atom FieldName))
      → ((i at : ℕ) (atom : Atom FieldName) → at ≡ n + i → slice_get atoms i ≡ Some atom → option_map name (give at (mapped_atom place atom)) ≡ line_of atom)
      → option_map name (first_from give n (map (mapped_atom place) atoms)) ≡ first_given line_of atoms
  first_named n [] each = refl
  first_named n (atom ∷ atoms) each =
      let start : n ≡ n + 0 = omega arith in
      one_more name (give n (mapped_atom place atom)) (first_from give (suc n) (map (mapped_atom place) atoms)) (line_of atom) (map line_of atoms)
      (each 0 n atom start refl)
      (first_named (suc n) atoms (λ i at own is found.
      let later : at ≡ n + suc i = omega (arith, is) in
      each (suc i) at own later found))

module _ {X Y Z : Type 0} (g : Y → Z) (f : X → Y) where
  pub fused : (o : Option X) → option_map g (option_map f o) ≡ option_map (λ x. g (f x)) o
  fused None = refl
  fused (Some x) = refl

-- ---- tables of FROM

-- The alias of each item of FROM is at its own position.
module _ (from : List FromItem) where
  first_alias : (items : List FromItem) (place : ℕ) (item : FromItem) → has_duplicate_aliases items ≡ false → slice_get items place ≡ Some item
      → position_or_len (λ (x : FromItem). same_name item.alias x.alias) items ≡ place
  first_alias [] place item duplicates at = cc
  first_alias (x ∷ items) zero item duplicates at =
      ap (λ b. cond (not b) (1 + position_or_len (λ (x : FromItem). same_name item.alias x.alias) items) 0)
      (ap (λ (y : FromItem). same_name item.alias y.alias) (same_Some x item at) ∙ same_name_refl item.alias)
  first_alias (x ∷ items) (suc place) item duplicates at =
      let parts = or_parts (list_any (λ (other : FromItem). same_name x.alias other.alias) items) (has_duplicate_aliases items) duplicates in
      let differs = differs_back x.alias item.alias (fails_at (λ (other : FromItem). same_name x.alias other.alias) items place item parts.0 at) in
      let rest = first_alias items place item parts.1 at in
      let counted : 1 + place ≡ suc place = omega arith in
      (λ i. cond (not (differs i)) (1 + rest i) 0) ∙ counted

  within_test : (m n : ℕ) → m < n → nat_lt m n ≡ true
  within_test m n within = grind (arith, nat_tests)

  pub alias_first : (place : ℕ) (item : FromItem) → has_duplicate_aliases from ≡ false → slice_get from place ≡ Some item
      → alias_place from item.alias ≡ Some place
  alias_first place item duplicates at =
      let is = first_alias from place item duplicates at in
      (λ i. cond (nat_lt (is i) (length from)) (Some (is i)) None)
      ∙ ap (λ b. cond b (Some place) None) (within_test place (length from) (slice_get_within from place item at))

-- ---- one field

module _ (schema : Schema) (store : Tables) (from : List FromItem) (kept : AreKept schema store) (keys : HaveOneKey schema.tables) where
  abbrev pub names : Names
  names = record { schema = schema; from = from; tables = places_in schema from }

  module _ (field : FieldName) (own : IsField schema store.tables from field) where
    abbrev table : Table
    table = own.of.table

    abbrev stored : StoredRows
    stored = own.of.stored

    at_place : slice_get schema.tables (get_or (places_in schema from) own.place 0) ≡ Some table
    at_place = ap (slice_get schema.tables) (table_at schema store.tables from own.place own.item own.of own.item_is) ∙ own.of.table_is

    index_is : (n : ℕ) → index_at names own.place n ≡ option_map_or (λ (d : IndexDef). d.name) (slice_get table.indexes n) []
    index_is n = ap (λ (o : Option Table). option_map_or (λ (t : Table). option_map_or (λ (d : IndexDef). d.name) (slice_get t.indexes n) []) o []) at_place

    created : (k : IndexKind) → option_map (index_at names own.place) (position (is_on own.number k) stored.indexes) ≡ created_index schema from k field
    created k =
        ap (option_map (index_at names own.place))
        (place_is table.definition.columns field.column own.number own.number_is own.column k table.indexes stored.indexes own.of.kept.indexes)
        ∙ ((λ i. option_map (λ n. index_is n i) (position (serves k field.column) table.indexes))
        ∙ (name_found (serves k field.column) table.indexes
        ∙ sym (ap (option_and_then (λ (t : Table). option_map (λ (d : IndexDef). d.name) (find (serves k field.column) t.indexes))) (table_is own))))

    -- The HASH index on the field's column has the same name by position and by name.
    pub hash_named : {Y : Type 0} (make : List ℕ → Y) (name : IndexRef → Y) → ((n : ℕ) → name (index.Hash n) ≡ make (index_at names own.place n))
        → option_map name (hash_at store own.of.place own.number) ≡ option_map make (hash_on schema from field)
    hash_named {Y} make name agree =
        ap (λ (o : Option StoredRows). option_map name (option_and_then (first_hash own.number) o)) own.of.stored_is
        ∙ (each (position (is_on own.number kind.Hash) stored.indexes) ∙ ap (option_map make) (created kind.Hash))
      where
        each : (o : Option ℕ) → option_map name (option_map index.Hash o) ≡ option_map make (option_map (index_at names own.place) o)
        each None = refl
        each (Some n) = ap Some (agree n)

    pub key_is : (own.number == stored.key) ≡ is_key_field schema from field
    key_is =
        ap (λ n. own.number == n) own.of.kept.key
        ∙ (key_alone table.definition.columns own.number own.column one own.column_is
        ∙ sym (ap (λ (o : Option Column). option_map_or is_key o false) (column_found own)))
      where
        one : key_count table.definition.columns ≡ 1
        one =
            let here : get_or schema.tables own.of.place table ≡ table = get_or_from_slice_get schema.tables own.of.place table table own.of.table_is in
            subst (λ (t : Table). key_count t.definition.columns ≡ 1) here
            (All-get_or (λ (t : Table). key_count t.definition.columns ≡ 1) schema.tables own.of.place table
            (slice_get_within schema.tables own.of.place table own.of.table_is) keys)

    -- The tree on the field's column has the same name by position and by name.
    pub tree_is_named : {Y : Type 0} (make : IndexId → Y) (name : IndexRef → Y) → name index.Key ≡ make id.Key
        → ((n : ℕ) → name (index.Tree n) ≡ make (id.Named (index_at names own.place n)))
        → option_map name (tree_at store own.of.place own.number) ≡ option_map make (tree_on schema from field)
    tree_is_named {Y} make name key agree =
        ap (λ (o : Option StoredRows). option_map name (option_and_then (first_tree own.number) o)) own.of.stored_is
        ∙ (ap (λ b. option_map name (cond b (Some index.Key) (option_map index.Tree (position (is_on own.number kind.Tree) stored.indexes)))) key_is
        ∙ by (is_key_field schema from field))
      where
        each : (o : Option ℕ) → option_map name (option_map index.Tree o) ≡ option_map make (option_map id.Named (option_map (index_at names own.place) o))
        each None = refl
        each (Some n) = ap Some (agree n)

        by : (b : Bool) → option_map name (cond b (Some index.Key) (option_map index.Tree (position (is_on own.number kind.Tree) stored.indexes)))
            ≡ option_map make (cond b (Some id.Key) (option_map id.Named (created_index schema from kind.Tree field)))
        by true = ap Some key
        by false = each (position (is_on own.number kind.Tree) stored.indexes) ∙ ap (λ o. option_map make (option_map id.Named o)) (created kind.Tree)

    pub column_name : column_at names own.place own.number ≡ field.column
    column_name =
        ap (λ (o : Option Table). option_map_or (λ (t : Table). option_map_or (λ (c : Column). c.name) (slice_get t.definition.columns own.number) []) o [])
        at_place
        ∙ (ap (λ (o : Option Column). option_map_or (λ (c : Column). c.name) o []) own.column_is ∙ own.name)

    alias_name : alias_at names own.place ≡ field.alias
    alias_name = ap (λ (o : Option FromItem). option_map_or (λ (x : FromItem). x.alias) o []) own.item_is ∙ own.alias

    pub field_is : field_named names (record { place = own.place; column = own.number }) ≡ field
    field_is = λ i. record { alias = alias_name i; column = column_name i }

    -- The field belongs to the table at a position exactly if it has the table's alias.
    pub is_here : (place : ℕ) (item : FromItem) → has_duplicate_aliases from ≡ false → slice_get from place ≡ Some item
        → (own.place == place) ≡ is_of item.alias field
    is_here place item duplicates at =
        eq_back own.place place
        ∙ same_place (λ (x : FromItem). x.alias) from item.alias field.alias place own.place item (alias_first from place item duplicates at) own.alias_is

  -- ---- the first table

  module _ (duplicates : has_duplicate_aliases from ≡ false) (item : FromItem) (at : slice_get from 0 ≡ Some item) (of : Stands schema store.tables item) where
    -- A field that is compared with a value, by the indexes on it.
    module _ {X : Type 0} (give : ℕ → Option IndexRef) (on : FieldName → Option X) (name : IndexRef → PlanLine) (make : X → PlanLine) (field : FieldName)
        (own : IsField schema store.tables from field) (agree : own.place ≡ 0 → option_map name (give own.number) ≡ option_map make (on field)) where
      pub compared : (right : Operand FieldName)
          → option_map name (option_and_then give (compared_column (placed_field schema from field) (mapped_operand (placed_field schema from) right)))
          ≡ option_map make (option_and_then on (compared_field item.alias field right))
      compared (Literal value) =
          ap (λ (p : FieldPlace). option_map name (option_and_then give (cond (p.place == 0) (Some p.column) None))) (placed_is own)
          ∙ (ap (λ b. option_map name (option_and_then give (cond b (Some own.number) None))) (is_here field own 0 item duplicates at)
          ∙ by (is_of item.alias field) refl)
        where
          by : (b : Bool) → is_of item.alias field ≡ b → option_map name (option_and_then give (cond b (Some own.number) None))
              ≡ option_map make (option_and_then on (cond b (Some field) None))
          by true is = agree (eqb-true own.place 0 (is_here field own 0 item duplicates at ∙ is))
          by false is = refl
      compared (Other right) = refl
      compared (Shifted right by) = refl

    same_table : (field : FieldName) (own : IsField schema store.tables from field) → own.place ≡ 0 → own.of.place ≡ of.place
    same_table field own start =
        sym (table_at schema store.tables from own.place own.item own.of own.item_is)
        ∙ (ap (λ n. get_or (places_in schema from) n 0) start ∙ table_at schema store.tables from 0 item of at)

    pub first_alias_is : alias_at names 0 ≡ item.alias
    first_alias_is = ap (λ (o : Option FromItem). option_map_or (λ (x : FromItem). x.alias) o []) at

    module _ (atoms : List (Atom FieldPlace)) (atom : Atom FieldName) (own : IsField schema store.tables from atom.left) where
      abbrev placed_atom : Atom FieldPlace
      placed_atom = mapped_atom (placed_field schema from) atom

      if_equal : {A B : Type 0} (b : Bool) (f : A → PlanLine) (g : B → PlanLine) (x : Option A) (y : Option B) → option_map f x ≡ option_map g y
          → option_map f (cond b x None) ≡ option_map g (cond b y None)
      if_equal true f g x y same = same
      if_equal false f g x y same = refl

      then_equal : {A : Type 0} (b : Bool) (give : ℕ → Option A) (o : Option ℕ) → option_and_then give (cond b o None) ≡ cond b (option_and_then give o) None
      then_equal true give o = refl
      then_equal false give o = refl

      then_field : {A : Type 0} (b : Bool) (on : FieldName → Option A) (o : Option FieldName) → option_and_then on (cond b o None)
          ≡ cond b (option_and_then on o) None
      then_field true on o = refl
      then_field false on o = refl

      then_unequal : {A B : Type 0} (b : Bool) (f : A → Option B) (o : Option A) → option_and_then f (cond b None o) ≡ cond b None (option_and_then f o)
      then_unequal true f o = refl
      then_unequal false f o = refl

      unless_equal : {A B : Type 0} (b : Bool) (f : A → PlanLine) (g : B → PlanLine) (x : Option A) (y : Option B) → option_map f x ≡ option_map g y
          → option_map f (cond b None x) ≡ option_map g (cond b None y)
      unless_equal true f g x y same = refl
      unless_equal false f g x y same = same

      pub hash_line_is : (i : ℕ) → option_map (named names atoms 0) (first_rule first.Hash store of.place i placed_atom) ≡ hash_line schema from item.alias atom
      hash_line_is i =
          fused (named names atoms 0) (λ index. step.LookUp index i) (option_and_then (hash_at store of.place) (equated_column placed_atom))
          ∙ (ap (option_map (look_up_named names 0)) (then_equal (is_equality atom.comparison) (hash_at store of.place)
          (compared_column placed_atom.left placed_atom.right))
          ∙ (if_equal (is_equality atom.comparison) (look_up_named names 0) (line.Hash item.alias)
          (option_and_then (hash_at store of.place) (compared_column placed_atom.left placed_atom.right))
          (option_and_then (hash_on schema from) (compared_field item.alias atom.left atom.right))
          (compared (hash_at store of.place) (hash_on schema from) (look_up_named names 0) (line.Hash item.alias) atom.left own (λ start.
          ap (λ n. option_map (look_up_named names 0) (hash_at store n own.number)) (sym (same_table atom.left own start))
          ∙ hash_named atom.left own (line.Hash item.alias) (look_up_named names 0) (λ n j. line.Hash (first_alias_is j) (index_at names (sym start j) n)))
          atom.right)
          ∙ sym (ap (option_map (line.Hash item.alias)) (then_field (is_equality atom.comparison) (hash_on schema from)
          (compared_field item.alias atom.left atom.right)))))

      pub tree_line_is : (i : ℕ) → option_map (named names atoms 0) (first_rule first.Tree store of.place i placed_atom) ≡ tree_line schema from item.alias atom
      tree_line_is i =
          fused (named names atoms 0) (λ index. step.LookUp index i) (option_and_then (tree_at store of.place) (equated_column placed_atom))
          ∙ (ap (option_map (look_up_named names 0)) (then_equal (is_equality atom.comparison) (tree_at store of.place)
          (compared_column placed_atom.left placed_atom.right))
          ∙ (if_equal (is_equality atom.comparison) (look_up_named names 0) (line.TreeEqual item.alias)
          (option_and_then (tree_at store of.place) (compared_column placed_atom.left placed_atom.right))
          (option_and_then (tree_on schema from) (compared_field item.alias atom.left atom.right))
          (compared (tree_at store of.place) (tree_on schema from) (look_up_named names 0) (line.TreeEqual item.alias) atom.left own (λ start.
          ap (λ n. option_map (look_up_named names 0) (tree_at store n own.number)) (sym (same_table atom.left own start))
          ∙ tree_is_named atom.left own (line.TreeEqual item.alias) (look_up_named names 0) (λ j. line.TreeEqual (first_alias_is j) id.Key)
          (λ n j. line.TreeEqual (first_alias_is j) (id.Named (index_at names (sym start j) n)))) atom.right)
          ∙ sym (ap (option_map (line.TreeEqual item.alias)) (then_field (is_equality atom.comparison) (tree_on schema from)
          (compared_field item.alias atom.left atom.right)))))

      pub range_line_is : (i : ℕ) → option_map (named names atoms 0) (first_rule first.Range store of.place i placed_atom)
          ≡ range_line schema from item.alias atom
      range_line_is i =
          fused (named names atoms 0) (λ index. step.Range index i) (option_and_then (tree_at store of.place) (bounded_column placed_atom))
          ∙ (ap (option_map (λ index. line.TreeRange (alias_at names 0) (tree_named names 0 index)))
          (then_unequal (is_equality atom.comparison) (tree_at store of.place) (compared_column placed_atom.left placed_atom.right))
          ∙ (unless_equal (is_equality atom.comparison) (λ index. line.TreeRange (alias_at names 0) (tree_named names 0 index)) (line.TreeRange item.alias)
          (option_and_then (tree_at store of.place) (compared_column placed_atom.left placed_atom.right))
          (option_and_then (tree_on schema from) (compared_field item.alias atom.left atom.right))
          (compared (tree_at store of.place) (tree_on schema from) (λ index. line.TreeRange (alias_at names 0) (tree_named names 0 index))
          (line.TreeRange item.alias) atom.left own (λ start.
          ap (λ n. option_map (λ index. line.TreeRange (alias_at names 0) (tree_named names 0 index)) (tree_at store n own.number))
          (sym (same_table atom.left own start))
          ∙ tree_is_named atom.left own (line.TreeRange item.alias) (λ index. line.TreeRange (alias_at names 0) (tree_named names 0 index))
          (λ j. line.TreeRange (first_alias_is j) id.Key) (λ n j. line.TreeRange (first_alias_is j) (id.Named (index_at names (sym start j) n)))) atom.right)
          ∙ sym (ap (option_map (line.TreeRange item.alias))
          (then_unequal (is_equality atom.comparison) (tree_on schema from) (compared_field item.alias atom.left atom.right)))))

  module _ (duplicates : has_duplicate_aliases from ≡ false) (item : FromItem) (at : slice_get from 0 ≡ Some item) (of : Stands schema store.tables item)
      (atoms : List (Atom FieldName)) (fields : (i : ℕ) (atom : Atom FieldName) → slice_get atoms i ≡ Some atom → IsField schema store.tables from atom.left)
    where
      abbrev placed_atoms : List (Atom FieldPlace)
      placed_atoms = map (mapped_atom (placed_field schema from)) atoms

      abbrev name : Step → PlanLine
      name = named names placed_atoms 0

      hashes : option_map name (first_from (first_rule first.Hash store of.place) 0 placed_atoms) ≡ first_given (hash_line schema from item.alias) atoms
      hashes = first_named name (placed_field schema from) (first_rule first.Hash store of.place) (hash_line schema from item.alias) 0 atoms
          (λ i place atom is found. hash_line_is duplicates item at of placed_atoms atom (fields i atom found) place)

      trees : option_map name (first_from (first_rule first.Tree store of.place) 0 placed_atoms) ≡ first_given (tree_line schema from item.alias) atoms
      trees = first_named name (placed_field schema from) (first_rule first.Tree store of.place) (tree_line schema from item.alias) 0 atoms
          (λ i place atom is found. tree_line_is duplicates item at of placed_atoms atom (fields i atom found) place)

      ranges : option_map name (first_from (first_rule first.Range store of.place) 0 placed_atoms) ≡ first_given (range_line schema from item.alias) atoms
      ranges = first_named name (placed_field schema from) (first_rule first.Range store of.place) (range_line schema from item.alias) 0 atoms
          (λ i place atom is found. range_line_is duplicates item at of placed_atoms atom (fields i atom found) place)

      abbrev steps : List (Option Step)
      steps = first_from (first_rule first.Hash store of.place) 0 placed_atoms
          ∷ first_from (first_rule first.Tree store of.place) 0 placed_atoms
          ∷ first_from (first_rule first.Range store of.place) 0 placed_atoms
          ∷ []

      -- The step of the first table is named as its line.
      pub first_step_named : (query : Query) → query.from ≡ from → query.atoms ≡ atoms
          → name (first_step store placed_atoms of.place) ≡ first_line schema query item
      first_step_named query from_is atoms_are =
          else_named name (first_there steps) step.Scan
          ∙ (ap (λ o. unwrap_or o (line.Scan (alias_at names 0))) (first_there_named name steps)
          ∙ ((λ i. unwrap_or (first_there (hashes i ∷ trees i ∷ ranges i ∷ [])) (line.Scan (first_alias_is duplicates item at of i)))
          ∙ λ i. unwrap_or (first_there (
          first_given (hash_line schema (sym from_is i) item.alias) (sym atoms_are i)
          ∷ first_given (tree_line schema (sym from_is i) item.alias) (sym atoms_are i)
          ∷ first_given (range_line schema (sym from_is i) item.alias) (sym atoms_are i)
          ∷ [])) (line.Scan item.alias)))
