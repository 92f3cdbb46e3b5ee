-- The names of the steps of further tables are their lines.
use Rattle.std.proofs.Common.{◌≡◌, ⊎_elim, ℕ, zero, suc, ◌+◌, ◌*◌, ◌<◌, ◌≤◌, Bool, true, false, cond, not, ◌&&◌, ◌||◌, List, [], ◌∷◌, ◌++◌, length, get_or}
use Rattle.std.proofs.Common.{map, Option, Some, None, refl, sym, ap, ◌∙◌, subst, append_assoc, arith}
use Rattle.std.specs.Prelude.{◌==◌, ℤ, nat_lt, pos, slice_get}
use Rattle.std.specs.List.{cons_option, filter_map, list_any, position_or_len}
use Rattle.std.specs.Option.{option_and_then, option_map, option_map_or, unwrap_or}
use Rattle.std.proofs.lemmas.Bool.{and_parts, cases_Bool, eqb-true, ltb-false, ltb-true}
use Rattle.std.proofs.lemmas.Bool.Decides.{nat_tests}
use Rattle.std.proofs.lemmas.List.{length-append, length-map, map-append}
use Rattle.std.proofs.lemmas.List.Elements.{All-get_or}
use Rattle.std.proofs.lemmas.Option.{get_or_from_slice_get, slice_get-map, slice_get_within}
use Rattle.mm_join.specs.Keys.{key_beside, key_between, key_of}
use Rattle.mm_join.specs.declared.key.JoinKey.{JoinKey}
use Rattle.mm_join.specs.declared.key.Shift.TheVariants as shift
use Rattle.mm_plan.proofs.Fields.{IsField, Stands, column_found, fails_at, placed_is, same_place, stands, table_at}
use Rattle.mm_plan.proofs.Named.{column_name, else_named, field_is, first_named, first_step_named, first_there_named, fused, hash_named, is_here, key_is}
use Rattle.mm_plan.proofs.Named.{names, tree_is_named}
use Rattle.mm_plan.proofs.Reached.{refers_by_name}
use Rattle.mm_plan.specs.Choosing.{count_at, first_from, first_step, follows_scan, follows_shorter, hash_at, is_plain, is_referred, is_scan, join_rule}
use Rattle.mm_plan.specs.Choosing.{joined_by, merge_of, next_step, refers_only, step_for, steps_behind, tree_at}
use Rattle.mm_plan.specs.Kept.{AreKept, HaveOneKey}
use Rattle.mm_plan.specs.Naming.{Names, alias_at, column_at, field_named, index_at, key_by, named, named_from, tree_named}
use Rattle.mm_plan.specs.declared.choosing.JoinRule.{JoinRule}
use Rattle.mm_plan.specs.declared.choosing.JoinRule.TheVariants as join
use Rattle.mm_plan.specs.declared.step.Step.{Step}
use Rattle.mm_plan.specs.declared.step.Step.TheVariants as step
use Rattle.mm_query.specs.Choosing.{first_given, first_there}
use Rattle.mm_query.specs.Placing.{mapped_atom, mapped_operand}
use Rattle.mm_query.specs.Plans.{built_hash_line, count_of, hash_join_line, is_equality, is_of, is_of_some, is_precomputed, join_equalities, join_equality}
use Rattle.mm_query.specs.Plans.{joined_fields, joined_line, joined_sides, line_for, lines_behind, precomputed_line, tree_join_line, tree_merge_line}
use Rattle.mm_query.specs.Plans as plans
use Rattle.mm_query.specs.Resolving.{column_of, has_duplicate_aliases, placed_field, places_in}
use Rattle.mm_query.specs.Serving.{is_key_field, refers_to_table, tree_on}
use Rattle.mm_query.specs.declared.atom.Atom.{Atom}
use Rattle.mm_query.specs.declared.atom.Operand.{Operand}
use Rattle.mm_query.specs.declared.atom.Operand.TheVariants.{Literal, Column as Other, Shifted}
use Rattle.mm_query.specs.declared.bound_query.FieldPlace.{FieldPlace}
use Rattle.mm_query.specs.declared.plan_line.JoinEquality.{JoinEquality}
use Rattle.mm_query.specs.declared.plan_line.PlanLine.{PlanLine}
use Rattle.mm_query.specs.declared.plan_line.PlanLine.TheVariants as line
use Rattle.mm_query.specs.Fields.{FieldName}
use Rattle.mm_query.specs.declared.query.FromItem.{FromItem}
use Rattle.mm_query.specs.declared.query.Query.{Query}
use Rattle.mm_indexed.specs.RowLists.{rows_of}
use Rattle.mm_indexed.specs.Kept.{StoredRows}
use Rattle.mm_schema.proofs.NameLemmas.{differs_back, same_bytes, same_name_refl}
use Rattle.mm_schema.proofs.Places.{place_from_some}
use Rattle.mm_schema.specs.Columns.{refers_to, target_of}
use Rattle.mm_schema.specs.Name.{same_name}
use Rattle.mm_schema.specs.Schema.{Schema, lacks_table, lacks_target, table_place}
use Rattle.mm_schema.specs.declared.column.Column.{Column}
use Rattle.mm_schema.specs.declared.index.IndexId.{IndexId}
use Rattle.mm_schema.specs.declared.index.IndexId.TheVariants as id
use Rattle.mm_schema.specs.declared.table.Table.{Table}
use Rattle.mm_store.specs.Tables.{Tables, key_at}
use Rattle.mm_store.specs.declared.index_ref.IndexRef.{IndexRef}
use Rattle.mm_store.specs.declared.index_ref.IndexRef.TheVariants as index

-- ---- lists

same_back : (a b : List ℕ) → same_name a b ≡ same_name b a
same_back a b = ⊎_elim
    (λ (same : same_name a b ≡ true).
    let one : a ≡ b = same_bytes a b same in
    same ∙ sym (ap (λ n. same_name b n) one ∙ same_name_refl b))
    (λ (apart : same_name a b ≡ false). apart ∙ sym (differs_back a b apart))
    (cases_Bool (same_name a b))

within : (m n : ℕ) → m < n → nat_lt m n ≡ true
within m n below = grind (arith, nat_tests)

past : (m n : ℕ) → n ≤ m → nat_lt m n ≡ false
past m n above = grind (arith, nat_tests)

lt_suc : (m n : ℕ) → nat_lt (suc m) (suc n) ≡ nat_lt m n
lt_suc m n = ⊎_elim
    (λ (is : nat_lt m n ≡ true). let below = ltb-true m n is in within (suc m) (suc n) (omega (arith, below)) ∙ sym is)
    (λ (is : nat_lt m n ≡ false). let above = ltb-false m n is in past (suc m) (suc n) (omega (arith, above)) ∙ sym is)
    (cases_Bool (nat_lt m n))

-- An alias is among those before a position exactly if its own position is before it.
module _ (alias : List ℕ) (rest : List FromItem) where
  abbrev is_alias : FromItem → Bool
  is_alias item = same_name alias item.alias

  some_before : (earlier : List FromItem)
      → nat_lt (position_or_len is_alias (earlier ++ rest)) (length earlier) ≡ list_any (λ (item : FromItem). same_name item.alias alias) earlier
  some_before [] = grind (arith, nat_tests)
  some_before (item ∷ earlier) =
      ap (λ b. nat_lt (cond (not b) (1 + position_or_len is_alias (earlier ++ rest)) 0) (length (item ∷ earlier))) (same_back alias item.alias)
      ∙ by (same_name item.alias alias) (some_before earlier)
    where
      by : (b : Bool) → nat_lt (position_or_len is_alias (earlier ++ rest)) (length earlier) ≡ list_any (λ (x : FromItem). same_name x.alias alias) earlier
          → nat_lt (cond (not b) (1 + position_or_len is_alias (earlier ++ rest)) 0) (length (item ∷ earlier))
          ≡ (b || list_any (λ (x : FromItem). same_name x.alias alias) earlier)
      by true later = grind (arith, nat_tests)
      by false later = (let one : 1 + position_or_len is_alias (earlier ++ rest) ≡ suc (position_or_len is_alias (earlier ++ rest)) = omega arith in
          ap (λ n. nat_lt n (length (item ∷ earlier))) one) ∙ (lt_suc (position_or_len is_alias (earlier ++ rest)) (length earlier) ∙ later)

-- The first result of a filtered list is the first result of the two functions in sequence.
module _ {A B C : Type 0} (h : A → Option B) (g : B → Option C) where
  pub given_filtered : (xs : List A) → first_given g (filter_map h xs) ≡ first_given (λ a. option_and_then g (h a)) xs
  given_filtered [] = refl
  given_filtered (x ∷ xs) = by (h x) (given_filtered xs)
    where
      also : (o : Option C) → first_given g (filter_map h xs) ≡ first_given (λ a. option_and_then g (h a)) xs
          → first_there (o ∷ map g (filter_map h xs)) ≡ first_there (o ∷ map (λ a. option_and_then g (h a)) xs)
      also None later = later
      also (Some c) later = refl

      by : (o : Option B) → first_given g (filter_map h xs) ≡ first_given (λ a. option_and_then g (h a)) xs
          → first_given g (cons_option o (filter_map h xs)) ≡ first_there (option_and_then g o ∷ map (λ a. option_and_then g (h a)) xs)
      by None later = later
      by (Some b) later = also (g b) later

guarded_named : {S L : Type 0} (name : S → L) (a b : Bool) (x : Option S) (y : Option L) → a ≡ b → (b ≡ true → option_map name x ≡ y)
    → option_map name (cond a x None) ≡ cond b y None
guarded_named name a true x y same agree = ap (λ c. option_map name (cond c x None)) same ∙ agree refl
guarded_named name a false x y same agree = ap (λ c. option_map name (cond c x None)) same

scan_named : (own : Names) (atoms : List (Atom FieldPlace)) (place : ℕ) (s : Step) → plans.is_scan (named own atoms place s) ≡ is_scan s
scan_named own atoms place step.Scan = refl
scan_named own atoms place (step.LookUp index.Key atom) = refl
scan_named own atoms place (step.LookUp (index.Tree n) atom) = refl
scan_named own atoms place (step.LookUp (index.Hash n) atom) = refl
scan_named own atoms place (step.Range index atom) = refl
scan_named own atoms place (step.Precomputed atom) = refl
scan_named own atoms place (step.TreeMerge outer inner atom) = refl
scan_named own atoms place (step.TreeJoin index atom) = refl
scan_named own atoms place (step.HashJoin index.Key atom) = refl
scan_named own atoms place (step.HashJoin (index.Tree n) atom) = refl
scan_named own atoms place (step.HashJoin (index.Hash n) atom) = refl
scan_named own atoms place (step.BuiltHash atom) = refl
scan_named own atoms place step.NestedLoops = refl

one_and_two : (a b c : Bool) → (a && (b && c)) ≡ ((a && b) && c)
one_and_two true b c = refl
one_and_two false b c = refl

-- ---- a further table

module _ (schema : Schema) (store : Tables) (kept : AreKept schema store) (keys : HaveOneKey schema.tables) (query : Query)
    (tables : list_any (λ (item : FromItem). lacks_table item.table schema) query.from ≡ false) (duplicates : has_duplicate_aliases query.from ≡ false)
    (lefts : (i : ℕ) (atom : Atom FieldName) → slice_get query.atoms i ≡ Some atom → IsField schema store.tables query.from atom.left)
    (rights : (i : ℕ) (atom : Atom FieldName) (field : FieldName) → slice_get query.atoms i ≡ Some atom → column_of atom.right ≡ Some field
    → IsField schema store.tables query.from field) where
  abbrev IsOwn : FieldName → Type 0
  IsOwn field = IsField schema store.tables query.from field

  abbrev place_of : FieldName → FieldPlace
  place_of = placed_field schema query.from

  abbrev atoms : List (Atom FieldPlace)
  atoms = map (mapped_atom place_of) query.atoms

  abbrev all_names : Names
  all_names = names schema store query.from kept keys

  abbrev counts : List ℕ
  counts = map length (map rows_of store.tables)

  stands_at : (place : ℕ) (item : FromItem) → slice_get query.from place ≡ Some item → Stands schema store.tables item
  stands_at place item at =
      stands schema store.tables kept.relations item (fails_at (λ (x : FromItem). lacks_table x.table schema) query.from place item tables at)

  abbrev place_in : FromItem → ℕ
  place_in item = unwrap_or (table_place item.table schema) 0

  counted : (item : FromItem) (of : Stands schema store.tables item) → count_at store of.place ≡ count_of schema counts item.table
  counted item of =
      ap (λ (o : Option StoredRows). length (option_map_or rows_of o [])) of.stored_is
      ∙ (sym (get_or_from_slice_get counts of.place (length (rows_of of.stored)) 0
      (slice_get-map length (map rows_of store.tables) of.place
      ∙ ap (option_map length) (slice_get-map rows_of store.tables of.place ∙ ap (option_map rows_of) of.stored_is)))
      ∙ sym (ap (λ (o : Option ℕ). option_map_or (λ place. get_or counts place 0) o 0) of.place_is))

  scan_is : (earlier others : List FromItem) → earlier ++ others ≡ query.from
      → follows_scan store atoms (places_in schema earlier) ≡ plans.follows_scan schema query earlier
  scan_is [] others split = refl
  scan_is (x ∷ []) others split =
      let at : slice_get query.from 0 ≡ Some x = ap (λ (l : List FromItem). slice_get l 0) (sym split) in
      let of = stands_at 0 x at in
      ap (λ t. is_scan (first_step store atoms t)) (ap (λ (o : Option ℕ). unwrap_or o 0) of.place_is)
      ∙ (sym (scan_named all_names atoms 0 (first_step store atoms of.place))
      ∙ ap plans.is_scan (first_step_named schema store query.from kept keys duplicates x at of query.atoms lefts query refl refl))
  scan_is (x ∷ y ∷ ys) others split = refl

  shorter_is : (earlier others : List FromItem) (item : FromItem) (of : Stands schema store.tables item) → earlier ++ others ≡ query.from
      → follows_shorter store (places_in schema earlier) of.place ≡ plans.follows_shorter schema counts earlier item
  shorter_is [] others item of split = refl
  shorter_is (x ∷ []) others item of split =
      let at : slice_get query.from 0 ≡ Some x = ap (λ (l : List FromItem). slice_get l 0) (sym split) in
      let first = stands_at 0 x at in
      ap (λ t. nat_lt (2 * count_at store t) (count_at store of.place)) (ap (λ (o : Option ℕ). unwrap_or o 0) first.place_is)
      ∙ (λ j. nat_lt (2 * counted x first j) (counted item of j))
  shorter_is (x ∷ y ∷ ys) others item of split = refl

  only_one : (some : List ℕ) → follows_scan store atoms some ≡ true → (before : ℕ) × (some ≡ before ∷ [])
  only_one [] is = cc
  only_one (before ∷ []) is = (before, refl)
  only_one (before ∷ second ∷ others) is = cc

  module _ (earlier : List FromItem) (item : FromItem) (others : List FromItem) (split : earlier ++ item ∷ others ≡ query.from)
      (at : slice_get query.from (length earlier) ≡ Some item) (of : Stands schema store.tables item) where
    abbrev q : ℕ
    q = length earlier

    abbrev outers : List ℕ
    outers = places_in schema earlier

    abbrev name : Step → PlanLine
    name = named all_names atoms q

    alias_is : alias_at all_names q ≡ item.alias
    alias_is = ap (λ (o : Option FromItem). option_map_or (λ (x : FromItem). x.alias) o []) at

    before : (field : FieldName) (own : IsOwn field) → nat_lt own.place q ≡ is_of_some earlier field
    before field own =
        ap (λ n. nat_lt n q) (place_from_some (λ (x : FromItem). same_name field.alias x.alias) query.from own.place own.alias_is
        ∙ ap (position_or_len (λ (x : FromItem). same_name field.alias x.alias)) (sym split))
        ∙ some_before field.alias (item ∷ others) earlier

    here : (field : FieldName) (own : IsOwn field) → (own.place == q) ≡ is_of item.alias field
    here field own = is_here schema store query.from kept keys field own q item duplicates at

    -- A join equality by positions and by names.
    pub record Matches (plain : Bool) (key : JoinKey) (equality : JoinEquality) : Type 0 where
      pub own : IsOwn equality.own
      pub own_here : own.place ≡ q
      pub column : key.column ≡ own.number
      pub other : IsOwn equality.earlier
      pub field : key.field ≡ record { place = other.place; column = other.number }
      pub behind : other.place < q
      pub shifted : not equality.is_shifted ≡ plain

    abbrev Paired : Bool → Option JoinKey → Option JoinEquality → Type 0
    Paired plain None None = Unit {0}
    Paired plain (Some key) (Some equality) = Matches plain key equality
    Paired plain None (Some equality) = ⊥
    Paired plain (Some key) None = ⊥

    module _ (left right : FieldName) (own_left : IsOwn left) (own_right : IsOwn right) (by : ℤ) (shifted plain : Bool) (is : not shifted ≡ plain) where
      abbrev forward : Bool
      forward = is_of item.alias left && is_of_some earlier right

      abbrev backward : Bool
      backward = is_of item.alias right && is_of_some earlier left

      abbrev left_key : JoinKey
      left_key = record { column = own_left.number; field = record { place = own_right.place; column = own_right.number }; shift = shift.Plus by }

      abbrev right_key : JoinKey
      right_key = record { column = own_right.number; field = record { place = own_left.place; column = own_left.number }; shift = shift.Minus by }

      forward_is : ((own_left.place == q) && nat_lt own_right.place q) ≡ forward
      forward_is = λ i. here left own_left i && before right own_right i

      backward_is : ((own_right.place == q) && nat_lt own_left.place q) ≡ backward
      backward_is = λ i. here right own_right i && before left own_left i

      by_tests : (a b : Bool) → forward ≡ a → backward ≡ b
          → Paired plain (cond a (Some left_key) (cond b (Some right_key) None))
          (cond a (Some (record { own = left; earlier = right; is_shifted = shifted }))
          (cond b (Some (record { own = right; earlier = left; is_shifted = shifted })) None))
      by_tests true b forth back =
          let told = and_parts (own_left.place == q) (nat_lt own_right.place q) (forward_is ∙ forth) in
          record {
            own = own_left;
            own_here = eqb-true own_left.place q told.0;
            column = refl;
            other = own_right;
            field = refl;
            behind = ltb-true own_right.place q told.1;
            shifted = is;
          }
      by_tests false true forth back =
          let told = and_parts (own_right.place == q) (nat_lt own_left.place q) (backward_is ∙ back) in
          record {
            own = own_right;
            own_here = eqb-true own_right.place q told.0;
            column = refl;
            other = own_left;
            field = refl;
            behind = ltb-true own_left.place q told.1;
            shifted = is;
          }
      by_tests false false forth back = tt

      between_paired : Paired plain (key_between q (place_of left) (place_of right) by) (joined_fields earlier item.alias shifted left right)
      between_paired =
          subst (λ (p : FieldPlace). Paired plain (key_between q p (place_of right) by) (joined_fields earlier item.alias shifted left right))
          (sym (placed_is own_left))
          (subst
          (λ (p : FieldPlace). Paired plain (key_between q (record { place = own_left.place; column = own_left.number }) p by)
          (joined_fields earlier item.alias shifted left right))
          (sym (placed_is own_right))
          (subst (λ b. Paired plain (cond b (Some left_key) (cond ((own_right.place == q) && nat_lt own_left.place q) (Some right_key) None))
          (joined_fields earlier item.alias shifted left right)) (sym forward_is)
          (subst (λ b. Paired plain (cond forward (Some left_key) (cond b (Some right_key) None)) (joined_fields earlier item.alias shifted left right))
          (sym backward_is)
          (by_tests forward backward refl refl))))

    sides_paired : (left : FieldName) (right : Operand FieldName) → IsOwn left → ((field : FieldName) → column_of right ≡ Some field → IsOwn field)
        → Paired (is_plain (mapped_operand place_of right)) (key_beside q (place_of left) (mapped_operand place_of right))
        (joined_sides earlier item.alias left right)
    sides_paired left (Literal value) own others = tt
    sides_paired left (Other right) own others = between_paired left right own (others right refl) (pos 0) false true refl
    sides_paired left (Shifted right by) own others = between_paired left right own (others right refl) by true false refl

    atom_paired : (atom : Atom FieldName) → IsOwn atom.left → ((field : FieldName) → column_of atom.right ≡ Some field → IsOwn field)
        → Paired (is_plain (mapped_operand place_of atom.right)) (key_of q (mapped_atom place_of atom)) (join_equality earlier item.alias atom)
    atom_paired atom own others = by_test (is_equality atom.comparison)
      where
        by_test : (b : Bool) → Paired (is_plain (mapped_operand place_of atom.right))
            (cond b (key_beside q (place_of atom.left) (mapped_operand place_of atom.right)) None)
            (cond b (joined_sides earlier item.alias atom.left atom.right) None)
        by_test true = sides_paired atom.left atom.right own others
        by_test false = tt

    -- A rule by positions and by names.
    module _ (rule : JoinRule) (line_of : JoinEquality → Option PlanLine)
        (agree : (i : ℕ) (right : Operand FieldPlace) (key : JoinKey) (equality : JoinEquality) → key_by atoms q i ≡ Some key
        → Matches (is_plain right) key equality
        → option_map name (join_rule rule store atoms outers of.place i right key) ≡ line_of equality) where
      by_pair : (i : ℕ) (right : Operand FieldPlace) (o : Option JoinKey) (equality : Option JoinEquality) → key_by atoms q i ≡ o
          → Paired (is_plain right) o equality
          → option_map name (option_and_then (join_rule rule store atoms outers of.place i right) o) ≡ option_and_then line_of equality
      by_pair i right None None is pair = refl
      by_pair i right None (Some equality) is pair = absurd pair
      by_pair i right (Some key) None is pair = absurd pair
      by_pair i right (Some key) (Some equality) is pair = agree i right key equality is pair

      rule_named : option_map name (first_from (joined_by rule store atoms outers of.place) 0 atoms)
          ≡ first_given line_of (join_equalities earlier item.alias query.atoms)
      rule_named =
          first_named name place_of (joined_by rule store atoms outers of.place) (λ atom. option_and_then line_of (join_equality earlier item.alias atom)) 0
          query.atoms
          (λ i place atom is found.
          let here : place ≡ i = omega (arith, is) in
          let placed : slice_get atoms place ≡ Some (mapped_atom place_of atom) =
          ap (slice_get atoms) here ∙ (slice_get-map (mapped_atom place_of) query.atoms i ∙ ap (option_map (mapped_atom place_of)) found) in
          ap (λ n. option_map name (option_and_then (join_rule rule store atoms outers of.place place (mapped_operand place_of atom.right))
          (key_of n (mapped_atom place_of atom))))
          (length-map earlier (λ (x : FromItem). unwrap_or (table_place x.table schema) 0))
          ∙ by_pair place (mapped_operand place_of atom.right) (key_of q (mapped_atom place_of atom)) (join_equality earlier item.alias atom)
          (ap (option_and_then (key_of q)) placed)
          (atom_paired atom (lefts i atom found) (λ field names. rights i atom field found names)))
          ∙ sym (given_filtered (join_equality earlier item.alias) line_of query.atoms)

    -- ---- each rule

    own_table : {plain : Bool} {key : JoinKey} {equality : JoinEquality} (m : Matches plain key equality) → m.own.of.place ≡ of.place
    own_table m =
        sym (table_at schema store.tables query.from m.own.place m.own.item m.own.of m.own.item_is)
        ∙ (ap (λ n. get_or (places_in schema query.from) n 0) m.own_here ∙ table_at schema store.tables query.from q item of at)

    module _ (i : ℕ) (right : Operand FieldPlace) (key : JoinKey) (equality : JoinEquality) (is : key_by atoms q i ≡ Some key)
        (m : Matches (is_plain right) key equality) where
      built : option_map name (join_rule join.BuiltHash store atoms outers of.place i right key) ≡ built_hash_line item equality
      built =
          ap Some (λ j. line.BuiltHash (alias_is j) (column_is j))
        where
          column_is : option_map_or (λ (k : JoinKey). column_at all_names q k.column) (key_by atoms q i) [] ≡ equality.own.column
          column_is =
              ap (λ (o : Option JoinKey). option_map_or (λ (k : JoinKey). column_at all_names q k.column) o []) is
              ∙ ((λ j. column_at all_names (sym m.own_here j) (m.column j)) ∙ column_name schema store query.from kept keys equality.own m.own)

      hashed : option_map name (join_rule join.HashJoin store atoms outers of.place i right key) ≡ hash_join_line schema query.from item equality
      hashed =
          fused name (λ own. step.HashJoin own i) (hash_at store of.place key.column)
          ∙ ((λ j. option_map (λ own. name (step.HashJoin own i)) (hash_at store (sym (own_table m) j) (m.column j)))
          ∙ hash_named schema store query.from kept keys equality.own m.own (line.HashJoin item.alias) (λ own. name (step.HashJoin own i))
          (λ n j. line.HashJoin (alias_is j) (index_at all_names (sym m.own_here j) n)))

      own_tree : option_map (tree_named all_names q) (tree_at store of.place key.column) ≡ tree_on schema query.from equality.own
      own_tree =
          (λ j. option_map (tree_named all_names q) (tree_at store (sym (own_table m) j) (m.column j)))
          ∙ (tree_is_named schema store query.from kept keys equality.own m.own (λ x. x) (tree_named all_names q) refl
          (λ n j. id.Named (index_at all_names (sym m.own_here j) n)) ∙ same (tree_on schema query.from equality.own))
        where
          same : (o : Option IndexId) → option_map (λ x. x) o ≡ o
          same None = refl
          same (Some x) = refl

      one_earlier : (outer : ℕ) → outers ≡ outer ∷ [] → m.other.place ≡ 0
      one_earlier outer alone =
          let many : length outers ≡ 1 = ap length alone in
          let count : length outers ≡ q = length-map earlier (λ (x : FromItem). unwrap_or (table_place x.table schema) 0) in
          let below : m.other.place < q = m.behind in
          omega (arith, many, count, below)

      front_get : {X : Type 0} (xs ys : List X) (n : ℕ) → n < length xs → slice_get (xs ++ ys) n ≡ slice_get xs n
      front_get [] ys n within = absurd (omega arith)
      front_get (x ∷ xs) ys zero within = refl
      front_get (x ∷ xs) ys (suc n) within = front_get xs ys n (omega arith)

      other_there : slice_get earlier m.other.place ≡ Some m.other.item
      other_there =
          sym (front_get earlier (item ∷ others) m.other.place m.behind)
          ∙ (ap (λ (l : List FromItem). slice_get l m.other.place) split ∙ m.other.item_is)

      other_place : get_or outers key.field.place 0 ≡ m.other.of.place
      other_place =
          ap (λ (p : FieldPlace). get_or outers p.place 0) m.field
          ∙ get_or_from_slice_get outers m.other.place m.other.of.place 0
          (slice_get-map place_in earlier m.other.place
          ∙ (ap (option_map place_in) other_there ∙ ap (λ (o : Option ℕ). Some (unwrap_or o 0)) m.other.of.place_is))

      joined_along : option_map name (join_rule join.TreeJoin store atoms outers of.place i right key)
          ≡ tree_join_line schema counts query.from earlier item equality
      joined_along =
          guarded_named name (follows_shorter store outers of.place) (plans.follows_shorter schema counts earlier item)
          (option_map (λ own. step.TreeJoin own i) (tree_at store of.place key.column))
          (option_map (line.TreeJoin item.alias) (tree_on schema query.from equality.own))
          (shorter_is earlier (item ∷ others) item of split)
          (λ short. each (tree_at store of.place key.column) ∙ ap (option_map (line.TreeJoin item.alias)) own_tree)
        where
          each : (o : Option IndexRef) → option_map name (option_map (λ own. step.TreeJoin own i) o)
              ≡ option_map (line.TreeJoin item.alias) (option_map (tree_named all_names q) o)
          each None = refl
          each (Some own) = ap Some (λ j. line.TreeJoin (alias_is j) (tree_named all_names q own))

      other_tree : m.other.place ≡ 0
          → option_map (tree_named all_names 0) (tree_at store (get_or outers key.field.place 0) key.field.column) ≡ tree_on schema query.from equality.earlier
      other_tree start =
          (λ j. option_map (tree_named all_names 0) (tree_at store (other_place j) (ap (λ (p : FieldPlace). p.column) m.field j)))
          ∙ (tree_is_named schema store query.from kept keys equality.earlier m.other (λ x. x) (tree_named all_names 0) refl
          (λ n j. id.Named (index_at all_names (sym start j) n)) ∙ same (tree_on schema query.from equality.earlier))
        where
          same : (o : Option IndexId) → option_map (λ x. x) o ≡ o
          same None = refl
          same (Some x) = refl

      merged : option_map name (join_rule join.TreeMerge store atoms outers of.place i right key) ≡ tree_merge_line schema query earlier item equality
      merged =
          guarded_named name (follows_scan store atoms outers) (plans.follows_scan schema query earlier) (merge_of store outers of.place i key)
          (option_and_then (λ outer. option_map (line.TreeMerge item.alias outer) (tree_on schema query.from equality.own))
          (tree_on schema query.from equality.earlier))
          (scan_is earlier (item ∷ others) split)
          (λ scans.
          let one = only_one outers (scan_is earlier (item ∷ others) split ∙ scans) in
          pairs (tree_at store (get_or outers key.field.place 0) key.field.column) (tree_at store of.place key.column)
          ∙ (λ j. option_and_then (λ outer. option_map (line.TreeMerge item.alias outer) (own_tree j)) (other_tree (one_earlier one.0 one.1) j)))
        where
          pairs : (to with : Option IndexRef) → option_map name (option_and_then (λ outer. option_map (λ inner. step.TreeMerge outer inner i) with) to)
              ≡ option_and_then (λ outer. option_map (line.TreeMerge item.alias outer) (option_map (tree_named all_names q) with))
              (option_map (tree_named all_names 0) to)
          pairs None with = refl
          pairs (Some outer) None = refl
          pairs (Some outer) (Some inner) = ap Some (λ j. line.TreeMerge (alias_is j) (tree_named all_names 0 outer) (tree_named all_names q inner))

      own_key : (key.column == key_at store.tables of.place) ≡ is_key_field schema query.from equality.own
      own_key =
          (λ j. m.column j == key_at store.tables (sym (own_table m) j))
          ∙ (ap (λ (o : Option StoredRows). m.own.number == option_map_or (λ (s : StoredRows). s.key) o 0) m.own.of.stored_is
          ∙ key_is schema store query.from kept keys equality.own m.own)

      target_there : (target : List ℕ) → target_of m.other.column ≡ Some target → Stands schema store.tables (record { table = target; alias = [] })
      target_there target is =
          let table = m.other.of.table in
          let here : get_or schema.tables m.other.of.place table
          ≡ table = get_or_from_slice_get schema.tables m.other.of.place table table m.other.of.table_is in
          let none : list_any (lacks_target schema) table.definition.columns ≡ false =
          subst (λ (t : Table). list_any (lacks_target schema) t.definition.columns ≡ false) here
          (All-get_or (λ (t : Table). list_any (lacks_target schema) t.definition.columns ≡ false) schema.tables m.other.of.place table
          (slice_get_within schema.tables m.other.of.place table m.other.of.table_is) kept.targets) in
          let has = fails_at (lacks_target schema) table.definition.columns m.other.number m.other.column none m.other.column_is in
          stands schema store.tables kept.relations (record { table = target; alias = [] })
          (sym (ap (λ (o : Option (List ℕ)). option_map_or (λ (n : List ℕ). lacks_table n schema) o false) is) ∙ has)

      refers : refers_only store (record { from = get_or outers key.field.place 0; column = key.field.column; to = of.place })
          ≡ refers_to_table schema query.from item.table equality.earlier
      refers =
          (λ j. refers_only store (record { from = other_place j; column = ap (λ (p : FieldPlace). p.column) m.field j; to = of.place }))
          ∙ (refers_by_name schema store kept.links m.other.of.place m.other.number of.place item.table m.other.of.table m.other.column
          m.other.of.table_is m.other.column_is agree
          ∙ sym (ap (λ (o : Option Column). option_map_or (refers_to item.table) o false) (column_found m.other)))
        where
          agree : (target : List ℕ) → target_of m.other.column ≡ Some target → (of.place == unwrap_or (table_place target schema) 0)
              ≡ same_name item.table target
          agree target is =
              let has = target_there target is in
              ap (λ (o : Option ℕ). of.place == unwrap_or o 0) has.place_is
              ∙ same_place (λ (t : Table). t.definition.name) schema.tables item.table target of.place has.place of.table of.place_is has.place_is

      precomputed : option_map name (join_rule join.Precomputed store atoms outers of.place i right key) ≡ precomputed_line schema query.from item equality
      precomputed =
          guarded_named name (is_plain right && is_referred store outers of.place key) (is_precomputed schema query.from item.table equality)
          (Some (step.Precomputed i)) (Some (line.Precomputed item.alias equality.earlier))
          (one_and_two (is_plain right) (key.column == key_at store.tables of.place)
          (refers_only store (record { from = get_or outers key.field.place 0; column = key.field.column; to = of.place }))
          ∙ (λ j. (sym m.shifted j && own_key j) && refers j))
          (λ holds. ap Some (λ j. line.Precomputed (alias_is j) (field_name j)))
        where
          field_name : option_map_or (λ (k : JoinKey). field_named all_names k.field) (key_by atoms q i) (record { alias = []; column = [] }) ≡ equality.earlier
          field_name =
              ap (λ (o : Option JoinKey). option_map_or (λ (k : JoinKey). field_named all_names k.field) o (record { alias = []; column = [] })) is
              ∙ (ap (field_named all_names) m.field ∙ field_is schema store query.from kept keys equality.earlier m.other)

    abbrev steps : List (Option Step)
    steps = first_from (joined_by join.Precomputed store atoms outers of.place) 0 atoms
        ∷ first_from (joined_by join.TreeMerge store atoms outers of.place) 0 atoms
        ∷ first_from (joined_by join.TreeJoin store atoms outers of.place) 0 atoms
        ∷ first_from (joined_by join.HashJoin store atoms outers of.place) 0 atoms
        ∷ first_from (joined_by join.BuiltHash store atoms outers of.place) 0 atoms
        ∷ []

    -- The step of a further table is named as its line.
    next_named : name (next_step store atoms outers of.place)
        ≡ joined_line schema counts query earlier item (join_equalities earlier item.alias query.atoms)
    next_named =
        else_named name (first_there steps) step.NestedLoops
        ∙ (ap (λ o. unwrap_or o (line.NestedLoops (alias_at all_names q))) (first_there_named name steps)
        ∙ (λ j. unwrap_or (first_there (
        rule_named join.Precomputed (precomputed_line schema query.from item) precomputed j
        ∷ rule_named join.TreeMerge (tree_merge_line schema query earlier item) merged j
        ∷ rule_named join.TreeJoin (tree_join_line schema counts query.from earlier item) joined_along j
        ∷ rule_named join.HashJoin (hash_join_line schema query.from item) hashed j
        ∷ rule_named join.BuiltHash (built_hash_line item) built j
        ∷ [])) (line.NestedLoops (alias_is j))))

  -- ---- all tables

  step_named : (earlier : List FromItem) (item : FromItem) (others : List FromItem) → earlier ++ item ∷ others ≡ query.from
      → slice_get query.from (length earlier) ≡ Some item → (of : Stands schema store.tables item)
      → named all_names atoms (length earlier) (step_for store atoms (places_in schema earlier) of.place) ≡ line_for schema counts query earlier item
  step_named [] item others split at of = first_step_named schema store query.from kept keys duplicates item at of query.atoms lefts query refl refl
  step_named (x ∷ xs) item others split at of = next_named (x ∷ xs) item others split at of

  get_behind : {X : Type 0} (xs : List X) (x : X) (ys : List X) → slice_get (xs ++ x ∷ ys) (length xs) ≡ Some x
  get_behind [] x ys = refl
  get_behind (y ∷ xs) x ys = get_behind xs x ys

  behind : (earlier items : List FromItem) → earlier ++ items ≡ query.from
      → named_from all_names atoms (length earlier) (steps_behind store atoms (places_in schema earlier) (places_in schema items))
      ≡ lines_behind schema counts query earlier items
  behind earlier [] split = refl
  behind earlier (item ∷ items) split =
      λ j. here j ∷ later (behind (earlier ++ item ∷ []) items (append_assoc earlier (item ∷ []) items ∙ split)) j
    where
      at : slice_get query.from (length earlier) ≡ Some item
      at = ap (λ (l : List FromItem). slice_get l (length earlier)) (sym split) ∙ get_behind earlier item items

      of : Stands schema store.tables item
      of = stands_at (length earlier) item at

      here : named all_names atoms (length earlier) (step_for store atoms (places_in schema earlier) (place_in item))
          ≡ line_for schema counts query earlier item
      here =
          ap (λ t. named all_names atoms (length earlier) (step_for store atoms (places_in schema earlier) t))
          (ap (λ (o : Option ℕ). unwrap_or o 0) of.place_is)
          ∙ step_named earlier item items split at of

      many : suc (length earlier) ≡ length (earlier ++ item ∷ [])
      many = let count = length-append earlier (item ∷ []) in omega (arith, count)

      later : named_from all_names atoms (length (earlier ++ item ∷ []))
          (steps_behind store atoms (places_in schema (earlier ++ item ∷ [])) (places_in schema items))
          ≡ lines_behind schema counts query (earlier ++ item ∷ []) items
          → named_from all_names atoms (suc (length earlier))
          (steps_behind store atoms (places_in schema earlier ++ place_in item ∷ []) (places_in schema items))
          ≡ lines_behind schema counts query (earlier ++ item ∷ []) items
      later rest =
          (λ j. named_from all_names atoms (many j) (steps_behind store atoms (sym (map-append place_in earlier (item ∷ [])) j) (places_in schema items)))
          ∙ rest

  pub steps_named : named_from all_names atoms 0 (steps_behind store atoms [] (places_in schema query.from)) ≡ lines_behind schema counts query [] query.from
  steps_named = behind [] query.from refl
