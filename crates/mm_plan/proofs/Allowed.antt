-- A query allows the chosen steps.
use Rattle.std.proofs.Common.{◌≡◌, inl, inr, ◌⊎◌, ⊎_elim, ℕ, zero, suc, ◌+◌, ◌<◌, Bool, true, false, cond, List, [], ◌∷◌, ◌++◌, length, get_or, take, Option}
use Rattle.std.proofs.Common.{Some, None, refl, sym, ap, ◌∙◌, subst, append_assoc, append-nil, arith}
use Rattle.std.specs.Prelude.{◌==◌, ◌&&◌, ℤ, pos, slice_get}
use Rattle.std.specs.Option.{option_and_then, option_map, option_map_or, unwrap_or}
use Rattle.std.proofs.lemmas.Bool.{and_parts, eqb-true}
use Rattle.std.proofs.lemmas.Option.{cond_some, same_Some}
use Rattle.mm_join.specs.Equated.{added}
use Rattle.mm_join.specs.Keys.{key_beside, key_between, key_of}
use Rattle.mm_join.specs.declared.key.JoinKey.{JoinKey}
use Rattle.mm_plan.proofs.Asking.{of_side}
use Rattle.mm_plan.proofs.Chosen.{hash_told, refers_told, tree_told}
use Rattle.mm_plan.specs.Choosing.{bounded_column, compared_column, equated_column, first_from, first_hash, first_rule, first_step, first_tree, follows_scan}
use Rattle.mm_plan.specs.Choosing.{follows_shorter, hash_at, is_plain, is_referred, refers_only, join_rule, joined_by, merge_of, next_step, step_for}
use Rattle.mm_plan.specs.Choosing.{steps_behind, steps_of, tree_at}
use Rattle.mm_plan.specs.Steps.{AreSteps, Joins, Reaches, RefersPlainly}
use Rattle.mm_plan.specs.declared.choosing.FirstRule.{FirstRule}
use Rattle.mm_plan.specs.declared.choosing.FirstRule.TheVariants as first
use Rattle.mm_plan.specs.declared.choosing.JoinRule.{JoinRule}
use Rattle.mm_plan.specs.declared.choosing.JoinRule.TheVariants as join
use Rattle.mm_plan.specs.declared.step.Step.{Step}
use Rattle.mm_plan.specs.declared.step.Step.TheVariants as step
use Rattle.mm_query.specs.Choosing.{first_there}
use Rattle.mm_query.specs.Plans.{is_equality}
use Rattle.mm_query.specs.declared.atom.Atom.{Atom}
use Rattle.mm_query.specs.declared.atom.Comparison.{Comparison}
use Rattle.mm_query.specs.declared.atom.Comparison.TheVariants.{Equal, Less, LessOrEqual, Greater, GreaterOrEqual}
use Rattle.mm_query.specs.declared.atom.Operand.{Operand}
use Rattle.mm_query.specs.declared.atom.Operand.TheVariants.{Literal, Column, Shifted}
use Rattle.mm_query.specs.declared.bound_query.FieldPlace.{FieldPlace}
use Rattle.mm_indexed.specs.Kept.{StoredRows}
use Rattle.mm_select.specs.Asked.{compares}
use Rattle.mm_store.specs.Looked.{IsFirstSuch, IsHash, IsIndexOn, IsTree}
use Rattle.mm_store.specs.Tables.{IsAt, Tables, key_at}
use Rattle.mm_store.specs.declared.index_ref.IndexRef.{IndexRef}
use Rattle.mm_value.specs.declared.values.Value.{Value}

-- ---- chosen values

-- The property holds for the value of each of these options that has one.
abbrev pub AllGive : {X : Type 0} → (X → Type 0) → List (Option X) → Type 0
AllGive P [] = Unit {0}
AllGive {X} P (o ∷ os) = ((x : X) → o ≡ Some x → P x) × AllGive P os

chosen : {X : Type 0} (P : X → Type 0) (os : List (Option X)) (d : X) → P d → AllGive P os → P (unwrap_or (first_there os) d)
chosen P [] d behind all = behind
chosen P (Some x ∷ os) d behind all = all.0 x refl
chosen P (None ∷ os) d behind all = chosen P os d behind all.1

module _ {X : Type 0} where
  pub guarded : (b : Bool) (o : Option X) (x : X) → cond b o None ≡ Some x → (b ≡ true) × (o ≡ Some x)
  guarded true o x e = (refl, e)
  guarded false o x e = cc

  guarded_not : (b : Bool) (o : Option X) (x : X) → cond b None o ≡ Some x → o ≡ Some x
  guarded_not true o x e = cc
  guarded_not false o x e = e

  one_of_two : (a b : Option X) (x : X) → first_there (a ∷ b ∷ []) ≡ Some x → (a ≡ Some x) ⊎ (b ≡ Some x)
  one_of_two (Some y) b x e = inl e
  one_of_two None (Some y) x e = inr e
  one_of_two None None x e = inr e

module _ {X Y : Type 0} where
  pub mapped : (f : X → Y) (o : Option X) (y : Y) → option_map f o ≡ Some y → (x : X) × (o ≡ Some x) × (f x ≡ y)
  mapped f None y e = cc
  mapped f (Some x) y e = (x, refl, same_Some (f x) y e)

  pub followed : (f : X → Option Y) (o : Option X) (y : Y) → option_and_then f o ≡ Some y → (x : X) × (o ≡ Some x) × (f x ≡ Some y)
  followed f None y e = cc
  followed f (Some x) y e = (x, refl, e)

-- The first step that is chosen is chosen for an atom.
pub first_from_told : (give : ℕ → Atom FieldPlace → Option Step) (n : ℕ) (atoms : List (Atom FieldPlace)) (s : Step) → first_from give n atoms ≡ Some s
    → (i : ℕ) × (own : Atom FieldPlace) × (slice_get atoms i ≡ Some own) × (give (n + i) own ≡ Some s)
first_from_told give n [] s e = cc
first_from_told give n (atom ∷ atoms) s e = ⊎_elim
    (λ (here : give n atom ≡ Some s).
    let is : n ≡ n + 0 = omega arith in
    (0, atom, refl, subst (λ k. give k atom ≡ Some s) is here))
    (λ (later : first_from give (suc n) atoms ≡ Some s).
    let (i, own, at, gives) = first_from_told give (suc n) atoms s later in
    let is : suc n + i ≡ n + suc i = omega arith in
    (suc i, own, at, subst (λ k. give k own ≡ Some s) is gives))
    (one_of_two (give n atom) (first_from give (suc n) atoms) s e)

pub from_start : (P : Step → Type 0) (give : ℕ → Atom FieldPlace → Option Step) (atoms : List (Atom FieldPlace))
    → ((i : ℕ) (own : Atom FieldPlace) (s : Step) → slice_get atoms i ≡ Some own → give i own ≡ Some s → P s)
    → (s : Step) → first_from give 0 atoms ≡ Some s → P s
from_start P give atoms each s e =
    let (i, own, at, gives) = first_from_told give 0 atoms s e in
    let is : 0 + i ≡ i = omega arith in
    each i own s at (subst (λ k. give k own ≡ Some s) is gives)

-- ---- indexes

module _ (store : Tables) (table column : ℕ) (index : IndexRef) where
  tree_there : tree_at store table column ≡ Some index → (stored : StoredRows) → IsAt store table stored → IsIndexOn stored column index × IsTree index
  tree_there found stored at =
      let told = subst (IsFirstSuch IsTree stored column) (sym (ap (option_and_then (first_tree column)) at) ∙ found) (tree_told stored column) in
      (told.0, told.1)

  hash_there : hash_at store table column ≡ Some index → (stored : StoredRows) → IsAt store table stored → IsIndexOn stored column index
  hash_there found stored at =
      let told = subst (IsFirstSuch IsHash stored column) (sym (ap (option_and_then (first_hash column)) at) ∙ found) (hash_told stored column) in
      told.0

first_is_tree : (stored : StoredRows) (column : ℕ) (index : IndexRef) → first_tree column stored ≡ Some index → IsTree index
first_is_tree stored column index found =
    let told = subst (IsFirstSuch IsTree stored column) found (tree_told stored column) in
    told.1

-- An index that is found as a tree is a tree.
is_tree_at : (store : Tables) (table column : ℕ) (index : IndexRef) → tree_at store table column ≡ Some index → IsTree index
is_tree_at store table column index found =
    let (stored, at, is) = followed (first_tree column) (slice_get store.tables table) index found in
    first_is_tree stored column index is

first_is_hash : (stored : StoredRows) (column : ℕ) (index : IndexRef) → first_hash column stored ≡ Some index → IsHash index
first_is_hash stored column index found =
    let told = subst (IsFirstSuch IsHash stored column) found (hash_told stored column) in
    told.1

-- An index that is found as a HASH index is one.
is_hash_at : (store : Tables) (table column : ℕ) (index : IndexRef) → hash_at store table column ≡ Some index → IsHash index
is_hash_at store table column index found =
    let (stored, at, is) = followed (first_hash column) (slice_get store.tables table) index found in
    first_is_hash stored column index is

-- ---- the first table

equality_told : (comparison : Comparison) → is_equality comparison ≡ true → comparison ≡ Equal
equality_told Equal is = refl
equality_told Less is = cc
equality_told LessOrEqual is = cc
equality_told Greater is = cc
equality_told GreaterOrEqual is = cc

compared_told : (left : FieldPlace) (right : Operand FieldPlace) (column : ℕ) → compared_column left right ≡ Some column
    → (value : Value) × (right ≡ Literal value) × (left.place ≡ 0) × (left.column ≡ column)
compared_told left (Literal value) column e =
    let told = cond_some (left.place == 0) left.column column e in
    (value, refl, eqb-true left.place 0 told.0, told.1)
compared_told left (Column right) column e = cc
compared_told left (Shifted right by) column e = cc

bounded_told : (atom : Atom FieldPlace) (column : ℕ) → compared_column atom.left atom.right ≡ Some column
    → (value : Value) × (atom ≡ compares column atom.comparison value)
bounded_told atom column e =
    let (value, right, place, is) = compared_told atom.left atom.right column e in
    (value, λ i. record { left = record { place = place i; column = is i }; comparison = atom.comparison; right = right i })

equated_told : (atom : Atom FieldPlace) (column : ℕ) → equated_column atom ≡ Some column → (value : Value) × (atom ≡ compares column Equal value)
equated_told atom column e =
    let (equal, compared) = guarded (is_equality atom.comparison) (compared_column atom.left atom.right) column e in
    let (value, is) = bounded_told atom column compared in
    (value, is ∙ ap (λ c. compares column c value) (equality_told atom.comparison equal))

module _ (store : Tables) (atoms : List (Atom FieldPlace)) (table : ℕ) (stored : StoredRows) (at : IsAt store table stored) where
  rule_reaches : (rule : FirstRule) (place : ℕ) (own : Atom FieldPlace) (s : Step) → slice_get atoms place ≡ Some own
      → first_rule rule store table place own ≡ Some s → Reaches stored atoms s
  rule_reaches first.Hash place own s there e =
      let (index, found, is) = mapped (λ index. step.LookUp index place) (option_and_then (hash_at store table) (equated_column own)) s e in
      let (column, asked, has) = followed (hash_at store table) (equated_column own) index found in
      let (value, own_is) = equated_told own column asked in
      subst (Reaches stored atoms) is (column, value, there ∙ ap Some own_is, hash_there store table column index has stored at)
  rule_reaches first.Tree place own s there e =
      let (index, found, is) = mapped (λ index. step.LookUp index place) (option_and_then (tree_at store table) (equated_column own)) s e in
      let (column, asked, has) = followed (tree_at store table) (equated_column own) index found in
      let (value, own_is) = equated_told own column asked in
      subst (Reaches stored atoms) is (column, value, there ∙ ap Some own_is, (tree_there store table column index has stored at).0)
  rule_reaches first.Range place own s there e =
      let (index, found, is) = mapped (λ index. step.Range index place) (option_and_then (tree_at store table) (bounded_column own)) s e in
      let (column, asked, has) = followed (tree_at store table) (bounded_column own) index found in
      let (value, own_is) = bounded_told own column (guarded_not (is_equality own.comparison) (compared_column own.left own.right) column asked) in
      let tree = tree_there store table column index has stored at in
      subst (Reaches stored atoms) is (column, own.comparison, value, there ∙ ap Some own_is, tree.0, tree.1)

  by_rule : (rule : FirstRule) (s : Step) → first_from (first_rule rule store table) 0 atoms ≡ Some s → Reaches stored atoms s
  by_rule rule s e = from_start (Reaches stored atoms) (first_rule rule store table) atoms (rule_reaches rule) s e

  pub first_reaches : Reaches stored atoms (first_step store atoms table)
  first_reaches = chosen (Reaches stored atoms)
      (first_from (first_rule first.Hash store table) 0 atoms
      ∷ first_from (first_rule first.Tree store table) 0 atoms
      ∷ first_from (first_rule first.Range store table) 0 atoms
      ∷ []) step.Scan tt (by_rule first.Hash, (by_rule first.Tree, (by_rule first.Range, tt)))

-- ---- further tables

module _ (place : ℕ) where
  -- The field of a key belongs to an earlier table.
  between_earlier : (left right : FieldPlace) (by : ℤ) (key : JoinKey) → key_between place left right by ≡ Some key → key.field.place < place
  between_earlier left right by key e =
      elim (of_side place left right by key e) [
        | inl own ↦ subst (λ (k : JoinKey). k.field.place < place) (sym own.2) own.1
        | inr own ↦ subst (λ (k : JoinKey). k.field.place < place) (sym own.2) own.1
      ]

  pub beside_earlier : (left : FieldPlace) (right : Operand FieldPlace) (key : JoinKey) → key_beside place left right ≡ Some key → key.field.place < place
  beside_earlier left (Literal value) key e = cc
  beside_earlier left (Column right) key e = between_earlier left right (pos 0) key e
  beside_earlier left (Shifted right by) key e = between_earlier left right by key e

  -- The key of a plain column adds 0.
  beside_plain : (left : FieldPlace) (right : Operand FieldPlace) (key : JoinKey) → is_plain right ≡ true → key_beside place left right ≡ Some key
      → added key.shift ≡ pos 0
  beside_plain left (Literal value) key plain e = cc
  beside_plain left (Column right) key plain e =
      elim (of_side place left right (pos 0) key e) [
        | inl own ↦ ap (λ (k : JoinKey). added k.shift) own.2
        | inr own ↦ ap (λ (k : JoinKey). added k.shift) own.2
      ]
  beside_plain left (Shifted right by) key plain e = cc

module _ (store : Tables) (atoms : List (Atom FieldPlace)) (outers : List ℕ) (table : ℕ) where
  follows_one : follows_scan store atoms outers ≡ true → (before : ℕ) × (outers ≡ before ∷ [])
  follows_one = of_some outers
    where
      of_some : (some : List ℕ) → follows_scan store atoms some ≡ true → (before : ℕ) × (some ≡ before ∷ [])
      of_some [] is = cc
      of_some (before ∷ []) is = (before, refl)
      of_some (before ∷ second ∷ others) is = cc

  refers_plainly : (right : Operand FieldPlace) (left : FieldPlace) (key : JoinKey) → key_beside (length outers) left right ≡ Some key
      → (is_plain right && is_referred store outers table key) ≡ true → RefersPlainly store outers table key
  refers_plainly right left key asked both =
      let (plain, referred) = and_parts (is_plain right) (is_referred store outers table key) both in
      let (own, refers) = and_parts (key.column == key_at store.tables table)
      (refers_only store (record { from = get_or outers key.field.place 0; column = key.field.column; to = table })) referred in (
        beside_plain (length outers) left right key plain asked,
        λ stored at. eqb-true key.column (key_at store.tables table) own
            ∙ ap (λ (o : Option StoredRows). option_map_or (λ (s : StoredRows). s.key) o 0) at,
        refers_told store (get_or outers key.field.place 0) key.field.column table refers,
      )

  one_before : (before place : ℕ) → outers ≡ before ∷ [] → place < length outers → get_or outers place 0 ≡ before
  one_before before place is within =
      let shown : length outers ≡ 1 = ap length is in
      let start : place ≡ 0 = omega (arith, within, shown) in
      ap (λ (some : List ℕ). get_or some place 0) is ∙ ap (λ n. get_or (before ∷ []) n 0) start

  rule_joins : (rule : JoinRule) (place : ℕ) (own : Atom FieldPlace) (key : JoinKey) (s : Step) → slice_get atoms place ≡ Some own
      → key_of (length outers) own ≡ Some key → join_rule rule store atoms outers table place own.right key ≡ Some s → Joins store atoms outers table s
  rule_joins join.Precomputed place own key s there asks e =
      let told = cond_some (is_plain own.right && is_referred store outers table key) (step.Precomputed place) s e in
      let beside = (guarded (is_equality own.comparison) (key_beside (length outers) own.left own.right) key asks).1 in
      subst (Joins store atoms outers table) told.1 (own, key, there, asks, refers_plainly own.right own.left key beside told.0)
  rule_joins join.TreeMerge place own key s there asks e =
      let (follows, merges) = guarded (follows_scan store atoms outers) (merge_of store outers table place key) s e in
      let (before, alone) = follows_one follows in
      let beside = (guarded (is_equality own.comparison) (key_beside (length outers) own.left own.right) key asks).1 in
      let field : get_or outers key.field.place 0 ≡ before =
      one_before before key.field.place alone (beside_earlier (length outers) own.left own.right key beside) in
      let (outer, found, rest) = followed (λ outer. option_map (λ inner. step.TreeMerge outer inner place) (tree_at store table key.column))
      (tree_at store (get_or outers key.field.place 0) key.field.column) s merges in
      let (inner, has, is) = mapped (λ inner. step.TreeMerge outer inner place) (tree_at store table key.column) s rest in
      let along = subst (λ n. tree_at store n key.field.column ≡ Some outer) field found in
      subst (Joins store atoms outers table) is (
        own,
        key,
        there,
        asks,
        (
          before,
          alone,
          λ stored at. (tree_there store before key.field.column outer along stored at).0,
          is_tree_at store before key.field.column outer along,
          λ stored at. (tree_there store table key.column inner has stored at).0,
          is_tree_at store table key.column inner has,
        ),
      )
  rule_joins join.TreeJoin place own key s there asks e =
      let (follows, joins) = guarded (follows_shorter store outers table) (option_map (λ index. step.TreeJoin index place) (tree_at store table key.column)) s
      e in
      let (index, has, is) = mapped (λ index. step.TreeJoin index place) (tree_at store table key.column) s joins in
      subst (Joins store atoms outers table) is
      (own, key, there, asks, (λ stored at. (tree_there store table key.column index has stored at).0, is_tree_at store table key.column index has))
  rule_joins join.HashJoin place own key s there asks e =
      let (index, has, is) = mapped (λ index. step.HashJoin index place) (hash_at store table key.column) s e in
      subst (Joins store atoms outers table) is
      (own, key, there, asks, (hash_there store table key.column index has, is_hash_at store table key.column index has))
  rule_joins join.BuiltHash place own key s there asks e =
      subst (Joins store atoms outers table) (same_Some (step.BuiltHash place) s e) (own, key, there, asks, tt)

  by_join : (rule : JoinRule) (s : Step) → first_from (joined_by rule store atoms outers table) 0 atoms ≡ Some s → Joins store atoms outers table s
  by_join rule s e = from_start (Joins store atoms outers table) (joined_by rule store atoms outers table) atoms
      (λ place own s there gives.
      let (key, asks, joins) = followed (join_rule rule store atoms outers table place own.right) (key_of (length outers) own) s gives in
      rule_joins rule place own key s there asks joins)
      s e

  next_joins : Joins store atoms outers table (next_step store atoms outers table)
  next_joins = chosen (Joins store atoms outers table)
      (first_from (joined_by join.Precomputed store atoms outers table) 0 atoms
      ∷ first_from (joined_by join.TreeMerge store atoms outers table) 0 atoms
      ∷ first_from (joined_by join.TreeJoin store atoms outers table) 0 atoms
      ∷ first_from (joined_by join.HashJoin store atoms outers table) 0 atoms
      ∷ first_from (joined_by join.BuiltHash store atoms outers table) 0 atoms
      ∷ []) step.NestedLoops tt
      (by_join join.Precomputed, (by_join join.TreeMerge, (by_join join.TreeJoin, (by_join join.HashJoin, (by_join join.BuiltHash, tt)))))

-- ---- all tables

module _ (store : Tables) (atoms : List (Atom FieldPlace)) where
  pub as_many : (outers tables : List ℕ) → length (steps_behind store atoms outers tables) ≡ length tables
  as_many outers [] = refl
  as_many outers (table ∷ tables) =
      let rest : length (steps_behind store atoms (outers ++ table ∷ []) tables) ≡ length tables = as_many (outers ++ table ∷ []) tables in
      ap suc rest

  -- The step at a position is that of the table there.
  pub step_at : (outers tables : List ℕ) (place table : ℕ) (own : Step) → slice_get tables place ≡ Some table
      → slice_get (steps_behind store atoms outers tables) place ≡ Some own → step_for store atoms (outers ++ take place tables) table ≡ own
  step_at outers [] place table own at is = cc
  step_at outers (first ∷ tables) zero table own at is =
      ap (λ os. step_for store atoms os table) (append-nil outers)
      ∙ (ap (step_for store atoms outers) (sym (same_Some first table at)) ∙ same_Some (step_for store atoms outers first) own is)
  step_at outers (first ∷ tables) (suc place) table own at is =
      ap (λ os. step_for store atoms os table) (sym (append_assoc outers (first ∷ []) (take place tables)))
      ∙ step_at (outers ++ first ∷ []) tables place table own at is

  reaches_first : (tables : List ℕ) (table : ℕ) (own : Step) (stored : StoredRows) → slice_get tables 0 ≡ Some table
      → slice_get (steps_of store atoms tables) 0 ≡ Some own → IsAt store table stored → Reaches stored atoms own
  reaches_first tables table own stored at is there =
      subst (Reaches stored atoms) (step_at [] tables 0 table own at is) (first_reaches store atoms table stored there)

  joins_further : (tables : List ℕ) (place table : ℕ) (own : Step) → slice_get tables (suc place) ≡ Some table
      → slice_get (steps_of store atoms tables) (suc place) ≡ Some own → Joins store atoms (take (suc place) tables) table own
  joins_further [] place table own at is = cc
  joins_further (first ∷ tables) place table own at is =
      subst (Joins store atoms (first ∷ take place tables) table) (step_at [] (first ∷ tables) (suc place) table own at is)
      (next_joins store atoms (first ∷ take place tables) table)

  -- The query allows all chosen steps.
  pub allowed : (tables : List ℕ) → AreSteps store atoms tables (steps_of store atoms tables)
  allowed tables = record { each = as_many [] tables; first = reaches_first tables; further = joins_further tables }
