-- The lines of a plan: each is of its own table, and is a join if there are tables before it.
use Rattle.std.proofs.Common.{◌≡◌, ℕ, Bool, true, false, cond, ◌&&◌, List, [], ◌∷◌, ◌++◌, Option, Some, None, length, map, not, refl, ap, suc, ◌∙◌}
use Rattle.std.specs.List.{list_all}
use Rattle.std.specs.Option.{IfSome, option_and_then, option_map, unwrap_or}
use Rattle.mm_schema.specs.Schema.{Schema}
use Rattle.mm_query.specs.Choosing.{first_given, first_there}
use Rattle.mm_query.specs.Plans.{built_hash_line, first_line, follows_scan, follows_shorter, hash_join_line, is_join, is_precomputed, join_equalities}
use Rattle.mm_query.specs.Plans.{joined_line, joins_behind_first, line_alias, line_for, lines_behind, precomputed_line, tree_join_line, tree_merge_line}
use Rattle.mm_query.specs.Serving.{hash_on, tree_on}
use Rattle.mm_query.specs.declared.plan_line.JoinEquality.{JoinEquality}
use Rattle.mm_query.specs.declared.plan_line.PlanLine.{PlanLine}
use Rattle.mm_query.specs.declared.plan_line.PlanLine.TheVariants as line
use Rattle.mm_query.specs.declared.query.FromItem.{FromItem}
use Rattle.mm_query.specs.declared.query.Query.{Query}

-- ---- a property of the results of rules

module _ {Y : Type 0} (P : Y → Type 0) where
  pub mapped : {X : Type 0} (f : X → Y) → ((x : X) → P (f x)) → (o : Option X) → IfSome (option_map f o) P
  mapped f each None = tt
  mapped f each (Some x) = each x

  pub chained : {X : Type 0} (f : X → Option Y) → ((x : X) → IfSome (f x) P) → (o : Option X) → IfSome (option_and_then f o) P
  chained f each None = tt
  chained f each (Some x) = each x

  pub guarded : (b : Bool) (o : Option Y) → IfSome o P → IfSome (cond b o None) P
  guarded true o h = h
  guarded false o h = tt

  -- The property holds of the result of the first of some rules, and otherwise of the first of the others.
  pub before : (o : Option Y) (options : List (Option Y)) → IfSome o P → IfSome (first_there options) P → IfSome (first_there (o ∷ options)) P
  before None options h others = others
  before (Some y) options h others = h

  pub given : {X : Type 0} (give : X → Option Y) → ((x : X) → IfSome (give x) P) → (xs : List X) → IfSome (first_given give xs) P
  given give each [] = tt
  given give each (x ∷ xs) = before (give x) (map give xs) (each x) (given give each xs)

  pub or_else : (o : Option Y) (other : Y) → IfSome o P → P other → P (unwrap_or o other)
  or_else None other h holds = holds
  or_else (Some y) other h holds = h

-- ---- each line

-- The line is of the alias, and is a join or not.
abbrev Is : List ℕ → Bool → PlanLine → Type 0
Is alias joins line = (line_alias line ≡ alias) × (is_join line ≡ joins)

first_is : (schema : Schema) (query : Query) (item : FromItem) → Is item.alias false (first_line schema query item)
first_is schema query item =
    or_else P _ _ (before P _ _ (given P _ (λ atom. mapped P _ (λ index. (refl, refl)) _) query.atoms)
    (before P _ _ (given P _ (λ atom. mapped P _ (λ index. (refl, refl)) _) query.atoms)
    (before P _ _ (given P _ (λ atom. mapped P _ (λ index. (refl, refl)) _) query.atoms) tt))) (refl, refl)
  where
    P : PlanLine → Type 0
    P = Is item.alias false

-- The line, if there is one, is a join of the alias.
abbrev Joins : FromItem → Option PlanLine → Type 0
Joins item o = IfSome o (Is item.alias true)

precomputed_is : (schema : Schema) (from : List FromItem) (item : FromItem) (join : JoinEquality) → Joins item (precomputed_line schema from item join)
precomputed_is schema from item join =
    guarded (Is item.alias true) (is_precomputed schema from item.table join)
    (Some (line.Precomputed item.alias join.earlier)) (refl, refl)

tree_merge_is : (schema : Schema) (query : Query) (earlier : List FromItem) (item : FromItem) (join : JoinEquality)
    → Joins item (tree_merge_line schema query earlier item join)
tree_merge_is schema query earlier item join =
    guarded (Is item.alias true) (follows_scan schema query earlier)
    (option_and_then (λ outer. option_map (line.TreeMerge item.alias outer) (tree_on schema query.from join.own)) (tree_on schema query.from join.earlier))
    (chained (Is item.alias true) (λ outer. option_map (line.TreeMerge item.alias outer) (tree_on schema query.from join.own))
    (λ outer. mapped (Is item.alias true) (line.TreeMerge item.alias outer) (λ inner. (refl, refl)) (tree_on schema query.from join.own))
    (tree_on schema query.from join.earlier))

tree_join_is : (schema : Schema) (counts : List ℕ) (from earlier : List FromItem) (item : FromItem) (join : JoinEquality)
    → Joins item (tree_join_line schema counts from earlier item join)
tree_join_is schema counts from earlier item join =
    guarded (Is item.alias true) (follows_shorter schema counts earlier item) (option_map (line.TreeJoin item.alias) (tree_on schema from join.own))
    (mapped (Is item.alias true) (line.TreeJoin item.alias) (λ index. (refl, refl)) (tree_on schema from join.own))

hash_join_is : (schema : Schema) (from : List FromItem) (item : FromItem) (join : JoinEquality) → Joins item (hash_join_line schema from item join)
hash_join_is schema from item join = mapped (Is item.alias true) (line.HashJoin item.alias) (λ index. (refl, refl)) (hash_on schema from join.own)

joined_is : (schema : Schema) (counts : List ℕ) (query : Query) (earlier : List FromItem) (item : FromItem) (joins : List JoinEquality)
    → Is item.alias true (joined_line schema counts query earlier item joins)
joined_is schema counts query earlier item joins =
    or_else P _ _ (before P _ _ (given P _ (precomputed_is schema query.from item) joins)
    (before P _ _ (given P _ (tree_merge_is schema query earlier item) joins)
    (before P _ _ (given P _ (tree_join_is schema counts query.from earlier item) joins)
    (before P _ _ (given P _ (hash_join_is schema query.from item) joins)
    (before P _ _ (given P (built_hash_line item) (λ join. (refl, refl)) joins) tt))))) (refl, refl)
  where
    P : PlanLine → Type 0
    P = Is item.alias true

-- ---- all lines

line_is_of : (schema : Schema) (counts : List ℕ) (query : Query) (earlier : List FromItem) (item : FromItem)
    → line_alias (line_for schema counts query earlier item) ≡ item.alias
line_is_of schema counts query [] item = (first_is schema query item).0
line_is_of schema counts query (first ∷ others) item =
    (joined_is schema counts query (first ∷ others) item (join_equalities (first ∷ others) item.alias query.atoms)).0

pub lines_are_of : (schema : Schema) (counts : List ℕ) (query : Query) (earlier items : List FromItem)
    → map line_alias (lines_behind schema counts query earlier items) ≡ map (λ (item : FromItem). item.alias) items
lines_are_of schema counts query earlier [] = refl
lines_are_of schema counts query earlier (item ∷ items) =
    λ i. line_is_of schema counts query earlier item i ∷ lines_are_of schema counts query (earlier ++ item ∷ []) items i

pub as_many_lines : (schema : Schema) (counts : List ℕ) (query : Query) (earlier items : List FromItem)
    → length (lines_behind schema counts query earlier items) ≡ length items
as_many_lines schema counts query earlier [] = refl
as_many_lines schema counts query earlier (item ∷ items) = ap suc (as_many_lines schema counts query (earlier ++ item ∷ []) items)

-- After a table all lines are joins.
all_join : (schema : Schema) (counts : List ℕ) (query : Query) (first : FromItem) (others items : List FromItem)
    → list_all is_join (lines_behind schema counts query (first ∷ others) items) ≡ true
all_join schema counts query first others [] = refl
all_join schema counts query first others (item ∷ items) =
    (λ i. (joined_is schema counts query (first ∷ others) item (join_equalities (first ∷ others) item.alias query.atoms)).1 i
    && list_all is_join (lines_behind schema counts query (first ∷ others ++ item ∷ []) items))
    ∙ all_join schema counts query first (others ++ item ∷ []) items

pub joined_behind : (schema : Schema) (counts : List ℕ) (query : Query) (items : List FromItem)
    → joins_behind_first (lines_behind schema counts query [] items) ≡ true
joined_behind schema counts query [] = refl
joined_behind schema counts query (item ∷ items) =
    (λ i. not ((first_is schema query item).1 i) && list_all is_join (lines_behind schema counts query (item ∷ []) items))
    ∙ all_join schema counts query item [] items
