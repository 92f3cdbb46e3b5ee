-- The access path of the first table.
use Rattle.std.proofs.Common.{◌≡◌, ◌≢◌, ℕ, zero, suc, ◌<◌, List, [], ◌∷◌, ◌++◌, Some, None, get_or, length, take, refl, sym, ap, ◌∙◌, subst, arith}
use Rattle.std.proofs.lemmas.Option.{same_Some, slice_get-get_or, slice_get_within}
use Rattle.std.specs.List.{count_by}
use Rattle.std.specs.Prelude.{slice_get}
use Rattle.mm_join.specs.declared.key.JoinKey.{JoinKey}
use Rattle.mm_plan.proofs.Keyed.{key_holds}
use Rattle.mm_plan.specs.Begun.{IsBegun}
use Rattle.mm_plan.specs.Steps.{AreSteps, HasIndexAt, HasKey, Joins, Reaches, may_look}
use Rattle.mm_plan.specs.declared.step.Step.{Step}
use Rattle.mm_plan.specs.declared.step.Step.TheVariants as step
use Rattle.mm_query.specs.declared.atom.Atom.{Atom}
use Rattle.mm_query.specs.declared.bound_query.BoundQuery.{BoundQuery}
use Rattle.mm_query.specs.declared.bound_query.FieldPlace.{FieldPlace}
use Rattle.mm_indexed.specs.Kept.{StoredRows}
use Rattle.mm_select.specs.Accesses.{Asks, IsServed, is_along}
use Rattle.mm_select.specs.declared.access.Access.{Access}
use Rattle.mm_select.specs.declared.access.Access.TheVariants as access
use Rattle.mm_store.specs.Looked.{IsIndexOn, IsTree}
use Rattle.mm_store.specs.Tables.{IsAt, Tables}
use Rattle.mm_store.specs.declared.index_ref.IndexRef.{IndexRef}
use Rattle.mm_templist.specs.Combos.{Combos}
use Rattle.mm_value.specs.declared.values.Value.{Value}

-- An access path of the first table that reads the rows of its step.
pub record Takes (store : Tables) (atoms : List (Atom FieldPlace)) (tables : List ℕ) (steps : List Step) (way : Access) : Type 0 where
  pub served : (table : ℕ) (stored : StoredRows) → slice_get tables 0 ≡ Some table → IsAt store table stored → IsServed stored way
  pub asked : Asks atoms way
  pub along : (own : Step) → slice_get steps 0 ≡ Some own → (row : List Value) → is_along way row ≡ may_look atoms 0 own [] row

module _ (store : Tables) (atoms : List (Atom FieldPlace)) where
  -- The requirements of a tree merge with the second table.
  abbrev MergesBehind : ℕ → IndexRef → IndexRef → JoinKey → Type 0
  MergesBehind t outer inner key = (first : ℕ) × (t ∷ [] ≡ first ∷ []) × HasIndexAt store first key.field.column outer × IsTree outer

  first_of : {X : Type 0} (x y : X) → x ∷ [] ≡ y ∷ [] → x ≡ y
  first_of x y same = ap (λ xs. get_or xs 0 x) same

  module _ (steps : List Step) (outer inner : IndexRef) (atom : ℕ) (at : slice_get steps 1 ≡ Some (step.TreeMerge outer inner atom)) where
    merges : (t : ℕ) (rest : List ℕ) → AreSteps store atoms (t ∷ rest) steps → HasKey atoms 1 atom (MergesBehind t outer inner)
    merges t rest are =
        let within = slice_get_within steps 1 (step.TreeMerge outer inner atom) at in
        let second = slice_get-get_or (t ∷ rest) 1 0 (omega (arith, within, are.each)) in
        let (own, key, there, has, (first, same, on, tree, on_inner, tree_inner)) =
        are.further 0 (get_or (t ∷ rest) 1 0) (step.TreeMerge outer inner atom) second at in
        (own, key, there, has, (first, same, on, tree))

    -- A tree merge has a key.
    pub merge_key : (tables : List ℕ) → AreSteps store atoms tables steps → 0 < length tables → HasKey atoms 1 atom (λ key. Unit {0})
    merge_key [] are some = absurd (omega (arith, some))
    merge_key (t ∷ rest) are some = let has = merges t rest are in (has.0, has.1, has.2, has.3, tt)

    -- Before a tree merge, the first table may be read along its tree.
    pub walk_takes : (tables : List ℕ) → AreSteps store atoms tables steps → slice_get steps 0 ≡ Some step.Scan
        → (key : JoinKey) → HasKey atoms 1 atom (λ k. k ≡ key) → Takes store atoms tables steps (access.Range outer key.field.column None None)
    walk_takes tables are scans key is = record {
      served = λ table stored. along_tree tables are table stored;
      asked = (tt, tt);
      along = λ own own_at row.
          ap (λ (s : Step). may_look atoms 0 s [] row) (same_Some step.Scan own (sym scans ∙ own_at));
    }
      where
        along_tree : (tables : List ℕ) → AreSteps store atoms tables steps → (table : ℕ) (stored : StoredRows) → slice_get tables 0 ≡ Some table
            → IsAt store table stored → IsIndexOn stored key.field.column outer × IsTree outer
        along_tree [] are table stored there here = cc
        along_tree (t ∷ rest) are table stored there here =
            let (first, same, on, tree) = key_holds atoms 1 atom key is (MergesBehind t outer inner) (merges t rest are) in
            let place : table ≡ first = same_Some table first (sym there ∙ ap Some (first_of t first same)) in
            (on stored (subst (λ n. IsAt store n stored) place here), tree)

  -- Otherwise the first table is read as its own step says.
  pub step_takes : (tables : List ℕ) (steps : List Step) → AreSteps store atoms tables steps → (own : Step) → slice_get steps 0 ≡ Some own → (way : Access)
      → ((stored : StoredRows) → Reaches stored atoms own → IsServed stored way) → Asks atoms way
      → ((row : List Value) → is_along way row ≡ may_look atoms 0 own [] row) → Takes store atoms tables steps way
  step_takes tables steps are own at way served asked along = record {
    served = λ table stored there here. served stored (are.first table own stored there at here);
    asked = asked;
    along = λ s s_at row. along row ∙ ap (λ (s : Step). may_look atoms 0 s [] row) (same_Some own s (sym at ∙ s_at));
  }

-- The access path reads as many rows as the step.
pub as_many_along : (store : Tables) (atoms : List (Atom FieldPlace)) (tables : List ℕ) (steps : List Step) (way : Access) → Takes store atoms tables steps way
    → (own : Step) → slice_get steps 0 ≡ Some own → (rows : List (List Value))
    → count_by (is_along way) rows ≡ count_by (may_look atoms 0 own []) rows
as_many_along store atoms tables steps way takes own at rows = λ i. count_by (λ row. takes.along own at row i) rows

-- The tables of an `IsBegun` list are the first ones of the query.
pub first_tables : (store : Tables) (query : BoundQuery) (tables : List ℕ) (list : Combos) → IsBegun store query tables list
    → take (length list.tables) tables ≡ list.tables
first_tables store query tables list begun = ap (take (length list.tables)) begun.first ∙ front list.tables begun.rest
  where
    front : (first rest : List ℕ) → take (length first) (first ++ rest) ≡ first
    front [] rest = refl
    front (t ∷ first) rest = ap (λ ts. t ∷ ts) (front first rest)

-- The step of the next table may join it to a list of the first tables.
pub join_allowed : (store : Tables) (query : BoundQuery) (tables : List ℕ) (steps : List Step) (list : Combos) → AreSteps store query.atoms tables steps
    → IsBegun store query tables list → length list.tables ≢ 0 → (table : ℕ) (own : Step) → slice_get tables (length list.tables) ≡ Some table
    → slice_get steps (length list.tables) ≡ Some own → Joins store query.atoms list.tables table own
join_allowed store query tables steps list are begun some table own at_table at_step = by (length list.tables) refl some at_table at_step
  where
    by : (n : ℕ) → length list.tables ≡ n → n ≢ 0 → slice_get tables n ≡ Some table → slice_get steps n ≡ Some own
        → Joins store query.atoms list.tables table own
    by zero is some at_table at_step = absurd (some refl)
    by (suc n) is some at_table at_step =
        subst (λ ts. Joins store query.atoms ts table own)
        (ap (λ k. take k tables) (sym is) ∙ first_tables store query tables list begun)
        (are.further n table own at_table at_step)
