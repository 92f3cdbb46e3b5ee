-- Nested loops are chosen only for a table without a join equality.
use Rattle.std.proofs.Common.{◌≡◌, ◌≢◌, ℕ, zero, suc, ◌+◌, ◌<◌, List, [], ◌∷◌, get_or, length, take, Option, Some, None, refl, sym, ap, ◌∙◌, subst, arith}
use Rattle.std.specs.List.{All}
use Rattle.std.specs.Option.{option_and_then, option_map, unwrap_or}
use Rattle.std.specs.Prelude.{◌&&◌, slice_get}
use Rattle.std.proofs.lemmas.List.{length-take-le}
use Rattle.std.proofs.lemmas.Option.{cond_some, same_Some, slice_get-get_or, slice_get_within}
use Rattle.mm_join.specs.Keys.{key_beside, key_of}
use Rattle.mm_join.specs.declared.key.JoinKey.{JoinKey}
use Rattle.mm_plan.proofs.Allowed.{AllGive, as_many, beside_earlier, followed, from_start, guarded, mapped, step_at}
use Rattle.mm_plan.specs.Choosing.{first_from, follows_scan, follows_shorter, hash_at, is_plain, is_referred, join_rule, joined_by, merge_of, next_step}
use Rattle.mm_plan.specs.Choosing.{steps_of, tree_at}
use Rattle.mm_plan.specs.declared.choosing.JoinRule.{JoinRule}
use Rattle.mm_plan.specs.declared.choosing.JoinRule.TheVariants as join
use Rattle.mm_plan.specs.declared.step.Step.{Step}
use Rattle.mm_plan.specs.declared.step.Step.TheVariants as step
use Rattle.mm_query.specs.Choosing.{first_there}
use Rattle.mm_query.specs.Plans.{is_equality}
use Rattle.mm_query.specs.declared.atom.Atom.{Atom}
use Rattle.mm_query.specs.declared.bound_query.FieldPlace.{FieldPlace}
use Rattle.mm_store.specs.Tables.{Tables}

-- Each of these options is `None`.
abbrev AllNone : {X : Type 0} → List (Option X) → Type 0
AllNone [] = Unit {0}
AllNone (o ∷ os) = (o ≡ None) × AllNone os

-- The default is chosen only if each option is `None`.
none_given : {X : Type 0} (P : X → Type 0) (os : List (Option X)) (d : X) → (P d → ⊥) → AllGive P os → unwrap_or (first_there os) d ≡ d → AllNone os
none_given P [] d not all is = tt
none_given P (Some x ∷ os) d not all is = absurd (not (subst P is (all.0 x refl)))
none_given P (None ∷ os) d not all is = (refl, none_given P os d not all.1 is)

neither : {X : Type 0} (a b : Option X) → first_there (a ∷ b ∷ []) ≡ None → (a ≡ None) × (b ≡ None)
neither (Some x) b is = cc
neither None (Some y) is = cc
neither None None is = (refl, refl)

none_from : (give : ℕ → Atom FieldPlace → Option Step) (n : ℕ) (atoms : List (Atom FieldPlace)) → first_from give n atoms ≡ None
    → (i : ℕ) (own : Atom FieldPlace) → slice_get atoms i ≡ Some own → give (n + i) own ≡ None
none_from give n [] is i own at = cc
none_from give n (atom ∷ atoms) is zero own at =
    let start : n ≡ n + 0 = omega arith in
    subst (λ k. give k own ≡ None) start (ap (give n) (sym (same_Some atom own at)) ∙ (neither (give n atom) (first_from give (suc n) atoms) is).0)
none_from give n (atom ∷ atoms) is (suc i) own at =
    let later : suc n + i ≡ n + suc i = omega arith in
    subst (λ k. give k own ≡ None) later
    (none_from give (suc n) atoms (neither (give n atom) (first_from give (suc n) atoms) is).1 i own at)

module _ (store : Tables) (atoms : List (Atom FieldPlace)) (outers : List ℕ) (table : ℕ) where
  abbrev IsOther : Step → Type 0
  IsOther own = own ≢ step.NestedLoops

  -- No rule chooses nested loops.
  rule_is_other : (rule : JoinRule) (place : ℕ) (own : Atom FieldPlace) (key : JoinKey) (s : Step)
      → join_rule rule store atoms outers table place own.right key ≡ Some s → IsOther s
  rule_is_other join.Precomputed place own key s e = λ nested.
      let told = cond_some (is_plain own.right && is_referred store outers table key) (step.Precomputed place) s e in
      let same : step.Precomputed place ≡ step.NestedLoops = told.1 ∙ nested in cc
  rule_is_other join.TreeMerge place own key s e = λ nested.
      let (follows, merges) = guarded (follows_scan store atoms outers) (merge_of store outers table place key) s e in
      let (outer, found, rest) = followed (λ outer. option_map (λ inner. step.TreeMerge outer inner place) (tree_at store table key.column))
      (tree_at store (get_or outers key.field.place 0) key.field.column) s merges in
      let (inner, has, is) = mapped (λ inner. step.TreeMerge outer inner place) (tree_at store table key.column) s rest in
      let same : step.TreeMerge outer inner place ≡ step.NestedLoops = is ∙ nested in cc
  rule_is_other join.TreeJoin place own key s e = λ nested.
      let (follows, joins) = guarded (follows_shorter store outers table) (option_map (λ index. step.TreeJoin index place) (tree_at store table key.column)) s
      e in
      let (index, has, is) = mapped (λ index. step.TreeJoin index place) (tree_at store table key.column) s joins in
      let same : step.TreeJoin index place ≡ step.NestedLoops = is ∙ nested in cc
  rule_is_other join.HashJoin place own key s e = λ nested.
      let (index, has, is) = mapped (λ index. step.HashJoin index place) (hash_at store table key.column) s e in
      let same : step.HashJoin index place ≡ step.NestedLoops = is ∙ nested in cc
  rule_is_other join.BuiltHash place own key s e = λ nested.
      let same : step.BuiltHash place ≡ step.NestedLoops = same_Some (step.BuiltHash place) s e ∙ nested in cc

  is_other : (rule : JoinRule) (s : Step) → first_from (joined_by rule store atoms outers table) 0 atoms ≡ Some s → IsOther s
  is_other rule s e = from_start IsOther (joined_by rule store atoms outers table) atoms
      (λ place own s there gives.
      let (key, asks, joins) = followed (join_rule rule store atoms outers table place own.right) (key_of (length outers) own) s gives in
      rule_is_other rule place own key s joins)
      s e

  no_key : (place : ℕ) (o : Option JoinKey) → option_and_then (λ (key : JoinKey). Some (step.BuiltHash place)) o ≡ None → o ≡ None
  no_key place None is = refl
  no_key place (Some key) is = cc

  none_joins : next_step store atoms outers table ≡ step.NestedLoops → All (λ own. key_of (length outers) own ≡ None) atoms
  none_joins nested = λ i d within.
      let none = none_given IsOther
      (first_from (joined_by join.Precomputed store atoms outers table) 0 atoms
      ∷ first_from (joined_by join.TreeMerge store atoms outers table) 0 atoms
      ∷ first_from (joined_by join.TreeJoin store atoms outers table) 0 atoms
      ∷ first_from (joined_by join.HashJoin store atoms outers table) 0 atoms
      ∷ first_from (joined_by join.BuiltHash store atoms outers table) 0 atoms
      ∷ []) step.NestedLoops (λ other. other refl)
      (is_other join.Precomputed, (is_other join.TreeMerge, (is_other join.TreeJoin, (is_other join.HashJoin, (is_other join.BuiltHash, tt))))) nested in
      no_key (0 + i) (key_of (length outers) (get_or atoms i d))
      (none_from (joined_by join.BuiltHash store atoms outers table) 0 atoms none.1.1.1.1.0 i (get_or atoms i d) (slice_get-get_or atoms i d within))

-- No table is before the first.
none_earlier : (own : Atom FieldPlace) → key_of 0 own ≡ None
none_earlier own = by (key_of 0 own) refl
  where
    by : (o : Option JoinKey) → key_of 0 own ≡ o → o ≡ None
    by None is = refl
    by (Some key) is =
        let before = beside_earlier 0 own.left own.right key (guarded (is_equality own.comparison) (key_beside 0 own.left own.right) key is).1 in
        absurd (omega (arith, before))

-- Nested loops are chosen only if no atom is a join equality of the table.
pub only_without_key : (store : Tables) (atoms : List (Atom FieldPlace)) (tables : List ℕ) (place : ℕ)
    → slice_get (steps_of store atoms tables) place ≡ Some step.NestedLoops → All (λ own. key_of place own ≡ None) atoms
only_without_key store atoms tables zero is = λ i d within. none_earlier (get_or atoms i d)
only_without_key store atoms [] (suc place) is = cc
only_without_key store atoms (first ∷ tables) (suc place) is =
    let many = as_many store atoms [] (first ∷ tables) in
    let here : suc place < length (first ∷ tables) = (let within = slice_get_within (steps_of store atoms (first ∷ tables)) (suc place) step.NestedLoops is in
    omega (arith, within, many)) in
    let table = get_or (first ∷ tables) (suc place) 0 in
    let nested = step_at store atoms [] (first ∷ tables) (suc place) table step.NestedLoops (slice_get-get_or (first ∷ tables) (suc place) 0 here) is in
    let taken : length (first ∷ take place tables) ≡ suc place = length-take-le (suc place) (first ∷ tables) (omega (arith, here)) in
    subst (λ n. All (λ own. key_of n own ≡ None) atoms) taken (none_joins store atoms (first ∷ take place tables) table nested)
