-- The first index of a kind on a column.
use Rattle.std.proofs.Common.{◌≡◌, ℕ, ◌<◌, ◌≤◌, Bool, true, false, cond, List, [], ◌∷◌, length, get_or, Option, Some, None, refl, sym, ap, ◌∙◌, subst, arith}
use Rattle.std.specs.Prelude.{◌==◌, ◌&&◌, position, nat_lt, IfSome, IfNone}
use Rattle.std.specs.List.{position_or_len}
use Rattle.std.proofs.lemmas.Bool.{and_parts, eq-eqb, eqb-true, false≢true}
use Rattle.std.proofs.lemmas.Bool.Decides.{nat_tests}
use Rattle.std.proofs.lemmas.List.Sums.{fails_before_first, passes_at_first}
use Rattle.mm_schema.specs.declared.index.IndexKind.{IndexKind}
use Rattle.mm_schema.specs.declared.index.IndexKind.TheVariants as kind
use Rattle.mm_indexed.specs.Index.{IsOn, column_of, kind_of}
use Rattle.mm_indexed.specs.Reads.{HasIndex}
use Rattle.mm_indexed.specs.Served.{is_on, same_kind}
use Rattle.mm_indexed.specs.declared.indexes.index.Index.{Index}

-- ---- the test and its meaning

pub same_kind_told : (a b : IndexKind) → same_kind a b ≡ true → a ≡ b
same_kind_told kind.Tree kind.Tree e = refl
same_kind_told kind.Tree kind.Hash e = cc
same_kind_told kind.Hash kind.Tree e = cc
same_kind_told kind.Hash kind.Hash e = refl

pub same_kind_itself : (a : IndexKind) → same_kind a a ≡ true
same_kind_itself kind.Tree = refl
same_kind_itself kind.Hash = refl

pub IsOn-from_test : (column : ℕ) (k : IndexKind) (x : Index) → is_on column k x ≡ true → IsOn column k x
IsOn-from_test column k x e =
    let parts = and_parts (column_of x == column) (same_kind (kind_of x) k) e in
    (eqb-true (column_of x) column parts.0, same_kind_told (kind_of x) k parts.1)

pub test_from_IsOn : (column : ℕ) (k : IndexKind) (x : Index) → IsOn column k x → is_on column k x ≡ true
test_from_IsOn column k x on =
    ap (λ b. b && same_kind (kind_of x) k) (eq-eqb (column_of x) column on.0)
    ∙ ap (λ own. same_kind own k) on.1 ∙ same_kind_itself k

-- ---- the first place

module _ {X : Type 0} (p : X → Bool) (xs : List X) where
  cases_position : (i : ℕ) (b : Bool) → b ≡ nat_lt (position_or_len p xs) (length xs)
      → cond b (Some (position_or_len p xs)) None ≡ Some i → (i < length xs) × (position_or_len p xs ≡ i)
  cases_position i true in_list e =
      let is : position_or_len p xs ≡ i = cc in
      (subst (λ n. n < length xs) is (grind (arith, nat_tests, in_list)), is)
  cases_position i false in_list e = cc

  position_is : (i : ℕ) → position p xs ≡ Some i → (i < length xs) × (position_or_len p xs ≡ i)
  position_is i found = cases_position i (nat_lt (position_or_len p xs) (length xs)) refl found

  -- the element there passes
  pub position_passes : (i : ℕ) (d : X) → position p xs ≡ Some i → p (get_or xs i d) ≡ true
  position_passes i d found =
      let (within, is) = position_is i found in
      subst (λ n. p (get_or xs n d) ≡ true) is (passes_at_first p xs d (subst (λ n. n < length xs) (sym is) within))

  cases_none : (b : Bool) → b ≡ nat_lt (position_or_len p xs) (length xs)
      → cond b (Some (position_or_len p xs)) None ≡ None → length xs ≤ position_or_len p xs
  cases_none true in_list e = cc
  cases_none false in_list e = grind (arith, nat_tests, in_list)

  -- If there is no place, no element passes.
  pub position_none : (k : ℕ) (d : X) → position p xs ≡ None → k < length xs → p (get_or xs k d) ≡ false
  position_none k d none within =
      let past : length xs ≤ position_or_len p xs = cases_none (nat_lt (position_or_len p xs) (length xs)) refl none in
      fails_before_first p xs k d (omega (arith, past, within))

module _ (column : ℕ) (k : IndexKind) (indexes : List Index) where
  pub found_on : (i : ℕ) → position (is_on column k) indexes ≡ Some i → HasIndex indexes i column k
  found_on i found = (
    (position_is (is_on column k) indexes i found).0,
    λ d. IsOn-from_test column k (get_or indexes i d) (position_passes (is_on column k) indexes i d found),
  )

  pub none_on : position (is_on column k) indexes ≡ None → (i : ℕ) → HasIndex indexes i column k → ⊥
  none_on none i has =
      let d : Index = any_of indexes i has.0 in
      false≢true (sym (position_none (is_on column k) indexes i d none has.0) ∙ test_from_IsOn column k (get_or indexes i d) (has.1 d))
    where
      any_of : (xs : List Index) (n : ℕ) → n < length xs → Index
      any_of [] n within = absurd (omega arith)
      any_of (x ∷ xs) n within = x

  -- .. and the same for the result of a search
  pub if_found : (found : Option ℕ) → found ≡ position (is_on column k) indexes → IfSome found (λ i. HasIndex indexes i column k)
  if_found None is = tt
  if_found (Some i) is = found_on i (sym is)

  pub if_none : (found : Option ℕ) → found ≡ position (is_on column k) indexes → IfNone found ((i : ℕ) → HasIndex indexes i column k → ⊥)
  if_none None is = none_on (sym is)
  if_none (Some i) is = tt
