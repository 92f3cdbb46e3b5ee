-- Rows whose counts change have the types of the rows before and after.
use Rattle.std.proofs.Common.{
  ◌≡◌,
  ◌≢◌,
  ℕ,
  zero,
  suc,
  ℤ,
  pos,
  ◌+◌,
  ◌-ℤ◌,
  ◌<◌,
  ⊎_elim,
  Bool,
  true,
  false,
  cond,
  List,
  [],
  ◌∷◌,
  get_or,
  length,
  refl,
  sym,
  ap,
  ◌∙◌,
}
use Rattle.std.proofs.Common.{subst, arith}
use Rattle.std.specs.List.{All}
use Rattle.std.proofs.lemmas.Bool.{cases_eq}
use Rattle.std.proofs.lemmas.Int.{ints}
use Rattle.std.proofs.lemmas.List.Elements.{All-head, All-tail}
use Rattle.std.proofs.lemmas.List.Sums.{sum_by-cons}
use Rattle.mm_partition.specs.Types.{HasTypes}
use Rattle.mm_value.specs.Equality.{same_row}
use Rattle.mm_value.specs.declared.col_type.ColType.{ColType}
use Rattle.mm_value.specs.declared.values.Value.{Value}
use Rattle.mm_value.proofs.SameRows.{rows_exact}
use Rattle.mm_multiset.specs.Counts.{count_of, signed_count}
use Rattle.mm_multiset.specs.declared.signed.Signed.{Signed}
use Rattle.mm_standing.proofs.Net.{IsOnceEach, first_is, once_tail, others_in_rest, same_alone}
use Rattle.mm_standing.proofs.Others.{Rows, tally}

abbrev pub ChangesSome : Signed → Type 0
ChangesSome change = change.count ≢ pos 0

-- Each row has only its own change.
own_change : (changes : List Signed) → IsOnceEach changes → All ChangesSome changes → (k : ℕ) (d : Signed) → k < length changes
    → signed_count (get_or changes k d).row changes ≡ (get_or changes k d).count
own_change [] once some k d within = absurd (omega (arith, within))
own_change (c ∷ cs) once some zero d within = first_is c cs once
own_change (c ∷ cs) once some (suc k) d within =
    by (same_row c.row (get_or cs k d).row) refl (own_change cs (once_tail c cs once) (All-tail ChangesSome c cs some) k d (omega (arith, within)))
  where
    by : (b : Bool) → same_row c.row (get_or cs k d).row ≡ b → signed_count (get_or cs k d).row cs ≡ (get_or cs k d).count
        → signed_count (get_or cs k d).row (c ∷ cs) ≡ (get_or cs k d).count
    by true e own = absurd (some (suc k) d within (sym own ∙ same_alone c cs once (get_or cs k d).row e))
    by false e own = sym (others_in_rest c cs once (get_or cs k d).row e) ∙ own

module _ (types : List ColType) where
  -- A row that occurs among some rows has their property.
  counted_typed : (row : List Value) (rows : Rows) → count_of row rows ≢ 0 → All (HasTypes types) rows → HasTypes types row
  counted_typed row [] some typed = absurd (some refl)
  counted_typed row (x ∷ xs) some typed =
      by (same_row row x) refl (λ more. counted_typed row xs more (All-tail (HasTypes types) x xs typed))
    where
      by : (b : Bool) → same_row row x ≡ b → (count_of row xs ≢ 0 → HasTypes types row) → HasTypes types row
      by true e later = subst (HasTypes types) (sym ((rows_exact row x).0 e)) (All-head (HasTypes types) x xs typed)
      by false e later = later (λ none. some (sum_by-cons (tally row) x xs ∙ (λ i. cond (e i) 1 0 + none i)))

  module _ (before after : Rows) (typed_before : All (HasTypes types) before) (typed_after : All (HasTypes types) after) where
    differing_typed : (row : List Value) (n : ℤ) → n ≢ pos 0 → n ≡ pos (count_of row after) -ℤ pos (count_of row before) → HasTypes types row
    differing_typed row n some is =
        ⊎_elim
        (λ gone. counted_typed row before (λ none. some (nothing n (count_of row after) (count_of row before) is gone none)) typed_before)
        (λ there. counted_typed row after there typed_after)
        (cases_eq (count_of row after) 0)
      where
        nothing : (z : ℤ) (a b : ℕ) → z ≡ pos a -ℤ pos b → a ≡ 0 → b ≡ 0 → z ≡ pos 0
        nothing z a b e p q = omega (arith, ints)

    -- So do the rows of changes, if each row's count changes at most once, and by a number other than 0.
    pub changed_typed : (changes : List Signed) → IsOnceEach changes → All ChangesSome changes
        → ((row : List Value) → signed_count row changes ≡ pos (count_of row after) -ℤ pos (count_of row before))
        → All (λ (change : Signed). HasTypes types change.row) changes
    changed_typed changes once some is = λ k d within.
        let row : List Value = (get_or changes k d).row in
        differing_typed row (get_or changes k d).count (some k d within) (sym (own_change changes once some k d within) ∙ is row)
