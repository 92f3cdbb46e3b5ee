-- The meaning of two tests of links for a column.
use Rattle.std.proofs.Common.{◌≡◌, ℕ, zero, suc, ◌<◌, Bool, true, false, not, ◌&&◌, ◌↔◌, List, [], ◌∷◌, get_or, length, refl, sym, ⊎_elim, ap, ◌∙◌, subst}
use Rattle.std.proofs.Common.{arith}
use Rattle.std.specs.Prelude.{◌==◌}
use Rattle.std.specs.List.{Contains, list_any}
use Rattle.std.proofs.lemmas.Bool.{and_from, and_parts, cases_Bool, eq-eqb, eqb-true, false≢true, not-true, or_cases, or_left, or_right}
use Rattle.mm_schema.specs.declared.reference.Reference.{Reference}
use Rattle.mm_base.specs.Columns.{IsReference, differs_in_target, same_column, same_reference}

column_told : (a b : Reference) → same_column a b ≡ true → (a.from ≡ b.from) × (a.column ≡ b.column)
column_told a b told =
    let parts = and_parts (a.from == b.from) (a.column == b.column) told in
    (eqb-true a.from b.from parts.0, eqb-true a.column b.column parts.1)

own_column : (a : Reference) (to : ℕ) → same_column a (record a { to = to }) ≡ true
own_column a to = and_from (a.from == a.from) (a.column == a.column) (eq-eqb a.from a.from refl) (eq-eqb a.column a.column refl)

reference_told : (a b : Reference) → same_reference a b ≡ true → b ≡ a
reference_told a b told =
    let parts = and_parts (same_column a b) (a.to == b.to) told in
    let column = column_told a b parts.0 in
    let to = eqb-true a.to b.to parts.1 in
    λ i. record { from = sym column.0 i; column = sym column.1 i; to = sym to i }

-- A test passes if a link that passes it is among the links.
passes : (p : Reference → Bool) (links : List Reference) (r : Reference) (k : ℕ) → k < length links → get_or links k r ≡ r → p r ≡ true
    → list_any p links ≡ true
passes p [] r k within is told = absurd (omega (arith, within))
passes p (x ∷ links) r zero within is told = or_left (p x) (list_any p links) (ap p is ∙ told)
passes p (x ∷ links) r (suc k) within is told = or_right (p x) (list_any p links) (passes p links r k (omega (arith, within)) is told)

-- And such a link is among them if the test passes.
among : (p : Reference → Bool) (links : List Reference) → list_any p links ≡ true → (r : Reference) × Contains links r × (p r ≡ true)
among p [] any = absurd (false≢true any)
among p (x ∷ links) any = ⊎_elim
    (λ (told : p x ≡ true). (x, (0, omega (arith), refl), told))
    (λ (told : list_any p links ≡ true).
    let later = among p links told in
    (later.0, (suc later.1.0, omega (arith, later.1.1), later.1.2), later.2))
    (or_cases (p x) (list_any p links) any)

module _ (links : List Reference) (from column to : ℕ) where
  abbrev own : Reference
  own = record { from = from; column = column; to = to }

  abbrev has : Bool
  has = list_any (same_reference own) links

  abbrev has_other : Bool
  has_other = list_any (differs_in_target own) links

  other_passes : (other : ℕ) → Contains links (record { from = from; column = column; to = other }) → (to == other) ≡ false → has_other ≡ true
  other_passes other is_there apart =
      passes (differs_in_target own) links (record { from = from; column = column; to = other }) is_there.0 is_there.1 is_there.2
      (and_from (same_column own (record own { to = other })) (not (to == other)) (own_column own other) (ap not apart))

  only : has_other ≡ false → (other : ℕ) → Contains links (record { from = from; column = column; to = other }) → other ≡ to
  only none other is_there = ⊎_elim
      (λ (same : (to == other) ≡ true). sym (eqb-true to other same))
      (λ (apart : (to == other) ≡ false). absurd (false≢true (sym none ∙ other_passes other is_there apart)))
      (cases_Bool (to == other))

  none_other : IsReference links from column to → has_other ≡ false
  none_other is = ⊎_elim
      (λ (some : has_other ≡ true).
      let one = among (differs_in_target own) links some in
      let parts = and_parts (same_column own one.0) (not (to == one.0.to)) one.2 in
      let column_is = column_told own one.0 parts.0 in
      let is_other : one.0 ≡ record { from = from; column = column; to = one.0.to } =
      λ i. record { from = sym column_is.0 i; column = sym column_is.1 i; to = one.0.to } in
      let to_is = is.1 one.0.to (subst (Contains links) is_other one.1) in
      absurd (false≢true (sym (not-true (to == one.0.to) parts.1) ∙ eq-eqb to one.0.to (sym to_is))))
      (λ (none : has_other ≡ false). none)
      (cases_Bool has_other)

  told : has && not has_other ≡ true → IsReference links from column to
  told both =
      let parts = and_parts has (not has_other) both in
      let one = among (same_reference own) links parts.0 in
      (subst (Contains links) (reference_told own one.0 one.2) one.1, only (not-true has_other parts.1))

  -- Both tests together show that the column refers only to the one table.
  pub tells_only : (b : Bool) → b ≡ (has && not has_other) → (b ≡ true) ↔ IsReference links from column to
  tells_only b is = (
    λ (does : b ≡ true). told (sym is ∙ does),
    λ (refers : IsReference links from column to).
        is ∙ and_from has (not has_other)
        (passes (same_reference own) links own refers.0.0 refers.0.1 refers.0.2
        (and_from (same_column own own) (to == to) (own_column own to) (eq-eqb to to refl)))
        (ap not (none_other refers)),
  )
