-- Equality of references and of pairs of references.
use Rattle.std.proofs.Common.{◌≡◌, ◌≢◌, ℕ, ◌⊎◌, inl, inr, ⊎_elim, ◌<◌, [], ◌∷◌, get_or, Bool, true, ◌&&◌, eqb, refl, ap, ◌∙◌, arith}
use Rattle.std.specs.List.{Contains}
use Rattle.std.proofs.lemmas.Bool.{and_parts, eq-eqb, eqb-true, cases_order}
use Rattle.mm_value.specs.declared.row_ref.RowRef.{RowRef}

-- two references are one
abbrev pub same_ref : RowRef → RowRef → Bool
same_ref a b = eqb a.slot b.slot

pub same_from_test : (a b : RowRef) → same_ref a b ≡ true → a ≡ b
same_from_test a b e = λ i. record { slot = eqb-true a.slot b.slot e i }

pub test_from_same : (a b : RowRef) → a ≡ b → same_ref a b ≡ true
test_from_same a b e = eq-eqb a.slot b.slot (ap (λ (r : RowRef). r.slot) e)

pub same_number : (i j : ℕ) → (i ≡ j) ⊎ (i ≢ j)
same_number i j =
    ⊎_elim (λ (e : i ≡ j). inl e) (λ (o : (i < j) ⊎ (j < i)). inr
    (λ (e : i ≡ j). ⊎_elim (λ (h : i < j). let no : ⊥ = omega arith in no) (λ (h : j < i). let no : ⊥ = omega arith in no) o)) (cases_order i j)

pub same_or_apart : (a b : RowRef) → (a ≡ b) ⊎ (a ≢ b)
same_or_apart a b =
    ⊎_elim
    (λ (s : a.slot ≡ b.slot). let same : a ≡ b = λ i. record { slot = s i } in inl same)
    (λ (n : a.slot ≢ b.slot). inr (λ (e : a ≡ b). n (ap (λ (r : RowRef). r.slot) e)))
    (same_number a.slot b.slot)

pub only : (a b : RowRef) → Contains (a ∷ []) b → a ≡ b
only a b (k, within, is) = ap (λ n. get_or (a ∷ []) n b) (let first : 0 ≡ k = omega arith in first) ∙ is

pub same_pair : ℕ × RowRef → ℕ × RowRef → Bool
same_pair p q = eqb p.0 q.0 && same_ref p.1 q.1

pub pair_from_test : (p q : ℕ × RowRef) → same_pair p q ≡ true → p ≡ q
unfolding same_pair
pair_from_test p q e =
    let parts = and_parts (eqb p.0 q.0) (same_ref p.1 q.1) e in
    λ i. (eqb-true p.0 q.0 parts.0 i, same_from_test p.1 q.1 parts.1 i)

pub pair_itself : (p : ℕ × RowRef) → same_pair p p ≡ true
unfolding same_pair
pair_itself p = rw (eq-eqb p.0 p.0 refl, test_from_same p.1 p.1 refl)
