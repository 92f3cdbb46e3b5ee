-- Atoms that are false for known texts.
use Rattle.std.proofs.Common.{◌≡◌, ℕ, suc, zero, ◌+◌, cond, Bool, true, false, List, [], ◌∷◌, Some, None, length, get_or, refl, sym, ap, subst, ◌∙◌, arith}
use Rattle.std.specs.Prelude.{IsTrue, ◌↔◌, slice_get}
use Rattle.std.specs.List.{position, position_from}
use Rattle.std.specs.Option.{option_map_or}
use Rattle.std.proofs.lemmas.Iterator.Adapters.{position_from-zero}
use Rattle.mm_value.specs.declared.values.Value.{Value}
use Rattle.mm_query.specs.declared.bound_query.BoundQuery.{BoundQuery}
use Rattle.mm_relevance.specs.declared.cycle.CycleEdge.{CycleEdge}
use Rattle.mm_relevance.specs.Relevance.{IsFalseOnTexts, fails_on_texts}
use Rattle.mm_relevance.specs.Walks.{name_of}

alone : (cycle : List CycleEdge) (d : CycleEdge) → length cycle ≡ 1 → cycle ≡ get_or cycle 0 d ∷ []
alone [] d h = absurd (omega (arith, h))
alone (n ∷ []) d h = refl
alone (n ∷ (m ∷ cycle)) d h = absurd (omega (arith, h))

lower_name : (n : CycleEdge) → n.upper ≡ false → n ≡ name_of n.conjunct false
lower_name n h = (λ i. record { conjunct = n.conjunct; upper = h i })

-- ---- The first that fails

found_from : {X : Type 0} (p : X → Bool) (xs : List X) (i j : ℕ) → position_from p i xs ≡ Some j → (k : ℕ) × (j ≡ i + k)
    × (option_map_or p (slice_get xs k) false ≡ true)
found_from p [] i j h = absurd (let b : ⊥ = cc in b)
found_from {X} p (x ∷ xs) i j h = go (found_from p xs (i + 1) j) (p x) refl h
  where
    go : (position_from p (i + 1) xs ≡ Some j → (k : ℕ) × (j ≡ (i + 1) + k) × (option_map_or p (slice_get xs k) false ≡ true))
        → (b : Bool) → p x ≡ b → cond b (Some i) (position_from p (i + 1) xs) ≡ Some j → (k : ℕ) × (j ≡ i + k)
        × (option_map_or p (slice_get (x ∷ xs) k) false ≡ true)
    go later true is h = let same : i ≡ j = cc in (0, omega (arith, same), is)
    go later false is h = let r = later h in (suc r.0, (let e = r.1 in omega (arith, e)), r.2)

none_from : {X : Type 0} (p : X → Bool) (xs : List X) (i : ℕ) → position_from p i xs ≡ None → (k : ℕ) → option_map_or p (slice_get xs k) false ≡ true → ⊥
none_from p [] i h k t = (let b : ⊥ = cc in b)
none_from {X} p (x ∷ xs) i h k t = go (none_from p xs (i + 1)) (p x) refl h k t
  where
    go : (position_from p (i + 1) xs ≡ None → (k : ℕ) → option_map_or p (slice_get xs k) false ≡ true → ⊥)
        → (b : Bool) → p x ≡ b → cond b (Some i) (position_from p (i + 1) xs) ≡ None → (k : ℕ) → option_map_or p (slice_get (x ∷ xs) k) false ≡ true → ⊥
    go later true is h k t = (let b : ⊥ = cc in b)
    go later false is h zero t = (let e : false ≡ true = sym is ∙ t in let b : ⊥ = cc in b)
    go later false is h (suc k) t = later h k t

module _ (query : BoundQuery) (place : ℕ) (row : List Value) where
  first_of_one : (cycle : List CycleEdge) (d n : CycleEdge) → cycle ≡ n ∷ [] → get_or cycle 0 d ≡ n
  first_of_one cycle d n h = ap (λ l. get_or l 0 d) h

  pub shown : (cycle : List CycleEdge) (d : CycleEdge) (r : Bool) → length cycle ≡ 1 → (get_or cycle 0 d).upper ≡ false
      → r ≡ option_map_or (fails_on_texts place row) (slice_get query.atoms (get_or cycle 0 d).conjunct) false → IsTrue r ↔ IsFalseOnTexts query place row cycle
  shown cycle d r one lower is = (there, back)
    where
      there : IsTrue r → IsFalseOnTexts query place row cycle
      there h = record {
        conjunct = (get_or cycle 0 d).conjunct;
        only = alone cycle d one ∙ ap (λ n. n ∷ []) (lower_name (get_or cycle 0 d) lower);
        fails = sym is ∙ h;
      }

      back : IsFalseOnTexts query place row cycle → IsTrue r
      back f =
          is ∙ ap (λ (n : CycleEdge). option_map_or (fails_on_texts place row) (slice_get query.atoms n.conjunct) false)
          (first_of_one cycle d (name_of f.conjunct false) f.only)
          ∙ f.fails

  pub found : (cycle : List CycleEdge) (conjunct : ℕ) → position (fails_on_texts place row) query.atoms ≡ Some conjunct → cycle ≡ name_of conjunct false ∷ []
      → IsFalseOnTexts query place row cycle
  found cycle conjunct h is =
      let r = found_from (fails_on_texts place row) query.atoms 0 conjunct (sym (position_from-zero (fails_on_texts place row) query.atoms) ∙ h) in
      let e = r.1 in
      let same : r.0 ≡ conjunct = omega (arith, e) in
      record {
        conjunct = conjunct;
        only = is;
        fails = subst (λ k. option_map_or (fails_on_texts place row) (slice_get query.atoms k) false ≡ true) same r.2;
      }

  pub none_found : position (fails_on_texts place row) query.atoms ≡ None → (cycle : List CycleEdge) → IsFalseOnTexts query place row cycle → ⊥
  none_found h cycle f = none_from (fails_on_texts place row) query.atoms 0 (sym (position_from-zero (fails_on_texts place row) query.atoms) ∙ h) f.conjunct
      f.fails
