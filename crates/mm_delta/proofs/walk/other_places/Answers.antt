use Rattle.std.proofs.Common.{◌≡◌, ◌≢◌, inl, inr, ℕ, ◌+◌, ◌==◌, Bool, true, not, cond, List, [], ◌∷◌, ◌++◌, refl, ap, sym, ◌∙◌, filter, arith}
use Rattle.std.specs.List.{range_with_len}
use Rattle.std.proofs.lemmas.Bool.{ne_eqb}
use Rattle.std.proofs.lemmas.Bool.Decides.{eqb_tells}
use Rattle.std.proofs.lemmas.List.{map-id}
use Rattle.std.proofs.lemmas.List.FromFn.{filter_of_map_range_with_len_more}
use Rattle.arrayvec.specs.ArrayVec.{array_vec_len}
use Rattle.mm_delta.specs.Walk.{other_places as other_places_lem}
use Rattle.mm_delta.proofs.walk.other_places.Goals as goal
use Rattle.mm_delta.proofs.walk.other_places.Goals.{then-j-place, else-j-place}

append_none : (xs : List ℕ) → xs ++ [] ≡ xs
append_none [] = refl
append_none (x ∷ xs) = ap (λ l. x ∷ l) (append_none xs)

-- one more place
others_more : (n k : ℕ) → other_places_lem (n + 1) k ≡ other_places_lem n k ++ cond (not (n == k)) (n ∷ []) []
others_more n k =
    let test : ℕ → Bool = λ j. not (j == k) in
    ap (filter test) (sym (map-id (range_with_len 0 (n + 1))))
    ∙ filter_of_map_range_with_len_more test (λ x. x) 0 n n (omega arith)
    ∙ ap (λ l. filter test l ++ cond (not (n == k)) (n ∷ []) []) (map-id (range_with_len 0 n))

with_another : (n k : ℕ) → n ≢ k → other_places_lem n k ++ n ∷ [] ≡ other_places_lem (n + 1) k
with_another n k apart = ap (λ b. other_places_lem n k ++ cond (not b) (n ∷ []) []) (sym (ne_eqb n k apart)) ∙ sym (others_more n k)

is_one : (n k : ℕ) → n ≡ k → (n == k) ≡ true
is_one n k same = elim (eqb_tells n k) [ inl both ↦ both.0 | inr both ↦ absurd (both.1 same) ]

with_the_one : (n k : ℕ) → n ≡ k → other_places_lem n k ≡ other_places_lem (n + 1) k
with_the_one n k same =
    sym (append_none (other_places_lem n k)) ∙ ap (λ b. other_places_lem n k ++ cond (not b) (n ∷ []) []) (sym (is_one n k same)) ∙ sym (others_more n k)

pub loop-j-preserved : goal.loop-j-preserved
loop-j-preserved c =
    let j = c.loop-j.j in
    let k = c.args.place in
    elim c.if-j-place.branch [
      | then-j-place w ↦ (
        ap (λ v. v.items) w.others-is ∙ w.push.ensures.items ∙ ap (λ l. l ++ j ∷ []) c.loop-j.invariant.0 ∙ with_another j k w.if-j-place.true,
        omega (arith, ap (λ v. array_vec_len v) w.others-is, w.push.ensures.len, c.loop-j.invariant.1),
      )
      | else-j-place w ↦ (
        ap (λ v. v.items) w.others-is ∙ c.loop-j.invariant.0 ∙ with_the_one j k w.if-j-place.false,
        omega (arith, ap (λ v. array_vec_len v) w.others-is, c.loop-j.invariant.1),
      )
    ]
