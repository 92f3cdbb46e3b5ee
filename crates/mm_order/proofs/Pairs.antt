-- Properties of each element, and of each element and each later one, of a list in two parts.
use Rattle.std.proofs.Common.{◌≡◌, ◌+◌, ◌-◌, ◌<◌, ◌≤◌, List, [], ◌∷◌, ◌++◌, length, get_or, sym, subst, ⊎_elim, arith, length-append}
use Rattle.std.proofs.lemmas.Bool.{cases_lt}
use Rattle.std.proofs.lemmas.List.{get_or_append_left, get_or-append-add, get_or_default}
use Rattle.std.proofs.Math.Seq.{get_or-append_right}
use Rattle.std.specs.List.{All, AllPairs}

module _ {X : Type 0} (P : X → Type 0) where
  pub All-append_left : (xs ys : List X) → All P (xs ++ ys) → All P xs
  All-append_left xs ys all k d below =
      subst P (get_or_append_left xs ys d k below) (all k d (omega (arith, length-append xs ys)))

  pub All-append_right : (xs ys : List X) → All P (xs ++ ys) → All P ys
  All-append_right xs ys all k d below =
      subst P (get_or-append-add xs ys k d) (all (length xs + k) d (omega (arith, length-append xs ys)))

module _ {X : Type 0} (R : X → X → Type 0) where
  -- the relation R holds between each element of xs and each of ys
  abbrev pub AllAcross : List X → List X → Type 0
  AllAcross xs ys = All (λ x. All (R x) ys) xs

  pub AllPairs-append_left : (xs ys : List X) → AllPairs R (xs ++ ys) → AllPairs R xs
  AllPairs-append_left xs ys all i j d before below =
      let at_i : get_or (xs ++ ys) i d ≡ get_or xs i d = get_or_append_left xs ys d i (omega arith) in
      let at_j : get_or (xs ++ ys) j d ≡ get_or xs j d = get_or_append_left xs ys d j below in
      subst (λ x. R x (get_or xs j d)) at_i (subst (R (get_or (xs ++ ys) i d)) at_j (all i j d before (omega (arith, length-append xs ys))))

  pub AllPairs-append_right : (xs ys : List X) → AllPairs R (xs ++ ys) → AllPairs R ys
  AllPairs-append_right xs ys all i j d before below =
      let at_i : get_or (xs ++ ys) (length xs + i) d ≡ get_or ys i d = get_or-append-add xs ys i d in
      let at_j : get_or (xs ++ ys) (length xs + j) d ≡ get_or ys j d = get_or-append-add xs ys j d in
      subst (λ x. R x (get_or ys j d)) at_i
      (subst (R (get_or (xs ++ ys) (length xs + i) d)) at_j (all (length xs + i) (length xs + j) d (omega arith) (omega (arith, length-append xs ys))))

  pub AllPairs-append_across : (xs ys : List X) → AllPairs R (xs ++ ys) → AllAcross xs ys
  AllPairs-append_across xs ys all i d below j e within =
      let at_i : get_or (xs ++ ys) i e ≡ get_or xs i e = get_or_append_left xs ys e i below in
      let at_j : get_or (xs ++ ys) (length xs + j) e ≡ get_or ys j e = get_or-append-add xs ys j e in
      let there = subst (λ x. R x (get_or ys j e)) at_i
      (subst (R (get_or (xs ++ ys) i e)) at_j (all i (length xs + j) e (omega arith) (omega (arith, length-append xs ys)))) in
      subst (λ x. R x (get_or ys j e)) (get_or_default xs i e d below) there

  pub AllPairs-append : (xs ys : List X) → AllPairs R xs → AllPairs R ys → AllAcross xs ys → AllPairs R (xs ++ ys)
  AllPairs-append xs ys in_xs in_ys across i j d before below =
      let right : length xs ≤ j → get_or (xs ++ ys) j d ≡ get_or ys (j - length xs) d = get_or-append_right xs ys j d in
      ⊎_elim
      (λ (j_left : j < length xs).
      let at_i : get_or (xs ++ ys) i d ≡ get_or xs i d = get_or_append_left xs ys d i (omega arith) in
      let at_j : get_or (xs ++ ys) j d ≡ get_or xs j d = get_or_append_left xs ys d j j_left in
      subst (λ x. R x (get_or (xs ++ ys) j d)) (sym at_i) (subst (R (get_or xs i d)) (sym at_j) (in_xs i j d before j_left)))
      (λ (j_right : length xs ≤ j).
      let at_j : get_or (xs ++ ys) j d ≡ get_or ys (j - length xs) d = right j_right in
      let j_within : j - length xs < length ys = omega (arith, length-append xs ys) in
      ⊎_elim
      (λ (i_left : i < length xs).
      let at_i : get_or (xs ++ ys) i d ≡ get_or xs i d = get_or_append_left xs ys d i i_left in
      subst (λ x. R x (get_or (xs ++ ys) j d)) (sym at_i) (subst (R (get_or xs i d)) (sym at_j) (across i d i_left (j - length xs) d j_within)))
      (λ (i_right : length xs ≤ i).
      let at_i : get_or (xs ++ ys) i d ≡ get_or ys (i - length xs) d = get_or-append_right xs ys i d i_right in
      subst (λ x. R x (get_or (xs ++ ys) j d)) (sym at_i)
      (subst (R (get_or ys (i - length xs) d)) (sym at_j) (in_ys (i - length xs) (j - length xs) d (omega arith) j_within)))
      (cases_lt i (length xs)))
      (cases_lt j (length xs))

  pub AllPairs-single : (x : X) → AllPairs R (x ∷ [])
  AllPairs-single x i j d before below = absurd (omega arith)
