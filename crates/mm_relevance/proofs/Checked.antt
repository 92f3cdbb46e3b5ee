-- The check of a cycle.
use Rattle.std.proofs.Common.{◌≡◌, ℕ, suc, zero, ◌+◌, ◌<◌, ◌≤◌, Bool, true, false, cond, List, [], ◌∷◌, pos, ◌+ℤ◌, Option, Some, None, length, map, get_or}
use Rattle.std.proofs.Common.{drop, drop-cons, refl, sym, ap, subst, ◌∙◌, arith}
use Rattle.std.specs.Prelude.{◌<ℤ◌, IsTrue, ◌↔◌}
use Rattle.std.proofs.lemmas.Int.{ints}
use Rattle.mm_value.specs.declared.values.Value.{Value}
use Rattle.mm_query.specs.declared.bound_query.BoundQuery.{BoundQuery}
use Rattle.mm_relevance.specs.declared.term.Point.{Point}
use Rattle.mm_relevance.specs.declared.cycle.CycleEdge.{CycleEdge}
use Rattle.mm_relevance.specs.declared.edge.Edge.{Edge}
use Rattle.mm_relevance.specs.declared.check.Reached.{Reached}
use Rattle.mm_relevance.specs.Relevance.{IsWalk, total, IsNegativeCycle, edge_at}
use Rattle.mm_relevance.specs.Walks.{point_eq, follow, follow_edge, then_follow}
use Rattle.mm_relevance.proofs.Points.{point_eq_is, point_eq_true}

drop_past : {A : Type 0} (xs : List A) (i : ℕ) → length xs ≤ i → drop i xs ≡ []
drop_past [] zero h = refl
drop_past [] (suc i) h = refl
drop_past (x ∷ xs) zero h = absurd (omega arith)
drop_past (x ∷ xs) (suc i) h = drop_past xs i (omega arith)

module _ (query : BoundQuery) (place : ℕ) (row : List Value) where
  -- The names that can be followed are a walk.
  abbrev pub IsFollowed : List CycleEdge → Reached → Reached → Type 0
  IsFollowed cycle from to =
      (es : List Edge) × (map (edge_at query place row) cycle ≡ map Some es) × IsWalk from.at es to.at × (to.sum ≡ from.sum +ℤ total es)

  edge_if : (c : Bool) (e : Edge) (from r : Reached) → (c ≡ true → e.left ≡ from.at) → cond c (Some (record { at = e.right; sum = from.sum +ℤ e.cost })) None
      ≡ Some r
      → (e.left ≡ from.at) × (e.right ≡ r.at) × (r.sum ≡ from.sum +ℤ e.cost)
  edge_if false e from r f h = absurd (let b : ⊥ = cc in b)
  edge_if true e from r f h =
      let made : Reached = record { at = e.right; sum = from.sum +ℤ e.cost } in
      let same : made ≡ r = cc in
      (f refl, ap (λ (x : Reached). x.at) same, sym (ap (λ (x : Reached). x.sum) same))

  pub follow_sound : (cycle : List CycleEdge) (from to : Reached) → follow query place row from cycle ≡ Some to → IsFollowed cycle from to
  follow_sound [] from to h =
      let same : from ≡ to = cc in
      ([], refl, ap (λ (x : Reached). x.at) same, (let e : to.sum ≡ from.sum = ap (λ (x : Reached). x.sum) (sym same) in omega (arith, ints, e)))
  follow_sound (n ∷ cycle) from to h = go (λ r k. follow_sound cycle r to k) (edge_at query place row n) refl h
    where
      more : ((r : Reached) → follow query place row r cycle ≡ Some to → IsFollowed cycle r to) → (e : Edge) (o : Option Reached) → edge_at query place row n
          ≡ Some e → follow_edge from (Some e) ≡ o → then_follow o (λ r. follow query place row r cycle) ≡ Some to → IsFollowed (n ∷ cycle) from to
      more ih e None is f h = absurd (let b : ⊥ = cc in b)
      more ih e (Some r) is f h =
          let one = edge_if (point_eq e.left from.at) e from r (point_eq_true e.left from.at) f in
          let next = ih r h in
          let a = one.2 in
          let b = next.3 in
          let named = next.1 in
          (e ∷ next.0, (λ i. is i ∷ named i), (one.0, subst (λ p. IsWalk p next.0 to.at) (sym one.1) next.2), omega (arith, ints, a, b))

      go : ((r : Reached) → follow query place row r cycle ≡ Some to → IsFollowed cycle r to) → (o : Option Edge) → edge_at query place row n ≡ o
          → then_follow (follow_edge from o) (λ r. follow query place row r cycle) ≡ Some to → IsFollowed (n ∷ cycle) from to
      go ih None is h = absurd (let b : ⊥ = cc in b)
      go ih (Some e) is h = more ih e (follow_edge from (Some e)) is refl h

  -- A walk can be followed.
  pub follow_complete : (cycle : List CycleEdge) (es : List Edge) (from : Reached) (q : Point) → map (edge_at query place row) cycle ≡ map Some es
      → IsWalk from.at es q
      → (to : Reached) × (follow query place row from cycle ≡ Some to) × (to.at ≡ q) × (to.sum ≡ from.sum +ℤ total es)
  follow_complete [] [] from q h path = (from, refl, path, omega (arith, ints))
  follow_complete [] (e ∷ es) from q h path = absurd (let b : ⊥ = cc in b)
  follow_complete (n ∷ cycle) [] from q h path = absurd (let b : ⊥ = cc in b)
  follow_complete (n ∷ cycle) (e ∷ es) from q h path =
      let here : edge_at query place row n ≡ Some e = cc in
      let later : map (edge_at query place row) cycle ≡ map Some es = cc in
      let r : Reached = record { at = e.right; sum = from.sum +ℤ e.cost } in
      let next = follow_complete cycle es r q later path.1 in
      let a = next.3 in
      let step : follow_edge from (edge_at query place row n) ≡ Some r =
      ap (follow_edge from) here ∙ ap (λ c. cond c (Some r) None) (point_eq_is e.left from.at path.0) in
      (next.0, ap (λ o. then_follow o (λ x. follow query place row x cycle)) step ∙ next.1, next.2, omega (arith, ints, a))

  -- One more edge of a loop.
  pub follow_more : (cycle : List CycleEdge) (i : ℕ) (d : CycleEdge) (whole : Option Reached) (now next : Reached) (o : Option Reached) → i < length cycle
      → whole ≡ follow query place row now (drop i cycle)
      → o ≡ follow_edge now (edge_at query place row (get_or cycle i d)) → o ≡ Some next → whole ≡ follow query place row next (drop (i + 1) cycle)
  follow_more cycle i d whole now next o inside h e is =
      let same : suc i ≡ i + 1 = omega arith in
      let n : CycleEdge = get_or cycle i d in
      let k : drop i cycle ≡ n ∷ drop (i + 1) cycle = drop-cons cycle i d inside ∙ (λ t. n ∷ drop (same t) cycle) in
      h ∙ ap (follow query place row now) k ∙ ap (λ x. then_follow x (λ r. follow query place row r (drop (i + 1) cycle))) (sym e ∙ is)

  pub follow_stops : (cycle : List CycleEdge) (i : ℕ) (d : CycleEdge) (whole : Option Reached) (now : Reached) (o : Option Reached) → i < length cycle → whole
      ≡ follow query place row now (drop i cycle)
      → o ≡ follow_edge now (edge_at query place row (get_or cycle i d)) → o ≡ None → whole ≡ None
  follow_stops cycle i d whole now o inside h e is =
      let same : suc i ≡ i + 1 = omega arith in
      let n : CycleEdge = get_or cycle i d in
      let k : drop i cycle ≡ n ∷ drop (i + 1) cycle = drop-cons cycle i d inside ∙ (λ t. n ∷ drop (same t) cycle) in
      h ∙ ap (follow query place row now) k ∙ ap (λ x. then_follow x (λ r. follow query place row r (drop (i + 1) cycle))) (sym e ∙ is)

  pub follow_ends : (cycle : List CycleEdge) (i : ℕ) (whole : Option Reached) (now : Reached) → length cycle ≤ i → whole
      ≡ follow query place row now (drop i cycle) → whole ≡ Some now
  follow_ends cycle i whole now past h = h ∙ ap (follow query place row now) (drop_past cycle i past)

  first_left : (cycle : List CycleEdge) (d n : CycleEdge) (e : Edge) → 1 ≤ length cycle → n ≡ get_or cycle 0 d → edge_at query place row n ≡ Some e
      → (c : IsNegativeCycle query place row cycle) → e.left ≡ c.point
  first_left [] d n e some is h c = absurd (omega arith)
  first_left (m ∷ cycle) d n e some is h c = go c.edges c.named c.closed
    where
      go : (es : List Edge) → map (edge_at query place row) (m ∷ cycle) ≡ map Some es → IsWalk c.point es c.point → e.left ≡ c.point
      go [] named path = absurd (let b : ⊥ = cc in b)
      go (x ∷ es) named path =
          let head : edge_at query place row m ≡ Some x = cc in
          let one : Some e ≡ Some x = sym h ∙ ap (edge_at query place row) is ∙ head in
          let same : e ≡ x = cc in
          ap (λ (y : Edge). y.left) same ∙ path.0

  -- If the first edge does not exist, nothing is accepted.
  pub none_accepted : (cycle : List CycleEdge) (d n : CycleEdge) → 1 ≤ length cycle → n ≡ get_or cycle 0 d → edge_at query place row n ≡ None
      → IsNegativeCycle query place row cycle → ⊥
  none_accepted [] d n some is h c = omega arith
  none_accepted (m ∷ cycle) d n some is h c = go c.edges c.named
    where
      go : (es : List Edge) → map (edge_at query place row) (m ∷ cycle) ≡ map Some es → ⊥
      go [] named = (let b : ⊥ = cc in b)
      go (x ∷ es) named =
          let head : edge_at query place row m ≡ Some x = cc in
          let one : None ≡ Some x = sym h ∙ ap (edge_at query place row) is ∙ head in
          (let b : ⊥ = cc in b)

  -- If the names cannot be followed, nothing is accepted.
  pub lost : (cycle : List CycleEdge) (d n : CycleEdge) (e : Edge) (from : Reached) → 1 ≤ length cycle → n ≡ get_or cycle 0 d → edge_at query place row n
      ≡ Some e → from ≡ record { at = e.left; sum = pos 0 }
      → follow query place row from cycle ≡ None → IsNegativeCycle query place row cycle → ⊥
  lost cycle d n e from some is h f none c =
      let at : from.at ≡ c.point = ap (λ (x : Reached). x.at) f ∙ first_left cycle d n e some is h c in
      let all = follow_complete cycle c.edges from c.point c.named (subst (λ p. IsWalk p c.edges c.point) (sym at) c.closed) in
      let b : None ≡ Some all.0 = sym none ∙ all.1 in
      (let bad : ⊥ = cc in bad)

  -- Otherwise the cycle is accepted exactly if it closes.
  pub closed : (cycle : List CycleEdge) (d n : CycleEdge) (e : Edge) (from to : Reached) → 1 ≤ length cycle → length cycle ≤ 32 → n ≡ get_or cycle 0 d
      → edge_at query place row n ≡ Some e
      → from ≡ record { at = e.left; sum = pos 0 } → follow query place row from cycle ≡ Some to
      → ((to.at ≡ e.left) × (to.sum <ℤ pos 0)) ↔ IsNegativeCycle query place row cycle
  closed cycle d n e from to some few is h f done = (one, two)
    where
      start : from.at ≡ e.left
      start = ap (λ (x : Reached). x.at) f

      nothing : from.sum ≡ pos 0
      nothing = ap (λ (x : Reached). x.sum) f

      one : (to.at ≡ e.left) × (to.sum <ℤ pos 0) → IsNegativeCycle query place row cycle
      one k =
          let all = follow_sound cycle from to done in
          let a = all.3 in
          let b = nothing in
          let d = k.1 in
          record {
            edges = all.0;
            named = all.1;
            not_empty = some;
            few = few;
            point = e.left;
            closed = subst (λ p. IsWalk p all.0 e.left) start (subst (IsWalk from.at all.0) k.0 all.2);
            negative = omega (arith, ints, a, b, d);
          }

      two : IsNegativeCycle query place row cycle → (to.at ≡ e.left) × (to.sum <ℤ pos 0)
      two c =
          let left = first_left cycle d n e some is h c in
          let at : from.at ≡ c.point = start ∙ left in
          let all = follow_complete cycle c.edges from c.point c.named (subst (λ p. IsWalk p c.edges c.point) (sym at) c.closed) in
          let same : to ≡ all.0 = (let g : Some to ≡ Some all.0 = sym done ∙ all.1 in cc) in
          let a = all.3 in
          let b = nothing in
          let d = c.negative in
          let s : to.sum ≡ all.0.sum = ap (λ (x : Reached). x.sum) same in
          (ap (λ (x : Reached). x.at) same ∙ all.2 ∙ sym left, omega (arith, ints, a, b, d, s))

pub never : (P : Type 0) → (P → ⊥) → IsTrue false ↔ P
never P h = ((λ e. let b : ⊥ = (let t : false ≡ true = e in cc) in absurd b), (λ p. absurd (h p)))

pub through : (b : Bool) (P Q : Type 0) → (IsTrue b ↔ P) → (P ↔ Q) → IsTrue b ↔ Q
through b P Q h k = ((λ e. k.0 (h.0 e)), (λ q. h.1 (k.1 q)))
