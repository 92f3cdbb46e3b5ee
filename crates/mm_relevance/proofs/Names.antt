-- The edges of a query and their names, and closed walks over them.
use Rattle.std.proofs.Common.{◌≡◌, ℕ, suc, zero, ◌+◌, ◌<◌, Bool, true, false, cond, ◌⊎◌, inl, inr, List, [], ◌∷◌, ◌++◌, Option, Some, None, IfSome}
use Rattle.std.proofs.Common.{append_assoc, drop, drop-cons, length, map, get_or, refl, sym, ap, subst, ◌∙◌, arith}
use Rattle.std.specs.Prelude.{slice_get}
use Rattle.std.specs.List.{All, AllByRecursion, Contains}
use Rattle.std.specs.Option.{option_and_then}
use Rattle.std.proofs.lemmas.List.Elements.{All-append, All-nil, All-cons, All-from_recursion, recursion_from_All}
use Rattle.mm_value.specs.declared.values.Value.{Value}
use Rattle.mm_query.specs.declared.atom.Atom.{Atom}
use Rattle.mm_query.specs.declared.atom.Comparison.{Comparison}
use Rattle.mm_query.specs.declared.atom.Comparison.TheVariants.{Equal, Less, LessOrEqual, Greater, GreaterOrEqual}
use Rattle.mm_query.specs.declared.bound_query.BoundQuery.{BoundQuery}
use Rattle.mm_query.specs.declared.bound_query.FieldPlace.{FieldPlace}
use Rattle.mm_relevance.specs.declared.term.Term.{Term}
use Rattle.mm_relevance.specs.declared.cycle.CycleEdge.{CycleEdge}
use Rattle.mm_relevance.specs.declared.edge.Edge.{Edge}
use Rattle.mm_relevance.specs.Relevance.{IsNegativeCycle, edge_at, edge_between, edge_of, field_term, lower_edge, operand_term, upper_edge}
use Rattle.mm_relevance.specs.Walks.{IsNear, IsNegativeWalk, edges, edges_from, name_of, option_list}

-- ---- all edges

at_name : (r : Edge) (name : CycleEdge) (e : Edge) → r.name ≡ name → Some r ≡ Some e → e.name ≡ name
at_name r name e n h = let same : r ≡ e = cc in ap (λ (x : Edge). x.name) (sym same) ∙ n

name_lower : (comparison : Comparison) (name : CycleEdge) (a b : Term) (e : Edge) → lower_edge comparison name a b ≡ Some e → e.name ≡ name
name_lower Equal name a b e h = at_name _ name e refl h
name_lower Less name a b e h = at_name _ name e refl h
name_lower LessOrEqual name a b e h = at_name _ name e refl h
name_lower Greater name a b e h = absurd (let b : ⊥ = cc in b)
name_lower GreaterOrEqual name a b e h = absurd (let b : ⊥ = cc in b)

name_upper : (comparison : Comparison) (name : CycleEdge) (a b : Term) (e : Edge) → upper_edge comparison name a b ≡ Some e → e.name ≡ name
name_upper Equal name a b e h = at_name _ name e refl h
name_upper Less name a b e h = absurd (let b : ⊥ = cc in b)
name_upper LessOrEqual name a b e h = absurd (let b : ⊥ = cc in b)
name_upper Greater name a b e h = at_name _ name e refl h
name_upper GreaterOrEqual name a b e h = at_name _ name e refl h

name_either : (upper : Bool) (comparison : Comparison) (name : CycleEdge) (a b : Term) (e : Edge)
    → cond upper (upper_edge comparison name a b) (lower_edge comparison name a b) ≡ Some e → e.name ≡ name
name_either true comparison name a b e h = name_upper comparison name a b e h
name_either false comparison name a b e h = name_lower comparison name a b e h

name_between : (comparison : Comparison) (name : CycleEdge) (a b : Option Term) (e : Edge) → edge_between comparison name a b ≡ Some e → e.name ≡ name
name_between comparison name (Some a) (Some b) e h = name_either name.upper comparison name a b e h
name_between comparison name (Some a) None e h = absurd (let b : ⊥ = cc in b)
name_between comparison name None b e h = absurd (let b : ⊥ = cc in b)

regroup : (o a b f : List Edge) → ((o ++ a) ++ b) ++ f ≡ o ++ ((a ++ b) ++ f)
regroup o a b f = simp append_assoc

module _ (query : BoundQuery) (place : ℕ) (row : List Value) where
  abbrev edge_of_some : Option (Atom FieldPlace) → CycleEdge → Option Edge
  edge_of_some o name = option_and_then (edge_of query place row name) o

  name_edge : (a : Atom FieldPlace) (name : CycleEdge) (e : Edge) → edge_of query place row name a ≡ Some e → e.name ≡ name
  name_edge a name e h = name_between a.comparison name (field_term query place row a.left) (operand_term query place row a.right) e h

  -- An edge of the atoms, where the first has the number i.
  abbrev IsThere : ℕ → List (Atom FieldPlace) → Edge → Type 0
  IsThere i atoms e = (j : ℕ) × (e.name.conjunct ≡ i + j) × (edge_of_some (slice_get atoms j) e.name ≡ Some e)

  all_both : (P : Edge → Type 0) (xs ys : List Edge) → AllByRecursion P xs → AllByRecursion P ys → AllByRecursion P (xs ++ ys)
  all_both P [] ys h k = k
  all_both P (x ∷ xs) ys h k = (h.0, all_both P xs ys h.1 k)

  all_map : (P Q : Edge → Type 0) → ((e : Edge) → P e → Q e) → (xs : List Edge) → AllByRecursion P xs → AllByRecursion Q xs
  all_map P Q f [] h = tt
  all_map P Q f (x ∷ xs) h = (f x h.0, all_map P Q f xs h.1)

  all_option : (P : Edge → Type 0) (o : Option Edge) → ((e : Edge) → o ≡ Some e → P e) → AllByRecursion P (option_list o)
  all_option P None f = tt
  all_option P (Some e) f = (f e refl, tt)

  there_here : (i : ℕ) (upper : Bool) (a : Atom FieldPlace) (atoms : List (Atom FieldPlace)) (e : Edge) → edge_of query place row (name_of i upper) a ≡ Some e
      → IsThere i (a ∷ atoms) e
  there_here i upper a atoms e h =
      let n : e.name ≡ name_of i upper = name_edge a (name_of i upper) e h in
      (0, (let k = ap (λ (x : CycleEdge). x.conjunct) n in omega (arith, k)), ap (λ m. edge_of query place row m a) n ∙ h)

  there_later : (i : ℕ) (a : Atom FieldPlace) (atoms : List (Atom FieldPlace)) (e : Edge) → IsThere (i + 1) atoms e → IsThere i (a ∷ atoms) e
  there_later i a atoms e (j, n, h) = (suc j, (let k = n in omega arith), h)

  all_there : (i : ℕ) (atoms : List (Atom FieldPlace)) → AllByRecursion (IsThere i atoms) (edges_from query place row i atoms)
  all_there i [] = tt
  all_there i (a ∷ atoms) =
      all_both (IsThere i (a ∷ atoms)) (option_list (edge_of query place row (name_of i false) a) ++ option_list (edge_of query place row (name_of i true) a))
      (edges_from query place row (i + 1) atoms)
      (all_both (IsThere i (a ∷ atoms)) (option_list (edge_of query place row (name_of i false) a)) (option_list (edge_of query place row (name_of i true) a))
      (all_option _ (edge_of query place row (name_of i false) a) (there_here i false a atoms))
      (all_option _ (edge_of query place row (name_of i true) a) (there_here i true a atoms)))
      (all_map (IsThere (i + 1) atoms) (IsThere i (a ∷ atoms)) (there_later i a atoms) (edges_from query place row (i + 1) atoms) (all_there (i + 1) atoms))

  -- Each edge is the edge of its name.
  abbrev IsNamed : Edge → Type 0
  IsNamed e = edge_at query place row e.name ≡ Some e

  edges_named : AllByRecursion IsNamed (edges query place row)
  edges_named =
      all_map (IsThere 0 query.atoms) IsNamed
      (λ e t. (let same : e.name.conjunct ≡ t.0 = (let k = t.1 in omega arith) in ap (λ j. edge_of_some (slice_get query.atoms j) e.name) same ∙ t.2))
      (edges query place row) (all_there 0 query.atoms)

  -- One more atom.
  pub edges_more : (atoms : List (Atom FieldPlace)) (i : ℕ) (a : Atom FieldPlace) (out middle next all : List Edge) (lower upper : Option Edge)
      → i < length atoms → a ≡ get_or atoms i a → out ++ edges_from query place row i (drop i atoms) ≡ all
      → lower ≡ edge_of query place row (name_of i false) a → upper ≡ edge_of query place row (name_of i true) a
      → middle ≡ out ++ option_list lower → next ≡ middle ++ option_list upper
      → next ++ edges_from query place row (i + 1) (drop (i + 1) atoms) ≡ all
  edges_more atoms i a out middle next all lower upper inside at h l u m e =
      let same : suc i ≡ i + 1 = omega arith in
      let k : drop i atoms ≡ a ∷ drop (i + 1) atoms = drop-cons atoms i a inside ∙ (λ t. sym at t ∷ drop (same t) atoms) in
      let n : next ≡ (out ++ option_list (edge_of query place row (name_of i false) a)) ++ option_list (edge_of query place row (name_of i true) a) =
      e ∙ (λ t. (m ∙ ap (λ o. out ++ option_list o) l) t ++ option_list (u t)) in
      ap (λ l. l ++ edges_from query place row (i + 1) (drop (i + 1) atoms)) n
      ∙ regroup out (option_list (edge_of query place row (name_of i false) a)) (option_list (edge_of query place row (name_of i true) a))
      (edges_from query place row (i + 1) (drop (i + 1) atoms))
      ∙ ap (λ l. out ++ edges_from query place row i l) (sym k) ∙ h

  near_option : (o : Option Edge) → IfSome o IsNear → All IsNear (option_list o)
  near_option None h = All-nil IsNear
  near_option (Some e) h = All-cons IsNear e [] h (All-nil IsNear)

  pub near_more : (out next : List Edge) (o : Option Edge) → next ≡ out ++ option_list o → All IsNear out → IfSome o IsNear → All IsNear next
  near_more out next o is h k = subst (All IsNear) (sym is) (All-append IsNear out (option_list o) h (near_option o k))

  abbrev Among : List Edge → Edge → Type 0
  Among [] e = ⊥
  Among (x ∷ xs) e = (x ≡ e) ⊎ Among xs e

  among_left : (xs ys : List Edge) (e : Edge) → Among xs e → Among (xs ++ ys) e
  among_left [] ys e h = absurd h
  among_left (x ∷ xs) ys e (inl h) = inl h
  among_left (x ∷ xs) ys e (inr h) = inr (among_left xs ys e h)

  among_right : (xs ys : List Edge) (e : Edge) → Among ys e → Among (xs ++ ys) e
  among_right [] ys e h = h
  among_right (x ∷ xs) ys e h = inr (among_right xs ys e h)

  among_contains : (xs : List Edge) (e : Edge) → Among xs e → Contains xs e
  among_contains [] e h = absurd h
  among_contains (x ∷ xs) e (inl h) = (0, omega arith, h)
  among_contains (x ∷ xs) e (inr h) = let c = among_contains xs e h in (suc c.0, (let l = c.1 in omega arith), c.2)

  among_option : (o : Option Edge) (e : Edge) → o ≡ Some e → Among (option_list o) e
  among_option None e h = absurd (let b : ⊥ = cc in b)
  among_option (Some x) e h = inl (let k : x ≡ e = cc in k)

  among_here : (i : ℕ) (a : Atom FieldPlace) (upper : Bool) (e : Edge) → edge_of query place row (name_of i upper) a ≡ Some e
      → Among (option_list (edge_of query place row (name_of i false) a) ++ option_list (edge_of query place row (name_of i true) a)) e
  among_here i a false e h = among_left _ (option_list (edge_of query place row (name_of i true) a)) e
      (among_option (edge_of query place row (name_of i false) a) e h)
  among_here i a true e h = among_right (option_list (edge_of query place row (name_of i false) a)) _ e
      (among_option (edge_of query place row (name_of i true) a) e h)

  among_from : (i j : ℕ) (upper : Bool) (atoms : List (Atom FieldPlace)) (e : Edge) → edge_of_some (slice_get atoms j) (name_of (i + j) upper) ≡ Some e
      → Among (edges_from query place row i atoms) e
  among_from i j upper [] e h = absurd (let b : ⊥ = cc in b)
  among_from i zero upper (a ∷ atoms) e h =
      among_left (option_list (edge_of query place row (name_of i false) a) ++ option_list (edge_of query place row (name_of i true) a))
      (edges_from query place row (i + 1) atoms) e
      (among_here i a upper e (ap (λ k. edge_of query place row (name_of k upper) a) (let z : i ≡ i + 0 = omega arith in z) ∙ h))
  among_from i (suc j) upper (a ∷ atoms) e h =
      among_right (option_list (edge_of query place row (name_of i false) a) ++ option_list (edge_of query place row (name_of i true) a))
      (edges_from query place row (i + 1) atoms) e
      (among_from (i + 1) j upper atoms e (ap (λ k. edge_of_some (slice_get atoms j) (name_of k upper)) (let z : (i + 1) + j ≡ i + suc j = omega arith in z)
      ∙ h))

  -- The edge of each name is among the edges.
  contains_named : (name : CycleEdge) (e : Edge) → edge_at query place row name ≡ Some e → Contains (edges query place row) e
  contains_named name e h =
      among_contains (edges query place row) e
      (among_from 0 name.conjunct name.upper query.atoms e (ap (λ k. edge_of_some (slice_get query.atoms name.conjunct) (name_of k name.upper))
      (let z : 0 + name.conjunct ≡ name.conjunct = omega arith in z) ∙ h))

  -- ---- A result is a cycle, and every cycle has a result

  names_at : (walk : List Edge) → AllByRecursion IsNamed walk → map (edge_at query place row) (map (λ e. e.name) walk) ≡ map Some walk
  names_at [] h = refl
  names_at (e ∷ walk) h = let a = h.0 in let b = names_at walk h.1 in (λ i. a i ∷ b i)

  length_names : (walk : List Edge) → length (map (λ (e : Edge). e.name) walk) ≡ length walk
  length_names [] = refl
  length_names (e ∷ walk) = let h = length_names walk in omega (arith, h)

  at_contained : (P : Edge → Type 0) (es : List Edge) (e : Edge) → All P es → Contains es e → P e
  at_contained P es e all c = subst P c.2 (all c.0 e c.1)

  pub cycle_of : (es walk : List Edge) (names : List CycleEdge) → es ≡ edges query place row → IsNegativeWalk es walk → names ≡ map (λ e. e.name) walk
      → IsNegativeCycle query place row names
  cycle_of es walk names same c is =
      let all = All-from_recursion IsNamed (edges query place row) edges_named in
      let by = recursion_from_All (Contains es) walk c.among in
      let some = c.not_empty in
      let few = c.few in
      let long = ap length is ∙ length_names walk in
      record {
        edges = walk;
        named = ap (map (edge_at query place row)) is ∙ names_at walk
            (all_map (Contains es) IsNamed (λ e h. at_contained IsNamed es e (subst (All IsNamed) (sym same) all) h) walk by);
        not_empty = omega (arith, some, long);
        few = omega (arith, few, long);
        point = c.point;
        closed = c.closed;
        negative = c.negative;
      }

  all_contained : (cycle : List CycleEdge) (es : List Edge) → map (edge_at query place row) cycle ≡ map Some es
      → AllByRecursion (Contains (edges query place row)) es
  all_contained [] [] h = tt
  all_contained [] (e ∷ es) h = absurd (let b : ⊥ = cc in b)
  all_contained (n ∷ cycle) [] h = tt
  all_contained (n ∷ cycle) (e ∷ es) h = (
    contains_named n e (let k : edge_at query place row n ≡ Some e = cc in k),
    all_contained cycle es
        (let k : map (edge_at query place row) cycle ≡ map Some es = cc in k),
  )

  same_length : (cycle : List CycleEdge) (es : List Edge) → map (edge_at query place row) cycle ≡ map Some es → length es ≡ length cycle
  same_length [] [] h = refl
  same_length [] (e ∷ es) h = absurd (let b : ⊥ = cc in b)
  same_length (n ∷ cycle) [] h = absurd (let b : ⊥ = cc in b)
  same_length (n ∷ cycle) (e ∷ es) h = let k = same_length cycle es (let k : map (edge_at query place row) cycle ≡ map Some es = cc in k) in omega (arith, k)

  pub no_cycle : (es : List Edge) → es ≡ edges query place row → ((walk : List Edge) → IsNegativeWalk es walk → ⊥)
      → (cycle : List CycleEdge) → IsNegativeCycle query place row cycle → ⊥
  no_cycle es same never cycle c =
      let some = c.not_empty in
      let few = c.few in
      let long = same_length cycle c.edges c.named in
      never c.edges (record {
        point = c.point;
        closed = c.closed;
        among = subst (λ l. All (Contains l) c.edges) (sym same)
            (All-from_recursion (Contains (edges query place row)) c.edges (all_contained cycle c.edges c.named));
        not_empty = omega (arith, some, long);
        few = omega (arith, few, long);
        negative = c.negative;
      })
