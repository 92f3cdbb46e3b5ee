-- A row with an accepted cycle is irrelevant.
use Rattle.std.proofs.Common.{◌≡◌, ℕ, suc, zero, ◌<◌, Bool, true, false, cond, ◌&&◌, ◌==◌, not, inl, inr, ℤ, pos, ◌+ℤ◌, ◌-ℤ◌, List, [], ◌∷◌, Option}
use Rattle.std.proofs.Common.{Some, None, get_or, length, map, refl, sym, ap, subst, ◌∙◌, arith}
use Rattle.std.specs.Prelude.{nat_lt, slice_get}
use Rattle.std.specs.List.{AllByRecursion, list_all, list_any}
use Rattle.std.specs.Option.{option_and_then, option_map, option_map_or}
use Rattle.std.specs.Ordering.{is_eq, is_ge, is_gt, is_le, is_lt, ordering_reverse}
use Rattle.std.specs.declared.cmp.Ordering.{Ordering}
use Rattle.std.specs.declared.cmp.Ordering.TheVariants as order
use Rattle.std.proofs.lemmas.Bool.{ltb-true}
use Rattle.std.proofs.lemmas.Int.{ints}
use Rattle.std.proofs.lemmas.Option.{slice_get-get_or}
use Rattle.mm_value.specs.Order.{value_cmp}
use Rattle.mm_value.specs.declared.values.Value.{Value}
use Rattle.mm_value.specs.declared.values.Value.TheVariants.{Int, Text}
use Rattle.mm_value.proofs.Orders.{value_cmp_total}
use Rattle.mm_query.specs.Atoms.{holds, holds_of, operand_of, shifted, stands, value_in}
use Rattle.mm_query.specs.Queries.{fits, value_at}
use Rattle.mm_query.specs.declared.atom.Atom.{Atom}
use Rattle.mm_query.specs.declared.atom.Comparison.{Comparison}
use Rattle.mm_query.specs.declared.atom.Comparison.TheVariants.{Equal, Less, LessOrEqual, Greater, GreaterOrEqual}
use Rattle.mm_query.specs.declared.atom.Operand.{Operand}
use Rattle.mm_query.specs.declared.atom.Operand.TheVariants.{Literal, Column, Shifted}
use Rattle.mm_query.specs.declared.bound_query.BoundQuery.{BoundQuery}
use Rattle.mm_query.specs.declared.bound_query.FieldPlace.{FieldPlace}
use Rattle.mm_relevance.specs.declared.cycle.CycleEdge.{CycleEdge}
use Rattle.mm_relevance.specs.declared.edge.Edge.{Edge}
use Rattle.mm_relevance.specs.declared.term.Point.{Point}
use Rattle.mm_relevance.specs.declared.term.Point.TheVariants.{Zero, Column as At}
use Rattle.mm_relevance.specs.declared.term.Term.{Term}
use Rattle.mm_relevance.specs.Relevance.{IsAccepted, IsCombinationWith, IsCyclic, IsIrrelevant, IsNegativeCycle, IsWalk, edge_at, edge_between, edge_of}
use Rattle.mm_relevance.specs.Relevance.{fails_on_texts, field_term, known, lower_edge, moved, number_term, operand_term, shifts_text, total}
use Rattle.mm_query.specs.Additions.{is_text}
use Rattle.mm_relevance.specs.Relevance.{upper_edge}
use Rattle.mm_relevance.proofs.Bounds.{IsPlain, UpTo, at_most_says, below_says, never_below_itself, up_to_itself, up_to_on}
use Rattle.mm_relevance.proofs.Points.{and_true, same_number}
use Rattle.mm_query.proofs.Within.{neither}

-- ---- Lists

pub at_or_none : (rows : List (List Value)) (i : ℕ) → get_or (map Some rows) i None ≡ slice_get rows i
at_or_none [] i = refl
at_or_none (row ∷ rows) zero = refl
at_or_none (row ∷ rows) (suc i) = at_or_none rows i

all_get : (p : Atom FieldPlace → Bool) (atoms : List (Atom FieldPlace)) (i : ℕ) (a : Atom FieldPlace) → list_all p atoms ≡ true → slice_get atoms i ≡ Some a
    → p a ≡ true
all_get p [] i a h k = absurd (let b : ⊥ = cc in b)
all_get p (x ∷ atoms) zero a h k = let same : x ≡ a = cc in ap p (sym same) ∙ (and_true (p x) (list_all p atoms) h).0
all_get p (x ∷ atoms) (suc i) a h k = all_get p atoms i a (and_true (p x) (list_all p atoms) h).1 k

any_get : (p : Atom FieldPlace → Bool) (atoms : List (Atom FieldPlace)) (i : ℕ) (a : Atom FieldPlace) → list_any p atoms ≡ false → slice_get atoms i ≡ Some a
    → p a ≡ false
any_get p [] i a h k = absurd (let b : ⊥ = cc in b)
any_get p (x ∷ atoms) zero a h k = let same : x ≡ a = cc in ap p (sym same) ∙ (neither (p x) (list_any p atoms) h).0
any_get p (x ∷ atoms) (suc i) a h k = any_get p atoms i a (neither (p x) (list_any p atoms) h).1 k

-- ---- The values of terms

module _ (rows : List (List Value)) where
  abbrev pub point_value : Point → Value
  point_value Zero = Int (pos 0)
  point_value (At field) = value_in field.column (get_or rows field.place [])

  abbrev term_value : Term → Value
  term_value term = shifted term.offset (point_value term.point)

  -- The term has this value, and no number is added to a text.
  abbrev StandsFor : Option Value → Term → Type 0
  StandsFor value term = (value ≡ Some (term_value term)) × IsPlain (point_value term.point) term.offset

  number_stands : (v : Value) (t : Term) → number_term v ≡ Some t → StandsFor (Some v) t
  number_stands (Int n) t h =
      let made : Term = record { point = Zero; offset = n } in
      let same : made ≡ t = cc in
      subst (StandsFor (Some (Int n))) same (ap (λ z. Some (Int z)) (let e : n ≡ pos 0 +ℤ n = omega (arith, ints) in e), tt)
  number_stands (Text text) t h = absurd (let b : ⊥ = cc in b)

  unmoved : (v : Value) → v ≡ shifted (pos 0) v
  unmoved (Int n) = ap Int (let e : n ≡ n +ℤ pos 0 = omega (arith, ints) in e)
  unmoved (Text text) = refl

  plain_zero : (v : Value) → IsPlain v (pos 0)
  plain_zero (Int n) = tt
  plain_zero (Text text) = refl

  moved_twice : (v : Value) (a b : ℤ) → shifted b (shifted a v) ≡ shifted (a +ℤ b) v
  moved_twice (Int n) a b = ap Int (let e : (n +ℤ a) +ℤ b ≡ n +ℤ (a +ℤ b) = omega (arith, ints) in e)
  moved_twice (Text text) a b = refl

  module _ (query : BoundQuery) (place : ℕ) (row : List Value) (with : IsCombinationWith query place row rows) where
    pub own_value : (f : FieldPlace) → f.place ≡ place → value_at (map Some rows) f ≡ Some (value_in f.column row)
    own_value f is = ap (option_map (value_in f.column)) (ap (λ p. get_or (map Some rows) p None) is ∙ at_or_none rows place ∙ with.has_row)

    pub other_value : (f : FieldPlace) → f.place < length rows → value_at (map Some rows) f ≡ Some (point_value (At f))
    other_value f inside = ap (option_map (value_in f.column)) (at_or_none rows f.place ∙ slice_get-get_or rows f.place [] inside)

    other_stands : (f : FieldPlace) (t : Term) (there : Bool) → (there ≡ true → f.place < length query.from)
        → cond there (Some (record { point = At f; offset = pos 0 })) None ≡ Some t → StandsFor (value_at (map Some rows) f) t
    other_stands f t true inside h =
        let made : Term = record { point = At f; offset = pos 0 } in
        let same : made ≡ t = cc in
        let long = with.complete in
        let within = inside refl in
        subst (StandsFor (value_at (map Some rows) f)) same
        (other_value f (omega (arith, long, within)) ∙ ap Some (unmoved (point_value (At f))), plain_zero (point_value (At f)))
    other_stands f t false inside h = absurd (let b : ⊥ = cc in b)

    field_either : (f : FieldPlace) (t : Term) (own : Bool) → (own ≡ true → f.place ≡ place)
        → cond own (number_term (value_in f.column row)) (cond (nat_lt f.place (length query.from)) (Some (record { point = At f; offset = pos 0 })) None)
        ≡ Some t
        → StandsFor (value_at (map Some rows) f) t
    field_either f t true is h = subst (λ v. StandsFor v t) (sym (own_value f (is refl))) (number_stands (value_in f.column row) t h)
    field_either f t false is h = other_stands f t (nat_lt f.place (length query.from)) (ltb-true f.place (length query.from)) h

    field_stands : (f : FieldPlace) (t : Term) → field_term query place row f ≡ Some t → StandsFor (value_at (map Some rows) f) t
    field_stands f t h = field_either f t (f.place == place) (same_number f.place place) h

    moved_stands : (f : FieldPlace) (by : ℤ) (t : Term) (o : Option Term) → field_term query place row f ≡ o → is_text (value_at (map Some rows) f) ≡ false
        → option_map (moved by) o ≡ Some t → StandsFor (option_map (shifted by) (value_at (map Some rows) f)) t
    moved_stands f by t None is h k = absurd (let b : ⊥ = cc in b)
    moved_stands f by t (Some u) is h k =
        let same : moved by u ≡ t = cc in
        let s = field_stands f u is in
        subst (StandsFor (option_map (shifted by) (value_at (map Some rows) f))) same (
          ap (option_map (shifted by)) s.0 ∙ ap Some (moved_twice (point_value u.point) u.offset by),
          plain (point_value u.point) u.offset (ap is_text (sym s.0) ∙ h),
        )
      where
        plain : (v : Value) (offset : ℤ) → is_text (Some (shifted offset v)) ≡ false → IsPlain v (offset +ℤ by)
        plain (Int n) offset h = tt
        plain (Text text) offset h = absurd (let b : ⊥ = cc in b)

    operand_stands : (o : Operand FieldPlace) (t : Term) → shifts_text (map Some rows) o ≡ false → operand_term query place row o ≡ Some t
        → StandsFor (operand_of (value_at (map Some rows)) o) t
    operand_stands (Literal v) t plain h = number_stands v t h
    operand_stands (Column f) t plain h = field_stands f t h
    operand_stands (Shifted f by) t plain h = moved_stands f by t (field_term query place row f) refl plain h

    -- ---- The meaning of edges

    abbrev Says : Edge → Type 0
    Says e = UpTo (point_value e.left) (point_value e.right) e.cost

    said : (r e : Edge) → Some r ≡ Some e → Says r → Says e
    said r e h k = let same : r ≡ e = cc in subst Says same k

    up : (o : Ordering) → is_le o ≡ true → is_gt o ≡ false
    up order.Less h = refl
    up order.Equal h = refl
    up order.Greater h = absurd (let b : ⊥ = cc in b)

    tied : (o : Ordering) → is_eq o ≡ true → is_gt o ≡ false
    tied order.Less h = absurd (let b : ⊥ = cc in b)
    tied order.Equal h = refl
    tied order.Greater h = absurd (let b : ⊥ = cc in b)

    down : (o p : Ordering) → p ≡ ordering_reverse o → is_ge o ≡ true → is_gt p ≡ false
    down order.Less p is h = absurd (let b : ⊥ = cc in b)
    down order.Equal p is h = ap is_gt is
    down order.Greater p is h = ap is_gt is

    tied_down : (o p : Ordering) → p ≡ ordering_reverse o → is_eq o ≡ true → is_gt p ≡ false
    tied_down order.Less p is h = absurd (let b : ⊥ = cc in b)
    tied_down order.Equal p is h = ap is_gt is
    tied_down order.Greater p is h = absurd (let b : ⊥ = cc in b)

    above : (o p : Ordering) → p ≡ ordering_reverse o → is_gt o ≡ true → is_lt p ≡ true
    above order.Less p is h = absurd (let b : ⊥ = cc in b)
    above order.Equal p is h = absurd (let b : ⊥ = cc in b)
    above order.Greater p is h = ap is_lt is

    module _ (name : CycleEdge) (a b : Term) (e : Edge) (plain_a : IsPlain (point_value a.point) a.offset) (plain_b : IsPlain (point_value b.point) b.offset)
      where
        turned : value_cmp (term_value b) (term_value a) ≡ ordering_reverse (value_cmp (term_value a) (term_value b))
        turned = value_cmp_total.antisymm (term_value b) (term_value a)

        up_to_b : is_gt (value_cmp (term_value a) (term_value b)) ≡ false → UpTo (point_value a.point) (point_value b.point) (b.offset -ℤ a.offset)
        up_to_b h = at_most_says (point_value a.point) (point_value b.point) a.offset b.offset plain_a plain_b h

        up_to_a : is_gt (value_cmp (term_value b) (term_value a)) ≡ false → UpTo (point_value b.point) (point_value a.point) (a.offset -ℤ b.offset)
        up_to_a h = at_most_says (point_value b.point) (point_value a.point) b.offset a.offset plain_b plain_a h

        lower_says : (comparison : Comparison) → stands comparison (value_cmp (term_value a) (term_value b)) ≡ true → lower_edge comparison name a b ≡ Some e
            → Says e
        lower_says Equal h k = said _ e k (up_to_b (tied (value_cmp (term_value a) (term_value b)) h))
        lower_says Less h k = said _ e k (below_says (point_value a.point) (point_value b.point) a.offset b.offset h)
        lower_says LessOrEqual h k = said _ e k (up_to_b (up (value_cmp (term_value a) (term_value b)) h))
        lower_says Greater h k = absurd (let b : ⊥ = cc in b)
        lower_says GreaterOrEqual h k = absurd (let b : ⊥ = cc in b)

        upper_says : (comparison : Comparison) → stands comparison (value_cmp (term_value a) (term_value b)) ≡ true → upper_edge comparison name a b ≡ Some e
            → Says e
        upper_says Equal h k = said _ e k (up_to_a (tied_down (value_cmp (term_value a) (term_value b)) _ turned h))
        upper_says Less h k = absurd (let b : ⊥ = cc in b)
        upper_says LessOrEqual h k = absurd (let b : ⊥ = cc in b)
        upper_says Greater h k =
            said _ e k (below_says (point_value b.point) (point_value a.point) b.offset a.offset (above (value_cmp (term_value a) (term_value b)) _ turned h))
        upper_says GreaterOrEqual h k = said _ e k (up_to_a (down (value_cmp (term_value a) (term_value b)) _ turned h))

        either_says : (upper : Bool) (comparison : Comparison) → stands comparison (value_cmp (term_value a) (term_value b)) ≡ true
            → cond upper (upper_edge comparison name a b) (lower_edge comparison name a b) ≡ Some e → Says e
        either_says true comparison h k = upper_says comparison h k
        either_says false comparison h k = lower_says comparison h k

    between_says : (comparison : Comparison) (name : CycleEdge) (v w : Option Value) (s t : Option Term) (e : Edge)
        → ((a : Term) → s ≡ Some a → StandsFor v a) → ((b : Term) → t ≡ Some b → StandsFor w b)
        → holds_of comparison v w ≡ true → edge_between comparison name s t ≡ Some e → Says e
    between_says comparison name v w (Some a) (Some b) e f g h k =
        let left = f a refl in
        let right = g b refl in
        either_says name a b e left.1 right.1 name.upper comparison ((λ i. holds_of comparison (sym left.0 i) (sym right.0 i)) ∙ h) k
    between_says comparison name v w (Some a) None e f g h k = absurd (let b : ⊥ = cc in b)
    between_says comparison name v w None t e f g h k = absurd (let b : ⊥ = cc in b)

    atom_says : (name : CycleEdge) (a : Atom FieldPlace) (e : Edge) → shifts_text (map Some rows) a.right ≡ false → holds (value_at (map Some rows)) a ≡ true
        → edge_of query place row name a ≡ Some e → Says e
    atom_says name a e plain h k =
        between_says a.comparison name (value_at (map Some rows) a.left) (operand_of (value_at (map Some rows)) a.right)
        (field_term query place row a.left) (operand_term query place row a.right) e (field_stands a.left) (λ t. operand_stands a.right t plain) h k

    named_says : fits query rows ≡ true → (name : CycleEdge) (e : Edge) (o : Option (Atom FieldPlace)) → slice_get query.atoms name.conjunct ≡ o
        → option_and_then (edge_of query place row name) o ≡ Some e → Says e
    named_says fit name e None is k = absurd (let b : ⊥ = cc in b)
    named_says fit name e (Some a) is k =
        atom_says name a e (any_get (λ (x : Atom FieldPlace). shifts_text (map Some rows) x.right) query.atoms name.conjunct a with.no_text_is_shifted is)
        (all_get (holds (value_at (map Some rows))) query.atoms name.conjunct a fit is) k

    -- ---- Walks

    all_say : fits query rows ≡ true → (cycle : List CycleEdge) (es : List Edge) → map (edge_at query place row) cycle ≡ map Some es → AllByRecursion Says es
    all_say fit [] [] h = tt
    all_say fit [] (e ∷ es) h = absurd (let b : ⊥ = cc in b)
    all_say fit (n ∷ cycle) [] h = tt
    all_say fit (n ∷ cycle) (e ∷ es) h = (
      named_says fit n e (slice_get query.atoms n.conjunct) refl (let k : edge_at query place row n ≡ Some e = cc in k),
      all_say fit cycle es (let k : map (edge_at query place row) cycle ≡ map Some es = cc in k),
    )

    walk_says : (es : List Edge) (p q : Point) → IsWalk p es q → AllByRecursion Says es → UpTo (point_value p) (point_value q) (total es)
    walk_says [] p q h all = subst (λ r. UpTo (point_value p) (point_value r) (pos 0)) h (up_to_itself (point_value p))
    walk_says (e ∷ es) p q h all =
        subst (λ r. UpTo (point_value r) (point_value q) (e.cost +ℤ total es)) h.0
        (up_to_on (point_value e.left) (point_value e.right) (point_value q) e.cost (total es) all.0 (walk_says es e.right q h.1 all.1))

    no_fit_on_cycle : (cycle : List CycleEdge) → IsNegativeCycle query place row cycle → fits query rows ≡ true → ⊥
    no_fit_on_cycle cycle c fit =
        never_below_itself (point_value c.point) (total c.edges) (walk_says c.edges c.point c.point c.closed (all_say fit cycle c.edges c.named)) c.negative

    -- ---- Texts

    known_if : (f : FieldPlace) (v : Value) (own : Bool) → (own ≡ true → f.place ≡ place) → cond own (Some (value_in f.column row)) None ≡ Some v
        → value_at (map Some rows) f ≡ Some v
    known_if f v true is h = own_value f (is refl) ∙ h
    known_if f v false is h = absurd (let b : ⊥ = cc in b)

    known_value : (f : FieldPlace) (v : Value) → known place row f ≡ Some v → value_at (map Some rows) f ≡ Some v
    known_value f v h = known_if f v (f.place == place) (same_number f.place place) h

    known_shifted : (f : FieldPlace) (by : ℤ) (v : Value) (o : Option Value) → known place row f ≡ o → option_map (shifted by) o ≡ Some v
        → option_map (shifted by) (value_at (map Some rows) f) ≡ Some v
    known_shifted f by v None is h = absurd (let b : ⊥ = cc in b)
    known_shifted f by v (Some u) is h = ap (option_map (shifted by)) (known_value f u is) ∙ h

    known_operand : (o : Operand FieldPlace) (v : Value) → operand_of (known place row) o ≡ Some v → operand_of (value_at (map Some rows)) o ≡ Some v
    known_operand (Literal u) v h = h
    known_operand (Column f) v h = known_value f v h
    known_operand (Shifted f by) v h = known_shifted f by v (known place row f) refl h

    false_of : (comparison : Comparison) (v w : Option Value) (x y : Option Value) → ((u : Value) → v ≡ Some u → x ≡ Some u)
        → ((u : Value) → w ≡ Some u → y ≡ Some u)
        → (is_text v && (is_text w && not (holds_of comparison v w))) ≡ true → holds_of comparison x y ≡ true → ⊥
    false_of comparison (Some u) (Some t) x y f g h k =
        go (is_text (Some u)) (is_text (Some t)) (holds_of comparison (Some u) (Some t)) h
        ((λ i. holds_of comparison (sym (f u refl) i) (sym (g t refl) i)) ∙ k)
      where
        go : (a b c : Bool) → (a && (b && not c)) ≡ true → c ≡ true → ⊥
        go true true true h k = (let b : ⊥ = cc in b)
        go true true false h k = (let b : ⊥ = cc in b)
        go true false c h k = (let b : ⊥ = cc in b)
        go false b c h k = (let b : ⊥ = cc in b)
    false_of comparison (Some (Int n)) None x y f g h k = (let b : ⊥ = cc in b)
    false_of comparison (Some (Text n)) None x y f g h k = (let b : ⊥ = cc in b)
    false_of comparison None w x y f g h k = (let b : ⊥ = cc in b)

    atom_false : (a : Atom FieldPlace) → fails_on_texts place row a ≡ true → holds (value_at (map Some rows)) a ≡ true → ⊥
    atom_false a h k =
        false_of a.comparison (known place row a.left) (operand_of (known place row) a.right) (value_at (map Some rows) a.left)
        (operand_of (value_at (map Some rows)) a.right)
        (known_value a.left) (known_operand a.right) h k

    no_fit_by : (i : ℕ) (o : Option (Atom FieldPlace)) → slice_get query.atoms i ≡ o → option_map_or (fails_on_texts place row) o false ≡ true
        → fits query rows ≡ true → ⊥
    no_fit_by i None is h fit = (let b : ⊥ = cc in b)
    no_fit_by i (Some a) is h fit = atom_false a h (all_get (holds (value_at (map Some rows))) query.atoms i a fit is)

    no_fit : (cycle : List CycleEdge) → IsAccepted query place row cycle → fits query rows ≡ true → ⊥
    no_fit cycle (inl c) fit = no_fit_on_cycle cycle c fit
    no_fit cycle (inr f) fit = no_fit_by f.conjunct (slice_get query.atoms f.conjunct) refl f.fails fit

-- ---- The law

not_true : (b : Bool) → (b ≡ true → ⊥) → b ≡ false
not_true true h = absurd (h refl)
not_true false h = refl

pub irrelevant_by : (query : BoundQuery) (place : ℕ) (row : List Value) → IsCyclic query place row → IsIrrelevant query place row
irrelevant_by query place row (cycle, c) rows with = not_true (fits query rows) (no_fit rows query place row with cycle c)
