-- Lemmas about the pass over all nodes that copies the references.
use Rattle.std.proofs.Common.{◌≡◌, ℕ, ◌+◌, ◌<◌, ◌≤◌, Bool, true, false, cond, List, [], ◌∷◌, ◌++◌, length, map, take, drop, sym, ap, ◌∙◌, arith, append_assoc}
use Rattle.std.specs.List.{filter, count_by}
use Rattle.std.proofs.lemmas.Bool.{cond-true, cond-false}
use Rattle.std.proofs.lemmas.List.{append-nil, map-append, take_all}
use Rattle.std.proofs.lemmas.List.Elements.{filter_more}
use Rattle.std.proofs.lemmas.List.Sorted.{IsPermutation-refl}
use Rattle.std.proofs.lemmas.List.Sums.{sum_by-drop_more}
use Rattle.mm_value.specs.declared.row_ref.RowRef.{RowRef}
use Rattle.mlhash.specs.declared.node.Node.{Node}
use Rattle.mlhash.specs.Bag.{all_refs, AppendsInSomeOrder}
use Rattle.mlhash.specs.Pairs.{blank, is_live, node_at}
use Rattle.mlhash.specs.Table.{entries}
use Rattle.mlhash.proofs.BagLemmas.{all_refs-entries}

-- The references of the nodes visited so far are copied, and there is capacity for the others.
pub record IsCopying (ns : List Node) (i : ℕ) (old out : List RowRef) (len capacity : ℕ) : Type 0 where
  pub so_far : out ≡ old ++ map (λ n. n.reference) (filter is_live (take i ns))
  pub room : len + count_by is_live (drop i ns) ≤ capacity

pub IsCopying-start : (ns xs : List Node) (old out : List RowRef) (n len capacity : ℕ) → ns ≡ xs → count_by is_live xs ≡ n → out ≡ old
    → len + n ≤ capacity → IsCopying ns 0 old out len capacity
IsCopying-start ns xs old out n len capacity same counted is fits =
    record { so_far = is ∙ sym (append-nil old); room = omega (arith, ap (count_by is_live) same, counted, fits) }

pub copying_room : (ns : List Node) (i : ℕ) (old out : List RowRef) (len capacity : ℕ) → i < length ns → is_live (node_at ns i) ≡ true
    → IsCopying ns i old out len capacity → len < capacity
copying_room ns i old out len capacity below live s =
    let e = sum_by-drop_more (λ (n : Node). cond (is_live n) 1 0) ns i blank below in
    let one : cond (is_live (node_at ns i)) 1 0 ≡ 1 = ap (λ (b : Bool). let x : ℕ = cond b 1 0 in x) live in
    omega (arith, e, one, s.room)

pub IsCopying-take : (ns : List Node) (i : ℕ) (old out : List RowRef) (len capacity : ℕ) (r : RowRef) → i < length ns → is_live (node_at ns i) ≡ true
    → r ≡ (node_at ns i).reference → IsCopying ns i old out len capacity → IsCopying ns (i + 1) old (out ++ r ∷ []) (len + 1) capacity
IsCopying-take ns i old out len capacity r below live row s =
    let f : filter is_live (take (i + 1) ns) ≡ filter is_live (take i ns) ++ node_at ns i ∷ [] = filter_more is_live ns i blank below
    ∙ ap (λ xs. filter is_live (take i ns) ++ xs) (cond-true _ (node_at ns i ∷ []) [] live) in
    let e = sum_by-drop_more (λ (n : Node). cond (is_live n) 1 0) ns i blank below in
    let one : cond (is_live (node_at ns i)) 1 0 ≡ 1 = ap (λ (b : Bool). let x : ℕ = cond b 1 0 in x) live in
    record {
      so_far = ap (λ xs. xs ++ r ∷ []) s.so_far ∙ append_assoc old (map (λ n. n.reference) (filter is_live (take i ns))) (r ∷ [])
          ∙ ap (λ x. old ++ (map (λ n. n.reference) (filter is_live (take i ns)) ++ x ∷ [])) row ∙ ap (λ xs. old ++ xs)
          (sym (ap (map (λ n. n.reference)) f ∙ map-append (λ n. n.reference) (filter is_live (take i ns)) (node_at ns i ∷ [])));
      room = omega (arith, e, one, s.room);
    }

pub IsCopying-skip : (ns : List Node) (i : ℕ) (old out : List RowRef) (len capacity : ℕ) → i < length ns → is_live (node_at ns i) ≡ false
    → IsCopying ns i old out len capacity → IsCopying ns (i + 1) old out len capacity
IsCopying-skip ns i old out len capacity below dead s =
    let f : filter is_live (take (i + 1) ns) ≡ filter is_live (take i ns) = filter_more is_live ns i blank below
    ∙ ap (λ xs. filter is_live (take i ns) ++ xs) (cond-false _ (node_at ns i ∷ []) [] dead) ∙ append-nil (filter is_live (take i ns)) in
    let e = sum_by-drop_more (λ (n : Node). cond (is_live n) 1 0) ns i blank below in
    let none : cond (is_live (node_at ns i)) 1 0 ≡ 0 = ap (λ (b : Bool). let x : ℕ = cond b 1 0 in x) dead in
    record {
      so_far = s.so_far ∙ ap (λ xs. old ++ map (λ n. n.reference) xs) (sym f);
      room = omega (arith, e, none, s.room);
    }

pub copied : (ns xs : List Node) (i : ℕ) (old out : List RowRef) (len capacity : ℕ) (es : List (ℕ × RowRef)) → length ns ≤ i → ns ≡ xs
    → entries xs ≡ es → IsCopying ns i old out len capacity → AppendsInSomeOrder old out (all_refs es)
copied ns xs i old out len capacity es done same bag s = record {
  behind = all_refs es;
  appends = s.so_far ∙ ap (λ ys. old ++ map (λ n. n.reference) (filter is_live ys)) (take_all i ns done ∙ same) ∙ ap (λ rs. old ++ rs)
      (sym (all_refs-entries xs) ∙ ap all_refs bag);
  same_bag = IsPermutation-refl (all_refs es);
}

pub copying_along : (ns : List Node) (i : ℕ) (old out out' : List RowRef) (len len' capacity capacity' : ℕ) → out' ≡ out → len' ≡ len
    → capacity' ≡ capacity → IsCopying ns i old out len capacity → IsCopying ns i old out' len' capacity'
copying_along ns i old out out' len len' capacity capacity' e f g s =
    record { so_far = e ∙ s.so_far; room = omega (arith, f, g, s.room) }
