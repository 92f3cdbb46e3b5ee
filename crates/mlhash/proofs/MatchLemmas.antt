-- Lemmas: the references of a hash along its bucket's chain are those of the multiset.
use Rattle.std.proofs.Common.{◌≡◌, ℕ, eqb, List, map, refl, sym, ap, ◌∙◌, subst}
use Rattle.std.specs.List.{filter}
use Rattle.std.specs.List.Sorted.{IsPermutation}
use Rattle.std.proofs.lemmas.Bool.{and_parts, eqb-true}
use Rattle.std.proofs.lemmas.List.Sorted.{IsPermutation-map}
use Rattle.mm_value.specs.declared.row_ref.RowRef.{RowRef}
use Rattle.mlhash.specs.declared.node.Node.{Node}
use Rattle.mlhash.specs.declared.place.Place.{Place}
use Rattle.mlhash.specs.Address.{bucket_of}
use Rattle.mlhash.specs.Bag.{refs_of}
use Rattle.mlhash.specs.Chain.{chain, refs_along}
use Rattle.mlhash.specs.Pairs.{node_at}
use Rattle.mlhash.specs.Table.{entries, IsBucket}
use Rattle.mlhash.proofs.BagLemmas.{is_match, filter_places, live_matches, refs_of-entries}
use Rattle.mlhash.proofs.ChainLemmas.{IsChain-set, below_linked}

pub refs_along-all : (ns : List Node) (p : Place) (head b hash : ℕ) → b ≡ bucket_of p hash → IsBucket ns p head b
    → IsPermutation (refs_along ns head hash) (refs_of hash (entries ns))
refs_along-all ns p head b hash b_is k =
    let is = chain ns head in
    let places : IsPermutation (filter (is_match hash) (map (node_at ns) is)) (filter (is_match hash) ns) = filter_places (is_match hash) refl is ns
    (IsChain-set ns head is k.linked.links) (below_linked ns head k.linked)
    (λ i below t. let both = and_parts _ _ t in k.every i below both.0 (ap (bucket_of p) (eqb-true _ _ both.1) ∙ sym b_is)) in
    let along : filter (λ n. eqb n.hash hash) (map (node_at ns) is) ≡ filter (is_match hash) (map (node_at ns) is) = live_matches hash ns is
    (λ i a. (k.here i a).0) in
    subst (λ xs. IsPermutation (map (λ n. n.reference) xs) (refs_of hash (entries ns))) (sym along)
    (subst (λ rs. IsPermutation (map (λ n. n.reference) (filter (is_match hash) (map (node_at ns) is))) rs) (sym (refs_of-entries hash ns))
    (IsPermutation-map (λ n. n.reference) _ _ places))

-- Lemma: an iterator over the references of a hash, at its start, has exactly those of the multiset.
pub matching_all : (ns : List Node) (p : Place) (head b hash : ℕ) (xs : List Node) (refs : List RowRef) (es : List (ℕ × RowRef))
    → b ≡ bucket_of p hash → IsBucket ns p head b → xs ≡ ns → entries ns ≡ es → refs ≡ refs_along xs head hash → IsPermutation refs (refs_of hash es)
matching_all ns p head b hash xs refs es b_is k same bag e =
    subst (λ rs. IsPermutation rs (refs_of hash es)) (sym (e ∙ ap (λ ys. refs_along ys head hash) same))
    (subst (λ fs. IsPermutation (refs_along ns head hash) (refs_of hash fs)) bag (refs_along-all ns p head b hash b_is k))
