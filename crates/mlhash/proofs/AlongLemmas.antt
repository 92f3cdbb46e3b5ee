-- Lemmas about the references of one hash along a chain.
use Rattle.std.proofs.Common.{◌≡◌, ◌≢◌, ℕ, cond, eqb, List, [], ◌∷◌, map, ap, ◌∙◌}
use Rattle.std.specs.List.{filter}
use Rattle.std.proofs.lemmas.Bool.{cond-true, cond-false, eq-eqb, ne_eqb}
use Rattle.mlhash.specs.declared.node.Node.{Node}
use Rattle.mlhash.specs.declared.node.TheConstants.{NIL}
use Rattle.mlhash.specs.Pairs.{node_at}
use Rattle.mlhash.specs.Chain.{chain, IsLinked, refs_along}
use Rattle.mlhash.proofs.ChainLemmas.{chain_end, chain_step}

refs_along-step : (ns : List Node) (at hash : ℕ) → IsLinked ns at → at ≢ NIL
    → refs_along ns at hash
    ≡ map (λ n. n.reference)
    (cond (eqb (node_at ns at).hash hash) (node_at ns at ∷ filter (λ n. eqb n.hash hash) (map (node_at ns) (chain ns (node_at ns at).next)))
    (filter (λ n. eqb n.hash hash) (map (node_at ns) (chain ns (node_at ns at).next))))
refs_along-step ns at hash linked on =
    ap (λ is. map (λ n. n.reference) (filter (λ n. eqb n.hash hash) (map (node_at ns) is))) ((chain_step ns at linked on).is)

-- Lemma: if the node at the head has this hash, its reference is the first.
pub next_along : (ns : List Node) (at hash : ℕ) → IsLinked ns at → at ≢ NIL → (node_at ns at).hash ≡ hash
    → refs_along ns at hash ≡ (node_at ns at).reference ∷ refs_along ns (node_at ns at).next hash
next_along ns at hash linked on same =
    refs_along-step ns at hash linked on ∙ ap (map (λ n. n.reference)) (cond-true _ _ _ (eq-eqb _ _ same))

-- Lemma: a node with another hash is skipped.
pub skip_along : (ns : List Node) (at hash : ℕ) → IsLinked ns at → at ≢ NIL → ((node_at ns at).hash ≡ hash → ⊥)
    → refs_along ns at hash ≡ refs_along ns (node_at ns at).next hash
skip_along ns at hash linked on other =
    refs_along-step ns at hash linked on ∙ ap (map (λ n. n.reference)) (cond-false _ _ _ (ne_eqb _ _ other))

-- Lemma: there is no reference past the end.
pub none_along : (ns : List Node) (at hash : ℕ) → IsLinked ns at → at ≡ NIL → refs_along ns at hash ≡ []
none_along ns at hash linked end =
    ap (λ is. map (λ n. n.reference) (filter (λ n. eqb n.hash hash) (map (node_at ns) is))) (ap (chain ns) end ∙ chain_end ns linked.few)
