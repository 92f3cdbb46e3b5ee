-- Lemmas about the walk along a chain that searches a pair.
use Rattle.std.proofs.Common.{◌≡◌, ◌≢◌, ℕ, ◌<◌, inl, inr, List, length, refl, sym, ap, ◌∙◌, subst, arith}
use Rattle.mm_value.specs.declared.row_ref.RowRef.{RowRef}
use Rattle.mlhash.specs.declared.node.Node.{Node}
use Rattle.mlhash.specs.declared.node.TheConstants.{NIL}
use Rattle.mlhash.specs.Pairs.{node_at, pair_of}
use Rattle.mlhash.specs.Chain.{Among, chain, IsLinked, Finds}
use Rattle.mlhash.proofs.ChainLemmas.{chain_end, chain_step}

-- The rest of the chain begins at `at`, and the nodes before it have other pairs.
pub record IsFinding (ns : List Node) (head hash : ℕ) (reference : RowRef) (at : ℕ) : Type 0 where
  pub linked : IsLinked ns at
  pub within : (i : ℕ) → Among i (chain ns at) → Among i (chain ns head)
  pub passed : (i : ℕ) → Among i (chain ns head) → pair_of (node_at ns i) ≡ (hash, reference) → Among i (chain ns at)

pub IsFinding-start : (ns : List Node) (head hash : ℕ) (reference : RowRef) → IsLinked ns head → IsFinding ns head hash reference head
IsFinding-start ns head hash reference linked =
    record { linked = linked; within = λ i a. a; passed = λ i a e. a }

pub IsFinding-more : (ns : List Node) (head hash : ℕ) (reference : RowRef) (at : ℕ) → at ≢ NIL → (pair_of (node_at ns at) ≡ (hash, reference) → ⊥)
    → IsFinding ns head hash reference at → IsFinding ns head hash reference (node_at ns at).next
IsFinding-more ns head hash reference at on other s =
    let t = chain_step ns at s.linked on in
    record {
      linked = t.next;
      within = λ i a. s.within i (subst (λ is. Among i is) (sym t.is) (inr a));
      passed = λ i a e. elim (subst (λ is. Among i is) t.is (s.passed i a e))
          [ inl same ↦ absurd (other (subst (λ k. pair_of (node_at ns k) ≡ (hash, reference)) same e)) | inr rest ↦ rest ];
    }

-- Lemma: the rest of the chain gets shorter.
pub chain_falls : (ns : List Node) (at : ℕ) → IsLinked ns at → at ≢ NIL → length (chain ns (node_at ns at).next) < length (chain ns at)
chain_falls ns at linked on =
    let t = chain_step ns at linked on in
    omega (arith, ap length t.is)

pub Finds-found : (ns : List Node) (head hash : ℕ) (reference : RowRef) (at : ℕ) → at ≢ NIL → pair_of (node_at ns at) ≡ (hash, reference)
    → IsFinding ns head hash reference at → Finds ns head hash reference at
Finds-found ns head hash reference at on e s =
    let t = chain_step ns at s.linked on in
    record {
      found = λ _. (s.within at (subst (λ is. Among at is) (sym t.is) (inl refl)), e);
      none = λ nil. absurd (on nil);
    }

pub Finds-none : (ns : List Node) (head hash : ℕ) (reference : RowRef) (at : ℕ) → at ≡ NIL → IsFinding ns head hash reference at
    → Finds ns head hash reference NIL
Finds-none ns head hash reference at end s =
    record {
      found = λ on. absurd (on refl);
      none = λ _ i a e. subst (λ is. Among i is) (ap (chain ns) end ∙ chain_end ns s.linked.few) (s.passed i a e);
    }
