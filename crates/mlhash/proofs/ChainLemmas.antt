-- Lemmas about chains: the walk finds them, and what writes change.
use Rattle.std.proofs.Common.{◌≡◌, ◌≢◌, ℕ, zero, suc, ◌<◌, ◌≤◌, cond, ltb, inl, inr, List, [], ◌∷◌, length, set, refl, sym, ap, ◌∙◌, subst, arith, length-set}
use Rattle.std.proofs.Common.{get_or-set_same, get_or-set_other}
use Rattle.std.proofs.lemmas.Bool.{cases_eq, lt-ltb, le-ltb, cond-true, cond-false}
use Rattle.mlhash.specs.declared.node.Node.{Node}
use Rattle.mlhash.specs.declared.node.TheConstants.{NIL}
use Rattle.mlhash.specs.Pairs.{blank, node_at}
use Rattle.mlhash.specs.Chain.{Among, IsChain, walk, chain, IsLinked}

-- Lemma: each node of a chain is an index of the list.
pub Among-below : (ns : List Node) (head : ℕ) (is : List ℕ) → IsChain ns head is → (i : ℕ) → Among i is → i < length ns
Among-below ns head [] c i a = absurd a
Among-below ns head (j ∷ js) c i (inl e) = omega (arith, c.1, e)
Among-below ns head (j ∷ js) c i (inr a) = Among-below ns _ js c.3 i a

-- A list of distinct numbers.
abbrev pub IsSet : List ℕ → Type 0
IsSet [] = Unit {0}
IsSet (i ∷ is) = (Among i is → ⊥) × IsSet is

pub IsChain-set : (ns : List Node) (head : ℕ) (is : List ℕ) → IsChain ns head is → IsSet is
IsChain-set ns head [] c = tt
IsChain-set ns head (i ∷ is) c = (c.2, IsChain-set ns _ is c.3)

-- The list without the number k.
without : ℕ → List ℕ → List ℕ
without k [] = []
without k (i ∷ is) = elim (cases_eq i k) [ inl _ ↦ is | inr _ ↦ i ∷ without k is ]

without_short : (k : ℕ) (is : List ℕ) → length is ≤ suc (length (without k is))
unfolding without
without_short k [] = omega arith
without_short k (i ∷ is) =
    elim (cases_eq i k) as (λ d. length (i ∷ is) ≤ suc (length (elim d as (λ _. List ℕ) [ inl _ ↦ is | inr _ ↦ i ∷ without k is ])))
    [ inl _ ↦ omega arith | inr _ ↦ omega (arith, without_short k is) ]

without_in : (k : ℕ) (is : List ℕ) (j : ℕ) → Among j (without k is) → Among j is
unfolding without
without_in k [] j = λ a. a
without_in k (i ∷ is) j =
    elim (cases_eq i k) as (λ d. Among j (elim d as (λ _. List ℕ) [ inl _ ↦ is | inr _ ↦ i ∷ without k is ]) → Among j (i ∷ is))
    [ inl _ ↦ λ a. inr a | inr _ ↦ λ a. elim a [ inl e ↦ inl e | inr b ↦ inr (without_in k is j b) ] ]

without_set : (k : ℕ) (is : List ℕ) → IsSet is → IsSet (without k is)
unfolding without
without_set k [] s = tt
without_set k (i ∷ is) s =
    elim (cases_eq i k) as (λ d. IsSet (elim d as (λ _. List ℕ) [ inl _ ↦ is | inr _ ↦ i ∷ without k is ]))
    [ inl _ ↦ s.1 | inr _ ↦ (λ a. s.0 (without_in k is i a), without_set k is s.1) ]

without_other : (k : ℕ) (is : List ℕ) → IsSet is → (j : ℕ) → Among j (without k is) → j ≡ k → ⊥
unfolding without
without_other k [] s j = λ a. absurd a
without_other k (i ∷ is) s j =
    elim (cases_eq i k) as (λ d. Among j (elim d as (λ _. List ℕ) [ inl _ ↦ is | inr _ ↦ i ∷ without k is ]) → j ≡ k → ⊥)
    [ inl e ↦ λ a f. s.0 (subst (λ x. Among x is) (f ∙ sym e) a) | inr ne ↦ λ a f. elim a [ inl e ↦ ne (sym e ∙ f) | inr b ↦ without_other k is s.1 j b f ] ]

-- Lemma: a list of distinct numbers below n has at most n of them.
set_short : (n : ℕ) (is : List ℕ) → IsSet is → ((i : ℕ) → Among i is → i < n) → length is ≤ n
set_short zero [] s below = omega arith
set_short zero (i ∷ is) s below = absurd (let h : i < zero = below i (inl refl) in omega arith)
set_short (suc n) is s below =
    let short = set_short n (without n is) (without_set n is s)
    (λ i a. let b : i < suc n = below i (without_in n is i a) in let ne : i ≢ n = without_other n is s i a in omega arith) in
    omega (arith, without_short n is, short)

pub chain_short : (ns : List Node) (head : ℕ) (is : List ℕ) → IsChain ns head is → length is ≤ length ns
chain_short ns head is c = set_short (length ns) is (IsChain-set ns head is c) (Among-below ns head is c)

-- Lemma: the walk finds a chain.
pub walk_is : (steps : ℕ) (ns : List Node) (head : ℕ) (is : List ℕ) → length ns ≤ NIL → IsChain ns head is → length is ≤ steps → walk steps ns head ≡ is
walk_is zero ns head [] few c short = refl
walk_is zero ns head (i ∷ is) few c short = absurd (omega arith)
walk_is (suc steps) ns head [] few c short = cond-false _ _ _ (le-ltb head (length ns) (omega (arith, few, c)))
walk_is (suc steps) ns head (i ∷ is) few c short =
    let short' : length is ≤ steps = omega arith in
    subst (λ k. cond (ltb k (length ns)) (k ∷ walk steps ns (node_at ns k).next) [] ≡ i ∷ is) (sym c.0)
    (cond-true _ _ _ (lt-ltb i (length ns) c.1) ∙ ap (λ t. i ∷ t) (walk_is steps ns _ is few c.3 short'))

pub chain_is : (ns : List Node) (head : ℕ) (is : List ℕ) → length ns ≤ NIL → IsChain ns head is → chain ns head ≡ is
unfolding chain
chain_is ns head is few c = walk_is (length ns) ns head is few c (chain_short ns head is c)

pub linked_by : (ns : List Node) (head : ℕ) (is : List ℕ) → length ns ≤ NIL → IsChain ns head is → IsLinked ns head
linked_by ns head is few c =
    record { few = few; links = subst (λ js. IsChain ns head js) (sym (chain_is ns head is few c)) c }

pub below_linked : (ns : List Node) (head : ℕ) → IsLinked ns head → (i : ℕ) → Among i (chain ns head) → i < length ns
below_linked ns head linked = Among-below ns head (chain ns head) linked.links

pub chain_end : (ns : List Node) → length ns ≤ NIL → chain ns NIL ≡ []
chain_end ns few = chain_is ns NIL [] few refl

pub linked_end : (ns : List Node) → length ns ≤ NIL → IsLinked ns NIL
linked_end ns few = linked_by ns NIL [] few refl

-- Lemma: a chain is unchanged if its nodes keep their links.
pub IsChain-frame : (ns ms : List Node) (head : ℕ) (is : List ℕ)
    → ((i : ℕ) → Among i is → (i < length ms) × ((node_at ms i).next ≡ (node_at ns i).next)) → IsChain ns head is → IsChain ms head is
IsChain-frame ns ms head [] same c = c
IsChain-frame ns ms head (i ∷ is) same c =
    (c.0, (same i (inl refl)).0, c.2, subst (λ h. IsChain ms h is) (sym ((same i (inl refl)).1)) (IsChain-frame ns ms _ is (λ j a. same j (inr a)) c.3))

-- A head that is not the end is a node, and the rest of the chain is linked from it.
pub record IsStep (ns : List Node) (at : ℕ) : Type 0 where
  pub below : at < length ns
  pub is : chain ns at ≡ at ∷ chain ns (node_at ns at).next
  pub fresh : Among at (chain ns (node_at ns at).next) → ⊥
  pub next : IsLinked ns (node_at ns at).next

step_at : (ns : List Node) (i : ℕ) (is : List ℕ) → length ns ≤ NIL → chain ns i ≡ i ∷ is → i < length ns → (Among i is → ⊥)
    → IsChain ns (node_at ns i).next is → IsStep ns i
step_at ns i is few e below fresh c =
    let tail : chain ns (node_at ns i).next ≡ is = chain_is ns _ is few c in
    record {
      below = below;
      is = e ∙ ap (λ t. i ∷ t) (sym tail);
      fresh = λ a. fresh (subst (λ t. Among i t) tail a);
      next = linked_by ns _ is few c;
    }

step_by : (ns : List Node) (at : ℕ) (is : List ℕ) → length ns ≤ NIL → at ≢ NIL → chain ns at ≡ is → IsChain ns at is → IsStep ns at
step_by ns at [] few on e c = absurd (on c)
step_by ns at (i ∷ is) few on e c =
    subst (λ k. IsStep ns k) (sym c.0) (step_at ns i is few (subst (λ k. chain ns k ≡ i ∷ is) c.0 e) c.1 c.2 c.3)

pub chain_step : (ns : List Node) (at : ℕ) → IsLinked ns at → at ≢ NIL → IsStep ns at
chain_step ns at linked on = step_by ns at (chain ns at) linked.few on refl linked.links

-- The links from a head on are as before.
pub record Keeps (ns ms : List Node) (head : ℕ) : Type 0 where
  pub linked : IsLinked ms head
  pub same : chain ms head ≡ chain ns head

pub keeps_frame : (ns ms : List Node) (head : ℕ) → length ms ≤ NIL
    → ((i : ℕ) → Among i (chain ns head) → (i < length ms) × ((node_at ms i).next ≡ (node_at ns i).next)) → IsLinked ns head → Keeps ns ms head
keeps_frame ns ms head few same linked =
    let c = IsChain-frame ns ms head (chain ns head) same linked.links in
    record { linked = linked_by ms head (chain ns head) few c; same = chain_is ms head (chain ns head) few c }

-- Lemma: a write to a node that is not on the chain keeps it.
pub keeps_set : (ns : List Node) (at : ℕ) (n : Node) (head : ℕ) → (Among at (chain ns head) → ⊥) → IsLinked ns head → Keeps ns (set ns at n) head
keeps_set ns at n head apart linked =
    keeps_frame ns (set ns at n) head (omega (arith, length-set ns at n, linked.few))
    (λ i a. (
      omega (arith, length-set ns at n, below_linked ns head linked i a),
      ap (λ m. m.next)
          (get_or-set_other ns at i n blank (λ e. apart (subst (λ k. Among k (chain ns head)) e a))),
    )) linked

-- A node was prepended to a chain.
pub record Fronts (ns ms : List Node) (head at : ℕ) : Type 0 where
  pub linked : IsLinked ms at
  pub is : chain ms at ≡ at ∷ chain ns head

pub fronts_set : (ns : List Node) (at : ℕ) (n : Node) (head : ℕ) → at < length ns → n.next ≡ head → (Among at (chain ns head) → ⊥)
    → IsLinked ns head → Fronts ns (set ns at n) head at
fronts_set ns at n head below next apart linked =
    let keep = keeps_set ns at n head apart linked in
    let ms = set ns at n in
    let few : length ms ≤ NIL = omega (arith, length-set ns at n, linked.few) in
    let below' : at < length ms = omega (arith, length-set ns at n) in
    let link : (node_at ms at).next ≡ head = ap (λ (m : Node). m.next) (get_or-set_same ns at n blank below) ∙ next in
    let rest : IsChain ms head (chain ns head) = subst (λ is. IsChain ms head is) keep.same keep.linked.links in
    let c : IsChain ms at (at ∷ chain ns head) = (refl, below', apart, subst (λ h. IsChain ms h (chain ns head)) (sym link) rest) in
    record { linked = linked_by ms at (at ∷ chain ns head) few c; is = chain_is ms at (at ∷ chain ns head) few c }
