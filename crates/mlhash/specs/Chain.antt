-- Chains of linked nodes. No public clause cites this module.
use Rattle.std.specs.Prelude.{◌≡◌, ◌≢◌, ℕ, zero, suc, ◌<◌, ◌≤◌, Bool, true, false, cond, nat_lt, ◌==◌, bit_and, ◌⊎◌, List, [], ◌∷◌, length, map, filter}
use Rattle.mm_value.specs.declared.row_ref.RowRef.{RowRef}
use Rattle.mlhash.specs.declared.node.Node.{Node}
use Rattle.mlhash.specs.declared.node.TheConstants.{NIL}
use Rattle.mlhash.specs.Pairs.{is_live, node_at, pair_of, SameEntry}

-- The list contains an index.
abbrev pub Among : ℕ → List ℕ → Type 0
Among i [] = ⊥
Among i (j ∷ js) = (i ≡ j) ⊎ Among i js

-- The links from the head on visit exactly these nodes, each once, and then end.
abbrev pub IsChain : List Node → ℕ → List ℕ → Type 0
IsChain ns head [] = head ≡ NIL
IsChain ns head (i ∷ is) = (head ≡ i) × (i < length ns) × (Among i is → ⊥) × IsChain ns (node_at ns i).next is

-- The nodes visited by at most that many links.
abbrev pub walk : ℕ → List Node → ℕ → List ℕ
walk zero ns head = []
walk (suc steps) ns head = cond (nat_lt head (length ns)) (head ∷ walk steps ns (node_at ns head).next) []

-- The nodes visited by the links from a head on.
unfoldable pub chain : List Node → ℕ → List ℕ
chain ns head = walk (length ns) ns head

-- A head from which the links lead to an end.
pub record IsLinked (ns : List Node) (head : ℕ) : Type 0 where
  pub few : length ns ≤ NIL
  pub links : IsChain ns head (chain ns head)

-- Each node with an entry of this hash is on the chain.
abbrev pub HasAll : List Node → ℕ → ℕ → Type 0
HasAll ns head hash = (i : ℕ) → i < length ns → is_live (node_at ns i) ≡ true → (node_at ns i).hash ≡ hash → Among i (chain ns head)

-- The lists share no element.
abbrev pub AreApart : List ℕ → List ℕ → Type 0
AreApart is js = (i : ℕ) → Among i is → Among i js → ⊥

-- The references of one hash along a chain.
abbrev pub refs_along : List Node → ℕ → ℕ → List RowRef
refs_along ns head hash = map (λ n. n.reference) (filter (λ n. n.hash == hash) (map (node_at ns) (chain ns head)))

-- The place of a pair along a chain, or `NIL` if the chain does not have it.
pub record Finds (ns : List Node) (head hash : ℕ) (reference : RowRef) (at : ℕ) : Type 0 where
  pub found : at ≢ NIL → Among at (chain ns head) × (pair_of (node_at ns at) ≡ (hash, reference))
  pub none : at ≡ NIL → (i : ℕ) → Among i (chain ns head) → pair_of (node_at ns i) ≢ (hash, reference)

-- A node whose hash under the mask is the given one.
abbrev pub stays : ℕ → ℕ → Node → Bool
stays mask stay n = bit_and n.hash mask == stay

-- Part of a chain is distributed: the nodes from `at` on are still linked as before, and the others were prepended to the chain `onto` or
-- to a chain of their own.
pub record IsDealing (ns : List Node) (from mask stay onto : ℕ) (ms : List Node) (at staying leaving : ℕ) : Type 0 where
  pub size : length ms ≡ length ns
  pub entries : (i : ℕ) → SameEntry (node_at ns i) (node_at ms i)
  pub others : (i : ℕ) → (Among i (chain ns from) → ⊥) → node_at ms i ≡ node_at ns i
  pub at_linked : IsLinked ms at
  pub staying_linked : IsLinked ms staying
  pub leaving_linked : IsLinked ms leaving
  pub at_staying : AreApart (chain ms at) (chain ms staying)
  pub at_leaving : AreApart (chain ms at) (chain ms leaving)
  pub at_in : (i : ℕ) → Among i (chain ms at) → Among i (chain ns from)
  pub staying_in : (i : ℕ) → Among i (chain ms staying) → Among i (chain ns onto) ⊎ (Among i (chain ns from) × (stays mask stay (node_at ns i) ≡ true))
  pub leaving_in : (i : ℕ) → Among i (chain ms leaving) → Among i (chain ns from) × (stays mask stay (node_at ns i) ≡ false)
  pub all_from : (i : ℕ) → Among i (chain ns from) → Among i (chain ms at) ⊎ (Among i (chain ms staying) ⊎ Among i (chain ms leaving))
  pub all_onto : (i : ℕ) → Among i (chain ns onto) → Among i (chain ms staying)

-- The whole chain is distributed.
abbrev pub Deals : List Node → ℕ → ℕ → ℕ → ℕ → List Node → ℕ → ℕ → Type 0
Deals ns from mask stay onto ms staying leaving = IsDealing ns from mask stay onto ms NIL staying leaving
