-- Lemmas about the empty table.
use Rattle.std.proofs.Common.{◌≡◌, ℕ, zero, suc, ◌<◌, List, [], ◌∷◌, length, get_or, refl, sym, ap, subst, arith}
use Rattle.mlhash.specs.declared.node.Node.{Node}
use Rattle.mlhash.specs.declared.node.TheConstants.{NIL}
use Rattle.mlhash.specs.declared.place.Place.{Place}
use Rattle.mlhash.specs.Chain.{chain}
use Rattle.mlhash.specs.Table.{IsBucket, IsTable}
use Rattle.mlhash.proofs.ChainLemmas.{chain_end, linked_end}
use Rattle.mlhash.proofs.DealLemmas.{among_along}

abbrev no_nodes : List Node
no_nodes = []

abbrev start : Place
start = record { level = 0; split = 0 }

abbrev four : List ℕ
four = NIL ∷ NIL ∷ NIL ∷ NIL ∷ []

empty_chain : chain no_nodes NIL ≡ []
empty_chain = chain_end no_nodes (omega arith)

empty_bucket : (b : ℕ) → IsBucket no_nodes start NIL b
empty_bucket b = record {
  linked = linked_end no_nodes (omega arith);
  here = λ i a. absurd (among_along i _ [] empty_chain a);
  every = λ i below live is. absurd (omega arith);
}

four_ends : (b : ℕ) → b < 4 → get_or four b 0 ≡ NIL
four_ends zero lt = refl
four_ends (suc zero) lt = refl
four_ends (suc (suc zero)) lt = refl
four_ends (suc (suc (suc zero))) lt = refl
four_ends (suc (suc (suc (suc b)))) lt = absurd (omega arith)

empty_table : IsTable four no_nodes 0 start NIL
empty_table = record {
  counted = refl;
  size = refl;
  split = omega arith;
  limit = omega arith;
  pool = record {
    linked = linked_end no_nodes (omega arith);
    dead = λ i a. absurd (among_along i _ [] empty_chain a);
    rest = omega (arith, ap length empty_chain);
  };
  buckets = λ b lt. subst (λ h. IsBucket no_nodes start h b) (sym (four_ends b (omega arith))) (empty_bucket b);
}

pub new_table : (heads : List ℕ) (ns : List Node) → heads ≡ NIL ∷ NIL ∷ NIL ∷ NIL ∷ [] → ns ≡ [] → IsTable heads ns 0 (record { level = 0; split = 0 }) NIL
new_table heads ns e f =
    subst (λ hs. IsTable hs ns 0 start NIL) (sym e) (subst (λ xs. IsTable four xs 0 start NIL) (sym f) empty_table)
