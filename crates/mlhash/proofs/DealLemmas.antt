-- Lemmas about a chain that is distributed over two chains.
use Rattle.std.proofs.Common.{◌≡◌, ◌≢◌, ℕ, ◌<◌, true, false, eqb, bit_and, inl, inr, List, [], length, set, refl, sym, ap, ◌∙◌, subst, arith, length-set}
use Rattle.std.proofs.Common.{get_or-set_same, get_or-set_other}
use Rattle.std.proofs.lemmas.Bool.{cases_eq}
use Rattle.mlhash.specs.declared.node.Node.{Node}
use Rattle.mlhash.specs.declared.node.TheConstants.{NIL}
use Rattle.mlhash.specs.Pairs.{blank, node_at, SameEntry}
use Rattle.mlhash.specs.Chain.{Among, chain, IsLinked, AreApart, stays, IsDealing}
use Rattle.mlhash.proofs.ChainLemmas.{chain_end, linked_end, chain_step, keeps_set, fronts_set}

pub among_along : (i : ℕ) (is js : List ℕ) → is ≡ js → Among i is → Among i js
among_along i is js e a = subst (λ ks. Among i ks) e a

-- Lemma: a write that keeps the node's entry keeps all entries.
pub SameEntry-set : (ns : List Node) (at : ℕ) (n : Node) → SameEntry (node_at ns at) n → (i : ℕ) → at < length ns
    → SameEntry (node_at ns i) (node_at (set ns at n) i)
SameEntry-set ns at n same i below =
    elim (cases_eq i at) [
      | inl e ↦ subst (λ k. SameEntry (node_at ns k) (node_at (set ns at n) k)) (sym e)
          (subst (λ m. SameEntry (node_at ns at) m) (sym (get_or-set_same ns at n blank below)) same)
      | inr ne ↦ subst (λ m. SameEntry (node_at ns i) m) (sym (get_or-set_other ns at i n blank ne))
          (record { hash = refl; reference = refl })
    ]

pub SameEntry-trans : (l m n : Node) → SameEntry l m → SameEntry m n → SameEntry l n
SameEntry-trans l m n s t = record {
  hash = t.hash ∙ s.hash;
  reference = t.reference ∙ s.reference;
}

stays_same : (mask stay : ℕ) (m n : Node) → SameEntry m n → stays mask stay m ≡ stays mask stay n
stays_same mask stay m n s = ap (λ h. eqb (bit_and h mask) stay) (sym s.hash)

pub IsDealing-start : (ns : List Node) (from mask stay onto : ℕ) → IsLinked ns from → IsLinked ns onto → AreApart (chain ns from) (chain ns onto)
    → IsDealing ns from mask stay onto ns from onto NIL
IsDealing-start ns from mask stay onto linked linked' apart =
    let none = chain_end ns linked.few in
    record {
      size = refl;
      entries = λ i. record { hash = refl; reference = refl };
      others = λ i _. refl;
      at_linked = linked;
      staying_linked = linked';
      leaving_linked = linked_end ns linked.few;
      at_staying = apart;
      at_leaving = λ i a b. among_along i _ [] none b;
      at_in = λ i a. a;
      staying_in = λ i a. inl a;
      leaving_in = λ i a. absurd (among_along i _ [] none a);
      all_from = λ i a. inl a;
      all_onto = λ i a. a;
    }

pub IsDealing-stay : (ns : List Node) (from mask stay onto : ℕ) (ms : List Node) (at staying leaving : ℕ) → at ≢ NIL
    → stays mask stay (node_at ms at) ≡ true → IsDealing ns from mask stay onto ms at staying leaving
    → IsDealing ns from mask stay onto (set ms at (record (node_at ms at) { next = staying })) (node_at ms at).next at leaving
IsDealing-stay ns from mask stay onto ms at staying leaving on test s =
    let n : Node = record (node_at ms at) { next = staying } in
    let t = chain_step ms at s.at_linked on in
    let here : Among at (chain ms at) = among_along at _ _ (sym t.is) (inl refl) in
    let kx = keeps_set ms at n (node_at ms at).next t.fresh t.next in
    let fs = fronts_set ms at n staying t.below refl (s.at_staying at here) s.staying_linked in
    let kl = keeps_set ms at n leaving (s.at_leaving at here) s.leaving_linked in
    let test' : stays mask stay (node_at ns at) ≡ true = stays_same mask stay (node_at ns at) (node_at ms at) (s.entries at) ∙ test in
    record {
      size = length-set ms at n ∙ s.size;
      entries =
          λ i. SameEntry-trans (node_at ns i) (node_at ms i) (node_at (set ms at n) i) (s.entries i)
          (SameEntry-set ms at n (record { hash = refl; reference = refl }) i t.below);
      others =
          λ i out. get_or-set_other ms at i n blank (λ e. out (subst (λ k. Among k (chain ns from)) (sym e) (s.at_in at here))) ∙ s.others i out;
      at_linked = kx.linked;
      staying_linked = fs.linked;
      leaving_linked = kl.linked;
      at_staying =
          λ i a b. elim (among_along i _ _ fs.is b) [
            | inl e ↦ t.fresh (subst (λ k. Among k (chain ms (node_at ms at).next)) e (among_along i _ _ kx.same a))
            | inr c ↦ s.at_staying i
                (among_along i _ _ (sym t.is) (inr (among_along i _ _ kx.same a))) c
          ];
      at_leaving =
          λ i a b. s.at_leaving i (among_along i _ _ (sym t.is) (inr (among_along i _ _ kx.same a))) (among_along i _ _ kl.same b);
      at_in = λ i a. s.at_in i (among_along i _ _ (sym t.is) (inr (among_along i _ _ kx.same a)));
      staying_in =
          λ i a. elim (among_along i _ _ fs.is a) [
            | inl e ↦ inr (subst (λ k. Among k (chain ns from) × (stays mask stay (node_at ns k) ≡ true)) (sym e) (s.at_in at here, test'))
            | inr b ↦ s.staying_in i b
          ];
      leaving_in = λ i a. s.leaving_in i (among_along i _ _ kl.same a);
      all_from =
          λ i a. elim (s.all_from i a) [
            | inl b ↦ elim (among_along i _ _ t.is b)
                [ inl e ↦ inr (inl (among_along i _ _ (sym fs.is) (inl e))) | inr c ↦ inl (among_along i _ _ (sym kx.same) c) ]
            | inr b ↦ elim b
                [ inl c ↦ inr (inl (among_along i _ _ (sym fs.is) (inr c))) | inr c ↦ inr (inr (among_along i _ _ (sym kl.same) c)) ]
          ];
      all_onto = λ i a. among_along i _ _ (sym fs.is) (inr (s.all_onto i a));
    }

pub IsDealing-leave : (ns : List Node) (from mask stay onto : ℕ) (ms : List Node) (at staying leaving : ℕ) → at ≢ NIL
    → stays mask stay (node_at ms at) ≡ false → IsDealing ns from mask stay onto ms at staying leaving
    → IsDealing ns from mask stay onto (set ms at (record (node_at ms at) { next = leaving })) (node_at ms at).next staying at
IsDealing-leave ns from mask stay onto ms at staying leaving on test s =
    let n : Node = record (node_at ms at) { next = leaving } in
    let t = chain_step ms at s.at_linked on in
    let here : Among at (chain ms at) = among_along at _ _ (sym t.is) (inl refl) in
    let kx = keeps_set ms at n (node_at ms at).next t.fresh t.next in
    let ks = keeps_set ms at n staying (s.at_staying at here) s.staying_linked in
    let fl = fronts_set ms at n leaving t.below refl (s.at_leaving at here) s.leaving_linked in
    let test' : stays mask stay (node_at ns at) ≡ false = stays_same mask stay (node_at ns at) (node_at ms at) (s.entries at) ∙ test in
    record {
      size = length-set ms at n ∙ s.size;
      entries =
          λ i. SameEntry-trans (node_at ns i) (node_at ms i) (node_at (set ms at n) i) (s.entries i)
          (SameEntry-set ms at n (record { hash = refl; reference = refl }) i t.below);
      others =
          λ i out. get_or-set_other ms at i n blank (λ e. out (subst (λ k. Among k (chain ns from)) (sym e) (s.at_in at here))) ∙ s.others i out;
      at_linked = kx.linked;
      staying_linked = ks.linked;
      leaving_linked = fl.linked;
      at_staying =
          λ i a b. s.at_staying i (among_along i _ _ (sym t.is) (inr (among_along i _ _ kx.same a))) (among_along i _ _ ks.same b);
      at_leaving =
          λ i a b. elim (among_along i _ _ fl.is b) [
            | inl e ↦ t.fresh (subst (λ k. Among k (chain ms (node_at ms at).next)) e (among_along i _ _ kx.same a))
            | inr c ↦ s.at_leaving i
                (among_along i _ _ (sym t.is) (inr (among_along i _ _ kx.same a))) c
          ];
      at_in = λ i a. s.at_in i (among_along i _ _ (sym t.is) (inr (among_along i _ _ kx.same a)));
      staying_in = λ i a. s.staying_in i (among_along i _ _ ks.same a);
      leaving_in =
          λ i a. elim (among_along i _ _ fl.is a) [
            | inl e ↦ subst (λ k. Among k (chain ns from) × (stays mask stay (node_at ns k) ≡ false)) (sym e) (s.at_in at here, test')
            | inr b ↦ s.leaving_in i b
          ];
      all_from =
          λ i a. elim (s.all_from i a) [
            | inl b ↦ elim (among_along i _ _ t.is b)
                [ inl e ↦ inr (inr (among_along i _ _ (sym fl.is) (inl e))) | inr c ↦ inl (among_along i _ _ (sym kx.same) c) ]
            | inr b ↦ elim b
                [ inl c ↦ inr (inl (among_along i _ _ (sym ks.same) c)) | inr c ↦ inr (inr (among_along i _ _ (sym fl.is) (inr c))) ]
          ];
      all_onto = λ i a. among_along i _ _ (sym ks.same) (s.all_onto i a);
    }

-- Lemma: the rest of the chain gets shorter.
pub deal_falls : (ms : List Node) (at : ℕ) (n : Node) → IsLinked ms at → at ≢ NIL → length (chain (set ms at n) (node_at ms at).next) < length (chain ms at)
deal_falls ms at n linked on =
    let t = chain_step ms at linked on in
    let k = keeps_set ms at n (node_at ms at).next t.fresh t.next in
    omega (arith, ap length t.is, ap length k.same)
