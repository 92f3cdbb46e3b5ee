-- Tuples.
use Rattle.std.proofs.Common.{◌≡◌, List, [], ◌∷◌, Ok, refl, sym, ap, ◌∙◌, append-nil}
use Rattle.std.specs.List.{flat_map}
use Rattle.mm_value.specs.declared.refusal.Refusal.{Refusal}
use Rattle.mm_value.specs.declared.values.Value.{Value}
use Rattle.mm_lang.specs.declared.read.reader.Reader.{Reader}
use Rattle.mm_lang.specs.declared.read.token.Symbol.TheVariants.{Open, Close}
use Rattle.mm_lang.specs.Grammar.{literal_of, comma_list, tuple}
use Rattle.mm_lang.specs.Phrases.{Phrase, ◌>>=◌, one, say, the_symbol}
use Rattle.mm_lang.specs.steps.Parsing.{Fails, Gives, GivesItems, no_literals, only_literal}
use Rattle.mm_lang.proofs.Readings.{took, fails_first, fails_next, given_both, listed, reads_behind}

-- the literals of some values are the values
pub all_literals : (values : List Value) → flat_map only_literal values ≡ values
all_literals [] = refl
all_literals (v ∷ vs) = ap (λ l. v ∷ l) (all_literals vs)

abbrev literals : Phrase (List Value)
literals = comma_list (one literal_of)

closed : List Value → Phrase (List Value)
closed values = the_symbol Close >>= (λ u. say values)

behind_open : Unit {0} → Phrase (List Value)
behind_open u = literals >>= closed

pub tuple_none : (old : Reader) (e : Refusal) → Fails (the_symbol Open) old e → Fails tuple old e
unfolding tuple closed behind_open
tuple_none old e h = fails_first (the_symbol Open) behind_open old e h

module _ (old opened : Reader) (o : Gives (the_symbol Open) no_literals old opened tt) where
  pub tuple_no_values : (e : Refusal) → Fails literals opened e → Fails tuple old e
  unfolding tuple closed behind_open
  tuple_no_values e h =
      let t = took o in
      fails_next (the_symbol Open) behind_open old opened tt e t.is (fails_first literals closed opened e h)

  module _ (closing : Reader) (before row : List Value) (none : before ≡ []) (g : GivesItems literals (flat_map only_literal) opened closing before row) where
    pub tuple_open : (e : Refusal) → Fails (the_symbol Close) closing e → Fails tuple old e
    unfolding tuple closed behind_open
    tuple_open e h =
        let t = took o in
        let said = g.given.said in
        fails_next (the_symbol Open) behind_open old opened tt e t.is
        (fails_next literals closed opened closing said e g.given.read (fails_first (the_symbol Close) (λ u. say said) closing e h))

    pub tuple_given : (new : Reader) → Gives (the_symbol Close) no_literals closing new tt → Gives tuple (λ values. values) old new row
    unfolding tuple closed behind_open
    tuple_given new h =
        reads_behind (the_symbol Open) behind_open (λ values. values) old opened new tt (Ok row) (took o)
        (given_both literals (the_symbol Close) (λ values u. values) (flat_map only_literal) no_literals (λ values. values)
        (λ values u. sym (append-nil (flat_map only_literal values) ∙ all_literals values)) opened closing new row tt (listed none g) h)
