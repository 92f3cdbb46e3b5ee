-- Every phrase leaves at most as many tokens as there were.
use Rattle.std.proofs.Common.{◌≡◌, ◌≤◌, ⊎_elim, ℕ, Bool, true, false, zero, suc, List, [], ◌∷◌, Option, Some, None, length, refl, ap, arith}
use Rattle.std.proofs.lemmas.Option.{none-some}
use Rattle.mm_schema.specs.declared.column.Role.TheVariants.{Plain, Key, Reference}
use Rattle.mm_lang.specs.declared.read.keyword.Keyword.{Keyword}
use Rattle.mm_lang.specs.declared.read.keyword.Keyword.TheVariants as keyword
use Rattle.mm_lang.specs.declared.read.token.Symbol.TheVariants.{Open, Close, Comma}
use Rattle.mm_lang.specs.declared.read.token.Symbol.TheVariants as symbol
use Rattle.mm_value.specs.Literal.{is_numeral}
use Rattle.mm_value.specs.declared.values.Value.{Value}
use Rattle.mm_lang.specs.Grammar.{literal_of, name, col_type, on_delete_of, reference_to, reference, role_behind, role, column, comma_list, tuple, comparison}
use Rattle.mm_lang.specs.Grammar.{numbered, digits, unit_shift, behind_sign, shift, operand_behind, operand_on, test_on, assignment, field, from_item, position}
use Rattle.mm_lang.specs.Phrases.{Phrase, ◌>>=◌, say, one, word_of, the_symbol, the_keyword, behind_item, at_most, list_of, only_if, optional, maybe}
use Rattle.mm_lang.specs.Phrases.{has_keyword, in_parentheses}
use Rattle.mm_lang.specs.Tokens.{Token, Signed, Mark, Hole}
use Rattle.mm_lang.specs.steps.Parsing.{NeverLonger}
use Rattle.mm_lang.specs.steps.Parts.{Front, said_same, tested, then_parts, one_parts, optional_parts}

pub one_never_longer : {A : Type 0} (says : Token → Option A) → NeverLonger (one says)
one_never_longer says ts x us e = let p = one_parts says ts x us e in omega (arith, ap length p.1)

say_never_longer : {A : Type 0} (y : A) → NeverLonger (say y)
say_never_longer y ts x us e = let p = said_same y x ts us e in omega (arith, ap length p.1)

then_never_longer : {A B : Type 0} (first : Phrase A) (next : A → Phrase B) → NeverLonger first → ((x : A) → NeverLonger (next x))
    → NeverLonger (first >>= next)
then_never_longer first next h k ts y us e = let p = then_parts first next ts y us e in omega (arith, h ts p.0 p.1 p.2, k p.0 p.1 y us p.3)

optional_never_longer : {A : Type 0} (absent : A) (phrase : Phrase A) → NeverLonger phrase → NeverLonger (optional absent phrase)
optional_never_longer absent phrase h ts x us e =
    ⊎_elim (λ there. h ts x us there) (λ not_there. omega (arith, ap length not_there.2)) (optional_parts absent phrase ts x us e)

behind_never_longer : {A : Type 0} (separator : Phrase (Unit {0})) (others : Phrase (List A)) → NeverLonger separator → NeverLonger others
    → NeverLonger (λ ts. behind_item (separator ts) others ts)
behind_never_longer {A} separator others h k ts xs us e = by (separator ts) refl e
  where
    by : (o : Option (Front (Unit {0}))) → separator ts ≡ o → behind_item o others ts ≡ Some (xs, us) → length us ≤ length ts
    by None is e = let p = said_same [] xs ts us e in omega (arith, ap length p.1)
    by (Some s) is e = omega (arith, h ts s.0 s.1 is, k s.1 xs us e)

module _ {A : Type 0} (separator : Phrase (Unit {0})) (item : Phrase A) (h : NeverLonger separator) (k : NeverLonger item) where
  at_most_never_longer : (n : ℕ) → NeverLonger (at_most n separator item)
  unfolding at_most
  at_most_never_longer zero ts xs us e = let answer : Front (List A) = (xs, us) in absurd (none-some answer e)
  at_most_never_longer (suc n) ts xs us e =
      then_never_longer item (λ x. (λ ts. behind_item (separator ts) (at_most n separator item) ts) >>= (λ xs. say (x ∷ xs))) k
      (λ x. then_never_longer (λ ts. behind_item (separator ts) (at_most n separator item) ts) (λ xs. say (x ∷ xs))
      (behind_never_longer separator (at_most n separator item) h (at_most_never_longer n)) (λ xs. say_never_longer (x ∷ xs)))
      ts xs us e

  list_never_longer : NeverLonger (list_of separator item)
  list_never_longer ts xs us e = at_most_never_longer (suc (length ts)) ts xs us e

parentheses_never_longer : {A : Type 0} (phrase : Phrase A) → NeverLonger phrase → NeverLonger (in_parentheses phrase)
parentheses_never_longer phrase h =
    then_never_longer (the_symbol Open) (λ o. phrase >>= (λ x. the_symbol Close >>= (λ c. say x))) (one_never_longer _)
    (λ o. then_never_longer phrase (λ x. the_symbol Close >>= (λ c. say x)) h
    (λ x. then_never_longer (the_symbol Close) (λ c. say x) (one_never_longer _) (λ c. say_never_longer x)))

pub tuple_never_longer : NeverLonger tuple
unfolding tuple
tuple_never_longer =
    parentheses_never_longer (comma_list (one literal_of)) (list_never_longer (the_symbol Comma) (one literal_of) (one_never_longer _) (one_never_longer _))

has_keyword_never_longer : (k : Keyword) → NeverLonger (has_keyword k)
has_keyword_never_longer k =
    optional_never_longer false _ (then_never_longer (the_keyword k) (λ u. say true) (one_never_longer _) (λ u. say_never_longer true))

reference_to_never_longer : (table : List ℕ) → NeverLonger (reference_to table)
reference_to_never_longer table =
    then_never_longer (has_keyword keyword.Cascade) (λ there. say (Reference table (on_delete_of there))) (has_keyword_never_longer keyword.Cascade)
    (λ there. say_never_longer (Reference table (on_delete_of there)))

reference_never_longer : (there : Bool) → NeverLonger (reference there)
reference_never_longer true = then_never_longer name reference_to (one_never_longer _) reference_to_never_longer
reference_never_longer false = say_never_longer Plain

role_behind_never_longer : (there : Bool) → NeverLonger (role_behind there)
role_behind_never_longer true = say_never_longer Key
role_behind_never_longer false =
    then_never_longer (has_keyword keyword.Ref) reference (has_keyword_never_longer keyword.Ref) reference_never_longer

pub column_never_longer : NeverLonger column
unfolding column
column_never_longer =
    then_never_longer name _ (one_never_longer _)
    (λ n. then_never_longer col_type _ (one_never_longer _)
    (λ t. then_never_longer role _ (then_never_longer (has_keyword keyword.Key) role_behind (has_keyword_never_longer keyword.Key) role_behind_never_longer)
    (λ r. say_never_longer _)))

only_if_never_longer : {A : Type 0} (condition : Bool) (phrase : Phrase A) → NeverLonger phrase → NeverLonger (only_if condition phrase)
only_if_never_longer {A} condition phrase h ts x us e = let answer : Front A = (x, us) in h ts x us (tested condition (phrase ts) answer e).1

numbered_never_longer : (is_negative : Bool) (digits : List ℕ) → NeverLonger (numbered is_negative digits)
numbered_never_longer is_negative digits = only_if_never_longer (is_numeral digits) _ (say_never_longer _)

digits_never_longer : (is_negative : Bool) → NeverLonger (digits is_negative)
digits_never_longer is_negative = then_never_longer (one word_of) _ (one_never_longer _) (numbered_never_longer is_negative)

behind_sign_never_longer : (is_negative : Bool) → NeverLonger (behind_sign is_negative)
behind_sign_never_longer is_negative (Hole ∷ ts) x us e = let h = say_never_longer (Some (unit_shift is_negative)) ts x us e in omega (arith, h)
behind_sign_never_longer is_negative ts x us e = digits_never_longer is_negative ts x us e

shift_never_longer : NeverLonger shift
unfolding shift
shift_never_longer (Mark symbol.Plus ∷ ts) x us e = let h = behind_sign_never_longer false ts x us e in omega (arith, h)
shift_never_longer (Mark symbol.Minus ∷ ts) x us e = let h = behind_sign_never_longer true ts x us e in omega (arith, h)
shift_never_longer (Signed word ∷ ts) x us e = let h = numbered_never_longer true word ts x us e in omega (arith, h)
shift_never_longer ts x us e = say_never_longer None ts x us e

pub name_never_longer : NeverLonger name
name_never_longer = one_never_longer _

module _ {F : Type 0} (named : Phrase F) (h : NeverLonger named) where
  behind_never_longer_of : (found : Option Value) → NeverLonger (operand_behind named found)
  behind_never_longer_of (Some v) = say_never_longer _
  behind_never_longer_of None = then_never_longer named _ h (λ f. then_never_longer shift _ shift_never_longer (λ by. say_never_longer _))

  operand_never_longer : NeverLonger (operand_on named)
  unfolding operand_on
  operand_never_longer =
      then_never_longer (maybe (one literal_of)) (operand_behind named)
      (optional_never_longer None _ (then_never_longer (one literal_of) _ (one_never_longer _) (λ v. say_never_longer _))) behind_never_longer_of

  pub test_never_longer : NeverLonger (test_on named)
  unfolding test_on
  test_never_longer =
      then_never_longer named _ h
      (λ f. then_never_longer comparison _ (one_never_longer _)
      (λ c. then_never_longer (operand_on named) _ operand_never_longer (λ o. say_never_longer _)))

pub assignment_never_longer : NeverLonger assignment
unfolding assignment
assignment_never_longer =
    then_never_longer name _ (one_never_longer _)
    (λ n. then_never_longer (the_symbol symbol.Equal) _ (one_never_longer _)
    (λ u. then_never_longer (operand_on name) _ (operand_never_longer name name_never_longer) (λ o. say_never_longer _)))

pub field_never_longer : NeverLonger field
unfolding field
field_never_longer =
    then_never_longer name _ (one_never_longer _)
    (λ a. then_never_longer (the_symbol symbol.Dot) _ (one_never_longer _) (λ u. then_never_longer name _ (one_never_longer _) (λ c. say_never_longer _)))

pub from_never_longer : NeverLonger from_item
unfolding from_item
from_never_longer = then_never_longer name _ (one_never_longer _) (λ t. then_never_longer name _ (one_never_longer _) (λ a. say_never_longer _))

pub position_never_longer : NeverLonger position
position_never_longer = one_never_longer _
