-- The laws of equality and hash: equality is an equivalence, and equal values are hashed alike.
use Rattle.std.specs.Prelude.{◌≡◌, ℕ, true, List}
use Rattle.std.proofs.Common.{refl, ap, sym, subst, ◌∙◌}
use Rattle.std.specs.Cmp.{IsEquivalence, int_eq_equiv, signed_Decides}
use Rattle.std.specs.Cmp.Lexicographic.{pointwise, bytes_decides, lists_equiv, lists_ties, nat_list_eq_equiv, texts_ties}
use Rattle.std.specs.Hash.{i64, items_Alike}
use Rattle.std.specs.Str.{bytes_eq}
use Rattle.mm_value.specs.Equality.{same_value, same_row, text_input, value_input, row_input}
use Rattle.mm_value.specs.Order.{value_cmp}
use Rattle.mm_value.specs.declared.values.Value.{Value}
use Rattle.mm_value.specs.declared.values.Value.TheVariants.{Int, Text}

itself : (a : Value) → same_value a a ≡ true
itself (Int a) = int_eq_equiv.refl a
itself (Text a) = sym (texts_ties a a) ∙ nat_list_eq_equiv.refl a

turned : (a b : Value) → same_value a b ≡ same_value b a
turned (Int a) (Int b) = int_eq_equiv.symm a b
turned (Int a) (Text b) = refl
turned (Text a) (Int b) = refl
turned (Text a) (Text b) = sym (texts_ties a b) ∙ nat_list_eq_equiv.symm a b ∙ texts_ties b a

alike : (a b c : Value) → same_value a b ≡ true → same_value a c ≡ same_value b c
alike (Int a) (Int b) (Int c) h = int_eq_equiv.congr a b c h
alike (Int a) (Int b) (Text c) h = refl
alike (Int a) (Text b) c h = cc
alike (Text a) (Int b) c h = cc
alike (Text a) (Text b) (Int c) h = refl
alike (Text a) (Text b) (Text c) h =
    sym (texts_ties a c) ∙ nat_list_eq_equiv.congr a b c (texts_ties a b ∙ h) ∙ texts_ties b c

pub same_value_equiv : IsEquivalence same_value
same_value_equiv = record { refl = itself; symm = turned; congr = alike }

-- Rows are equal if and only if they have the same length and equal values at each position.
pub rows_by_values : (a b : List Value) → pointwise same_value a b ≡ same_row a b
rows_by_values = lists_ties value_cmp (λ a b. refl)

pub same_row_equiv : IsEquivalence same_row
same_row_equiv = subst IsEquivalence (λ i a b. rows_by_values a b i) (lists_equiv same_value_equiv)

pub text_alike : (a b : List ℕ) → bytes_eq a b ≡ true → text_input a ≡ text_input b
text_alike a b h = ap text_input ((bytes_decides a b).0 h)

pub value_alike : (a b : Value) → same_value a b ≡ true → value_input a ≡ value_input b
value_alike (Int a) (Int b) h = ap i64 ((signed_Decides a b).0 h)
value_alike (Int a) (Text b) h = cc
value_alike (Text a) (Int b) h = cc
value_alike (Text a) (Text b) h = text_alike a b (texts_ties a b ∙ h)

pub row_alike : (a b : List Value) → same_row a b ≡ true → row_input a ≡ row_input b
row_alike a b h = (items_Alike (record { fed = value_alike })).fed a b (rows_by_values a b ∙ h)
