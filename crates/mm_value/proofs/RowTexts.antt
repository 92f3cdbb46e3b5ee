-- The text of values one after another.
use Rattle.std.proofs.Common.{◌≡◌, ◌<◌, ◌≤◌, ℕ, ◌+◌, List, [], ◌∷◌, ◌++◌, length, map, get_or, take, drop, refl, sym, ap, ◌∙◌}
use Rattle.std.proofs.Common.{append-nil, append_assoc, take-append-drop}
use Rattle.std.specs.List.{flat_map}
use Rattle.std.proofs.lemmas.List.{drop_more, take_all, take_more}
use Rattle.std.proofs.lemmas.List.Concat.{flat_map-append}
use Rattle.mm_value.specs.declared.values.Value.{Value}
use Rattle.mm_value.specs.Written.{value_text, values_text}

-- a value after another one
abbrev pub next_text : Value → List ℕ
next_text v = 44 ∷ 32 ∷ value_text v

pub values_text-cons : (v : Value) (vs : List Value) → values_text (v ∷ vs) ≡ value_text v ++ flat_map next_text vs
values_text-cons v [] = sym (append-nil (value_text v))
values_text-cons v (w ∷ ws) = ap (λ l. value_text v ++ 44 ∷ 32 ∷ l) (values_text-cons w ws)

-- a first text, the texts of i items, that of the next one, and those of the remaining ones
texts_at : {T : Type 0} (text : T → List ℕ) (first : List ℕ) (others : List T) (i : ℕ) (v : T) → i < length others → v ≡ get_or others i v
    → first ++ flat_map text others ≡ ((first ++ flat_map text (take i others)) ++ text v) ++ flat_map text (drop (i + 1) others)
texts_at text first others i v lt at =
    let split : others ≡ take i others ++ v ∷ drop (i + 1) others =
    sym (take-append-drop i others) ∙ ap (λ l. take i others ++ l) (drop_more others i v lt ∙ ap (λ w. w ∷ drop (i + 1) others) (sym at)) in
    let texts : flat_map text others ≡ flat_map text (take i others) ++ (text v ++ flat_map text (drop (i + 1) others)) =
    ap (flat_map text) split ∙ flat_map-append text (take i others) (v ∷ drop (i + 1) others) in
    ap (λ l. first ++ l) texts
    ∙ sym (append_assoc first (flat_map text (take i others)) (text v ++ flat_map text (drop (i + 1) others)))
    ∙ sym (append_assoc (first ++ flat_map text (take i others)) (text v) (flat_map text (drop (i + 1) others)))

-- a first text, and the texts of all items
texts_all : {T : Type 0} (text : T → List ℕ) (first : List ℕ) (others : List T) (i : ℕ) → length others ≤ i
    → first ++ flat_map text others ≡ first ++ flat_map text (take i others)
texts_all text first others i end = ap (λ l. first ++ flat_map text l) (sym (take_all i others end))

-- a value after another one, by reference
abbrev pub next_text_of : {T : Type 0} → (T → Value) → T → List ℕ
next_text_of value v = next_text (value v)

pub next_texts : {T : Type 0} (value : T → Value) (vs : List T) → flat_map next_text (map value vs) ≡ flat_map (next_text_of value) vs
next_texts value [] = refl
next_texts value (v ∷ vs) = ap (λ l. next_text (value v) ++ l) (next_texts value vs)

-- i values, and the next one
pub next_value : {T : Type 0} (value : T → Value) (others : List T) (i : ℕ) (v : T) → i < length others → v ≡ get_or others i v
    → flat_map (next_text_of value) (take (i + 1) others) ≡ flat_map (next_text_of value) (take i others) ++ next_text_of value v
next_value value others i v lt at =
    ap (flat_map (next_text_of value)) (take_more others i v lt ∙ ap (λ w. take i others ++ w ∷ []) (sym at))
    ∙ flat_map-append (next_text_of value) (take i others) (v ∷ [])
    ∙ ap (λ l. flat_map (next_text_of value) (take i others) ++ l) (append-nil (next_text_of value v))

module _ {T : Type 0} (value : T → Value) (values : List T) (first : T) (others : List T) (split : values ≡ first ∷ others) where
  -- the first value, and all after it
  pub values_text-split : values_text (map value values) ≡ value_text (value first) ++ flat_map (next_text_of value) others
  values_text-split =
      ap (λ l. values_text (map value l)) split
      ∙ values_text-cons (value first) (map value others)
      ∙ ap (λ l. value_text (value first) ++ l) (next_texts value others)

  -- the first value, the i values after it, the next one, and the remaining ones
  pub values_text_at : (i : ℕ) (v : T) → i < length others → v ≡ get_or others i v
      → values_text (map value values)
      ≡ ((value_text (value first) ++ flat_map (next_text_of value) (take i others)) ++ next_text_of value v)
      ++ flat_map (next_text_of value) (drop (i + 1) others)
  values_text_at i v lt at = values_text-split ∙ texts_at (next_text_of value) (value_text (value first)) others i v lt at

  -- the first value, and the i values after it
  pub values_text_all : (i : ℕ) → length others ≤ i
      → values_text (map value values) ≡ value_text (value first) ++ flat_map (next_text_of value) (take i others)
  values_text_all i end = values_text-split ∙ texts_all (next_text_of value) (value_text (value first)) others i end

-- values as references to themselves
pub values_themselves : (values : List Value) → map (λ (v : Value). v) values ≡ values
values_themselves [] = refl
values_themselves (v ∷ vs) = ap (λ l. v ∷ l) (values_themselves vs)
