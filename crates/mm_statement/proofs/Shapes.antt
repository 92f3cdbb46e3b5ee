-- Values that differ only in their literals.
use Rattle.std.proofs.Common.{◌≡◌, Bool, ◌||◌, List, [], ◌∷◌, ◌++◌, length, map, refl, sym, ap, ◌∙◌}
use Rattle.std.specs.List.{All, AllByRecursion, flat_map, list_any}
use Rattle.std.proofs.lemmas.List.Elements.{All-from_recursion, recursion_from_All}
use Rattle.std.proofs.lemmas.List.{append-nil, append_assoc, map-append}

-- If two equal lists are each split after equally many elements, the parts are equal.
pub same_parts : {V : Type 0} (es bs xs ys : List V) → length es ≡ length bs → es ++ xs ≡ bs ++ ys → (es ≡ bs) × (xs ≡ ys)
same_parts [] [] xs ys count same = (refl, same)
same_parts [] (b ∷ bs) xs ys count same = absurd (cc)
same_parts (a ∷ es) [] xs ys count same = absurd (cc)
same_parts (a ∷ es) (b ∷ bs) xs ys count same =
    let counts : length es ≡ length bs = cc in
    let rest : es ++ xs ≡ bs ++ ys = cc in
    let h = same_parts es bs xs ys counts rest in
    let head : a ≡ b = cc in
    (λ i. head i ∷ h.0 i, h.1)

-- A function of each literal of some values, and of further literals.
pub map_all : {A V W : Type 0} (f : V → W) (literals : A → List V) (es : List A) (xs : List V)
    → map f (flat_map literals es ++ xs) ≡ flat_map (λ a. map f (literals a)) es ++ map f xs
map_all f literals [] xs = refl
map_all f literals (a ∷ es) xs =
    ap (map f) (append_assoc (literals a) (flat_map literals es) xs)
    ∙ map-append f (literals a) (flat_map literals es ++ xs)
    ∙ ap (λ l. map f (literals a) ++ l) (map_all f literals es xs)
    ∙ sym (append_assoc (map f (literals a)) (flat_map (λ a. map f (literals a)) es) (map f xs))

pub map_each : {A V W : Type 0} (f : V → W) (literals : A → List V) (es : List A) → map f (flat_map literals es) ≡ flat_map (λ a. map f (literals a)) es
map_each f literals es =
    ap (map f) (sym (append-nil (flat_map literals es)))
    ∙ map_all f literals es []
    ∙ append-nil (flat_map (λ a. map f (literals a)) es)

-- Two values have the same shape and the same literals.
pub record Same {A V : Type 0} (blank : A → A) (literals : A → List V) (a b : A) : Type 0 where
  pub shape : blank a ≡ blank b
  pub values : literals a ≡ literals b

-- The values of two lists have the same shapes and literals, in pairs.
abbrev pub EachSame : {A V : Type 0} → (A → A) → (A → List V) → List A → List A → Type 0
EachSame blank literals [] [] = Unit {0}
EachSame blank literals [] (b ∷ bs) = ⊥
EachSame blank literals (a ∷ es) [] = ⊥
EachSame blank literals (a ∷ es) (b ∷ bs) = Same blank literals a b × EachSame blank literals es bs

-- Values of the same shape have equally many literals.
abbrev pub IsCounted : {A V : Type 0} → (A → A) → (A → List V) → Type 0
IsCounted {A} blank literals = (a b : A) → blank a ≡ blank b → length (literals a) ≡ length (literals b)

module _ {A V : Type 0} (blank : A → A) (literals : A → List V) where
  -- Lists of the same shape with the same literals have them in pairs, and the literals that follow are equal.
  pub each_same : IsCounted blank literals → (es bs : List A) (xs ys : List V) → map blank es ≡ map blank bs
      → flat_map literals es ++ xs ≡ flat_map literals bs ++ ys → EachSame blank literals es bs × (xs ≡ ys)
  each_same counted [] [] xs ys shape same = (tt, same)
  each_same counted [] (b ∷ bs) xs ys shape same = absurd (cc)
  each_same counted (a ∷ es) [] xs ys shape same = absurd (cc)
  each_same counted (a ∷ es) (b ∷ bs) xs ys shape same =
      let here : blank a ≡ blank b = cc in
      let others : map blank es ≡ map blank bs = cc in
      let parts =
      same_parts (literals a) (literals b) (flat_map literals es ++ xs) (flat_map literals bs ++ ys) (counted a b here)
      (sym (append_assoc (literals a) (flat_map literals es) xs) ∙ same ∙ append_assoc (literals b) (flat_map literals bs) ys) in
      let rest = each_same counted es bs xs ys others parts.1 in
      ((record { shape = here; values = parts.0 }, rest.0), rest.1)

  pub each_same_all : IsCounted blank literals → (es bs : List A) → map blank es ≡ map blank bs → flat_map literals es ≡ flat_map literals bs
      → EachSame blank literals es bs
  each_same_all counted es bs shape same =
      (each_same counted es bs [] [] shape (append-nil (flat_map literals es) ∙ same ∙ sym (append-nil (flat_map literals bs)))).0

  -- A test with the same result for two such values has the same result for the lists.
  pub any_same : (p : A → Bool) → ((a b : A) → Same blank literals a b → p a ≡ p b) → (es bs : List A) → EachSame blank literals es bs
      → list_any p es ≡ list_any p bs
  any_same p alike [] [] h = refl
  any_same p alike [] (b ∷ bs) h = absurd h
  any_same p alike (a ∷ es) [] h = absurd h
  any_same p alike (a ∷ es) (b ∷ bs) h = λ i. alike a b h.0 i || any_same p alike es bs h.1 i

  -- If two such values are equal, so are the lists.
  pub equal_each : ((a b : A) → Same blank literals a b → a ≡ b) → (es bs : List A) → EachSame blank literals es bs → es ≡ bs
  equal_each equal [] [] h = refl
  equal_each equal [] (b ∷ bs) h = absurd h
  equal_each equal (a ∷ es) [] h = absurd h
  equal_each equal (a ∷ es) (b ∷ bs) h = λ i. equal a b h.0 i ∷ equal_each equal es bs h.1 i

  -- Such lists have the same length.
  pub as_many : (es bs : List A) → EachSame blank literals es bs → length es ≡ length bs
  as_many [] [] h = refl
  as_many [] (b ∷ bs) h = absurd h
  as_many (a ∷ es) [] h = absurd h
  as_many (a ∷ es) (b ∷ bs) h = let rest = as_many es bs h.1 in cc

module _ {A : Type 0} (blank : A → A) (P : A → Type 0) (carried : (a b : A) → blank a ≡ blank b → P a → P b) where
  carried_each : (es bs : List A) → map blank es ≡ map blank bs → AllByRecursion P es → AllByRecursion P bs
  carried_each [] [] shape all = tt
  carried_each [] (b ∷ bs) shape all = absurd (cc)
  carried_each (a ∷ es) [] shape all = absurd (cc)
  carried_each (a ∷ es) (b ∷ bs) shape all =
      let here : blank a ≡ blank b = cc in
      let others : map blank es ≡ map blank bs = cc in
      (carried a b here all.0, carried_each es bs others all.1)

  -- A property that depends on the shape alone holds of all values in a list of the same shape.
  pub carried_all : (es bs : List A) → map blank es ≡ map blank bs → All P es → All P bs
  carried_all es bs shape all = All-from_recursion P bs (carried_each es bs shape (recursion_from_All P es all))
