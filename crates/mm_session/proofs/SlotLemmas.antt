-- The places of statements, and statements without their bound forms.
use Rattle.std.proofs.Common.{◌≡◌, ℕ, ◌+◌, suc, ◌<◌, ◌≤◌, true, false, List, [], ◌∷◌, ◌++◌, Option, Some, None, is_none, is_some}
use Rattle.std.proofs.Common.{length, map, take, drop, get_or, set}
use Rattle.std.proofs.Common.{true≢false, refl, sym, ap, ◌∙◌, arith}
use Rattle.std.specs.List.{position, position_or_len}
use Rattle.std.proofs.lemmas.Grind.{common_steps}
use Rattle.std.proofs.lemmas.List.Sums.{fails_before_first}
use Rattle.std.specs.Prelude.{slice_get}
use Rattle.std.proofs.lemmas.List.{drop-set-lt, get_or-set_same, map_more, length-set, take_all, take_more_set}
use Rattle.std.proofs.Math.Seq.{drop-cons}
use Rattle.std.proofs.lemmas.List.Quantifiers.{position-Some}
use Rattle.std.proofs.lemmas.Option.{slice_get-get_or, slice_get-map}
use Rattle.std.specs.Option.{option_map}
use Rattle.mm_session.specs.Session.{AreTaken}
use Rattle.mm_session.specs.Statements.{line_at, line_found}
use Rattle.mm_session.specs.declared.statement.Statement.{Statement}
use Rattle.mm_session.specs.steps.Places.{line_in}

none_is : {X : Type 0} (o : Option X) → is_none o ≡ true → o ≡ None
none_is None h = refl
none_is (Some x) h = absurd (cc)

-- The first None is at its place.
pub free_place : {X : Type 0} (slots : List (Option X)) (number : ℕ) → position is_none slots ≡ Some number → slice_get slots number ≡ Some None
free_place slots number is =
    let h = position-Some is_none slots number None is in
    slice_get-get_or slots number None h.0 ∙ ap (λ o. Some o) (none_is (get_or slots number None) h.1)

-- Up to a place each element was turned, and from there on each is as it was.
pub record Turned {X : Type 0} (f : X → X) (before after : List X) (i : ℕ) : Type 0 where
  pub front : take i after ≡ map f (take i before)
  pub rest : drop i after ≡ drop i before
  pub size : length after ≡ length before

pub turned_none : {X : Type 0} (f : X → X) (before after : List X) → after ≡ before → Turned f before after 0
turned_none f before after is = record { front = refl; rest = is; size = ap length is }

pub turned_more : {X : Type 0} (f : X → X) (before after : List X) (i : ℕ) (d y : X) → i < length after → y ≡ f (get_or after i d)
    → Turned f before after i → Turned f before (set after i y) (i + 1)
turned_more f before after i d y within is turned =
    let inside : i < length before = omega (arith, turned.size) in
    let split : get_or after i d ∷ drop (suc i) after ≡ get_or before i d ∷ drop (suc i) before =
    sym (drop-cons after i d within) ∙ (turned.rest ∙ drop-cons before i d inside) in
    let here : get_or after i d ≡ get_or before i d = cc in
    let behind : drop (suc i) after ≡ drop (suc i) before = cc in
    let next : i + 1 ≡ suc i = omega arith in
    record {
      front = take_more_set after i y within ∙ (ap (λ l. l ++ y ∷ []) turned.front ∙ (ap (λ z. map f (take i before) ++ z ∷ []) (is ∙ ap f here)
          ∙ sym (map_more f before i d inside)));
      rest = drop-set-lt (i + 1) after i y (omega arith) ∙ (ap (λ n. drop n after) next ∙ (behind ∙ sym (ap (λ n. drop n before) next)));
      size = length-set after i y ∙ turned.size;
    }

-- At the end each element was turned.
pub turned_all : {X : Type 0} (f : X → X) (before after : List X) (i : ℕ) → length after ≤ i → Turned f before after i → after ≡ map f before
turned_all f before after i end turned =
    sym (take_all i after end) ∙ (turned.front ∙ ap (map f) (take_all i before (omega (arith, turned.size))))

line_there : (slot : Option Statement) → is_some slot ≡ true → (line : List ℕ) × (line_in slot ≡ Some line)
line_there None some = absurd (true≢false (sym some))
line_there (Some statement) some = (statement.line.items, refl)

-- The line at a number is that of the statement there.
pub line_of_slot : (slots : List (Option Statement)) (number : ℕ) (d : Option Statement) → number < length slots
    → line_at number (map line_in slots) ≡ line_in (get_or slots number d)
line_of_slot slots number d within =
    ap line_found (slice_get-map line_in slots number ∙ ap (option_map line_in) (slice_get-get_or slots number d within))

pub stands_there : (slots : List (Option Statement)) (number : ℕ) (d : Option Statement) → number < length slots → is_some (get_or slots number d) ≡ true
    → (line : List ℕ) × (line_at number (map line_in slots) ≡ Some line)
stands_there slots number d within some =
    let there = line_there (get_or slots number d) some in (there.0, line_of_slot slots number d within ∙ there.1)

some_is : {X : Type 0} (o : Option X) → is_none o ≡ false → is_some o ≡ true
some_is None h = absurd (cc)
some_is (Some x) h = refl

-- Below the first place without a statement each has one, ..
pub taken_below : (slots : List (Option Statement)) (number : ℕ) → position is_none slots ≡ Some number → AreTaken number (map line_in slots)
taken_below slots number is = λ k below.
    let h = position-Some is_none slots number None is in
    stands_there slots k None (omega (arith, h.0, below)) (some_is (get_or slots k None) (h.2 k below))

-- .. and all have one if there is no such place.
pub all_taken : (slots : List (Option Statement)) → position is_none slots ≡ None → AreTaken (length slots) (map line_in slots)
all_taken slots is = λ k below.
    let end : length slots ≤ position_or_len is_none slots = grind (arith, common_steps) in
    stands_there slots k None below (some_is (get_or slots k None) (fails_before_first is_none slots k None (omega (arith, end, below))))

-- A value put at a place is there.
pub put_there : {X : Type 0} (slots : List (Option X)) (number : ℕ) (slot : Option X) → number < length slots
    → slice_get (set slots number slot) number ≡ Some slot
put_there slots number slot within =
    slice_get-get_or (set slots number slot) number slot (omega (arith, length-set slots number slot, within))
    ∙ ap (λ o. Some o) (get_or-set_same slots number slot slot within)

-- A statement at a place has its line there.
pub line_of_statement : (slots : List (Option Statement)) (number : ℕ) (statement : Statement) → slice_get slots number ≡ Some (Some statement)
    → line_at number (map line_in slots) ≡ Some statement.line.items
line_of_statement slots number statement is = ap line_found (slice_get-map line_in slots number ∙ ap (option_map line_in) is)
