-- Cells that have values.
use mathlib.Core.Path.{◌≡◌, refl, sym, ap, subst, ◌∙◌}
use Prim.Native.Nat.{ℕ, zero, suc}
use Rattle.std.proofs.Common.{arith, get_or}
use Rattle.std.specs.Prelude.{Result, Ok, Err, IsErrOf, IsOk, ◌≢◌, ◌↔◌, ◌+◌, ◌-◌, ◌<◌, ◌≤◌, All, drop, List, [], ◌∷◌, ◌++◌, length, take}
use Rattle.std.specs.List.{Any}
use Rattle.std.proofs.Math.Nat.{lt_of_not-le}
use Rattle.std.proofs.lemmas.Grind.{common_steps}
use Rattle.std.proofs.Common.{length-append, length-drop, set}
use Rattle.std.proofs.lemmas.List.{drop-drop, drop-set-add, drop-set-lt, take-set-le, take_more, take_more_set}
use Rattle.mm_value.specs.declared.refusal.Refusal.{Refusal}
use Rattle.mm_value.specs.declared.refusal.Refusal.TheVariants.{Memory, Syntax}
use Rattle.mm_value.specs.declared.values.Value.{Value}
use Rattle.mm_value.specs.declared.values.Value.TheVariants.{Text}
use Rattle.mmdb_c.specs.Cells.{NeedsMemory, StandsFor, StandFor}
use Rattle.mmdb_c.specs.steps.Reading.{WritesCells}
use Rattle.mmdb_c.specs.declared.cell.Cell.{Cell}

none_below : (i : ℕ) → i < 0 → ⊥
none_below i h = omega (arith, h)

-- cells and more cells have their values together
pub stand_both : (cells more : List Cell) (values others : List Value) → StandFor cells values → StandFor more others
    → StandFor (cells ++ more) (values ++ others)
stand_both [] more [] others s t = t
stand_both [] more (value ∷ values) others s t = absurd s
stand_both (cell ∷ cells) more [] others s t = absurd s
stand_both (cell ∷ cells) more (value ∷ values) others s t = (s.0, stand_both cells more values others s.1 t)

-- so do they with one more
pub stand_more : (cells : List Cell) (values : List Value) (cell : Cell) (value : Value) → StandFor cells values → StandsFor cell value
    → StandFor (cells ++ cell ∷ []) (values ++ value ∷ [])
stand_more cells values cell value s t = stand_both cells (cell ∷ []) values (value ∷ []) s (t, tt)

-- each cell has a value
pub stands_at : (cells : List Cell) (values : List Value) (i : ℕ) (d : Cell) → i < length cells → StandFor cells values
    → (value : Value) × StandsFor (get_or cells i d) value
stands_at [] values i d within s = absurd (none_below i within)
stands_at (cell ∷ cells) [] i d within s = absurd s
stands_at (cell ∷ cells) (value ∷ values) zero d within s = (value, s.0)
stands_at (cell ∷ cells) (value ∷ values) (suc i) d within s = stands_at cells values i d (omega (arith, within)) s.1

-- there are as many values as cells
pub as_many_values : (cells : List Cell) (values : List Value) → StandFor cells values → length values ≡ length cells
as_many_values [] [] s = refl
as_many_values [] (value ∷ values) s = absurd s
as_many_values (cell ∷ cells) [] s = absurd s
as_many_values (cell ∷ cells) (value ∷ values) s = ap suc (as_many_values cells values s.1)

-- lists that are equal from a place on are equal from a later place on
pub drop_same : (xs ys : List Cell) (i j : ℕ) → i ≤ j → drop i xs ≡ drop i ys → drop j xs ≡ drop j ys
drop_same xs ys i j h e =
    let split : (zs : List Cell) → drop (j - i) (drop i zs) ≡ drop j zs = λ zs. drop-drop (j - i) i zs ∙ ap (λ n. drop n zs) (omega (arith, h)) in
    sym (split xs) ∙ ap (drop (j - i)) e ∙ split ys

-- the first i cells have values, and the next cell has another
pub stand_next : (cells : List Cell) (i : ℕ) (d : Cell) (values : List Value) (value : Value) → i < length cells
    → StandFor (take i cells) values → StandsFor (get_or cells i d) value → StandFor (take (i + 1) cells) (values ++ value ∷ [])
stand_next cells i d values value within s t =
    subst (λ cs. StandFor cs (values ++ value ∷ [])) (sym (take_more cells i d within)) (stand_more (take i cells) values (get_or cells i d) value s t)

-- A list without an element has only others.
no_line_feed : (bytes : List ℕ) → (Any (λ b. b ≡ 10) bytes → ⊥) → All (λ b. b ≢ 10) bytes
no_line_feed bytes none = λ k d within is. none (k, 10, within, get_or_same bytes k d 10 within ∙ is, refl)
  where
    get_or_same : (xs : List ℕ) (k d e : ℕ) → k < length xs → get_or xs k e ≡ get_or xs k d
    get_or_same xs k d e within = grind (arith, common_steps)

-- A cell whose text cannot be allocated has a text of more than 16 bytes.
pub refused_text : (cell : Cell) (bytes : List ℕ) (refusal : Refusal) → cell.kind ≡ 1 → bytes ≡ take cell.len cell.text → length bytes ≡ cell.len
    → cell.len ≤ 64 → refusal ≡ Memory → IsErrOf {T = List ℕ} (Err refusal) Syntax ↔ ((length bytes ≤ 64) × Any (λ b. b ≡ 10) bytes)
    → (length bytes ≤ 16 → All (λ b. b ≢ 10) bytes → IsOk {T = List ℕ} (Err refusal)) → (value : Value) × StandsFor cell value × NeedsMemory value
refused_text cell bytes refusal kind is size within memory line_feed short =
    let other : ◌≡◌ {A = Result (List ℕ) Refusal} (Err refusal) (Err Syntax) → ⊥ = λ e. cc in
    let one_line : All (λ b. b ≢ 10) bytes = no_line_feed bytes (λ found. other (line_feed.1 (omega (arith, size, within), found))) in
    let long : 16 < length bytes = lt_of_not-le (λ h. (let clash = short h one_line in cc)) in
    (Text bytes, (kind, sym size, ap (λ n. take n cell.text) size ∙ sym is, record { short = omega (arith, size, within); one_line = one_line }), long)

-- the error of a result
abbrev error_of : {T E : Type 0} → Result T E → E → E
error_of (Ok value) e = e
error_of (Err x) e = x

-- an error is the same in results of other types
pub same_error : {T U E : Type 0} (r : Result T E) (x y z : E) → r ≡ Err x → r ≡ Err y → x ≡ z → IsErrOf {T = U} (Err z) y
same_error {T} {U} {E} r x y z is_x is_y same = ap (λ (e : E). Err e) (sym same ∙ ap (λ (q : Result T E). error_of q x) (sym is_x ∙ is_y))

-- one more cell has one more value
pub set_more : (old cells : List Cell) (place i : ℕ) (values : List Value) (cell : Cell) (value : Value) → i ≡ length values
    → place + i < length cells → WritesCells place values old cells → StandsFor cell value
    → WritesCells place (values ++ value ∷ []) old (set cells (place + i) cell)
set_more old cells place i values cell value e within was stands =
    let more : length (values ++ value ∷ []) ≡ i + 1 = length-append values (value ∷ []) ∙ ap (λ n. n + 1) (sym e) in
    let room : i < length (drop place cells) = omega (arith, within, length-drop place cells) in
    let stood : StandFor (take i (drop place cells)) values = subst (λ n. StandFor (take n (drop place cells)) values) (sym e) was.stand in
    let shown : take (i + 1) (drop place (set cells (place + i) cell)) ≡ take i (drop place cells) ++ cell ∷ [] =
    ap (take (i + 1)) (drop-set-add place cells i cell) ∙ take_more_set (drop place cells) i cell room in
    let behind : drop (place + (i + 1)) (set cells (place + i) cell) ≡ drop (place + (i + 1)) old =
    drop-set-lt (place + (i + 1)) cells (place + i) cell (omega arith) ∙ drop_same cells old (place + i) (place + (i + 1)) (omega arith)
    (subst (λ n. drop (place + n) cells ≡ drop (place + n) old) (sym e) was.back) in
    record {
      front = take-set-le place cells (place + i) cell (omega arith) ∙ was.front;
      stand = subst (λ n. StandFor (take n (drop place (set cells (place + i) cell))) (values ++ value ∷ [])) (sym more)
          (subst (λ cs. StandFor cs (values ++ value ∷ [])) (sym shown) (stand_more (take i (drop place cells)) values cell value stood stands));
      back = subst (λ n. drop (place + n) (set cells (place + i) cell) ≡ drop (place + n) old) (sym more) behind;
    }
