-- Rows that changes name.
use Rattle.std.proofs.Common.{◌≡◌, ℕ, ℤ, pos, ◌+ℤ◌, Bool, true, false, true≢false, cond, ◌||◌, List, [], ◌∷◌, refl, sym, ap, ◌∙◌, subst, arith}
use Rattle.std.specs.Prelude.{◌==◌, map, neg_ℤ}
use Rattle.std.specs.List.{All}
use Rattle.std.proofs.lemmas.Bool.{eq-eqb, eqb-true}
use Rattle.std.proofs.lemmas.Int.{ints}
use Rattle.std.proofs.lemmas.List.Elements.{All-cons, All-head, All-nil, All-tail}
use Rattle.mm_value.specs.Equality.{same_row}
use Rattle.mm_value.specs.EqualityLaws.{same_row_equiv}
use Rattle.mm_value.specs.declared.values.Value.{Value}
use Rattle.mm_value.proofs.SameRows.{rows_exact}
use Rattle.mm_standing.specs.Bags.{is_named, names, opposite, row_change, sum_over}
use Rattle.mm_standing.specs.declared.change.RowChange.{RowChange}

pub named_is : (list : ℕ) (row : List Value) (c : RowChange) → names list row c ≡ true → (c.list ≡ list) × (row ≡ c.change.row)
named_is list row c h = by (c.list == list) refl (same_row row c.change.row) refl h
  where
    by : (a : Bool) → (c.list == list) ≡ a → (b : Bool) → same_row row c.change.row ≡ b → cond a b false ≡ true → (c.list ≡ list) × (row ≡ c.change.row)
    by true e true r h = (eqb-true c.list list e, (rows_exact row c.change.row).0 r)
    by true e false r h = absurd (true≢false (sym h))
    by false e b r h = absurd (true≢false (sym h))

-- A property of the row of each change holds of each row that one of the changes names.
pub named_one : (P : ℕ → List Value → Type 0) (cs : List RowChange) → All (λ (c : RowChange). P c.list c.change.row) cs
    → (list : ℕ) (row : List Value) → is_named list row cs ≡ true → P list row
named_one P [] all list row h = absurd (true≢false (sym h))
named_one P (c ∷ cs) all list row h =
    by (names list row c) refl (named_one P cs (All-tail (λ (d : RowChange). P d.list d.change.row) c cs all) list row) h
  where
    by : (b : Bool) → names list row c ≡ b → (is_named list row cs ≡ true → P list row) → b || is_named list row cs ≡ true → P list row
    by true e later r =
        let is = named_is list row c e in
        subst (λ l. P l row) is.0 (subst (λ q. P c.list q) (sym is.1) (All-head (λ (d : RowChange). P d.list d.change.row) c cs all))
    by false e later r = later r

-- If no change names a row, none of them does.
pub none_named : (list : ℕ) (row : List Value) (cs : List RowChange) → is_named list row cs ≡ false → All (λ (d : RowChange). names list row d ≡ false) cs
none_named list row [] h = All-nil (λ (d : RowChange). names list row d ≡ false)
none_named list row (c ∷ cs) h =
    let both = apart (names list row c) (is_named list row cs) h in
    All-cons (λ (d : RowChange). names list row d ≡ false) c cs both.0 (none_named list row cs both.1)
  where
    apart : (a b : Bool) → a || b ≡ false → (a ≡ false) × (b ≡ false)
    apart true b h = absurd (true≢false h)
    apart false b h = (refl, h)

-- A change names the row of another exactly if that one names its row.
pub not_named : (c d : RowChange) → names c.list c.change.row d ≡ false → names d.list d.change.row c ≡ false
not_named c d apart = by (names d.list d.change.row c) refl
  where
    by : (b : Bool) → names d.list d.change.row c ≡ b → names d.list d.change.row c ≡ false
    by true e =
        let is = named_is d.list d.change.row c e in
        let turned : names c.list c.change.row d ≡ true =
        ap (λ a. cond a (same_row c.change.row d.change.row) false) (eq-eqb d.list c.list (sym is.0))
        ∙ ap (same_row c.change.row) is.1 ∙ same_row_equiv.refl c.change.row in
        absurd (true≢false (sym turned ∙ apart))
    by false e = e

-- Neither changes of other rows nor those that undo them change the count of a row.
pub none_summed : (list : ℕ) (row : List Value) (cs : List RowChange) → is_named list row cs ≡ false
    → sum_over (row_change list row) (map opposite cs) ≡ pos 0
none_summed list row [] none = refl
none_summed list row (c ∷ cs) none =
    let both = apart (names list row c) (is_named list row cs) none in
    add (row_change list row (opposite c)) (sum_over (row_change list row) (map opposite cs))
    (nothing (c.list == list) (same_row row c.change.row) c.change.count both.0) (none_summed list row cs both.1)
  where
    apart : (a b : Bool) → a || b ≡ false → (a ≡ false) × (b ≡ false)
    apart true b h = absurd (true≢false h)
    apart false b h = (refl, h)

    nothing : (a b : Bool) (n : ℤ) → cond a b false ≡ false → cond a (cond b (neg_ℤ n) (pos 0) +ℤ pos 0) (pos 0) ≡ pos 0
    nothing true true n e = absurd (true≢false e)
    nothing true false n e = omega (arith, ints)
    nothing false b n e = refl

    add : (a b : ℤ) → a ≡ pos 0 → b ≡ pos 0 → a +ℤ b ≡ pos 0
    add a b p q = omega (arith, ints)
