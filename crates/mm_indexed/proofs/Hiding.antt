-- All rows are hidden.
use Rattle.std.proofs.Common.{◌≡◌, ◌≢◌, ℕ, suc, ◌<◌, ◌⊎◌, inl, inr, ⊎_elim, List, [], ◌∷◌, length, get_or, refl, sym, ap, ◌∙◌, subst, arith}
use Rattle.std.specs.Prelude.{IsPermutation}
use Rattle.std.specs.List.{All, AllPairs, Contains}
use Rattle.std.proofs.lemmas.List.Elements.{All-head, Contains-append_cases}
use Rattle.std.proofs.lemmas.List.Sorted.{IsPermutation-refl}
use Rattle.mm_value.specs.declared.col_type.ColType.{ColType}
use Rattle.mm_value.specs.declared.row_ref.RowRef.{RowRef}
use Rattle.mm_value.specs.declared.values.Value.{Value}
use Rattle.mm_partition.specs.Places.{Content, Places, Free, Live, Hidden, slot_at, ChangesOnly}
use Rattle.mm_row_order.specs.Refs.{Slots, HasRow}
use Rattle.mm_row_order.specs.InOrder.{InOrder}
use Rattle.mm_indexed.specs.Hiding.{HidesAll, out_of_use}
use Rattle.mm_indexed.specs.Index.{EachTurns, Emptied, Keeps, column_of}
use Rattle.mm_indexed.specs.Kept.{IsKept}
use Rattle.mm_indexed.specs.declared.indexes.index.Index.{Index}
use Rattle.mm_indexed.proofs.RefTests.{only, same_or_apart}
use Rattle.mm_indexed.proofs.Turning.{All-turned}

-- Some rows have been hidden. The remaining ones are those of the references.
pub record IsHiding (start now : Slots) (refs : List RowRef) : Type 0 where
  pub each : (r : RowRef) → (now r ≡ start r) ⊎ (now r ≡ out_of_use (start r))
  pub live : All (HasRow now) refs
  pub apart : AllPairs (λ a b. a ≢ b) refs
  pub left : (r : RowRef) → HasRow now r → Contains refs r

pub not_in_use : (slot : Content) (row : List Value) → out_of_use slot ≢ Live row
not_in_use Free row same = cc
not_in_use (Live other) row same = cc
not_in_use (Hidden other) row same = cc

pub stays_out : (slot : Content) → ((row : List Value) → slot ≢ Live row) → slot ≡ out_of_use slot
stays_out Free none = refl
stays_out (Live row) none = absurd (none row refl)
stays_out (Hidden row) none = refl

none_held : (r : RowRef) → Contains [] r → ⊥
none_held r (k, within, is) = omega (arith, within)

-- one more row is hidden
pub IsHiding-next : (start : Slots) (old new : Places) (at : RowRef) (rest : List RowRef) → IsHiding start (slot_at old) (at ∷ rest)
    → ((row : List Value) → slot_at old at ≡ Live row → ChangesOnly old new at (Hidden row)) → IsHiding start (slot_at new) rest
IsHiding-next start old new at rest was hides =
    let here : HasRow (slot_at old) at = All-head (HasRow (slot_at old)) at rest was.live in
    let changes : ChangesOnly old new at (Hidden here.0) = hides here.0 here.1 in
    let gone : slot_at new at ≡ out_of_use (start at) = ⊎_elim
    (λ (same : slot_at old at ≡ start at). changes.changed ∙ ap out_of_use (sym here.1 ∙ same))
    (λ (out : slot_at old at ≡ out_of_use (start at)). absurd (not_in_use (start at) here.0 (sym out ∙ here.1)))
    (was.each at) in
    record {
      each = λ r. ⊎_elim
          (λ (same : r ≡ at). inr (subst (λ (x : RowRef). slot_at new x ≡ out_of_use (start x)) (sym same) gone))
          (λ (apart : r ≢ at).
          ⊎_elim
          (λ (same : slot_at old r ≡ start r). inl (changes.others r apart ∙ same))
          (λ (out : slot_at old r ≡ out_of_use (start r)). inr (changes.others r apart ∙ out))
          (was.each r))
          (same_or_apart r at);
      live = λ k d within.
          let apart : get_or rest k d ≢ at = λ same. was.apart 0 (suc k) d (omega arith) (omega (arith, within)) (sym same) in
          let live : HasRow (slot_at old) (get_or rest k d) = was.live (suc k) d (omega (arith, within)) in
          (live.0, changes.others (get_or rest k d) apart ∙ live.1);
      apart = λ i j d before within. was.apart (suc i) (suc j) d (omega (arith, before)) (omega (arith, within));
      left = λ r live.
          let apart : r ≢ at = λ same.
          let both : Hidden here.0 ≡ Live live.0 = sym changes.changed ∙ (ap (slot_at new) (sym same) ∙ live.1) in cc in
          ⊎_elim
          (λ (first : Contains (at ∷ []) r). absurd (apart (sym (only at r first))))
          (λ (later : Contains rest r). later)
          (Contains-append_cases (at ∷ []) rest r (was.left r (live.0, sym (changes.others r apart) ∙ live.1)));
    }

-- no row remains in use
pub IsHiding-all : (start now : Slots) → IsHiding start now [] → (r : RowRef) → now r ≡ out_of_use (start r)
IsHiding-all start now done r =
    ⊎_elim
    (λ (same : now r ≡ start r). same ∙ stays_out (start r) (λ row is. none_held r (done.left r (row, same ∙ is))))
    (λ (out : now r ≡ out_of_use (start r)). out)
    (done.each r)

-- ---- indexes without entries

pub InOrder-none : (column key : ℕ) (now : Slots) (refs : List RowRef) → refs ≡ [] → InOrder column key now refs
InOrder-none column key now refs none = subst (InOrder column key now) (sym none) (record {
  covered = λ k d within. let no : ⊥ = omega (arith, within) in absurd no;
  ascending = λ i j d before within. let no : ⊥ = omega (arith, within) in absurd no;
})

pub IsPermutation-none : {X : Type 0} (xs : List X) → xs ≡ [] → IsPermutation xs []
IsPermutation-none xs none = subst (λ (ys : List _). IsPermutation ys []) (sym none) (IsPermutation-refl [])

pub IsKept-emptied : (types new_types : List ColType) → new_types ≡ types → (key : ℕ) (old new : Places) (refs more : List RowRef) (indexes full : List Index)
    → HidesAll old new → more ≡ [] → EachTurns Emptied indexes full → IsKept types key (slot_at old) refs indexes
    → IsKept new_types key (slot_at new) more full
IsKept-emptied types new_types same_types key old new refs more indexes full hides none turned was =
    let out : (r : RowRef) → HasRow (slot_at new) r → ⊥ = λ r live. not_in_use (slot_at old r) live.0 (sym (hides r) ∙ live.1) in
    subst (λ (xs : List RowRef). IsKept new_types key (slot_at new) xs full) (sym none) (record {
      key_in = subst (λ (ts : List ColType). key < length ts) (sym same_types) was.key_in;
      columns =
          All-turned Emptied (λ x. column_of x < length types) (λ x. column_of x < length new_types) indexes full turned
          (λ x y within t. omega (arith, within, t.same.0, ap length same_types)) was.columns;
      typed = λ at row is. absurd (out at (row, is));
      held = λ r. (λ here. absurd (none_held r here), λ live. absurd (out r live));
      by_key = InOrder-none key key (slot_at new) [] refl;
      keep =
          All-turned Emptied (λ x. Unit {0}) (Keeps key (slot_at new) []) indexes full turned (λ x y any t. t.empty key (slot_at new))
          (λ k d within. tt);
    })
