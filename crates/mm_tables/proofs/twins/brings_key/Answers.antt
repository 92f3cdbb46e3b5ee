use Rattle.std.proofs.Common.{◌≡◌, ◌≢◌, ⊎_elim, ℕ, ◌<◌, ◌≤◌, List, length, Option, Some, None, get_or, refl, sym, ap, ◌∙◌, subst, arith}
use Rattle.std.specs.Prelude.{◌↔◌, IsSome, IfSome, IfNone, slice_get}
use Rattle.std.specs.List.{All, Contains}
use Rattle.std.specs.Option.{option_cmp}
use Rattle.std.specs.declared.cmp.Ordering.TheVariants.{Equal}
use Rattle.std.proofs.lemmas.Option.{slice_get_cases}
use Rattle.mm_value.specs.Order.{value_cmp}
use Rattle.mm_value.specs.Views.{value_of}
use Rattle.mm_value.specs.declared.row_ref.RowRef.{RowRef}
use Rattle.mm_value.specs.declared.values.Value.{Value}
use Rattle.mm_partition.specs.Places.{Content, Live, Hidden, row_in, slot_at}
use Rattle.mm_partition.specs.Views.{viewed}
use Rattle.mm_row_order.specs.InOrder.{InOrder}
use Rattle.mm_row_order.specs.Refs.{Slots, HasRow, HasHidden, IsWide, row_at}
use Rattle.mm_row_order.proofs.Seeks.{place_exact}
use Rattle.mm_indexed.specs.Twins.{HasTwin}
use Rattle.mm_indexed.proofs.OneKey.{tied_by_value}
use Rattle.mm_tables.proofs.Slots.{holds_at}
use Rattle.mm_tables.proofs.twins.brings_key.Goals as goal

-- a value that compares equal to no value is no value
ties_with_none : (o : Option Value) → option_cmp value_cmp o None ≡ Equal → o ≡ None
ties_with_none None tie = refl
ties_with_none (Some x) tie = let no : ⊥ = cc in absurd no

module _ (key : ℕ) (now : Slots) (refs : List RowRef) (held : (r : RowRef) → Contains refs r ↔ HasRow now r) (at : RowRef) (hidden : HasHidden now at) where
  -- a row that is found by the key of a hidden row is its twin
  found : (value : Value) → slice_get (row_at now at) key ≡ Some value → (r : Option RowRef) → IfSome r (Contains refs)
      → IfSome r (λ x. slice_get (row_at now x) key ≡ Some value) → IsSome r → HasTwin key now at
  found value own None here fits some = let no : ⊥ = cc in absurd no
  found value own (Some r) here fits some =
      let live : HasRow now r = (held r).0 here in (
        r,
        live,
        λ same. let both : Live live.0 ≡ Hidden hidden.0 = sym live.1 ∙ (ap now same ∙ hidden.1) in cc,
        tied_by_value key now value r at fits own,
      )

  -- .. and if none is found, there is none
  not_found : (value : Value) → slice_get (row_at now at) key ≡ Some value → (r : Option RowRef)
      → IfNone r (All (λ x. slice_get (row_at now x) key ≢ Some value) refs) → HasTwin key now at → IsSome r
  not_found value own (Some r) none twin = refl
  not_found value own None none (other, live, apart, same) =
      absurd (holds_at (λ x. slice_get (row_at now x) key ≢ Some value) refs other none ((held other).1 live)
      (place_exact (slice_get (row_at now other) key) value
      (subst (λ (o : Option Value). option_cmp value_cmp (slice_get (row_at now other) key) o ≡ Equal) own same)))

  -- each row in use has a key
  keyless : InOrder key key now refs → slice_get (row_at now at) key ≡ None → HasTwin key now at → ⊥
  keyless ordered none (other, live, apart, same) =
      let wide : IsWide key key now other = holds_at (IsWide key key now) refs other ordered.covered ((held other).1 live) in
      let row : row_at now other ≡ wide.row = ap row_in wide.live in
      let lacks : slice_get wide.row key ≡ None =
      subst (λ (xs : List Value). slice_get xs key ≡ None) row
      (ties_with_none (slice_get (row_at now other) key)
      (subst (λ (o : Option Value). option_cmp value_cmp (slice_get (row_at now other) key) o ≡ Equal) none same)) in
      ⊎_elim
      (λ (has : (x : Value) × (key < length wide.row) × (slice_get wide.row key ≡ Some x) × (get_or wide.row key x ≡ x)).
      let both : Some has.0 ≡ None = sym has.2 ∙ lacks in cc)
      (λ (past : (length wide.row ≤ key) × (slice_get wide.row key ≡ None)). let no : ⊥ = omega (arith, wide.key_in, past.0) in no)
      (slice_get_cases wide.row key).1

pub returns-in-Some : goal.returns-in-Some
returns-in-Some c =
    let rows = c.args.rows.now in
    let own : slice_get (row_at (slot_at rows.places) c.args.at) rows.key ≡ Some (value_of c.in-Some.key) =
    ap (λ (x : Content). slice_get (row_in x) rows.key) c.hidden_row.ensures
    ∙ (ap (λ (k : ℕ). slice_get (viewed c.hidden_row.result) k) (sym c.key.ensures) ∙ sym c.in-Some.ensures) in (
      λ yes. found rows.key (slot_at rows.places) rows.refs c.is_kept.ensures.held c.args.at c.requires (value_of c.in-Some.key) own c.find.result
          c.find.ensures.held c.find.ensures.fits (sym c.is_some.ensures ∙ yes),
      λ twin. c.is_some.ensures
          ∙ not_found rows.key (slot_at rows.places) rows.refs c.is_kept.ensures.held c.args.at c.requires (value_of c.in-Some.key) own c.find.result
          c.find.ensures.none twin,
    )

pub returns-in-None : goal.returns-in-None
returns-in-None c =
    let rows = c.args.rows.now in
    let none : slice_get (row_at (slot_at rows.places) c.args.at) rows.key ≡ None =
    ap (λ (x : Content). slice_get (row_in x) rows.key) c.hidden_row.ensures
    ∙ (ap (λ (k : ℕ). slice_get (viewed c.hidden_row.result) k) (sym c.key.ensures) ∙ sym c.in-None.ensures) in (
      λ yes. absurd (let no : ⊥ = cc in no),
      λ twin. absurd (keyless rows.key (slot_at rows.places) rows.refs c.is_kept.ensures.held c.args.at c.requires c.is_kept.ensures.by_key none twin),
    )
