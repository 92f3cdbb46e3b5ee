-- Rows that refer to rows, found by their keys.
use Rattle.std.proofs.Common.{◌≡◌, ◌≢◌, ℕ, ◌<◌, Bool, true, false, ◌||◌, List, [], ◌∷◌, length, get_or, Option, None, Some, ⊎_elim, refl, sym, ap}
use Rattle.std.proofs.Common.{◌∙◌, subst, arith}
use Rattle.std.specs.Prelude.{map, not, slice_get, is_some, IfSome, IfNone}
use Rattle.std.specs.Bool.{OnFalse}
use Rattle.std.specs.List.{All, Contains, list_any}
use Rattle.std.specs.Option.{option_cmp}
use Rattle.std.specs.Ordering.{is_eq}
use Rattle.std.specs.declared.cmp.Ordering.TheVariants.{Equal}
use Rattle.std.specs.Cmp.Lexicographic.{options_total}
use Rattle.std.proofs.lemmas.Bool.{cases_Bool}
use Rattle.std.proofs.lemmas.Cmp.{tied_itself}
use Rattle.std.proofs.lemmas.List.Folds.{Any-from_list_any, list_any_at, list_any_none}
use Rattle.std.proofs.lemmas.List.{get_or_default}
use Rattle.std.proofs.lemmas.Option.{slice_get-get_or}
use Rattle.mm_foreign_key.specs.Ties.{IsReferred, Ties, target_at}
use Rattle.mm_partition.specs.Places.{Content, Free, Live, Hidden, row_in}
use Rattle.mm_indexed.specs.Kept.{IsKept}
use Rattle.mm_indexed.specs.Twins.{AreApart, keys_by}
use Rattle.mm_indexed.specs.declared.indexes.index.Index.{Index}
use Rattle.mm_indexed.proofs.Typed.{HasTypes-length}
use Rattle.mm_row_order.specs.Refs.{HasRow, Slots, row_at}
use Rattle.mm_schema.specs.References.{is_referred, lacks_target_row, refers}
use Rattle.mm_schema.proofs.Orderings.{equal_from_is_eq}
use Rattle.mm_tables.proofs.Slots.{same_or_apart}
use Rattle.mm_value.proofs.Orders.{value_cmp_exact, value_cmp_total}
use Rattle.mm_value.specs.Order.{value_cmp}
use Rattle.mm_value.specs.declared.col_type.ColType.{ColType}
use Rattle.mm_value.specs.declared.row_ref.RowRef.{RowRef}
use Rattle.mm_value.specs.declared.values.Value.{Value}
use Rattle.mm_link.specs.Links.{Follows, HasTargetRow, IsReferredTo, IsTied, RefersTo}

pub any-map : {X Y : Type 0} (f : X → Y) (p : Y → Bool) (xs : List X) → list_any p (map f xs) ≡ list_any (λ x. p (f x)) xs
any-map f p [] = refl
any-map f p (x ∷ xs) = ap (λ b. p (f x) || b) (any-map f p xs)

pub agree : (a b : Bool) → (a ≡ true → b ≡ true) → (b ≡ true → a ≡ true) → a ≡ b
agree true b to from = sym (to refl)
agree false true to from = from refl
agree false false to from = refl

pub turned : (none some listed : Bool) → some ≡ not none → some ≡ listed → none ≡ not listed
turned true some listed is same = ap not (sym is ∙ same)
turned false some listed is same = ap not (sym is ∙ same)

pub not_false : (b : Bool) → not b ≡ false → b ≡ true
not_false true e = refl
not_false false e = sym e

pub on_false_from : (P : Type 0) (b : Bool) → (b ≡ false → P) → OnFalse b P
on_false_from P true from = tt
on_false_from P false from = from refl

options_exact : (a b : Option Value) → option_cmp value_cmp a b ≡ Equal → a ≡ b
options_exact None None e = refl
options_exact None (Some y) e = let no : ⊥ = cc in absurd no
options_exact (Some x) None e = let no : ⊥ = cc in absurd no
options_exact (Some x) (Some y) e = ap Some (value_cmp_exact x y e)

module _ (column key : ℕ) (row : List Value) where
  pub refers_same : (target : List Value) → slice_get row column ≡ slice_get target key → refers column key row target ≡ true
  refers_same target same =
      ap is_eq (subst (λ (o : Option Value). option_cmp value_cmp (slice_get row column) o ≡ Equal) same
      (tied_itself (options_total value_cmp_total) (slice_get row column)))

  pub same_from_refers : (target : List Value) → refers column key row target ≡ true → slice_get row column ≡ slice_get target key
  same_from_refers target holds =
      options_exact (slice_get row column) (slice_get target key) (equal_from_is_eq (option_cmp value_cmp (slice_get row column) (slice_get target key)) holds)

  refers_other : (target : List Value) → slice_get row column ≢ slice_get target key → refers column key row target ≡ false
  refers_other target differs =
      ⊎_elim
      (λ (yes : refers column key row target ≡ true). absurd (differs (same_from_refers target yes)))
      (λ (no : refers column key row target ≡ false). no)
      (cases_Bool (refers column key row target))

  module _ (types : List ColType) (now : Slots) (refs : List RowRef) (indexes : List Index) (kept : IsKept types key now refs indexes) where
    -- the row that a row refers to is found exactly if there is one
    pub found_row : (value : Value) → slice_get row column ≡ Some value → (found : Option RowRef) → IfSome found (Contains refs)
        → IfSome found (λ at. slice_get (row_at now at) key ≡ Some value) → IfNone found (All (λ at. slice_get (row_at now at) key ≢ Some value) refs)
        → is_some found ≡ list_any (refers column key row) (map (row_at now) refs)
    found_row value has None held fits none =
        sym (any-map (row_at now) (refers column key row) refs ∙ list_any_none (λ at. refers column key row (row_at now at)) refs
        (λ k d within. refers_other (row_at now (get_or refs k d)) (λ same. none k d within (sym same ∙ has))))
    found_row value has (Some at) held fits none =
        sym (any-map (row_at now) (refers column key row) refs ∙ list_any_at (λ x. refers column key row (row_at now x)) refs held.0 at held.1
        (ap (λ x. refers column key row (row_at now x)) held.2 ∙ refers_same (row_at now at) (has ∙ sym fits)))

    some_key : (at : RowRef) → HasRow now at → (value : Value) × (slice_get (row_at now at) key ≡ Some value)
    some_key at (x, live) =
        let within : key < length x = omega (arith, kept.key_in, HasTypes-length types x (kept.typed at x live)) in
        let first : Value = value_of x within in
        (get_or x key first, ap (λ (c : Content). slice_get (row_in c) key) live ∙ slice_get-get_or x key first within)
      where
        value_of : (xs : List Value) → key < length xs → Value
        value_of [] within = absurd (omega arith)
        value_of (x ∷ xs) within = x

    -- a row without the column has no target
    pub no_row : slice_get row column ≡ None → list_any (refers column key row) (map (row_at now) refs) ≡ false
    no_row none =
        any-map (row_at now) (refers column key row) refs ∙ list_any_none (λ at. refers column key row (row_at now at)) refs
        (λ k d within.
        let at : RowRef = get_or refs k d in
        let own : (value : Value) × (slice_get (row_at now at) key ≡ Some value) =
        some_key at ((kept.held at).0 (k, within, get_or_default refs k at d within)) in
        refers_other (row_at now at) (λ same.
        let both : None ≡ Some own.0 = sym none ∙ (same ∙ own.1) in let no : ⊥ = cc in no))

    -- a row that refers to one of the rows has a target
    pub target_listed : list_any (refers column key row) (map (row_at now) refs) ≡ true → HasTargetRow column key now row
    target_listed holds =
        let some = Any-from_list_any (λ at. refers column key row (row_at now at)) refs (sym (any-map (row_at now) (refers column key row) refs) ∙ holds) in
        let at : RowRef = some.1 in
        let here : Contains refs at = (some.0, some.2, some.3) in
        (at, record { live = (kept.held at).0 here; same = same_from_refers (row_at now at) some.4 })

    pub target_from_lacks : lacks_target_row column key (map (row_at now) refs) row ≡ false → HasTargetRow column key now row
    target_from_lacks lacks = target_listed (not_false (list_any (refers column key row) (map (row_at now) refs)) lacks)

    -- a row with a target does not lack one
    pub lacks_none : HasTargetRow column key now row → lacks_target_row column key (map (row_at now) refs) row ≡ false
    lacks_none (at, refers_to) =
        let here : Contains refs at = (kept.held at).1 refers_to.live in
        ap not (any-map (row_at now) (refers column key row) refs
        ∙ list_any_at (λ x. refers column key row (row_at now x)) refs here.0 at here.1
        (ap (λ x. refers column key row (row_at now x)) here.2 ∙ refers_same (row_at now at) refers_to.same))

module _ (column key : ℕ) (now then : Slots) (ties : Ties) (follows : Follows column key now then ties) where
  -- a row that is tied is in use and refers to its target
  pub record Referrer (from at : RowRef) : Type 0 where
    pub live : HasRow now from
    pub refers_to : RefersTo column key then (row_at now from) at

  referrer_of : (from at : RowRef) (content : Content) → now from ≡ content → IsTied column key then content (target_at ties from)
      → target_at ties from ≡ Some at → Referrer from at
  referrer_of from at Free is tied target = let both : None ≡ Some at = sym tied ∙ target in let no : ⊥ = cc in absurd no
  referrer_of from at (Hidden row) is tied target = let both : None ≡ Some at = sym tied ∙ target in let no : ⊥ = cc in absurd no
  referrer_of from at (Live row) is tied target =
      let both : Some tied.0 ≡ Some at = sym tied.1 ∙ target in
      let same : tied.0 ≡ at = cc in
      record {
        live = (row, is);
        refers_to = subst (λ (c : Content). RefersTo column key then (row_in c) at) (sym is) (subst (RefersTo column key then row) same tied.2);
      }

  pub Referrer-from_target : (from at : RowRef) → target_at ties from ≡ Some at → Referrer from at
  Referrer-from_target from at target = referrer_of from at (now from) refl (follows from) target

  -- the row that a row in use is tied to
  pub tied_to : (from : RowRef) → HasRow now from → (at : RowRef) × (target_at ties from ≡ Some at) × RefersTo column key then (row_at now from) at
  tied_to from live =
      let tied : IsTied column key then (Live live.0) (target_at ties from)
      = subst (λ (c : Content). IsTied column key then c (target_at ties from)) live.1 (follows from) in
      (tied.0, tied.1, subst (λ (c : Content). RefersTo column key then (row_in c) tied.0) (sym live.1) tied.2)

  -- a row that has the value of a row in use has a target
  pub target_kept : (at : RowRef) → HasRow now at → (row : List Value) → slice_get row column ≡ slice_get (row_at now at) column
      → HasTargetRow column key then row
  target_kept at live row same =
      let tied = tied_to at live in
      (tied.0, record { live = tied.2.live; same = same ∙ tied.2.same })

  module _ (apart : AreApart key then) (at : RowRef) (live : HasRow then at) where
    -- a row is tied to it exactly if a row in use refers to it
    pub referred_to : IsReferred ties at → IsReferredTo column key now then at
    referred_to (from, target) = let r : Referrer from at = Referrer-from_target from at target in (from, r.live, r.refers_to)

    pub tied_if_referred : IsReferredTo column key now then at → IsReferred ties at
    tied_if_referred (from, from_live, refers_to) =
        let tied = tied_to from from_live in
        let keys : slice_get (row_at then at) key ≡ slice_get (row_at then tied.0) key = sym refers_to.same ∙ tied.2.same in
        let tie : keys_by key then at tied.0 ≡ Equal =
        subst (λ (o : Option Value). option_cmp value_cmp (slice_get (row_at then at) key) o ≡ Equal) keys
        (tied_itself (options_total value_cmp_total) (slice_get (row_at then at) key)) in
        ⊎_elim
        (λ (same : at ≡ tied.0). (from, tied.1 ∙ ap Some (sym same)))
        (λ (differ : at ≢ tied.0). absurd (apart tied.0 tied.2.live (at, live, differ, tie)))
        (same_or_apart at tied.0)

  module _ (types : List ColType) (own_key : ℕ) (refs : List RowRef) (indexes : List Index) (kept : IsKept types own_key now refs indexes)
      (at : RowRef) (live : HasRow then at) where
    listed : IsReferredTo column key now then at → is_referred column key (map (row_at now) refs) (row_at then at) ≡ true
    listed (from, from_live, refers_to) =
        let here : Contains refs from = (kept.held from).1 from_live in
        any-map (row_at now) (λ row. refers column key row (row_at then at)) refs
        ∙ list_any_at (λ x. refers column key (row_at now x) (row_at then at)) refs here.0 from here.1
        (ap (λ x. refers column key (row_at now x) (row_at then at)) here.2 ∙ refers_same column key (row_at now from) (row_at then at) refers_to.same)

    from_listed : is_referred column key (map (row_at now) refs) (row_at then at) ≡ true → IsReferredTo column key now then at
    from_listed holds =
        let some = Any-from_list_any (λ x. refers column key (row_at now x) (row_at then at)) refs
        (sym (any-map (row_at now) (λ row. refers column key row (row_at then at)) refs) ∙ holds) in
        let from : RowRef = some.1 in
        let here : Contains refs from = (some.0, some.2, some.3) in
        (from, (kept.held from).0 here, record { live = live; same = same_from_refers column key (row_at now from) (row_at then at) some.4 })

    -- the same for the list of rows
    pub referred_listed : (found : Bool) → (found ≡ true → IsReferredTo column key now then at) → (IsReferredTo column key now then at → found ≡ true)
        → found ≡ is_referred column key (map (row_at now) refs) (row_at then at)
    referred_listed found to from = agree found _ (λ yes. listed (to yes)) (λ yes. from (from_listed yes))
