-- Rows that refer to other rows, before and after a change of the other rows.
use Rattle.std.proofs.Common.{◌≡◌, ℕ, Bool, true, false, cond, not, ◌&&◌, ◌||◌, List, [], ◌∷◌, Some, None, find, slice_get, inl, inr, refl, sym, ap, ◌∙◌}
use Rattle.std.specs.Cmp.Lexicographic.{options_total}
use Rattle.std.specs.List.{list_any}
use Rattle.std.specs.Ordering.{is_eq}
use Rattle.std.proofs.lemmas.Bool.{cases_Bool, false≢true, or_from, or_parts}
use Rattle.mm_value.proofs.Orders.{value_cmp_total}
use Rattle.mm_schema.specs.References.{is_referred, lose_targets, loses_target, refers}
use Rattle.mm_schema.specs.Rows.{Pair, changed, goes, same_in_column}
use Rattle.mm_schema.proofs.ChangedRows.{row_comes, row_stays}
use Rattle.mm_schema.proofs.Orderings.{equal_from_is_eq}
use Rattle.mm_schema.proofs.StrictOrder.{Contains-from_IsIn, IsIn, IsIn-from_Contains}
use Rattle.mm_schema.proofs.Duplicates.{Row}

-- ---- elements that pass a test

module _ {X : Type 0} (p : X → Bool) where
  -- If no element of a list passes, each fails, ..
  pub none_among : (xs : List X) (x : X) → IsIn x xs → list_any p xs ≡ false → p x ≡ false
  none_among [] x here none = absurd here
  none_among (y ∷ ys) x (inl same) none = ap p (sym same) ∙ (or_parts (p y) (list_any p ys) none).0
  none_among (y ∷ ys) x (inr later) none = none_among ys x later (or_parts (p y) (list_any p ys) none).1

  -- .. and conversely.
  pub none_by_each : (xs : List X) → ((x : X) → IsIn x xs → p x ≡ false) → list_any p xs ≡ false
  none_by_each [] each = refl
  none_by_each (y ∷ ys) each = or_from _ _ (each y (inl refl)) (none_by_each ys (λ x later. each x (inr later)))

  some_first : (b : Bool) (y : X) (ys : List X) → p y ≡ b → (b || list_any p ys) ≡ true → (list_any p ys ≡ true → (x : X) × IsIn x ys × (p x ≡ true))
      → (x : X) × IsIn x (y ∷ ys) × (p x ≡ true)
  some_first true y ys passes some later = (y, inl refl, passes)
  some_first false y ys fails some later = let found = later some in (found.0, inr found.1, found.2)

  -- If some element of a list passes, one does, ..
  pub some_among : (xs : List X) → list_any p xs ≡ true → (x : X) × IsIn x xs × (p x ≡ true)
  some_among [] some = absurd (false≢true some)
  some_among (y ∷ ys) some = some_first (p y) y ys refl some (some_among ys)

  -- .. and conversely.
  pub some_by_one : (xs : List X) (x : X) → IsIn x xs → p x ≡ true → list_any p xs ≡ true
  some_by_one xs x here passes = elim (cases_Bool (list_any p xs)) [
    | inl some ↦ some
    | inr none ↦ absurd (false≢true (sym (none_among xs x here none) ∙ passes))
  ]

  -- An element that is found is in the list and passes.
  pub found_among : (xs : List X) (x : X) → find p xs ≡ Some x → IsIn x xs × (p x ≡ true)
  found_among [] x found = cc
  found_among (y ∷ ys) x found = by (p y) refl found (found_among ys x)
    where
      by : (b : Bool) → p y ≡ b → cond b (Some y) (find p ys) ≡ Some x → (find p ys ≡ Some x → IsIn x ys × (p x ≡ true)) → IsIn x (y ∷ ys) × (p x ≡ true)
      by true passes found later = let same : y ≡ x = cc in (inl same, ap p (sym same) ∙ passes)
      by false fails found later = let rest = later found in (inr rest.0, rest.1)

-- ---- rows that refer to others

-- A row that refers to one row refers to exactly the rows with the same key.
refers_alike : (column key : ℕ) (row target other : Row) → refers column key row target ≡ true
    → refers column key row other ≡ same_in_column key target other
refers_alike column key row target other is =
    ap is_eq ((options_total value_cmp_total).congr (slice_get row column) (slice_get target key) (slice_get other key) (equal_from_is_eq _ is))

module _ (column key : ℕ) (rows targets : List Row) (pairs : List Pair) (row : Row) (here : IsIn row rows)
    (kept : lose_targets column key rows pairs ≡ false) (target : Row) (refers_to_it : refers column key row target ≡ true) where
  -- The target is unchanged if no pair replaces it, ..
  target_stays : IsIn target targets → list_any (λ (p : Pair). goes key target p.0) pairs ≡ false
      → list_any (refers column key row) (changed key pairs targets) ≡ true
  target_stays among none =
      some_by_one (refers column key row) (changed key pairs targets) target
      (IsIn-from_Contains (changed key pairs targets) target
      (row_stays key pairs targets target (Contains-from_IsIn targets target among)
      (λ old new there same. false≢true
      (sym (none_among (λ (p : Pair). goes key target p.0) pairs (Some old, new) (IsIn-from_Contains {X = Pair} pairs (Some old, new) there) none)
      ∙ ap is_eq same))))
      refers_to_it

  referred : (old : Row) → same_in_column key target old ≡ true → is_referred column key rows old ≡ true
  referred old same =
      some_by_one (λ (r : Row). refers column key r old) rows row here (refers_alike column key row target old refers_to_it ∙ same)

  same_key : (same used : Bool) → (not same && used) ≡ false → used ≡ true → same ≡ true
  same_key true used none is = refl
  same_key false used none is = absurd (false≢true (sym none ∙ is))

  -- .. and otherwise the new row has the same key.
  target_changes : (p : Pair) → IsIn p pairs → goes key target p.0 ≡ true → list_any (refers column key row) (changed key pairs targets) ≡ true
  target_changes (None, new) among went = absurd (false≢true went)
  target_changes (Some old, None) among went =
      absurd (false≢true (sym (none_among (λ (p : Pair). loses_target column key rows p.0 p.1) pairs (Some old, None) among kept) ∙ referred old went))
  target_changes (Some old, Some new) among went =
      let same : same_in_column key old new ≡ true =
      same_key (same_in_column key old new) (is_referred column key rows old)
      (none_among (λ (p : Pair). loses_target column key rows p.0 p.1) pairs (Some old, Some new) among kept) (referred old went) in
      some_by_one (refers column key row) (changed key pairs targets) new
      (IsIn-from_Contains (changed key pairs targets) new
      (row_comes key pairs targets (Some old) new (Contains-from_IsIn {X = Pair} pairs (Some old, Some new) among)))
      (refers_alike column key row old new (refers_alike column key row target old refers_to_it ∙ went) ∙ same)

-- A row that referred to a row still refers to one after the change, if no pair removes a referenced key.
pub refers_still : (column key : ℕ) (rows targets : List Row) (pairs : List Pair) (row : Row) → IsIn row rows → lose_targets column key rows pairs ≡ false
    → list_any (refers column key row) targets ≡ true → list_any (refers column key row) (changed key pairs targets) ≡ true
refers_still column key rows targets pairs row here kept some =
    let found = some_among (refers column key row) targets some in
    elim (cases_Bool (list_any (λ (p : Pair). goes key found.0 p.0) pairs)) [
      | inl goes_away ↦
          let pair = some_among (λ (p : Pair). goes key found.0 p.0) pairs goes_away in
          target_changes column key rows targets pairs row here kept found.0 found.2 pair.0 pair.1 pair.2
      | inr stays ↦ target_stays column key rows targets pairs row here kept found.0 found.2 found.1 stays
    ]
