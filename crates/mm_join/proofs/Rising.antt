-- Entries with ascending prefixes.
use Rattle.std.proofs.Common.{◌≡◌, ℕ, ◌+◌, ◌-◌, ◌<◌, ◌≤◌, Bool, false, List, [], ◌++◌, inl, inr, get_or, drop, length, take, sym, ap, ◌∙◌, arith, length-drop}
use Rattle.std.specs.Prelude.{◌==◌}
use Rattle.std.specs.List.{All, filter}
use Rattle.std.proofs.lemmas.Bool.{cases_Bool, cases_order, eq-eqb, eqb-true, false≢true}
use Rattle.std.proofs.lemmas.List.{append-nil, get_or-drop, get_or-take, get_or_default, length-take-le, take-append-drop, take_all}
use Rattle.std.proofs.lemmas.List.Elements.{filter-append}
use Rattle.mm_order.proofs.Filtered.{filter-none}
use Rattle.mm_join.specs.Entries.{AreRising}
use Rattle.mm_join.specs.declared.entries.Entry.{Entry}

-- ---- before an entry, and from an entry on

module _ (entries : List Entry) (rising : AreRising entries) (prefix : ℕ) (n : ℕ) (d : Entry) (within : n < length entries) where
  -- All entries up to one that is less are less.
  pub less_up_to : (get_or entries n d).prefix < prefix → All (λ entry. entry.prefix < prefix) (take (n + 1) entries)
  less_up_to less k e inside =
      let below : k < n + 1 = omega (arith, inside, length-take-le (n + 1) entries (omega (arith, within))) in
      omega (
        arith,
        less,
        ap (λ (x : Entry). x.prefix) (get_or-take (n + 1) entries k e below),
        rising k n e (omega (arith, below)) within,
        ap (λ (x : Entry). x.prefix) (get_or_default entries n e d within),
      )

  -- No entry from one on that is not less is less.
  pub not_less_from : prefix ≤ (get_or entries n d).prefix → All (λ entry. prefix ≤ entry.prefix) (drop n entries)
  not_less_from not k e inside =
      let there : n + k < length entries = omega (arith, inside, length-drop n entries) in
      omega (
        arith,
        not,
        ap (λ (x : Entry). x.prefix) (get_or-drop n entries k e),
        rising n (n + k) e (omega arith) there,
        ap (λ (x : Entry). x.prefix) (get_or_default entries n e d within),
      )

  pub greater_from : prefix < (get_or entries n d).prefix → All (λ entry. prefix < entry.prefix) (drop n entries)
  greater_from greater k e inside =
      let there : n + k < length entries = omega (arith, inside, length-drop n entries) in
      omega (
        arith,
        greater,
        ap (λ (x : Entry). x.prefix) (get_or-drop n entries k e),
        rising n (n + k) e (omega arith) there,
        ap (λ (x : Entry). x.prefix) (get_or_default entries n e d within),
      )

-- ---- the entries with a prefix

module _ (prefix : ℕ) where
  -- the entry has the prefix
  abbrev pub has : Entry → Bool
  has entry = entry.prefix == prefix

  has_not : (entry : Entry) → ((entry.prefix ≡ prefix) → ⊥) → has entry ≡ false
  has_not entry not = elim (cases_Bool (has entry)) [
    | inl same ↦ absurd (not (eqb-true entry.prefix prefix same))
    | inr apart ↦ apart
  ]

  none_less : (entries : List Entry) → All (λ entry. entry.prefix < prefix) entries → filter has entries ≡ []
  none_less entries less =
      filter-none has entries (λ k d inside. has_not (get_or entries k d) (λ is. omega (arith, is, less k d inside)))

  none_greater : (entries : List Entry) → All (λ entry. prefix < entry.prefix) entries → filter has entries ≡ []
  none_greater entries greater =
      filter-none has entries (λ k d inside. has_not (get_or entries k d) (λ is. omega (arith, is, greater k d inside)))

  -- The entries with the prefix are after all that are less.
  pub run_behind : (entries : List Entry) (first : ℕ) → All (λ entry. entry.prefix < prefix) (take first entries)
      → filter has (drop first entries) ≡ filter has entries
  run_behind entries first before =
      ap (λ xs. xs ++ filter has (drop first entries)) (sym (none_less (take first entries) before))
      ∙ (sym (filter-append has (take first entries) (drop first entries)) ∙ ap (filter has) (take-append-drop first entries))

  -- They end before an entry that is greater.
  pub run_ends : (entries : List Entry) → AreRising entries → (n : ℕ) (d : Entry) → n < length entries → prefix < (get_or entries n d).prefix
      → filter has (take n entries) ≡ filter has entries
  run_ends entries rising n d within greater =
      sym (append-nil (filter has (take n entries)))
      ∙ (ap (λ xs. filter has (take n entries) ++ xs)
      (sym (none_greater (drop n entries) (greater_from entries rising prefix n d within greater)))
      ∙ (sym (filter-append has (take n entries) (drop n entries)) ∙ ap (filter has) (take-append-drop n entries)))

  -- If the first entry that is not less has another prefix, or if there is none, no entry has the prefix.
  pub none_at : (entries : List Entry) → AreRising entries → (first : ℕ) (d : Entry) → first < length entries
      → All (λ entry. entry.prefix < prefix) (take first entries) → All (λ entry. prefix ≤ entry.prefix) (drop first entries)
      → has (get_or entries first d) ≡ false → filter has entries ≡ []
  none_at entries rising first d within before rest apart =
      let other : ((get_or entries first d).prefix ≡ prefix) → ⊥ = λ e.
      false≢true (sym apart ∙ eq-eqb (get_or entries first d).prefix prefix e) in
      let here : first + 0 ≡ first = omega arith in
      let not_less : prefix ≤ (get_or entries first d).prefix =
      omega (
        arith,
        ap (λ k. (get_or entries k d).prefix) here,
        rest 0 d (omega (arith, within, length-drop first entries)),
        ap (λ (x : Entry). x.prefix) (get_or-drop first entries 0 d),
      ) in
      let behind : prefix < (get_or entries first d).prefix = elim (cases_order (get_or entries first d).prefix prefix) [
        | inl same ↦ absurd (other same)
        | inr (inl less) ↦ absurd (omega (arith, less, not_less))
        | inr (inr greater) ↦ greater
      ] in
      sym (run_ends entries rising first d within behind) ∙ none_less (take first entries) before

  pub none_past : (entries : List Entry) (first : ℕ) → length entries ≤ first → All (λ entry. entry.prefix < prefix) (take first entries)
      → filter has entries ≡ []
  none_past entries first past before =
      ap (filter has) (sym (take_all first entries past)) ∙ none_less (take first entries) before

-- The remaining elements of a list, all of them, are its rest.
pub rest_of : {X : Type 0} (xs : List X) (n : ℕ) → take (length xs - n) (drop n xs) ≡ drop n xs
rest_of xs n = take_all (length xs - n) (drop n xs) (omega (arith, length-drop n xs))
