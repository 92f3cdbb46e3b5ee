-- The members of a set of slots, each at its place, when a slot is inserted or removed.
use Rattle.std.proofs.Common.{◌≡◌, ◌≢◌, ℕ, ◌+◌, ◌-◌, ◌<◌, ◌≤◌, Bool, true, false, true≢false, List, [], ◌∷◌, ◌++◌, length, get_or, set, map}
use Rattle.std.proofs.Common.{refl, sym, ap, ◌∙◌, subst, ⊎_elim, inl, inr, arith}
use Rattle.std.specs.Prelude.{IsPermutation}
use Rattle.std.specs.List.{All, swap_remove}
use Rattle.std.proofs.lemmas.Bool.{cases_eq, cases_lt}
use Rattle.std.proofs.lemmas.List.{get_or-map, get_or-set_other, get_or-set_same, get_or_append_left, get_or_past, get_or_push, get_or_default}
use Rattle.std.proofs.lemmas.List.{length-map, length-set, length_push, map-set, map_push, nil_from_length, set-get_or, set-set}
use Rattle.std.proofs.lemmas.List.Elements.{All-get_or}
use Rattle.std.proofs.lemmas.List.Sorted.{All-permutation, IsPermutation-sym, IsPermutation-swap_remove, IsPermutation-to_front}
use Rattle.std.proofs.lemmas.List.Sorted.{IsPermutation-trans, IsPermutation-cons, length_permutation}
use Rattle.slot_counts.specs.Sets.{IsMoveTold, IsPlaced, absent, indices_from, is_present}
use Rattle.slot_counts.proofs.Indices.{few_indices, fewer_indices, indices_are, indices_push, indices_set, none_set}
use Rattle.slot_counts.proofs.Uncons.{uncons}

abbrev pub has_of : List ℕ → List Bool
has_of places = map is_present places

pub present : (n : ℕ) → n ≢ absent → is_present n ≡ true
present n other = grind arith

pub absent_is : (n : ℕ) → is_present n ≡ false → n ≡ absent
absent_is n is = grind arith

pub present_is : (n : ℕ) → is_present n ≡ true → n ≢ absent
present_is n is e = true≢false (sym is ∙ ap is_present e)

-- A slot is in the set exactly if its place is that of a member.
pub has_at : (places : List ℕ) (i : ℕ) → get_or (has_of places) i false ≡ is_present (get_or places i absent)
has_at places i =
    ⊎_elim
    (λ (h : i < length places). get_or-map is_present places i absent false h)
    (λ (h : length places ≤ i). get_or_past (has_of places) i false (omega (arith, h, length-map places is_present))
    ∙ sym (ap is_present (get_or_past places i absent h)))
    (cases_lt i (length places))

pub inside : (places : List ℕ) (i : ℕ) → get_or places i absent ≢ absent → i < length places
inside places i other =
    ⊎_elim (λ (h : i < length places). h) (λ (h : length places ≤ i). absurd (other (get_or_past places i absent h))) (cases_lt i (length places))

module _ (members places : List ℕ) (was : IsPlaced members places) where
  size : length members ≡ length (indices_from 0 (has_of places))
  size = sym (length_permutation members (indices_from 0 (has_of places)) was.order)

  pub few_members : length members ≤ length places
  few_members = omega (arith, size, few_indices 0 (has_of places), length-map places is_present)

  -- There is capacity for a slot that is not in the set.
  pub fewer_members : (i : ℕ) → i < length (has_of places) → get_or (has_of places) i false ≡ false → length members < length places
  fewer_members i within out = omega (arith, size, fewer_indices 0 i (has_of places) within out, length-map places is_present)

  are : All (λ i. get_or (has_of places) i false ≡ true) members
  are =
      All-permutation (λ i. get_or (has_of places) i false ≡ true) (indices_from 0 (has_of places)) members
      (IsPermutation-sym members (indices_from 0 (has_of places)) was.order)
      (indices_are (λ i. get_or (has_of places) i false) 0 (has_of places)
      (λ j. ap (λ (n : ℕ). get_or (has_of places) n false) (let e : 0 + j ≡ j = omega arith in e)))

  -- A member has a place.
  member_is : (k : ℕ) → k < length members → get_or places (get_or members k absent) absent ≢ absent
  member_is k within =
      present_is (get_or places (get_or members k absent) absent)
      (sym (has_at places (get_or members k absent)) ∙ All-get_or (λ i. get_or (has_of places) i false ≡ true) members k absent within are)

  pub member_inside : (k d : ℕ) → k < length members → get_or members k d < length places
  member_inside k d within =
      subst (λ (n : ℕ). n < length places) (get_or_default members k absent d within) (inside places (get_or members k absent) (member_is k within))

  -- A slot is inserted.
  pub inserted : (i : ℕ) → i < length (has_of places) → get_or (has_of places) i false ≡ false → IsPlaced (members ++ i ∷ []) (set places i (length members))
  inserted i within out = record {
    few = omega (arith, was.few, length-set places i (length members));
    order =
        let fewer = fewer_members i within out in
        let flags : has_of (set places i (length members)) ≡ set (has_of places) i true =
        map-set is_present places i (length members) ∙ ap (set (has_of places) i) (present (length members) (omega (arith, fewer, was.few)))
        in
        subst (λ l. IsPermutation (members ++ i ∷ []) (indices_from 0 l)) (sym flags)
        (IsPermutation-trans (members ++ i ∷ []) (i ∷ members) (indices_from 0 (set (has_of places) i true))
        (IsPermutation-to_front members i)
        (IsPermutation-trans (i ∷ members) (i ∷ indices_from 0 (has_of places)) (indices_from 0 (set (has_of places) i true))
        (IsPermutation-cons i members (indices_from 0 (has_of places)) was.order)
        (IsPermutation-sym (indices_from 0 (set (has_of places) i true)) (i ∷ indices_from 0 (has_of places))
        (subst (λ (n : ℕ). IsPermutation (indices_from 0 (set (has_of places) i true)) (n ∷ indices_from 0 (has_of places)))
        (let e : 0 + i ≡ i = omega arith in e) (indices_set 0 i (has_of places) within out)))));
    placed = λ j there.
        ⊎_elim
        (λ (e : j ≡ i). at_new j e)
        (λ (apart : j ≢ i).
        let same : get_or (set places i (length members)) j absent ≡ get_or places j absent = get_or-set_other places i j (length members) absent apart in
        let old = was.placed j (λ e. there (same ∙ e)) in (
          omega (arith, ap (λ (n : ℕ). n) same, old.0, length_push members i),
          ap (λ (n : ℕ). get_or (members ++ i ∷ []) n absent) same
              ∙ (get_or_append_left members (i ∷ []) absent (get_or places j absent) old.0 ∙ old.1),
        ))
        (cases_eq j i);
  }
    where
      at_new : (j : ℕ) → j ≡ i → (get_or (set places i (length members)) j absent < length (members ++ i ∷ []))
          × (get_or (members ++ i ∷ []) (get_or (set places i (length members)) j absent) absent ≡ j)
      at_new j e =
          let is : get_or (set places i (length members)) j absent ≡ length members =
          ap (λ (n : ℕ). get_or (set places i (length members)) n absent) e
          ∙ get_or-set_same places i (length members) absent (omega (arith, within, length-map places is_present))
          in (
            omega (arith, is, length_push members i),
            ap (λ (n : ℕ). get_or (members ++ i ∷ []) n absent) is ∙ (get_or_push members i absent (length members) refl ∙ sym e),
          )

  -- A slot is removed, and the last member moves to its place.
  module _ (i x : ℕ) (new_members mid : List ℕ) (there : get_or places i absent ≢ absent) (read : x ≡ get_or members (get_or places i absent) x)
      (out : new_members ≡ swap_remove members (get_or places i absent) x) (shorter : length new_members + 1 ≡ length members)
      (last : get_or places i absent + 1 < length members → get_or new_members (get_or places i absent) absent ≡ get_or members (length members - 1) absent)
      (others : (k : ℕ) → k ≢ get_or places i absent → k + 1 < length members → get_or new_members k absent ≡ get_or members k absent)
      (moved : IsMoveTold new_members (get_or places i absent) places mid) where
    abbrev at : ℕ
    at = get_or places i absent

    at_within : at < length members
    at_within = (was.placed i there).0

    at_is : get_or members at absent ≡ i
    at_is = (was.placed i there).1

    x_is : x ≡ i
    x_is = read ∙ (get_or_default members at x absent at_within ∙ at_is)

    i_within : i < length places
    i_within = inside places i there

    -- The last member, if it is another one.
    last_is : (m : ℕ) → at < length new_members → m ≡ get_or new_members at absent → m ≡ get_or members (length members - 1) absent
    last_is m within is = is ∙ last (omega (arith, within, shorter))

    flags_mid : has_of mid ≡ has_of places
    flags_mid = by moved
      where
        by : IsMoveTold new_members at places mid → has_of mid ≡ has_of places
        by (inl h) =
            let m : ℕ = h.0 in
            let is : m ≡ get_or members (length members - 1) absent = last_is m h.1 h.2 in
            let member : get_or places m absent ≢ absent =
            subst (λ (n : ℕ). get_or places n absent ≢ absent) (sym is) (member_is (length members - 1) (omega (arith, at_within)))
            in
            let set_there : get_or (has_of places) m false ≡ true = has_at places m ∙ present (get_or places m absent) member in
            ap has_of h.3
            ∙ (map-set is_present places m at
            ∙ (ap (set (has_of places) m) (present at there ∙ sym set_there) ∙ set-get_or (has_of places) m false))
        by (inr h) = ap has_of h.1

    pub flags_removed : has_of (set mid i absent) ≡ set (has_of places) i false
    flags_removed = map-set is_present mid i absent ∙ ap (λ l. set l i false) flags_mid

    size_mid : length mid ≡ length places
    size_mid = sym (length-map mid is_present) ∙ (ap length flags_mid ∙ length-map places is_present)

    stays : (k j : ℕ) → j ≢ i → k ≡ get_or places j absent → k < length members → get_or members k absent ≡ j → k + 1 < length members
        → (k < length new_members) × (get_or new_members k absent ≡ j)
    stays k j apart is within here before = (
      omega (arith, before, shorter),
      others k (λ e. apart (sym here ∙ (ap (λ (n : ℕ). get_or members n absent) e ∙ at_is))) before ∙ here,
    )

    not_last : (k : ℕ) → k < length members → k ≢ length members - 1 → k + 1 < length members
    not_last k within other = omega (arith, within, other)

    placed_mid : (j : ℕ) → j ≢ i → get_or mid j absent ≢ absent
        → (get_or mid j absent < length new_members) × (get_or new_members (get_or mid j absent) absent ≡ j)
    placed_mid j apart some = by moved
      where
        by : IsMoveTold new_members at places mid → (get_or mid j absent < length new_members) × (get_or new_members (get_or mid j absent) absent ≡ j)
        by (inl h) =
            let m : ℕ = h.0 in
            let is : m ≡ get_or members (length members - 1) absent = last_is m h.1 h.2 in
            let member : get_or places m absent ≢ absent =
            subst (λ (n : ℕ). get_or places n absent ≢ absent) (sym is) (member_is (length members - 1) (omega (arith, at_within)))
            in
            ⊎_elim
            (λ (e : j ≡ m).
            let here : get_or mid j absent ≡ at =
            ap (λ l. get_or l j absent) h.3
            ∙ (ap (λ (n : ℕ). get_or (set places m at) n absent) e ∙ get_or-set_same places m at absent (inside places m member))
            in (
              omega (arith, here, h.1),
              ap (λ (n : ℕ). get_or new_members n absent) here ∙ (sym h.2 ∙ sym e),
            ))
            (λ (other : j ≢ m).
            let same : get_or mid j absent ≡ get_or places j absent =
            ap (λ l. get_or l j absent) h.3 ∙ get_or-set_other places m j at absent other
            in
            let old = was.placed j (λ e. some (same ∙ e)) in
            let before : get_or places j absent + 1 < length members =
            not_last (get_or places j absent) old.0 (λ e. other (sym old.1 ∙ (ap (λ (n : ℕ). get_or members n absent) e ∙ sym is)))
            in
            let new = stays (get_or places j absent) j apart refl old.0 old.1 before in (
              omega (arith, same, new.0),
              ap (λ (n : ℕ). get_or new_members n absent) same ∙ new.1,
            ))
            (cases_eq j m)
        by (inr h) =
            let same : get_or mid j absent ≡ get_or places j absent = ap (λ l. get_or l j absent) h.1 in
            let old = was.placed j (λ e. some (same ∙ e)) in
            let other : get_or places j absent ≢ at = λ e. apart (sym old.1 ∙ (ap (λ (n : ℕ). get_or members n absent) e ∙ at_is)) in
            let before : get_or places j absent + 1 < length members = omega (arith, other, old.0, h.0, shorter, at_within) in
            let new = stays (get_or places j absent) j apart refl old.0 old.1 before in (
              omega (arith, same, new.0),
              ap (λ (n : ℕ). get_or new_members n absent) same ∙ new.1,
            )

    pub removed : IsPlaced new_members (set mid i absent)
    removed = record {
      few = omega (arith, was.few, size_mid, length-set mid i absent);
      order =
          let flag : get_or (has_of places) i false ≡ true = has_at places i ∙ present at there in
          let again : set (set (has_of places) i false) i true ≡ has_of places =
          set-set (has_of places) i false true ∙ (ap (set (has_of places) i) (sym flag) ∙ set-get_or (has_of places) i false)
          in
          let within : i < length (set (has_of places) i false) =
          omega (arith, i_within, length-set (has_of places) i false, length-map places is_present)
          in
          let cleared : get_or (set (has_of places) i false) i false ≡ false =
          get_or-set_same (has_of places) i false false (omega (arith, i_within, length-map places is_present))
          in
          let flags : IsPermutation (indices_from 0 (has_of places)) (i ∷ indices_from 0 (set (has_of places) i false)) =
          subst (λ l. IsPermutation (indices_from 0 l) (i ∷ indices_from 0 (set (has_of places) i false))) again
          (subst (λ (n : ℕ). IsPermutation (indices_from 0 (set (set (has_of places) i false) i true)) (n ∷ indices_from 0 (set (has_of places) i false)))
          (let e : 0 + i ≡ i = omega arith in e) (indices_set 0 i (set (has_of places) i false) within cleared))
          in
          let taken : IsPermutation members (i ∷ new_members) =
          subst (λ l. IsPermutation members (i ∷ l)) (sym out)
          (subst (λ (n : ℕ). IsPermutation members (n ∷ swap_remove members at x)) x_is (IsPermutation-swap_remove members at x at_within read))
          in
          subst (λ l. IsPermutation new_members (indices_from 0 l)) (sym flags_removed)
          (uncons i new_members (indices_from 0 (set (has_of places) i false))
          (IsPermutation-trans (i ∷ new_members) members (i ∷ indices_from 0 (set (has_of places) i false))
          (IsPermutation-sym members (i ∷ new_members) taken)
          (IsPermutation-trans members (indices_from 0 (has_of places)) (i ∷ indices_from 0 (set (has_of places) i false)) was.order flags)));
      placed = λ j some.
          ⊎_elim
          (λ (e : j ≡ i).
          absurd (some (ap (λ (n : ℕ). get_or (set mid i absent) n absent) e ∙ get_or-set_same mid i absent absent (omega (arith, i_within, size_mid)))))
          (λ (apart : j ≢ i).
          let same : get_or (set mid i absent) j absent ≡ get_or mid j absent = get_or-set_other mid i j absent absent apart in
          let mid_is = placed_mid j apart (λ e. some (same ∙ e)) in (
            omega (arith, same, mid_is.0),
            ap (λ (n : ℕ). get_or new_members n absent) same ∙ mid_is.1,
          ))
          (cases_eq j i);
    }

  -- One more slot, which is not in the set.
  pub grown : length places < absent → IsPlaced members (places ++ absent ∷ [])
  grown few = record {
    few = omega (arith, few, length_push places absent);
    order =
        let flags : has_of (places ++ absent ∷ []) ≡ has_of places ++ false ∷ [] = map_push is_present places absent in
        subst (IsPermutation members) (sym (ap (indices_from 0) flags ∙ indices_push 0 (has_of places))) was.order;
    placed = λ i some.
        let within : i < length places =
        ⊎_elim
        (λ (h : i < length places). h)
        (λ (h : length places ≤ i).
        absurd (some (
        ⊎_elim
        (λ (e : i ≡ length places). get_or_push places absent absent i (sym e))
        (λ (past : i ≢ length places). get_or_past (places ++ absent ∷ []) i absent (omega (arith, h, past, length_push places absent)))
        (cases_eq i (length places)))))
        (cases_lt i (length places))
        in
        let same : get_or (places ++ absent ∷ []) i absent ≡ get_or places i absent = get_or_append_left places (absent ∷ []) absent i within in
        let old = was.placed i (λ e. some (same ∙ e)) in (
          omega (arith, same, old.0),
          ap (λ (n : ℕ). get_or members n absent) same ∙ old.1,
        );
  }

  -- If there are no members, no slot is in the set.
  pub none_in : members ≡ [] → (i : ℕ) → get_or (has_of places) i false ≡ false
  none_in none i =
      none_set 0 (has_of places)
      (nil_from_length (indices_from 0 (has_of places)) (let e : length (indices_from 0 (has_of places)) ≡ 0 = sym size ∙ ap length none in e)) i

  -- A member is in the set.
  pub member_has : (k d : ℕ) → k < length members → get_or (has_of places) (get_or members k d) false ≡ true
  member_has k d within = All-get_or (λ i. get_or (has_of places) i false ≡ true) members k d within are
