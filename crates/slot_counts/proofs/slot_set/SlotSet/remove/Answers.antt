-- The slot's place is that of a member, and the last member moves there.
use Rattle.std.proofs.Common.{◌≡◌, ◌≢◌, ℕ, ◌+◌, ◌-◌, ◌<◌, Bool, List, false, true, length, get_or, set, ap, sym, ◌∙◌, subst, arith}
use Rattle.std.specs.List.{swap_remove}
use Rattle.std.specs.Vec.{vec_len}
use Rattle.std.proofs.lemmas.List.{get_or_default}
use Rattle.slot_counts.specs.Sets.{IsMoveTold, IsPlaced, absent}
use Rattle.slot_counts.proofs.Members.{flags_removed, has_at, has_of, inside, member_inside, present_is, removed}
use Rattle.slot_counts.proofs.slot_set.SlotSet.remove.Goals as goal

there : (places : List ℕ) (i : ℕ) (has : List Bool) → has_of places ≡ has → get_or has i false ≡ true → get_or places i absent ≢ absent
there places i has same is = present_is (get_or places i absent) (sym (has_at places i) ∙ (ap (λ l. get_or l i false) same ∙ is))

place_is : (places : List ℕ) (i p : ℕ) → get_or places i absent ≢ absent → p ≡ get_or places i p → p ≡ get_or places i absent
place_is places i p there read = read ∙ get_or_default places i p absent (inside places i there)

-- A read at an equal place.
module _ (members places new_members mid : List ℕ) (i p x n : ℕ) (n_is : n ≡ length members)
    (was : IsPlaced members places) (some : get_or places i absent ≢ absent)
    (p_is : p ≡ get_or places i absent) (value : x ≡ get_or members p x) (items : new_members ≡ swap_remove members p x)
    (shorter : length new_members + 1 ≡ length members)
    (by_index : ((d : ℕ) → p + 1 < n → get_or new_members p d ≡ get_or members (n - 1) d)
    × ((k : ℕ) (d : ℕ) → k ≢ p → k + 1 < n → get_or new_members k d ≡ get_or members k d))
    (told : IsMoveTold new_members p places mid) where
  read : x ≡ get_or members (get_or places i absent) x
  read = value ∙ ap (λ (n : ℕ). get_or members n x) p_is

  out : new_members ≡ swap_remove members (get_or places i absent) x
  out = items ∙ ap (λ (n : ℕ). swap_remove members n x) p_is

  last : get_or places i absent + 1 < length members → get_or new_members (get_or places i absent) absent ≡ get_or members (length members - 1) absent
  last h = ap (λ (n : ℕ). get_or new_members n absent) (sym p_is)
      ∙ (by_index.0 absent (omega (arith, h, p_is, n_is)) ∙ ap (λ (k : ℕ). get_or members (k - 1) absent) n_is)

  others : (k : ℕ) → k ≢ get_or places i absent → k + 1 < length members → get_or new_members k absent ≡ get_or members k absent
  others k apart h = by_index.1 k absent (λ e. apart (e ∙ p_is)) (omega (arith, h, n_is))

  moved : IsMoveTold new_members (get_or places i absent) places mid
  moved = subst (λ (n : ℕ). IsMoveTold new_members n places mid) p_is told

  pub now_placed : IsPlaced new_members (set mid i absent)
  now_placed = removed members places was i x new_members mid some read out shorter last others moved

  pub now_flags : has_of (set mid i absent) ≡ set (has_of places) i false
  now_flags = flags_removed members places was i x new_members mid some read out shorter last others moved

pub tell_moved-requires : goal.tell_moved-requires
tell_moved-requires c = λ h.
    let old = c.self.inside in
    let some = there old.places.items c.args.slot c.args.self.now.has (ap (λ v. v.has) c.self.view_is) c.requires.is_in in
    let p : ℕ = c.index-place.result.now in
    let new : List ℕ = c.swap_remove.new.self.items in
    let shorter : p < length new = subst (λ (l : List ℕ). p < length l) c.as_slice.ensures.value h in
    let before : p + 1 < vec_len old.members = omega (arith, shorter, c.swap_remove.ensures.len, c.swap_remove.new.self.ok.0) in
    let is : get_or c.as_slice.result.now p absent ≡ get_or old.members.items (vec_len old.members - 1) absent =
    ap (λ (l : List ℕ). get_or l p absent) c.as_slice.ensures.value ∙ c.swap_remove.ensures.by_index.0 absent before
    in
    let within = member_inside old.members.items old.places.items c.self.invariant.0 (vec_len old.members - 1) absent
    (omega (arith, before, old.members.ok.0)) in
    omega (arith, is, within)

pub invariant_of-self : goal.invariant_of-self
invariant_of-self c =
    let old = c.self.inside in
    let some = there old.places.items c.args.slot c.args.self.now.has (ap (λ v. v.has) c.self.view_is) c.requires.is_in in
    let p_is = place_is old.places.items c.args.slot c.index-place.result.now some c.index-place.ensures in
    let told = subst (λ (l : List ℕ). IsMoveTold l c.index-place.result.now old.places.items c.tell_moved.new.places.items) c.as_slice.ensures.value
    c.tell_moved.ensures.told in (
      now_placed old.members.items old.places.items c.swap_remove.new.self.items c.tell_moved.new.places.items c.args.slot c.index-place.result.now
          c.swap_remove.result (vec_len old.members) old.members.ok.0 c.self.invariant.0 some p_is c.swap_remove.ensures.value c.swap_remove.ensures.items
          (omega (arith, c.swap_remove.ensures.len, old.members.ok.0, c.swap_remove.new.self.ok.0)) c.swap_remove.ensures.by_index told,
      omega (arith, c.tell_moved.ensures.len, c.swap_remove.ensures.capacity, c.self.invariant.1),
    )

pub returns-clause-has : goal.returns-clause-has
returns-clause-has c =
    let old = c.self.inside in
    let some = there old.places.items c.args.slot c.args.self.now.has (ap (λ v. v.has) c.self.view_is) c.requires.is_in in
    let p_is = place_is old.places.items c.args.slot c.index-place.result.now some c.index-place.ensures in
    let told = subst (λ (l : List ℕ). IsMoveTold l c.index-place.result.now old.places.items c.tell_moved.new.places.items) c.as_slice.ensures.value
    c.tell_moved.ensures.told in
    now_flags old.members.items old.places.items c.swap_remove.new.self.items c.tell_moved.new.places.items c.args.slot c.index-place.result.now
    c.swap_remove.result (vec_len old.members) old.members.ok.0 c.self.invariant.0 some p_is c.swap_remove.ensures.value c.swap_remove.ensures.items
    (omega (arith, c.swap_remove.ensures.len, old.members.ok.0, c.swap_remove.new.self.ok.0)) c.swap_remove.ensures.by_index told
    ∙ ap (λ v. set v.has c.args.slot false) c.self.view_is
