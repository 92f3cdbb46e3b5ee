use Rattle.std.proofs.Common.{◌≡◌, ℕ, ◌<◌, ◌∷◌, ◌++◌, [], false, true, length, get_or, set, map, ap, sym, ◌∙◌, subst, arith}
use Rattle.std.proofs.lemmas.List.{map-set}
use Rattle.slot_counts.specs.Sets.{IsPlaced, is_present}
use Rattle.slot_counts.proofs.Members.{fewer_members, inserted, present}
use Rattle.slot_counts.proofs.slot_set.SlotSet.insert.Goals as goal

pub overflow_cast-len : goal.overflow_cast-len
overflow_cast-len c =
    let old = c.self.inside in
    let same = ap (λ v. v.has) c.self.view_is in
    let fewer = fewer_members old.members.items old.places.items c.self.invariant.0 c.args.slot
    (subst (λ l. c.args.slot < length l) (sym same) c.requires.within) (subst (λ l. get_or l c.args.slot false ≡ false) (sym same) c.requires.out) in
    omega (arith, c.len.ensures, fewer, c.self.invariant.0.few, old.members.ok.0)

pub push_reserved-requires : goal.push_reserved-requires
push_reserved-requires c =
    let old = c.self.inside in
    let same = ap (λ v. v.has) c.self.view_is in
    let fewer = fewer_members old.members.items old.places.items c.self.invariant.0 c.args.slot
    (subst (λ l. c.args.slot < length l) (sym same) c.requires.within) (subst (λ l. get_or l c.args.slot false ≡ false) (sym same) c.requires.out) in
    omega (arith, fewer, c.self.invariant.1, old.members.ok.0, old.places.ok.0)

pub invariant_of-self : goal.invariant_of-self
invariant_of-self c =
    let old = c.self.inside in
    let same = ap (λ v. v.has) c.self.view_is in
    let now = inserted old.members.items old.places.items c.self.invariant.0 c.args.slot
    (subst (λ l. c.args.slot < length l) (sym same) c.requires.within) (subst (λ l. get_or l c.args.slot false ≡ false) (sym same) c.requires.out) in
    let len : length old.members.items ≡ c.len.result = omega (arith, c.len.ensures, old.members.ok.0) in (
      subst (λ l. IsPlaced l (set old.places.items c.args.slot c.len.result)) (sym c.push_reserved.ensures.items)
          (subst (λ (n : ℕ). IsPlaced (old.members.items ++ c.args.slot ∷ []) (set old.places.items c.args.slot n)) len now),
      omega (arith, c.self.invariant.1, c.push_reserved.ensures.capacity),
    )

pub returns-clause-has : goal.returns-clause-has
returns-clause-has c =
    let old = c.self.inside in
    let same = ap (λ v. v.has) c.self.view_is in
    let fewer = fewer_members old.members.items old.places.items c.self.invariant.0 c.args.slot
    (subst (λ l. c.args.slot < length l) (sym same) c.requires.within) (subst (λ l. get_or l c.args.slot false ≡ false) (sym same) c.requires.out) in
    map-set is_present old.places.items c.args.slot c.len.result
    ∙ (ap (set (map is_present old.places.items) c.args.slot)
    (present c.len.result (omega (arith, fewer, c.len.ensures, c.self.invariant.0.few, old.members.ok.0)))
    ∙ ap (λ l. set l c.args.slot true) same)
