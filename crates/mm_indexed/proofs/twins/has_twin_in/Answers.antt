use Rattle.std.proofs.Common.{⊎_elim, refl, sym, ◌∙◌}
use Rattle.mm_partition.specs.Places.{slot_at}
use Rattle.mm_indexed.specs.Twins.{HasTwinBelow, HasTwinAbove}
use Rattle.mm_indexed.proofs.TwinPlaces.{twin_from_below, twin_from_above, twin_cases}
use Rattle.mm_indexed.proofs.twins.has_twin_in.Goals as goal

pub returns-then-has_twin_below : goal.returns-then-has_twin_below
returns-then-has_twin_below c = (
  λ yes. twin_from_below c.args.key (slot_at c.args.rows.now) c.args.at (c.has_twin_below.ensures.0 c.if-has_twin_below.true),
  λ twin. refl,
)

pub returns : goal.returns
returns c = (
  λ yes. twin_from_above c.args.key (slot_at c.args.rows.now) c.args.at (c.has_twin_above.ensures.0 yes),
  λ twin. ⊎_elim
      (λ (below : HasTwinBelow c.args.key (slot_at c.args.rows.now) c.args.at).
      let is = sym (c.has_twin_below.ensures.1 below) ∙ c.if-has_twin_below.false in let no : ⊥ = cc in absurd no)
      (λ (above : HasTwinAbove c.args.key (slot_at c.args.rows.now) c.args.at). c.has_twin_above.ensures.1 above)
      (twin_cases c.args.key (slot_at c.args.rows.now) c.args.at twin),
)
