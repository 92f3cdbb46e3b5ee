use Rattle.std.proofs.Common.{sym, ◌∙◌}
use Rattle.mm_partition.specs.Places.{slot_at}
use Rattle.mm_indexed.proofs.TwinPlaces.{IsMonotone-above, found_above, none_above}
use Rattle.mm_indexed.proofs.twins.has_twin_above.Goals as goal

pub find_along-requires-clause-monotone : goal.find_along-requires-clause-monotone
find_along-requires-clause-monotone c = IsMonotone-above c.args.key (slot_at c.args.rows.now) c.args.at c.requires.wide

pub returns : goal.returns
returns c = (
  λ yes. found_above c.args.key (slot_at c.args.rows.now) c.args.at c.args.tree.now.refs c.requires.held c.find_along.result c.find_along.ensures.held
      c.find_along.ensures.fits (sym c.is_some.ensures ∙ yes),
  λ twin. c.is_some.ensures
      ∙ (none_above c.args.key (slot_at c.args.rows.now) c.args.at c.args.tree.now.refs c.requires.held c.find_along.result c.find_along.ensures.none twin),
)
