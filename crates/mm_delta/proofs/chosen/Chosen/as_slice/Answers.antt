use Rattle.std.proofs.Common.{sym, ◌∙◌}
use Rattle.std.specs.Option.{option_map}
use Rattle.std.proofs.lemmas.List.{take-map}
use Rattle.mm_partition.specs.Views.{viewed}
use Rattle.mm_delta.proofs.chosen.Chosen.as_slice.Goals as goal

pub returns : goal.returns
returns c = sym (take-map (option_map viewed) c.self.inside.places c.self.inside.rows) ∙ c.self.view_is
