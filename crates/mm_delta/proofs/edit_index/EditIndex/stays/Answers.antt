use Rattle.std.proofs.Common.{not, ap, ◌∙◌}
use Rattle.std.specs.List.{list_any}
use Rattle.mm_delta.specs.EditIndex.{ReadEdits}
use Rattle.mm_delta.specs.Steps.{takes}
use Rattle.mm_delta.proofs.edit_index.EditIndex.stays.Goals as goal

pub returns : goal.returns
returns c = ap not (c.contains.ensures ∙ c.self.invariant.0 c.args.at ∙ ap (λ (read : ReadEdits). list_any (takes c.args.at) read.edits) c.self.view_is)
