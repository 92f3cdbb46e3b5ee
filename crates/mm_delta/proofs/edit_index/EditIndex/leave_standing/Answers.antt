use Rattle.std.proofs.Common.{rules}
use Rattle.std.proofs.lemmas.Fn.{filter_same}
use Rattle.mm_delta.specs.Steps.{stays}
use Rattle.mm_delta.proofs.edit_index.EditIndex.leave_standing.Goals as goal

pub returns : goal.returns
returns c = filter_same _ (stays c.args.self.now.edits) _ (λ at b f k. search rules) _ _ c.retain.ensures.filtered
