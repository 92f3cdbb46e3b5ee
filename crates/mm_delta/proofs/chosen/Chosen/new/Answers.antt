use Rattle.std.proofs.Common.{None}
use Rattle.std.proofs.lemmas.List.{take-replicate}
use Rattle.mm_delta.proofs.chosen.Chosen.new.Goals as goal

pub returns : goal.returns
returns c = take-replicate c.args.places 4 None c.requires
