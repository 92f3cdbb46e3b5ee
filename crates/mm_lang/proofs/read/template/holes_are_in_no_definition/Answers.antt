use Rattle.mm_lang.proofs.Preparing.{definitions_unholed, others_read}
use Rattle.mm_lang.proofs.read.template.holes_are_in_no_definition.Goals as goal

pub returns-clause-definitions : goal.returns-clause-definitions
returns-clause-definitions c = definitions_unholed

pub returns-clause-others : goal.returns-clause-others
returns-clause-others c = others_read
