use Rattle.mm_lang.proofs.Preparing.{holes_are_literals, plain_template}
use Rattle.mm_lang.proofs.read.template.templates_read_as_lines.Goals as goal

pub returns : goal.returns
returns c = record { plain = plain_template; places = holes_are_literals }
