-- Texts with the same bytes tie.
use Rattle.std.proofs.Common.{◌∙◌, sym}
use Rattle.std.specs.Cmp.Lexicographic.{texts_ties}
use Rattle.mm_value.specs.Equality.{same_value}
use Rattle.mm_value.proofs.equality.ValuePartialEq.eq.Goals as goal

pub returns-in-Text-Text : goal.returns-in-Text-Text
returns-in-Text-Text c =
    c.eq.ensures ∙ texts_ties c.in-Text-Text.a c.in-Text-Text.b ∙ (λ i. same_value (sym c.in-Text-Text.is-0 i) (sym c.in-Text-Text.is-1 i))
