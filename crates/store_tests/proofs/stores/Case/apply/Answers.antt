use Rattle.std.proofs.Common.{List, sym, subst, ◌∙◌}
use Rattle.std.specs.Prelude.{Contains}
use Rattle.mm_schema.specs.declared.reference.Reference.{Reference}
use Rattle.store_tests.proofs.stores.Case.apply.Goals as goal

pub invariant_of-self : goal.invariant_of-self
invariant_of-self c =
    let was = c.self.invariant in
    record {
      two = c.apply.ensures.count ∙ was.two;
      plain = c.apply.ensures.plain;
      link = subst (λ (links : List Reference). Contains links (record { from = 1; column = 1; to = 0 })) (sym c.apply.ensures.links) was.link;
      start = c.apply.ensures.marks 0 was.start;
      mark = c.apply.ensures.marks c.self.inside.mark was.mark;
    }
