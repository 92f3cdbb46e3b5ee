use Rattle.std.proofs.Common.{List, sym, subst, ◌∙◌}
use Rattle.std.specs.Prelude.{Contains}
use Rattle.mm_schema.specs.declared.reference.Reference.{Reference}
use Rattle.store_tests.proofs.stores.Case.step.Goals as goal

pub invariant_of-self : goal.invariant_of-self
invariant_of-self c =
    let was = c.self.invariant in
    record {
      two = c.make_step.ensures.count ∙ was.two;
      plain = c.make_step.ensures.plain;
      link = subst (λ (links : List Reference). Contains links (record { from = 1; column = 1; to = 0 })) (sym c.make_step.ensures.links) was.link;
      start = c.make_step.ensures.marks 0 was.start;
      mark = c.make_step.ensures.marks c.self.inside.mark was.mark;
    }
