use Rattle.std.proofs.Common.{List, sym, subst, ◌∙◌, arith}
use Rattle.std.specs.Prelude.{Contains}
use Rattle.mm_schema.specs.declared.reference.Reference.{Reference}
use Rattle.store_tests.proofs.PlainStores.{plain_formed}
use Rattle.store_tests.proofs.stores.Case.go_back.Goals as goal

pub invariant_of-self : goal.invariant_of-self
invariant_of-self c =
    let was = c.self.invariant in
    record {
      two = c.revert.ensures.form.size ∙ was.two;
      plain = plain_formed c.self.inside.store c.revert.new.self c.revert.ensures.form was.plain;
      link = subst (λ (links : List Reference). Contains links (record { from = 1; column = 1; to = 0 })) (sym c.revert.ensures.links) was.link;
      start = (c.revert.ensures.marks 0 (omega arith)).kept was.start;
      mark = (c.revert.ensures.marks c.self.inside.mark (omega arith)).kept was.mark;
    }
