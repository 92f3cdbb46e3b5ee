use Rattle.std.proofs.Common.{◌∷◌, Bool, ap, ◌∙◌}
use Rattle.std.specs.Vec.Iter.{into_iter_items}
use Rattle.mm_statement.proofs.Fillers.{taken_hole}
use Rattle.mm_statement.proofs.filler.Filler.take.Goals as goal

pub returns-then-is_hole-clause-taken : goal.returns-then-is_hole-clause-taken
returns-then-is_hole-clause-taken c = λ literal rest.
    taken_hole c.next.result c.args.self.now.holes.now c.in_ok-is_hole.holes.now (into_iter_items c.args.self.now.values)
    (into_iter_items c.next.new.self) (c.in_ok-is_hole.ensures.cases.0 ∙ ap (λ (b : Bool). b ∷ c.in_ok-is_hole.holes.now) c.if-is_hole.true)
    c.next.ensures.items (λ is. c.args.self.now.counted ∙ (rw is at c.next.ensures.cases).0) literal rest
