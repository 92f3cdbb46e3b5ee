use Rattle.std.proofs.Common.{◌≡◌, None, ap, ◌∙◌, arith}
use Rattle.mm_relevance.specs.Walks.{least, reaches_of, stepped}
use Rattle.mm_relevance.proofs.Closing.{fits_at, next_is, never_here, never_negative}
use Rattle.mm_relevance.proofs.search.walk_through.Goals as goal

pub least-owed-requires : goal.least-owed-requires
least-owed-requires c = fits_at c.args.edges.now c.args.target c.loop-n.n c.deref.result.now (c.deref.ensures.value ∙ c.loop-n.invariant) (omega arith)
    c.requires

pub stepped-requires : goal.stepped-requires
stepped-requires c = fits_at c.args.edges.now c.args.target c.loop-n.n c.deref-in-loop-n.result.now (c.deref-in-loop-n.ensures.value ∙ c.loop-n.invariant)
    (omega arith) c.requires

pub returns-in-None : goal.returns-in-None
returns-in-None c =
    let h = rw c.in-None.is at c.in_ok-next.ensures in
    let k : stepped c.loop-n.reaches.items ≡ c.loop-n.reaches.items = rw c.deref-in-loop-n.ensures.value at h in
    never_negative c.args.edges.now c.args.target c.loop-n.n c.loop-n.reaches.items c.loop-n.invariant k (omega arith)
    (never_here c.args.target c.loop-n.reaches.items c.is_negative.result c.least-owed.result c.if-is_negative.false c.is_negative.ensures
    (c.least-owed.ensures ∙ ap (least c.args.target None) c.deref.ensures.value))

pub loop-n-preserved : goal.loop-n-preserved
loop-n-preserved c =
    let h = rw c.in-Some.is at c.in_ok-next.ensures in
    next_is c.args.edges.now c.args.target c.loop-n.n c.deref-in-loop-n.result.now c.in-Some.next.items (c.deref-in-loop-n.ensures.value ∙ c.loop-n.invariant) h

pub least-owed-requires-2 : goal.least-owed-requires-2
least-owed-requires-2 c = fits_at c.args.edges.now c.args.target c.loop-n.n c.deref-2.result.now (c.deref-2.ensures.value ∙ c.loop-n.invariant) (omega arith)
    c.requires

pub walked-requires-then-is_negative-2-clause-least : goal.walked-requires-then-is_negative-2-clause-least
walked-requires-then-is_negative-2-clause-least c =
    let e : c.loop-n.n ≡ 31 = omega arith in
    c.least-owed-2.ensures ∙ ap (least c.args.target None) (c.deref-2.ensures.value ∙ c.loop-n.invariant ∙ ap (reaches_of c.args.edges.now c.args.target) e)

pub returns : goal.returns
returns c =
    let e : c.loop-n.n ≡ 31 = omega arith in
    never_here c.args.target (reaches_of c.args.edges.now c.args.target 31) c.is_negative-2.result c.least-owed-2.result c.if-is_negative-2.false
    c.is_negative-2.ensures
    (c.least-owed-2.ensures ∙ ap (least c.args.target None) (c.deref-2.ensures.value ∙ c.loop-n.invariant ∙ ap (reaches_of c.args.edges.now c.args.target) e))
