use Rattle.std.proofs.Common.{◌≡◌, ◌∙◌, arith}
use Rattle.mm_relevance.specs.Walks.{stepped}
use Rattle.mm_relevance.proofs.Closing.{fits_at, next_is, last_is}
use Rattle.mm_relevance.proofs.search.reaches.Goals as goal

pub stepped-requires : goal.stepped-requires
stepped-requires c = fits_at c.args.edges.now c.args.target c.loop-done.done c.deref.result.now (c.deref.ensures.value ∙ c.loop-done.invariant) (omega arith)
    c.requires.near

pub returns-in-None : goal.returns-in-None
returns-in-None c =
    let h = rw c.in-None.is at c.in_ok-next.ensures in
    let k : stepped c.loop-done.reaches.items ≡ c.loop-done.reaches.items = rw c.deref.ensures.value at h in
    last_is c.args.edges.now c.args.target c.loop-done.done c.args.n c.loop-done.reaches.items c.loop-done.invariant k (omega arith)

pub loop-done-preserved : goal.loop-done-preserved
loop-done-preserved c =
    let h = rw c.in-Some.is at c.in_ok-next.ensures in
    next_is c.args.edges.now c.args.target c.loop-done.done c.deref.result.now c.in-Some.next.items (c.deref.ensures.value ∙ c.loop-done.invariant) h
