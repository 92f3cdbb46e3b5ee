-- The rows and the counts stay.
use Rattle.std.proofs.Common.{pos, ap, ◌∙◌}
use Rattle.mm_standing.specs.State.{Lists}
use Rattle.mm_txn.proofs.RestKept.{rest_settled}
use Rattle.mm_txn.proofs.contents.Contents.settle_outside.Goals as goal

pub invariant_of-self : goal.invariant_of-self
invariant_of-self c =
    rest_settled c.self.inside.catalog c.self.inside.store c.settle.new.self c.self.inside.standing c.settle-then-not-is_open.new.self c.self.invariant
    c.settle.ensures.links (ap (λ (l : Lists). l.queries) c.settle-then-not-is_open.ensures.rest) c.settle.ensures.form c.settle.ensures.rows
    (λ list row. ap (λ n. pos n) (c.settle-then-not-is_open.ensures.counts list row))
    (ap (λ (l : Lists). l.prepared) c.settle-then-not-is_open.ensures.rest ∙ c.self.invariant.listed.ready)
