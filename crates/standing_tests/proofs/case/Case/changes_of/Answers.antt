-- Staged rows do not change the case.
use Rattle.std.proofs.Common.{◌<◌, length, arith}
use Rattle.standing_tests.proofs.Staging.{marked_staged}
use Rattle.standing_tests.proofs.case.Case.changes_of.Goals as goal

pub invariant_of-self : goal.invariant_of-self
invariant_of-self c =
    let was = c.self.invariant in
    let two = was.case.two in
    let within : c.args.table < length c.self.inside.store.tables = omega (arith, two, c.if-table-ge2.false) in
    marked_staged c.args.table c.self.inside.store c.changes_of_addition.new.store within c.changes_of_addition.ensures.staged
    c.self.inside.standing c.self.inside.mark.commands c.self.inside.mark.changes was

pub invariant_of-self-2 : goal.invariant_of-self-2
invariant_of-self-2 c =
    let was = c.self.invariant in
    let two = was.case.two in
    let within : c.args.table < length c.self.inside.store.tables = omega (arith, two, c.if-table-ge2.false) in
    marked_staged c.args.table c.self.inside.store c.changes_of_addition.new.store within c.changes_of_addition.ensures.staged
    c.self.inside.standing c.self.inside.mark.commands c.self.inside.mark.changes was
