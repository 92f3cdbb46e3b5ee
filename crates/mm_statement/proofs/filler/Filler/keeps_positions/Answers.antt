use Rattle.std.proofs.Common.{◌+◌, List, ℕ, drop, get_or, subst, sym, take}
use Rattle.mm_statement.specs.steps.Fills.{IsChanging}
use Rattle.mm_statement.proofs.Fillers.{positions_stuck}
use Rattle.mm_statement.proofs.Fills.{at_place}
use Rattle.mm_statement.proofs.filler.Filler.keeps_positions.Goals as goal

pub returns-then-not-keeps_position : goal.returns-then-not-keeps_position
returns-then-not-keeps_position c =
    let all = c.args.positions.now in
    let i = c.loop-position.position-index in
    subst (λ (l : List ℕ). IsChanging c.args.self.now l) (sym (at_place all i 0 c.loop-position-test.true))
    (positions_stuck c.args.self.now c.loop-position.self (take i all) (get_or all i 0) (drop (i + 1) all) c.loop-position.invariant
    c.if-not-keeps_position.ensures)
