use Rattle.std.proofs.Common.{List, ℕ, inl, refl, subst}
use Rattle.mm_statement.specs.steps.Fills.{IsChanging, Keeps}
use Rattle.mm_statement.proofs.FilledCommands.{order_stuck, query_filled}
use Rattle.mm_statement.proofs.filling.fill_query.Goals as goal

pub returns-then-not-keeps_positions : goal.returns-then-not-keeps_positions
returns-then-not-keeps_positions c =
    let mid = c.fill_few.new.filler in
    inl (
      refl,
      order_stuck c.args.filler.now mid c.args.query c.in_ok-atoms.atoms c.in_ok-atoms.ensures
          (subst (λ (l : List ℕ). IsChanging mid l) c.as_slice.ensures c.if-not-keeps_positions.ensures),
    )

pub returns : goal.returns
returns c =
    let mid = c.fill_few.new.filler in
    let new = c.keeps_positions.new.self in
    query_filled c.args.filler.now mid new c.args.query c.in_ok-atoms.atoms c.requires c.in_ok-atoms.ensures
    (subst (λ (l : List ℕ). Keeps mid new l) c.as_slice.ensures c.if-not-keeps_positions.ensures)
