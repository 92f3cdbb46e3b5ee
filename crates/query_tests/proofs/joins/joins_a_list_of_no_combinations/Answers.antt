use Rattle.std.proofs.Common.{[], ◌∷◌, ◌++◌, sym, ap, subst, arith}
use Rattle.std.specs.List.{All}
use Rattle.mm_templist.specs.Combos.{AreLive, Combos}
use Rattle.query_tests.proofs.joins.joins_a_list_of_no_combinations.Goals as goal

pub loops_over_none-requires : goal.loops_over_none-requires
loops_over_none-requires g c = (
  1,
  (
    (ap (λ (list : Combos). list.tables ++ 1 ∷ []) (sym c.new-outer.ensures), omega (arith, c.in_ok-store.ensures)),
    subst (λ (list : Combos). All (AreLive c.in_ok-store.store list.tables) list.combos) (sym c.new-outer.ensures) (λ k d within. absurd (omega arith)),
  ),
)
