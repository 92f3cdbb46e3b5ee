use Rattle.std.proofs.Common.{◌+◌, ◌<◌, All, List, sym, subst, arith}
use Rattle.mm_value.specs.declared.row_ref.RowRef.{RowRef}
use Rattle.mm_order.proofs.Ordered.{All-added}
use Rattle.structure_tests.proofs.trees.fill_in_order.Goals as goal

pub loop-number-preserved : goal.loop-number-preserved
loop-number-preserved g c =
    let earlier : All (λ a. a.slot < c.loop-number.number) c.reserve.new.refs.refs =
    subst (λ (xs : List RowRef). All (λ a. a.slot < c.loop-number.number) xs) (sym c.in_ok-reserve.ensures.refs) c.loop-number.invariant.earlier in
    record {
      ordered = c.insert.ensures.ordered;
      earlier = All-added _ _ _ _ c.insert.ensures.refs (λ a. a.slot < c.loop-number.number + 1) (λ k d below. omega (arith, earlier k d below)) (omega arith);
    }
