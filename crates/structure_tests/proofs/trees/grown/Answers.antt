use Rattle.std.proofs.Common.{◌+◌, ◌<◌, ◌≤◌, All, List, sym, subst, arith}
use Rattle.mm_value.specs.declared.row_ref.RowRef.{RowRef}
use Rattle.mm_order.proofs.Ordered.{All-added}
use Rattle.structure_tests.proofs.trees.grown.Goals as goal

pub down-preserved : goal.down-preserved
down-preserved g c =
    let later : All (λ a. 1000 ≤ a.slot + c.down.i) c.reserve.new.refs.refs =
    subst (λ (xs : List RowRef). All (λ a. 1000 ≤ a.slot + c.down.i) xs) (sym c.in_ok-reserve.ensures.refs) c.down.invariant.later in
    let earlier : All (λ a. a.slot < 1000) c.reserve.new.refs.refs =
    subst (λ (xs : List RowRef). All (λ a. a.slot < 1000) xs) (sym c.in_ok-reserve.ensures.refs) c.down.invariant.earlier in
    record {
      ordered = c.insert.ensures.ordered;
      later = All-added _ _ _ _ c.insert.ensures.refs (λ a. 1000 ≤ a.slot + (c.down.i + 1)) (λ k d below. omega (arith, later k d below)) (omega arith);
      earlier = All-added _ _ _ _ c.insert.ensures.refs (λ a. a.slot < 1000) earlier (omega arith);
    }

pub up-preserved : goal.up-preserved
up-preserved g c =
    let earlier : All (λ a. a.slot < c.up.number) c.reserve-in-up.new.refs.refs =
    subst (λ (xs : List RowRef). All (λ a. a.slot < c.up.number) xs) (sym c.in_ok-reserve-2.ensures.refs) c.up.invariant.earlier in
    record {
      ordered = c.insert-in-up.ensures.ordered;
      earlier = All-added _ _ _ _ c.insert-in-up.ensures.refs (λ a. a.slot < c.up.number + 1) (λ k d below. omega (arith, earlier k d below)) (omega arith);
    }
