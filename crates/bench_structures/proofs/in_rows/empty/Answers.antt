use Rattle.std.proofs.Common.{◌≡◌, All, List, [], ◌∷◌, ◌++◌, subst}
use Rattle.mm_value.specs.declared.row_ref.RowRef.{RowRef}
use Rattle.mm_partition.specs.Places.{IsLive}
use Rattle.bench_structures.specs.Apart.{AreApart}
use Rattle.bench_structures.proofs.Rows.{AreApart-front, All-live-front, last_live}
use Rattle.bench_structures.proofs.in_rows.empty.Goals as goal

pub loop-at-preserved : goal.loop-at-preserved
loop-at-preserved c =
    let rest : List RowRef = c.pop.new.self.items in
    let at : RowRef = c.in-Some.at in
    let split : c.loop-at.refs.items ≡ rest ++ at ∷ [] = c.in-Some.ensures.items in
    let live : All (IsLive c.loop-at.rows) (rest ++ at ∷ []) = subst (All (IsLive c.loop-at.rows)) split c.loop-at.invariant.live in
    let apart : AreApart (rest ++ at ∷ []) = subst AreApart split c.loop-at.invariant.apart in
    let (row, is) = last_live c.loop-at.rows rest at live in
    record {
      live = All-live-front c.loop-at.rows c.hide.new.self c.release.new.self rest at row live apart (c.hide.ensures.hidden row is) c.release.ensures.freed;
      apart = AreApart-front rest at apart;
    }
