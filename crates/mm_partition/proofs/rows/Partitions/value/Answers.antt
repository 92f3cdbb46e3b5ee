use Rattle.std.proofs.Common.{length, sym, ap, ◌∙◌, subst, arith, Some}
use Rattle.mm_partition.specs.Cells.{Fits}
use Rattle.mm_partition.proofs.ContentLemmas.{value_at, width_is, live_within}
use Rattle.mm_partition.proofs.rows.Partitions.value.Goals as goal

pub value-requires : goal.value-requires
value-requires c =
    let fits : Fits (length c.self.inside.states.items) c.self.inside.spare c.index.result.now =
    subst (Fits _ _) (sym c.index.ensures) (c.self.invariant.cells c.args.column c.index.result.now (omega (arith, width_is _ _ _ _ c.self.view_is))) in
    omega (arith, live_within _ _ _ _ _ _ c.self.view_is c.requires.live.1, c.index_of.ensures, fits.size)

pub returns : goal.returns
returns c row live =
    value_at _ _ _ _ c.args.at row c.index_of.result c.args.column c.index.result.now c.self.view_is (sym c.index_of.ensures) live
    (omega (arith, width_is _ _ _ _ c.self.view_is)) c.index.ensures
    ∙ ap Some (sym c.value.ensures)
