use Rattle.std.proofs.Common.{length, sym, ap, ◌∙◌, subst, arith, Some}
use Rattle.mm_partition.specs.Cells.{Fits}
use Rattle.mm_partition.proofs.ContentLemmas.{width_is}
use Rattle.mm_partition.proofs.ExchangeLemmas.{taken_within, taken_cell}
use Rattle.mm_partition.proofs.rows.Partitions.cell.Goals as goal

pub value-requires : goal.value-requires
value-requires c =
    let fits : Fits (length c.self.inside.states.items) c.self.inside.spare c.index.result.now =
    subst (Fits _ _) (sym c.index.ensures) (c.self.invariant.cells c.args.column c.index.result.now (omega (arith, width_is _ _ _ _ c.self.view_is))) in
    omega (arith, taken_within _ _ _ _ c.args.index c.self.view_is c.requires.taken, fits.size)

pub returns : goal.returns
returns c =
    taken_cell _ _ _ _ c.args.index c.args.column c.index.result.now c.self.view_is c.requires.taken
    (omega (arith, width_is _ _ _ _ c.self.view_is)) c.index.ensures
    ∙ ap Some (sym c.value.ensures)
