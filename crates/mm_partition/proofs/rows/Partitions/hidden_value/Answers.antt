use Rattle.std.proofs.Common.{length, sym, ap, ◌∙◌, subst, arith, Some}
use Rattle.mm_partition.specs.Cells.{Fits}
use Rattle.mm_partition.proofs.ContentLemmas.{width_is, hidden_within}
use Rattle.mm_partition.proofs.ExchangeLemmas.{hidden_value_at}
use Rattle.mm_partition.proofs.rows.Partitions.hidden_value.Goals as goal

pub value-requires : goal.value-requires
value-requires c =
    let fits : Fits (length c.self.inside.states.items) c.self.inside.spare c.index.result.now =
    subst (Fits _ _) (sym c.index.ensures) (c.self.invariant.cells c.args.column c.index.result.now (omega (arith, width_is _ _ _ _ c.self.view_is))) in
    omega (arith, hidden_within _ _ _ _ _ _ c.self.view_is c.requires.hidden.1, c.index_of.ensures, fits.size)

pub returns : goal.returns
returns c row hidden =
    hidden_value_at _ _ _ _ c.args.at row c.index_of.result c.args.column c.index.result.now c.self.view_is (sym c.index_of.ensures) hidden
    (omega (arith, width_is _ _ _ _ c.self.view_is)) c.index.ensures
    ∙ ap Some (sym c.value.ensures)
