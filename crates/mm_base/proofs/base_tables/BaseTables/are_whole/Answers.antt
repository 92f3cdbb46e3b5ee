use Rattle.std.proofs.Common.{◌≡◌, ℕ, ◌<◌, ◌≤◌, ⊎_elim, get_or, sym, subst, arith}
use Rattle.std.proofs.lemmas.Bool.{cases_lt}
use Rattle.mm_base.specs.Bases.{Base, IsWhole}
use Rattle.mm_base.proofs.base_tables.BaseTables.are_whole.Goals as goal

pub loop-table-preserved : goal.loop-table-preserved
loop-table-preserved c k d within =
    ⊎_elim
    (λ (before_it : k < c.loop-table.table). c.loop-table.invariant k d before_it)
    (λ (from_it : c.loop-table.table ≤ k).
    let same : k ≡ c.loop-table.table = omega (arith, from_it, within) in
    subst (λ (n : ℕ). IsWhole (get_or c.args.self.now.stored.tables n d).rows) (sym same)
    (subst (λ (s : Base). IsWhole (get_or s.stored.tables c.loop-table.table d).rows) c.self.view_is
    (subst IsWhole (c.table.ensures d) c.is_whole.ensures)))
    (cases_lt k c.loop-table.table)
