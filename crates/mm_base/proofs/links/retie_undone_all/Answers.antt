use Rattle.std.proofs.Common.{◌≡◌, get_or, sym, subst, arith}
use Rattle.mm_base.specs.Joined.{BehindUndo, IsBehindIn}
use Rattle.mm_base.proofs.links.retie_undone_all.Goals as goal

pub retie_undone-requires : goal.retie_undone-requires
retie_undone-requires c =
    let tables = c.args.tables.now.tables in
    let i = c.loop-link.link-index in
    let d = c.link-item.result in
    let same : get_or c.loop-link.link-items i d ≡ get_or c.args.links.now.items i d =
    c.loop-link.invariant.rest i d (omega arith) (omega (arith, c.loop-link.invariant.size)) in
    subst (IsBehindIn (BehindUndo tables c.args.edit) c.args.table tables c.args.tables.now.log) (sym same)
    (c.requires i d (omega (arith, c.loop-link.invariant.size)))
