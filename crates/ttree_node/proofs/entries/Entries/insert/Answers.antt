use Rattle.std.proofs.Common.{◌≡◌, ◌+◌, length, take, insert, slice_set, sym, ap, ◌∙◌, arith, length-take-le}
use Rattle.ttree_node.proofs.EntryLemmas.{inserted}
use Rattle.ttree_node.proofs.entries.Entries.insert.Goals as goal

pub returns : goal.returns
returns c =
    let all = c.self.inside.places in
    let len = c.self.inside.len in
    let i = c.args.i in
    let size : length c.args.self.now ≡ len =
    ap length (sym c.self.view_is) ∙ length-take-le len all (omega (arith, c.self.invariant.fits, c.self.invariant.room)) in
    ap (λ xs. take (len + 1) (slice_set xs i c.args.entry)) c.copy_within.ensures.after
    ∙ inserted all len i c.args.entry (omega (arith, c.self.invariant.room, c.requires.room, size)) (omega (arith, c.requires.in_bounds, size))
    ∙ ap (λ xs. insert xs i c.args.entry) c.self.view_is
