use Rattle.std.proofs.Common.{◌≡◌, ◌-◌, length, take, remove, sym, ap, ◌∙◌, arith, length-take-le}
use Rattle.ttree_node.proofs.EntryLemmas.{removed}
use Rattle.ttree_node.proofs.entries.Entries.remove.Goals as goal

pub returns-clause-rest : goal.returns-clause-rest
returns-clause-rest c =
    let all = c.self.inside.places in
    let len = c.self.inside.len in
    let i = c.args.i in
    let size : length c.args.self.now ≡ len =
    ap length (sym c.self.view_is) ∙ length-take-le len all (omega (arith, c.self.invariant.fits, c.self.invariant.room)) in
    ap (take (len - 1)) c.copy_within.ensures.after
    ∙ removed all len i (omega (arith, c.self.invariant.fits, c.self.invariant.room)) (omega (arith, c.requires, size))
    ∙ ap (λ xs. remove xs i) c.self.view_is
