use Rattle.std.proofs.Common.{[], subst, arith}
use Rattle.mm_store.proofs.Joining.{some_at}
use Rattle.mm_join.proofs.Behind.{have_candidates}
use Rattle.mm_join.specs.AccessMethods.{IsAccessMethod}
use Rattle.mm_join.proofs.access_methods.AccessMethod.has_none.Goals as goal

pub returns-in-Sought-clause-none : goal.returns-in-Sought-clause-none
returns-in-Sought-clause-none c = λ no.
    let store = c.args.view.now.store in
    let inner = c.args._inner.now in
    let outer = c.args.outer in
    let (stored, here) = some_at store.tables inner.table c.requires.there in
    let method = subst (IsAccessMethod store outer.tables.now inner) c.in-Sought.is c.requires.method in
    have_candidates c.args.view.now inner.table stored here inner.atoms.now outer.tables.now outer.refs.now c.requires.live
    c.in-Sought.look_up.key method.0 0 [] (c.has_none.ensures.none no stored (method.1 stored here)) (omega arith)
