use Rattle.mm_plan.proofs.Keyed.{atom_read}
use Rattle.mm_plan.proofs.SetEnds.{contains_at}
use Rattle.mm_plan.proofs.keys.key_at.Goals as goal

pub returns-clause-asked : goal.returns-clause-asked
returns-clause-asked c = λ outers wide.
    let own = c.index-atoms-atom.result in
    c.in-Some.ensures.key c.args.atoms.now outers
    (contains_at c.args.atoms.now c.args.atom own (atom_read c.args.atoms.now c.args.place c.args.atom c.requires own c.index-atoms-atom.is)) wide
