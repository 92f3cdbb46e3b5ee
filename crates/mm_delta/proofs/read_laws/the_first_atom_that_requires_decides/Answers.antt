use Rattle.std.proofs.Common.{◌∷◌, map, refl, ap}
use Rattle.mm_query.specs.Choosing.{first_there}
use Rattle.mm_query.specs.declared.atom.Atom.{Atom}
use Rattle.mm_query.specs.declared.bound_query.FieldPlace.{FieldPlace}
use Rattle.mm_delta.specs.Candidates.{asked_by}
use Rattle.mm_delta.proofs.read_laws.the_first_atom_that_requires_decides.Goals as goal

pub returns-clause-first : goal.returns-clause-first
returns-clause-first c indexed atom atoms m place asked h =
    ap (λ o. first_there (o ∷ map (λ (a : Atom FieldPlace). asked_by indexed place m a a.comparison) atoms)) h

pub returns-clause-later : goal.returns-clause-later
returns-clause-later c indexed atom atoms m place h =
    ap (λ o. first_there (o ∷ map (λ (a : Atom FieldPlace). asked_by indexed place m a a.comparison) atoms)) h

pub returns-clause-none : goal.returns-clause-none
returns-clause-none c indexed m place = refl
