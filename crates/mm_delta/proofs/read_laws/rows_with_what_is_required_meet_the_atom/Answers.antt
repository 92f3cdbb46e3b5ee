use Rattle.mm_delta.proofs.Asked.{meets}
use Rattle.mm_delta.proofs.read_laws.rows_with_what_is_required_meet_the_atom.Goals as goal

pub returns : goal.returns
returns c indexed atom m place asked row inside vacant h = meets indexed m place row inside vacant atom atom.comparison asked h
