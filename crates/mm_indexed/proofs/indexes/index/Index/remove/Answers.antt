use Rattle.std.proofs.Common.{◌∷◌, refl, subst}
use Rattle.mm_partition.specs.Places.{slot_at}
use Rattle.mm_indexed.specs.HashedPairs.{hashed_pair}
use Rattle.mm_indexed.specs.Index.{Keeps}
use Rattle.mm_indexed.specs.declared.indexes.index.Index.{Index}
use Rattle.mm_indexed.proofs.Entries.{front_held}
use Rattle.mm_indexed.proofs.indexes.index.Index.remove.Goals as goal

pub remove_unless_stays-requires-clause-ordered : goal.remove_unless_stays-requires-clause-ordered
remove_unless_stays-requires-clause-ordered c =
    let keeps = subst (λ (x : Index). Keeps c.args.key (slot_at c.args.rows.now) (c.args.at ∷ c.requires.keeps.0) x) c.in-Tree.is c.requires.keeps.1 in
    keeps.0

pub remove_unless_stays-requires-clause-held : goal.remove_unless_stays-requires-clause-held
remove_unless_stays-requires-clause-held c =
    let keeps = subst (λ (x : Index). Keeps c.args.key (slot_at c.args.rows.now) (c.args.at ∷ c.requires.keeps.0) x) c.in-Tree.is c.requires.keeps.1 in
    front_held c.in-Tree.refs.refs c.requires.keeps.0 c.args.at keeps.1

pub remove_pair-requires-clause-held : goal.remove_pair-requires-clause-held
remove_pair-requires-clause-held c =
    let keeps = subst (λ (x : Index). Keeps c.args.key (slot_at c.args.rows.now) (c.args.at ∷ c.requires.keeps.0) x) c.in-Hash.is c.requires.keeps.1 in
    front_held c.in-Hash.pairs.entries _ (hashed_pair c.in-Hash.column (slot_at c.args.rows.now) c.args.at) keeps

pub returns-in-Tree : goal.returns-in-Tree
returns-in-Tree c =
    rw c.in-Tree.is (record {
      keeps = λ held was. (c.remove_unless_stays.ensures.ordered, c.remove_unless_stays.ensures.refs held was.1);
      same = (refl, refl);
      spare = c.remove_unless_stays.ensures.spare;
    })

pub returns-in-Hash : goal.returns-in-Hash
returns-in-Hash c =
    rw c.in-Hash.is (record { keeps = c.remove_pair.ensures.pairs; same = (refl, refl); spare = c.remove_pair.ensures.spare })
