use Rattle.std.proofs.Common.{refl, subst}
use Rattle.mm_partition.specs.Places.{slot_at}
use Rattle.mm_indexed.specs.Index.{Keeps}
use Rattle.mm_indexed.specs.Stays.{beside, stays}
use Rattle.mm_indexed.specs.declared.indexes.index.Index.{Index}
use Rattle.mm_indexed.proofs.indexes.index.Index.insert.Goals as goal

pub insert_unless_stays-requires-clause-ordered : goal.insert_unless_stays-requires-clause-ordered
insert_unless_stays-requires-clause-ordered c =
    let now = slot_at c.args.rows.now in
    let keeps = subst (λ (x : Index). Keeps c.args.key now (beside (stays c.args.key now c.args.at c.args.other x) c.args.at c.requires.keeps.0) x)
    c.in-Tree.is c.requires.keeps.2 in
    keeps.0

pub insert_unless_stays-requires-clause-held : goal.insert_unless_stays-requires-clause-held
insert_unless_stays-requires-clause-held c =
    let now = slot_at c.args.rows.now in
    let keeps = subst (λ (x : Index). Keeps c.args.key now (beside (stays c.args.key now c.args.at c.args.other x) c.args.at c.requires.keeps.0) x)
    c.in-Tree.is c.requires.keeps.2 in
    (c.requires.keeps.0, c.requires.keeps.1, keeps.1)

pub returns-in-Tree : goal.returns-in-Tree
returns-in-Tree c =
    rw c.in-Tree.is (record {
      keeps = λ held was. (c.insert_unless_stays.ensures.ordered, c.insert_unless_stays.ensures.refs held was.1);
      same = (refl, refl);
      spare = c.insert_unless_stays.ensures.spare;
    })

pub returns-in-Hash : goal.returns-in-Hash
returns-in-Hash c =
    rw c.in-Hash.is (record { keeps = c.insert_pair.ensures.pairs; same = (refl, refl); spare = c.insert_pair.ensures.spare })
