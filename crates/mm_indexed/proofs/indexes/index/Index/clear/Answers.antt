use Rattle.std.proofs.Common.{◌≡◌, [], refl, ap}
use Rattle.ttree.specs.Held.{Held}
use Rattle.mm_indexed.proofs.Hiding.{InOrder-none, IsPermutation-none}
use Rattle.mm_indexed.proofs.indexes.index.Index.clear.Goals as goal

pub returns-in-Tree : goal.returns-in-Tree
returns-in-Tree c =
    let none : c.clear.new.self.refs ≡ [] = ap (λ (h : Held). h.refs) c.clear.ensures.empty in
    rw c.in-Tree.is (record {
      same = (refl, refl);
      empty = λ key now. (InOrder-none c.in-Tree.column key now c.clear.new.self.refs none, IsPermutation-none c.clear.new.self.refs none);
      spare = c.clear.ensures.spare;
    })
