use Rattle.std.proofs.Common.{◌≡◌, ◌++◌, drop}
use Rattle.std.specs.List.{All}
use Rattle.mm_relevance.specs.Walks.{edges_from, IsNear}
use Rattle.mm_relevance.proofs.edge.edges.Given as goal

abbrev pub invariant-loop-conjunct : goal.invariant-loop-conjunct
invariant-loop-conjunct g l = record {
  value : l.found.items ++ edges_from l.fn.query l.fn.place (g.R.AsRow.row l.fn.row) l.conjunct (drop l.conjunct l.atoms)
      ≡ edges_from l.fn.query l.fn.place (g.R.AsRow.row l.fn.row) 0 l.atoms;
  near : All IsNear l.found.items;
}
