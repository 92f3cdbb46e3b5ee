use Rattle.std.proofs.Common.{◌≡◌, ◌≤◌, ◌+◌, [], ◌∷◌, Some}
use Rattle.mm_query.specs.Queries.{none_fails}
use Rattle.mm_indexed.proofs.Matches.{Keeping}
use Rattle.mm_select.proofs.Covered.{IsCandidate}
use Rattle.mm_templist.specs.Combos.{row_of}
use Rattle.mm_select.proofs.selecting.keep_fitting.Given as goal

-- the candidates so far whose rows fit were kept, and each was read at most once
abbrev pub invariant-loop-i : goal.invariant-loop-i
invariant-loop-i l = record {
  same : l.view.store ≡ l.fn.view.store;
  keeping : Keeping (λ at. none_fails l.atoms (Some (row_of l.fn.view.store l.table at) ∷ [])) (IsCandidate l.fn.view.store l.table l.access) 0
      l.fn.found.items l.found.items l.kept l.i;
  reads : l.view.reads ≤ l.fn.view.reads + l.i;
}
