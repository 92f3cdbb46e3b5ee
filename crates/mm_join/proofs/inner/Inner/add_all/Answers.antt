use Rattle.std.proofs.Common.{◌≡◌, ◌+◌, ◌≤◌, [], ◌∷◌, ◌++◌, arith, List, inl, inr, get_or, length, take, sym, ◌∙◌, subst}
use Rattle.std.proofs.lemmas.Result.{err_from_is_err_and}
use Rattle.mm_partition.specs.Views.{viewed}
use Rattle.mm_query.specs.Queries.{rows_read}
use Rattle.mm_select.specs.Matches.{matches}
use Rattle.mm_templist.specs.Combos.{Combos}
use Rattle.mm_value.specs.declared.row_ref.RowRef.{RowRef}
use Rattle.mm_join.proofs.Caps.{cap_within, due_of_longer}
use Rattle.mm_join.proofs.Chosen.{matches_part, matches_step}
use Rattle.mm_join.proofs.inner.Inner.add_all.Goals as goal

pub returns-in_err-add_fitting-clause-due : goal.returns-in_err-add_fitting-clause-due
returns-in_err-add_fitting-clause-due c =
    let p = err_from_is_err_and c.from_residual.result c.from_residual.ensures.1 in
    let inner = c.args.self.now in
    let store = c.args.view.now.store in
    let atoms = inner.atoms.now in
    let rows = rows_read viewed c.args.rows.now.items in
    let outer = c.args.outer.now in
    let old = c.args.list.now.combos in
    let candidates = c.args.candidates.now in
    let i = c.loop-at.at-index in
    let at : RowRef = get_or candidates i record { slot = 0 } in
    let tried : List (List RowRef) =
    c.loop-at.list.combos ++ matches c.loop-at.view.store inner.table atoms (rows_read viewed c.loop-at.rows.items) outer (at ∷ []) in
    let all : List (List RowRef) = old ++ matches store inner.table atoms rows outer candidates in
    let longer : length tried ≤ length all =
    subst (λ (l : List (List RowRef)). length l ≤ length all)
    (sym (λ j. (c.loop-at.invariant.list j).combos
    ++ matches (c.loop-at.invariant.same j) inner.table atoms (rows_read viewed (c.loop-at.invariant.rows j)) outer (at ∷ [])))
    (matches_part store inner.table atoms rows outer old candidates i record { slot = 0 } c.loop-at-test.true) in
    rw (p.1, p.2) (elim c.in_err-add_fitting.ensures.due [
      | inl due ↦ inl (due_of_longer inner.cap tried all _ longer due)
      | inr memory ↦ inr memory
    ])

pub loop-at-preserved : goal.loop-at-preserved
loop-at-preserved c =
    let inner = c.args.self.now in
    let store = c.args.view.now.store in
    let atoms = inner.atoms.now in
    let rows = rows_read viewed c.args.rows.now.items in
    let outer = c.args.outer.now in
    let old = c.args.list.now.combos in
    let candidates = c.args.candidates.now in
    let i = c.loop-at.at-index in
    let at : RowRef = get_or candidates i record { slot = 0 } in
    let tried : List (List RowRef) =
    c.loop-at.list.combos ++ matches c.loop-at.view.store inner.table atoms (rows_read viewed c.loop-at.rows.items) outer (at ∷ []) in
    let step : tried ≡ old ++ matches store inner.table atoms rows outer (take (i + 1) candidates) =
    (λ j. (c.loop-at.invariant.list j).combos
    ++ matches (c.loop-at.invariant.same j) inner.table atoms (rows_read viewed (c.loop-at.invariant.rows j)) outer (at ∷ []))
    ∙ matches_step store inner.table atoms rows outer old candidates i record { slot = 0 } c.loop-at-test.true in
    record {
      list = c.in_ok-add_fitting.ensures.list
          ∙ (λ j. record { tables = (c.loop-at.invariant.list j).tables; fields = (c.loop-at.invariant.list j).fields; combos = step j });
      rows = c.in_ok-add_fitting.ensures.rows ∙ c.loop-at.invariant.rows;
      few = subst (λ (list : Combos). length list.combos ≤ inner.cap) (sym c.in_ok-add_fitting.ensures.list)
          (cap_within inner.cap tried c.in_ok-add_fitting.ensures.due);
      same = c.add_fitting.ensures.same ∙ c.loop-at.invariant.same;
      reads = omega (arith, c.add_fitting.ensures.reads, c.loop-at.invariant.reads);
    }
