use Rattle.std.proofs.Common.{◌+◌, ◌≤◌, [], ◌∷◌, get_or, length, map, take, refl, sym, ap, ◌∙◌, subst, arith}
use Rattle.std.proofs.lemmas.Option.{slice_get-get_or}
use Rattle.mm_plan.proofs.Joining.{begins, none_left}
use Rattle.mm_plan.proofs.Reading.{turn}
use Rattle.mm_plan.proofs.run.run_plan.Goals as goal
use Rattle.mm_plan.specs.Begun.{IsBegun}
use Rattle.mm_plan.specs.Steps.{step_reads}
use Rattle.mm_plan.specs.declared.step.Step.TheVariants as step
use Rattle.mm_select.specs.Fitting.{fitting}
use Rattle.mm_store.specs.Tables.{Tables, rows_at}
use Rattle.mm_templist.specs.Combos.{Combos}

pub loop-place-init : goal.loop-place-init
loop-place-init c =
    let store = c.args.view.now.store in
    let query = c.args.query.now in
    let tables = c.args.tables.now in
    record {
      same = refl;
      begun = subst (IsBegun store query tables)
          (sym (c.unit-list.ensures ∙ ap (λ fields. record { tables = []; fields = fields; combos = [] ∷ [] }) c.as_slice.ensures))
          (begins store query tables);
      at = ap (λ (l : Combos). length l.tables) c.unit-list.ensures;
      reads = omega arith;
    }

pub returns-in_err-list-clause-reads : goal.returns-in_err-list-clause-reads
returns-in_err-list-clause-reads c =
    let store = c.args.view.now.store in
    let atoms = c.args.query.now.atoms in
    let tables = c.args.tables.now in
    let steps = c.args.steps.now in
    let place = c.loop-place.place in
    let table = get_or tables place 0 in
    let own = get_or steps place step.Scan in
    let at_table = slice_get-get_or tables place 0 c.loop-place-test.true in
    let at_step = slice_get-get_or steps place step.Scan (omega (arith, c.loop-place-test.true, c.requires.steps.each)) in
    let t = turn atoms (rows_at store.tables) tables steps place table own at_table at_step in
    let bound = subst (λ (s : Tables). c.run_step.new.view.reads ≤ c.loop-place.view.reads
    + step_reads atoms place own (rows_at s.tables table) (fitting atoms (map (rows_at s.tables) (take place tables)))) c.loop-place.invariant.same
    (c.run_step.ensures.reads table own at_table at_step) in
    omega (arith, t, bound, c.loop-place.invariant.reads)

pub loop-place-preserved : goal.loop-place-preserved
loop-place-preserved c =
    let store = c.args.view.now.store in
    let atoms = c.args.query.now.atoms in
    let tables = c.args.tables.now in
    let steps = c.args.steps.now in
    let place = c.loop-place.place in
    let table = get_or tables place 0 in
    let own = get_or steps place step.Scan in
    let at_table = slice_get-get_or tables place 0 c.loop-place-test.true in
    let at_step = slice_get-get_or steps place step.Scan (omega (arith, c.loop-place-test.true, c.requires.steps.each)) in
    let t = turn atoms (rows_at store.tables) tables steps place table own at_table at_step in
    let bound = subst (λ (s : Tables). c.run_step.new.view.reads ≤ c.loop-place.view.reads
    + step_reads atoms place own (rows_at s.tables table) (fitting atoms (map (rows_at s.tables) (take place tables)))) c.loop-place.invariant.same
    (c.run_step.ensures.reads table own at_table at_step) in
    record {
      same = c.run_step.ensures.same ∙ c.loop-place.invariant.same;
      begun = subst (λ (s : Tables). IsBegun s c.args.query.now tables c.in_ok-list.list) c.loop-place.invariant.same c.in_ok-list.ensures.begun;
      at = c.in_ok-list.ensures.longer;
      reads = omega (arith, t, bound, c.loop-place.invariant.reads);
    }

pub returns-clause-due : goal.returns-clause-due
returns-clause-due c =
    none_left c.args.view.now.store c.args.query.now c.args.tables.now c.loop-place.list c.loop-place.invariant.begun
    (omega (arith, c.loop-place.invariant.at, c.loop-place-test.false))
