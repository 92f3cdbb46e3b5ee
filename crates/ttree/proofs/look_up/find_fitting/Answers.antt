use Rattle.std.proofs.Common.{ap, subst, arith}
use Rattle.std.proofs.Common.{◌≡◌, List, length, take, drop}
use Rattle.std.specs.List.{All}
use Rattle.std.specs.declared.cmp.Ordering.TheVariants.{Less, Greater}
use Rattle.mm_value.specs.declared.row_ref.RowRef.{RowRef}
use Rattle.ttree.proofs.Sought.{none_around}
use Rattle.ttree.proofs.look_up.find_fitting.Goals as goal

pub returns-in-Err-clause-none : goal.returns-in-Err-clause-none
returns-in-Err-clause-none g c =
    let at = c.in-Err.field-0 in
    let entries = c.args.node.now.entries in
    let place = g.P.Probe.place_of c.args.seek.now.probe in
    let before : All (λ a. place a ≡ Less) (take at entries) =
    subst (λ (xs : List RowRef). All (λ a. place a ≡ Less) (take at xs)) c.entries-entries.ensures.value c.in-Err.ensures.before in
    let after : All (λ a. place a ≡ Greater) (drop at entries) =
    subst (λ (xs : List RowRef). All (λ a. place a ≡ Greater) (drop at xs)) c.entries-entries.ensures.value c.in-Err.ensures.after in
    none_around place entries at (omega (arith, ap length c.entries-entries.ensures.value, c.in-Err.ensures.in_bounds)) before after
