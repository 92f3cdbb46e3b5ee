use Rattle.std.proofs.Common.{rules, arith, true, length, vec_len, refl, sym, ◌∙◌, ◌≡◌, ◌==◌}
use Rattle.std.proofs.lemmas.Bool.Decides.{nat_tests}
use Rattle.std.proofs.lemmas.Grind.{common_steps}
use Rattle.std.specs.Vec.Iter.{into_iter_items}
use Rattle.std.proofs.lemmas.Result.{err_from_is_err_and}
use Rattle.mm_statement.proofs.Fillers.{none_left}
use Rattle.mm_statement.proofs.FilledCommands.{filled_in_range, filled_past_range, not_filled, unchanged}
use Rattle.mm_statement.proofs.filling.fill.Goals as goal

pub returns-then-is_empty : goal.returns-then-is_empty
returns-then-is_empty c =
    let is_empty : vec_len c.args.values == 0 ≡ true = sym c.is_empty.ensures ∙ c.if-is_empty.true in
    let none : length c.args.values.items ≡ 0 = first_of (grind (arith, nat_tests, c.args.values.ok.0), grind (arith, common_steps), search rules) in
    unchanged c.args.holes.now c.args.values.items c.args.command (none_left c.args.values.items none) c.requires.within

pub returns-in_err-filled : goal.returns-in_err-filled
returns-in_err-filled c =
    let p = err_from_is_err_and c.from_residual.result c.from_residual.ensures.1 in
    rw (p.1, p.2)
    (not_filled c.args.holes.now c.args.values.items (into_iter_items c.into_iter.result) c.args.command c.into_iter.ensures.rest _ c.in_err-filled.ensures)

pub returns-then-filler : goal.returns-then-filler
returns-then-filler c =
    filled_past_range c.args.holes.now c.args.values.items _ _ c.args.command refl c.into_iter.ensures.rest refl c.in_ok-filled.filled c.in_ok-filled.ensures
    c.if-filler.true

pub returns : goal.returns
returns c =
    filled_in_range c.args.holes.now c.args.values.items _ _ c.args.command refl c.into_iter.ensures.rest refl c.in_ok-filled.filled c.in_ok-filled.ensures
    c.if-filler.false
