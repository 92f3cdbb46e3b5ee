use Rattle.std.proofs.Common.{◌≡◌, ap, ◌∙◌, sym, subst}
use Rattle.std.specs.List.{filter}
use Rattle.mm_join.proofs.Rising.{has, none_at, none_past}
use Rattle.mm_join.specs.Entries.{AreRising}
use Rattle.mm_join.proofs.cursor.Cursor.has.Goals as goal

pub returns-then-first-entries-clause-none : goal.returns-then-first-entries-clause-none
returns-then-first-entries-clause-none c = λ _.
    let entries = c.as_slice-entries.result.now in
    let seen : entries ≡ c.args.self.now = c.as_slice-entries.ensures.value ∙ c.self.view_is in
    ap (filter (has c.args.prefix)) (sym seen)
    ∙ none_past c.args.prefix entries c.first_of-first.result c.if-first-entries.true c.first_of-first.ensures.before

pub returns-clause-none : goal.returns-clause-none
returns-clause-none c = λ apart.
    let entries = c.as_slice-entries.result.now in
    let seen : entries ≡ c.args.self.now = c.as_slice-entries.ensures.value ∙ c.self.view_is in
    ap (filter (has c.args.prefix)) (sym seen)
    ∙ none_at c.args.prefix entries (subst AreRising (sym c.as_slice-entries.ensures.value) c.self.invariant.1) c.first_of-first.result
    (record { prefix = 0; at = record { slot = 0 } }) c.if-first-entries.false c.first_of-first.ensures.before c.first_of-first.ensures.rest apart
