-- A row without an entry gets one, after the others.
use Rattle.std.proofs.Common.{◌≡◌, pos, ◌+ℤ◌, false, true≢false, Option, Some, None, is_some, refl, ap, sym, subst, ◌∙◌}
use Rattle.std.proofs.lemmas.Int.{to_z-of_z}
use Rattle.std.specs.HashMap.{Updates}
use Rattle.std.specs.Map.{lookup}
use Rattle.std.specs.Result.{OnOk}
use Rattle.indexmap.specs.IndexMap.{insert_entry}
use Rattle.indexmap.proofs.CallerLemmas.{insert_entry-new}
use mir.Syntax.{w128}
use Rattle.mm_value.specs.Equality.{same_row}
use Rattle.mm_multiset.specs.Counts.{has_entry}
use Rattle.mm_multiset.proofs.Entries.{adds_at_end, total_at_end}
use Rattle.mm_multiset.proofs.counted.add_count.Goals as goal

none_there : {X : Type 0} (o : Option X) → is_some o ≡ false → o ≡ None
none_there None h = refl
none_there (Some x) h = absurd (true≢false h)

pub returns-then-is_new-clause-added : goal.returns-then-is_new-clause-added
returns-then-is_new-clause-added c =
    let lacks : has_entry c.args.row c.args.counts.now.entries ≡ false = sym c.change_found-is_new.ensures.found ∙ c.if-is_new.true in
    let none = none_there (lookup (same_row c.args.row) c.args.counts.now.entries) lacks in
    let kept = c.change_found-is_new.ensures.kept lacks in
    let is = c.changed.ensures ∙ ap (λ z. pos 0 +ℤ z) (to_z-of_z w128 c.args.change c.ranges.change) in
    let updates = subst (λ m. Updates same_row m c.insert.new.self c.args.row (Some c.changed.result)) kept
    (subst (λ r. OnOk r (Updates same_row c.change_found-is_new.new.counts c.insert.new.self c.args.row (Some c.changed.result))) c.unwrap.ensures
    c.insert.ensures.updates) in
    let entries = subst (λ r. OnOk r (c.insert.new.self.entries ≡ insert_entry same_row c.change_found-is_new.new.counts.entries c.args.row c.changed.result))
    c.unwrap.ensures c.insert.ensures.entries
    ∙ ap (λ m. insert_entry same_row m.entries c.args.row c.changed.result) kept
    ∙ insert_entry-new same_row c.args.counts.now c.args.row c.changed.result none in
    adds_at_end c.args.row c.args.change c.args.counts.now.entries c.insert.new.self.entries c.changed.result updates.0 none is entries

pub returns-then-is_new-clause-total : goal.returns-then-is_new-clause-total
returns-then-is_new-clause-total c =
    let lacks : has_entry c.args.row c.args.counts.now.entries ≡ false = sym c.change_found-is_new.ensures.found ∙ c.if-is_new.true in
    let none = none_there (lookup (same_row c.args.row) c.args.counts.now.entries) lacks in
    let kept = c.change_found-is_new.ensures.kept lacks in
    let is = c.changed.ensures ∙ ap (λ z. pos 0 +ℤ z) (to_z-of_z w128 c.args.change c.ranges.change) in
    let updates = subst (λ m. Updates same_row m c.insert.new.self c.args.row (Some c.changed.result)) kept
    (subst (λ r. OnOk r (Updates same_row c.change_found-is_new.new.counts c.insert.new.self c.args.row (Some c.changed.result))) c.unwrap.ensures
    c.insert.ensures.updates) in
    let entries = subst (λ r. OnOk r (c.insert.new.self.entries ≡ insert_entry same_row c.change_found-is_new.new.counts.entries c.args.row c.changed.result))
    c.unwrap.ensures c.insert.ensures.entries
    ∙ ap (λ m. insert_entry same_row m.entries c.args.row c.changed.result) kept
    ∙ insert_entry-new same_row c.args.counts.now c.args.row c.changed.result none in
    total_at_end c.args.row c.args.change c.args.counts.now.entries c.insert.new.self.entries c.changed.result updates.0 none is entries
