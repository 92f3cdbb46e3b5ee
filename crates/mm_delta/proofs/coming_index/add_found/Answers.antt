use Rattle.std.proofs.Common.{[], map, refl, ap, sym, subst, ◌∙◌}
use Rattle.std.specs.Option.{IsSome, option_copied_mut, option_map_or}
use Rattle.mm_partition.specs.Views.{viewed}
use Rattle.mm_delta.proofs.Under.{put_behind}
use Rattle.mm_delta.proofs.coming_index.add_found.Goals as goal

pub returns-in_ok-push-in-Some-clause-added : goal.returns-in_ok-push-in-Some-clause-added
returns-in_ok-push-in-Some-clause-added c =
    let had = sym c.get_mut.ensures.value ∙ ap (λ r. option_copied_mut r) c.in-Some.is in
    let written = c.get_mut.follows.holds c.push.new.self in
    λ _. put_behind c.args.value.now c.args.row c.args.rows.now.entries (c.get_mut.follows.lender c.push.new.self).entries c.push.new.self
    (written.3 (subst IsSome (sym had) refl)).0 c.in-Some.list.now.items c.in_ok-push-in-Some.ensures.items
    (ap (λ o. map viewed (option_map_or (λ l. l.items) o [])) had)
