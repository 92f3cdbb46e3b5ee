-- The flags of the slot are those of its new count.
use Rattle.std.proofs.Common.{◌≡◌, ℕ, ◌<◌, length, set, sym, ap, ◌∙◌, subst}
use Rattle.std.specs.Prelude.{Option}
use Rattle.std.specs.Option.{IfSome}
use Rattle.std.proofs.lemmas.List.{map-set}
use Rattle.slot_counts.specs.Numbers.{Fed, is_counted}
use Rattle.slot_counts.proofs.Telling.{IsFed, fed_noted}
use Rattle.slot_counts.proofs.slot_counts.SlotCounts.write.Goals as goal

pub invariant_of-self : goal.invariant_of-self
invariant_of-self c =
    let old = c.self.inside in
    let within = subst (λ v. c.args.slot < length v.counts) (sym c.self.view_is) c.requires in (
      c.mark.ensures.has ∙ (ap (λ l. set l c.args.slot (is_counted c.args.count)) c.self.invariant.0
          ∙ sym (map-set is_counted old.counts.items c.args.slot c.args.count)),
      subst (λ (o : Option Fed). IfSome o (IsFed (set old.counts.items c.args.slot c.args.count))) (sym c.note.ensures)
          (fed_noted old.feed old.counts.items c.args.slot c.args.count c.self.invariant.1 within),
    )
