-- A flag is set exactly if the slot's number differs from what was last told.
use Rattle.std.proofs.Common.{◌≡◌, ℕ, Option, Some, None, true, false, get_or, ap, sym, ◌∙◌, subst}
use Rattle.std.specs.Option.{IfSome, option_map}
use Rattle.slot_counts.specs.Numbers.{Fed, IsChanged, Numbers, telling_of}
use Rattle.slot_counts.proofs.Telling.{IsFed, changed_at}
use Rattle.slot_counts.proofs.slot_counts.SlotCounts.next_change.Goals as goal

each : (f : Fed) (now : Numbers) → IsFed now.counts f → now.feed ≡ Some (telling_of f) → (found : Option ℕ)
    → IfSome found (λ slot. get_or f.changed slot false ≡ true) → IfSome found (IsChanged now)
each f now fed was None is = tt
each f now fed was (Some slot) is = changed_at f now fed was slot is

pub returns-in-Some-clause-some : goal.returns-in-Some-clause-some
returns-in-Some-clause-some c =
    let here = c.in-Some.is in
    let fed = subst (λ v. IsFed v.counts c.in-Some.feed) c.self.view_is
    (subst (λ (o : Option Fed). IfSome o (IsFed c.self.inside.counts.items)) here c.self.invariant.1) in
    each c.in-Some.feed c.args.self.now fed (sym (ap (λ v. v.feed) c.self.view_is) ∙ ap (option_map telling_of) here) c.next.result c.next.ensures.some
