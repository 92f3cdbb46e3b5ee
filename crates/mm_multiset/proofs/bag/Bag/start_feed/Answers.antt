-- Nothing was told yet.
use Rattle.std.proofs.Common.{◌≡◌, ap, length, sym, ◌∙◌, subst}
use Rattle.std.specs.Prelude.{OnOk, Ok, Err}
use Rattle.std.specs.declared.result.Result.{Result}
use Rattle.mm_multiset.specs.Counts.{Feed, IsStarted}
use Rattle.mm_multiset.specs.Slots.{feed_of}
use Rattle.mm_multiset.proofs.Told.{started}
use Rattle.mm_multiset.proofs.bag.Bag.start_feed.Goals as goal

then : {A E P Q : Type 0} → (P → Q) → (r : Result A E) → OnOk r P → OnOk r Q
then f (Ok a) h = f h
then f (Err e) h = tt

pub returns-clause-started : goal.returns-clause-started
returns-clause-started c =
    let slots = c.self.inside.rows.slots in
    let now = c.start_feed.new.self.feed in
    then
    (λ is.
    subst (λ f. IsStarted c.args.distinct f (feed_of slots now)) (ap (λ v. v.feed) c.self.view_is)
    (started slots c.self.inside.counts.feed now c.args.distinct (length c.self.inside.counts.counts) (sym c.has_feed.ensures ∙ c.if-has_feed.false) is))
    c.start_feed.result c.start_feed.ensures.started
