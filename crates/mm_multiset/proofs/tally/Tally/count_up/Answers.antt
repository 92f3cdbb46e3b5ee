use Rattle.std.proofs.Common.{◌≡◌, ◌+◌, pos, ◌+ℤ◌, List, [], ◌∷◌, ◌++◌, inr, sym, ap, ◌∙◌, subst}
use Rattle.std.proofs.lemmas.Result.{on_ok_weaker}
use Rattle.mm_multiset.specs.Counts.{Entries, count_in, count_of, signed_count}
use Rattle.mm_multiset.specs.Tally.{listed}
use Rattle.mm_multiset.specs.declared.signed.Signed.{Signed}
use Rattle.mm_multiset.proofs.Merging.{nothing}
use Rattle.mm_multiset.proofs.Tallies.{counted_many, counted_row, listed_after}
use Rattle.mm_multiset.proofs.tally.Tally.count_up.Goals as goal

pub invariant_of-self : goal.invariant_of-self
invariant_of-self c = (
  listed_after c.add_change.result c.args.row c.self.inside.few.items c.add_change.new.changes.items c.self.invariant.0
      c.add_change.ensures.added c.add_change.ensures.small c.add_change.ensures.unchanged,
  inr (nothing c.self.inside.many.entries (sym c.len.ensures.entries ∙ c.if-len-eq0.true)),
)

pub returns-then-len-lt-FEW : goal.returns-then-len-lt-FEW
returns-then-len-lt-FEW c =
    counted_row c.add_change.result c.args.row c.self.inside.few.items c.add_change.new.changes.items c.self.inside.many.entries c.args.self.now.entries
    (nothing c.self.inside.many.entries (sym c.len.ensures.entries ∙ c.if-len-eq0.true)) c.self.invariant.0
    c.add_change.ensures.added c.add_change.ensures.small (ap (λ v. v.entries) c.self.view_is)

pub returns : goal.returns
returns c =
    let were = ap (λ v. v.items) c.replace-few.ensures.value in
    let none = ap (λ v. v.items) c.replace-few.ensures.after ∙ c.new-nothing.ensures.items in
    on_ok_weaker c.count_up.result
    (λ adds other.
    ap (λ (xs : List Signed). count_in other (listed xs ++ c.count_up.new.self.entries)) none
    ∙ counted_many c.args.row other c.self.inside.few.items c.self.inside.many.entries c.add_all.new.many.entries c.count_up.new.self.entries
    c.self.invariant.0 c.self.invariant.1
    (subst (λ (xs : List Signed). pos (count_in other c.add_all.new.many.entries) ≡ pos (count_in other c.self.inside.many.entries) +ℤ signed_count other xs)
    were (c.in_ok-add_all.ensures other)) adds
    ∙ ap (λ (es : Entries). count_in other es + count_of other (c.args.row ∷ [])) (ap (λ v. v.entries) c.self.view_is))
    c.count_up.ensures.counted
