-- The query and its bag are removed; with an empty log everything is sound.
use Rattle.std.proofs.Common.{◌≡◌, ◌<◌, [], List, length, map, sym, ap, ◌∙◌, subst, arith}
use Rattle.std.specs.List.{remove}
use Rattle.std.proofs.lemmas.List.Edits.{length-remove}
use Rattle.mm_multiset.specs.Counts.{Counts}
use Rattle.mm_standing.specs.Bags.{IsSound, change_of, done_of, opposite, types_of, undos}
use Rattle.mm_standing.specs.Queries.{StandingQuery}
use Rattle.mm_standing.specs.State.{Lists}
use Rattle.mm_standing.specs.declared.change.ListChange.{ListChange}
use Rattle.mm_standing.specs.declared.watched.PlacedQuery.{PlacedQuery}
use Rattle.mm_standing.proofs.Rest.{none_from, sound_less, types_less}
use Rattle.mm_standing.proofs.standing.Standing.unwatch.Goals as goal

pub invariant_of-self : goal.invariant_of-self
invariant_of-self c =
    let old = c.self.inside in
    let place = c.args.place in
    let prepared : old.prepared.items ≡ [] =
    none_from (change_of old.bags.items) old.prepared.items (ap (λ (v : Lists). v.prepared) c.self.view_is ∙ c.requires.prepared) in
    let log : old.log.items ≡ [] =
    none_from (λ (d : ListChange). opposite (change_of old.bags.items d)) old.log.items (ap (λ (v : Lists). v.log) c.self.view_is ∙ c.requires.log) in
    let sound : IsSound old.bags.items [] [] =
    subst (IsSound old.bags.items []) log (subst (λ (ps : List ListChange). IsSound old.bags.items ps old.log.items) prepared c.self.invariant.0) in
    let within : place < length old.queries.items = subst (λ (v : Lists). place < length v.queries) (sym c.self.view_is) c.requires.place in
    let same = c.self.invariant.2 in
    let q = length-remove old.queries.items place within in
    let b = length-remove old.bags.items place (omega (arith, within, same)) in
    let queries = ap (λ (ws : List PlacedQuery). length ws) c.remove.ensures.items in
    let bags = ap (λ (bs : List Counts). length bs) c.remove-10.ensures.items in (
      subst (λ (bs : List Counts). IsSound bs old.prepared.items old.log.items) (sym c.remove-10.ensures.items)
          (subst (λ (ps : List ListChange). IsSound (remove old.bags.items place) ps old.log.items) (sym prepared)
          (subst (IsSound (remove old.bags.items place) []) (sym log) (sound_less old.bags.items place sound))),
      c.self.invariant.1,
      omega (arith, same, q, b, queries, bags),
      ap types_of c.remove-10.ensures.items ∙ types_less old.queries.items old.bags.items place c.self.invariant.3
          ∙ sym (ap (map (λ (s : StandingQuery). s.types)) c.remove.ensures.items),
    )

pub returns : goal.returns
returns c =
    let old = c.self.inside in
    let new = c.remove-10.new.self.items in
    let was : Lists = c.args.self.now in
    let prepared = ap (done_of new) (none_from (change_of old.bags.items) old.prepared.items (ap (λ (v : Lists). v.prepared) c.self.view_is
    ∙ c.requires.prepared)) ∙ sym c.requires.prepared in
    let log = ap (undos new) (none_from (λ (d : ListChange). opposite (change_of old.bags.items d)) old.log.items (ap (λ (v : Lists). v.log) c.self.view_is
    ∙ c.requires.log)) ∙ sym c.requires.log in
    let queries = c.remove.ensures.items ∙ ap (λ (v : Lists). remove v.queries c.args.place) c.self.view_is in
    let bags = c.remove-10.ensures.items ∙ ap (λ (v : Lists). remove v.bags c.args.place) c.self.view_is in
    let reads = ap (λ (v : Lists). v.reads) c.self.view_is in
    λ i. record { queries = queries i; bags = bags i; prepared = prepared i; log = log i; reads = reads i }
