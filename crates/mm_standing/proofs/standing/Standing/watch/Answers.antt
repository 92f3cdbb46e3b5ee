-- The query and its bag are added; with an empty log everything is sound.
use Rattle.std.proofs.Common.{◌≡◌, ℕ, ◌++◌, ◌∷◌, [], List, length, map, sym, ap, ◌∙◌, subst, arith}
use Rattle.std.proofs.lemmas.List.{length_push}
use Rattle.mm_multiset.specs.Counts.{Counts}
use Rattle.mm_query.specs.Queries.{bag_of}
use Rattle.mm_store.specs.Tables.{rows_at}
use Rattle.mm_standing.specs.Bags.{IsSound, change_of, done_of, opposite, types_of, undos}
use Rattle.mm_standing.specs.Queries.{IsBagOf, StandingQuery}
use Rattle.mm_standing.specs.State.{Lists}
use Rattle.mm_standing.specs.declared.change.ListChange.{ListChange}
use Rattle.mm_standing.proofs.Rest.{none_from, sound_more, types_more}
use Rattle.mm_standing.proofs.Totals.{few_rows, total_is_length}
use Rattle.mm_standing.proofs.standing.Standing.watch.Goals as goal

pub invariant_of-self-2 : goal.invariant_of-self-2
invariant_of-self-2 c =
    let old = c.self.inside in
    let bag = c.in_ok-bag.bag in
    let prepared : old.prepared.items ≡ [] =
    none_from (change_of old.bags.items) old.prepared.items (ap (λ (v : Lists). v.prepared) c.self.view_is ∙ c.requires.prepared) in
    let log : old.log.items ≡ [] =
    none_from (λ (d : ListChange). opposite (change_of old.bags.items d)) old.log.items (ap (λ (v : Lists). v.log) c.self.view_is ∙ c.requires.log) in
    let sound : IsSound old.bags.items [] [] = subst (IsSound old.bags.items []) log (subst (λ (ps : List ListChange). IsSound old.bags.items ps old.log.items)
    prepared c.self.invariant.0) in
    let rows = bag_of c.args.query (map (rows_at c.args.store.now.tables) c.as_slice.result.now) in
    let total = total_is_length bag.entries rows c.in_ok-bag.ensures.once c.in_ok-bag.ensures.ok in
    let few = few_rows rows c.in_ok-bag.ensures.due in
    let more : IsSound (old.bags.items ++ bag ∷ []) [] [] = sound_more old.bags.items bag (omega (arith, total, few)) c.in_ok-bag.ensures.positive sound in
    let bags : c.push_reserved-2.new.self.items ≡ old.bags.items ++ bag ∷ [] =
    c.push_reserved-2.ensures.items ∙ ap (λ (bs : List Counts). bs ++ bag ∷ []) c.in_ok-reserve-2.ensures.items in
    let same = c.self.invariant.2 in
    let queries = ap (λ (qs : List StandingQuery). length qs) c.push_reserved.ensures.items in
    let kept = ap (λ (qs : List StandingQuery). length qs) c.in_ok-reserve.ensures.items in
    let one : StandingQuery = record { query = c.args.query; tables = c.args.tables.items; types = c.args.types.items } in
    let q = length_push c.reserve.new.self.items one in
    let b = length_push old.bags.items bag in
    let bags_long = ap (λ (bs : List Counts). length bs) bags in (
      subst (λ (bs : List Counts). IsSound bs old.prepared.items old.log.items) (sym bags)
          (subst (λ (ps : List ListChange). IsSound (old.bags.items ++ bag ∷ []) ps old.log.items) (sym prepared)
          (subst (IsSound (old.bags.items ++ bag ∷ []) []) (sym log) more)),
      c.self.invariant.1,
      omega (arith, same, queries, kept, q, b, bags_long),
      ap types_of bags
          ∙ types_more old.queries.items old.bags.items one bag (c.in_ok-bag.ensures.types ∙ c.as_slice-2.ensures.value) c.self.invariant.3
          ∙ sym (ap (map (λ (s : StandingQuery). s.types))
          (c.push_reserved.ensures.items ∙ ap (λ (qs : List StandingQuery). qs ++ one ∷ []) c.in_ok-reserve.ensures.items)),
    )

pub returns-clause-ok : goal.returns-clause-ok
returns-clause-ok c =
    let old = c.self.inside in
    let bag = c.in_ok-bag.bag in
    let new = c.push_reserved-2.new.self.items in
    let one : StandingQuery = record { query = c.args.query; tables = c.args.tables.items; types = c.args.types.items } in
    let prepared = ap (done_of new) (none_from (change_of old.bags.items) old.prepared.items (ap (λ (v : Lists). v.prepared) c.self.view_is
    ∙ c.requires.prepared)) ∙ sym c.requires.prepared in
    let log = ap (undos new) (none_from (λ (d : ListChange). opposite (change_of old.bags.items d)) old.log.items (ap (λ (v : Lists). v.log) c.self.view_is
    ∙ c.requires.log)) ∙ sym c.requires.log in
    let queries = c.push_reserved.ensures.items ∙ ap (λ (qs : List StandingQuery). qs ++ one ∷ []) c.in_ok-reserve.ensures.items
    ∙ ap (λ (v : Lists). v.queries ++ one ∷ []) c.self.view_is in
    let bags = c.push_reserved-2.ensures.items ∙ ap (λ (bs : List Counts). bs ++ bag ∷ []) c.in_ok-reserve-2.ensures.items
    ∙ ap (λ (v : Lists). v.bags ++ bag ∷ []) c.self.view_is in
    let reads = ap (λ (v : Lists). v.reads) c.self.view_is in (
      bag,
      subst (λ (ts : List ℕ). IsBagOf bag.entries (bag_of c.args.query (map (rows_at c.args.store.now.tables) ts))) c.as_slice.ensures.value
          c.in_ok-bag.ensures.ok,
      λ i. record { queries = queries i; bags = bags i; prepared = prepared i; log = log i; reads = reads i },
    )
