use Rattle.std.proofs.Common.{◌≡◌, ℕ, ◌+◌, ◌-◌, List, min, length, refl, sym, ap, ◌∙◌, subst, arith, vec_capacity}
use Rattle.std.proofs.lemmas.List.{with_items_is}
use Rattle.mm_value.specs.declared.row_ref.RowRef.{RowRef}
use Rattle.mlhash.specs.declared.node.TheConstants.{NIL}
use Rattle.mlhash.specs.Address.{place_after}
use Rattle.mlhash.specs.Bag.{Bag}
use Rattle.mlhash.specs.Chain.{chain, AreApart, Deals}
use Rattle.mlhash.specs.Table.{entries}
use Rattle.mlhash.proofs.AddressLemmas.{level_small}
use Rattle.mlhash.proofs.SplitLemmas.{IsMerging, merge_apart, merge_table, merge_heads, dealt_entries}
use Rattle.mlhash.proofs.TableLemmas.{table_along}
use Rattle.mlhash.proofs.hash_refs.HashRefs.merge_if_sparse.Goals as goal

pub place_before-place-requires-clause-level : goal.place_before-place-requires-clause-level
place_before-place-requires-clause-level c =
    level_small c.self.inside.place.level (omega (arith, c.self.invariant.size, c.self.invariant.limit))

pub deal-staying-requires-clause-apart : goal.deal-staying-requires-clause-apart
deal-staying-requires-clause-apart c =
    let i = c.self.inside in
    let t = table_along _ i.heads _ i.nodes.items i.len _ (place_after c.place_before-place.result) i.free refl refl c.place_before-place.ensures
    c.self.invariant in
    let apart = merge_apart i.heads i.nodes.items i.len c.place_before-place.result i.free (c.len-buckets.result - 1) c.get-from.result
    c.get-onto.result t (omega (arith, c.len-buckets.ensures)) c.get-from.ensures c.get-onto.ensures in
    subst (λ ns. AreApart (chain ns c.get-from.result) (chain ns c.get-onto.result)) (sym c.as_mut_slice.ensures.value) apart

pub invariant_of-self : goal.invariant_of-self
invariant_of-self c =
    let i = c.self.inside in
    let ms = c.deal-staying.new.nodes in
    let last = c.len-buckets.result - 1 in
    let last_is : last + 1 ≡ length i.heads = omega (arith, c.len-buckets.ensures, c.if-self-buckets.false) in
    let k : IsMerging i.heads i.nodes.items i.len c.place_before-place.result i.free last c.get-from.result c.get-onto.result ms
    c.deal-staying.result.0 c.deal-staying.result.1 = record {
      table = table_along _ i.heads _ i.nodes.items i.len _ (place_after c.place_before-place.result) i.free refl refl c.place_before-place.ensures
          c.self.invariant;
      last_is = last_is;
      from_is = c.get-from.ensures;
      onto_is = c.get-onto.ensures;
      deals = subst (λ ns. Deals ns c.get-from.result 0 0 c.get-onto.result ms c.deal-staying.result.0 c.deal-staying.result.1)
          c.as_mut_slice.ensures.value c.deal-staying.ensures;
    } in
    let nodes = with_items_is i.nodes ms (c.deal-staying.ensures.size ∙ c.as_mut_slice.ensures.len) in
    let heads = merge_heads i.heads c.shrink.new.self c.set.new.self c.place_before-place.result.split last c.deal-staying.result.0 last_is
    c.shrink.ensures c.set.ensures in
    table_along _ c.set.new.self ms _ i.len _ c.place_before-place.result i.free heads nodes refl (merge_table _ _ _ _ _ _ _ _ _ _ _ k)

pub returns : goal.returns
returns c =
    let i = c.self.inside in
    let ms = c.deal-staying.new.nodes in
    let nodes = with_items_is i.nodes ms (c.deal-staying.ensures.size ∙ c.as_mut_slice.ensures.len) in
    let same = ap entries nodes ∙ dealt_entries _ _ _ _ _ ms _ _ c.deal-staying.ensures ∙ ap entries c.as_mut_slice.ensures.value in
    ap (λ (es : List (ℕ × RowRef)). let b : Bag = record { entries = es; spare = min (vec_capacity i.nodes) NIL - i.len } in b) same ∙ c.self.view_is
