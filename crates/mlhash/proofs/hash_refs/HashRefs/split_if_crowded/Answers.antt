use Rattle.std.proofs.Common.{ℕ, ◌-◌, List, [], min, sym, ap, ◌∙◌, subst, arith, vec_capacity}
use Rattle.std.proofs.lemmas.List.{with_items_is}
use Rattle.mm_value.specs.declared.row_ref.RowRef.{RowRef}
use Rattle.mlhash.specs.declared.node.TheConstants.{NIL}
use Rattle.mlhash.specs.Bag.{Bag}
use Rattle.mlhash.specs.Chain.{chain, IsLinked}
use Rattle.mlhash.specs.Table.{entries}
use Rattle.mlhash.proofs.AddressLemmas.{level_small}
use Rattle.mlhash.proofs.ChainLemmas.{chain_end, linked_end}
use Rattle.mlhash.proofs.DealLemmas.{among_along}
use Rattle.mlhash.proofs.SplitLemmas.{split_table, splitting, split_heads, dealt_entries}
use Rattle.mlhash.proofs.TableLemmas.{table_along}
use Rattle.mlhash.proofs.hash_refs.HashRefs.split_if_crowded.Goals as goal

pub overflow_shl-mask : goal.overflow_shl-mask
overflow_shl-mask c =
    omega (arith, level_small c.self.inside.place.level (omega (arith, c.self.invariant.size, c.self.invariant.limit)))

pub deal-staying-requires-clause-onto : goal.deal-staying-requires-clause-onto
deal-staying-requires-clause-onto c =
    subst (λ ns. IsLinked ns NIL) (sym c.as_mut_slice.ensures.value) (linked_end c.self.inside.nodes.items c.self.invariant.pool.linked.few)

pub deal-staying-requires-clause-apart : goal.deal-staying-requires-clause-apart
deal-staying-requires-clause-apart c = λ i a b.
    among_along i _ [] (ap (λ ns. chain ns NIL) c.as_mut_slice.ensures.value ∙ chain_end c.self.inside.nodes.items c.self.invariant.pool.linked.few) b

pub place_after-self-inside-requires-clause-level : goal.place_after-self-inside-requires-clause-level
place_after-self-inside-requires-clause-level c =
    level_small c.self.inside.place.level (omega (arith, c.self.invariant.size, c.self.invariant.limit))

pub invariant_of-self-2 : goal.invariant_of-self-2
invariant_of-self-2 c =
    let i = c.self.inside in
    let ms = c.deal-staying.new.nodes in
    let k = splitting i.heads i.nodes.items i.len i.place i.free c.get-from.result c.grow.new.self c.as_mut_slice.result.now ms
    c.deal-staying.result.0 c.deal-staying.result.1 c.self.invariant (omega (arith, c.if-self-len.false, c.len.ensures)) c.if-not-grow.ensures.grown
    c.get-from.ensures c.as_mut_slice.ensures.value c.deal-staying.ensures in
    let nodes = with_items_is i.nodes ms (c.deal-staying.ensures.size ∙ c.as_mut_slice.ensures.len) in
    let heads = split_heads i.heads c.grow.new.self c.set.new.self c.set-2.new.self i.place.split c.len-last.result c.deal-staying.result.0
    c.deal-staying.result.1 c.if-not-grow.ensures.grown c.set.ensures c.set-2.ensures c.len-last.ensures in
    table_along _ c.set-2.new.self ms _ i.len _ c.place_after-self-inside.result i.free heads nodes c.place_after-self-inside.ensures
    (split_table _ _ _ _ _ _ _ _ _ _ k)

pub returns : goal.returns
returns c =
    let i = c.self.inside in
    let ms = c.deal-staying.new.nodes in
    let nodes = with_items_is i.nodes ms (c.deal-staying.ensures.size ∙ c.as_mut_slice.ensures.len) in
    let same = ap entries nodes ∙ dealt_entries _ _ _ _ _ ms _ _ c.deal-staying.ensures ∙ ap entries c.as_mut_slice.ensures.value in
    ap (λ (es : List (ℕ × RowRef)). let b : Bag = record { entries = es; spare = min (vec_capacity i.nodes) NIL - i.len } in b) same ∙ c.self.view_is
