use Rattle.std.proofs.Common.{◌+◌, ◌++◌, ◌∷◌, [], refl, sym, ap, ◌∙◌, vec_len, vec_capacity}
use Rattle.mlhash.specs.Bag.{Bag}
use Rattle.mlhash.specs.Pairs.{node_at}
use Rattle.mlhash.proofs.CopyLemmas.{IsCopying-start, IsCopying-take, IsCopying-skip, copying_room, copying_along, copied}
use Rattle.mlhash.proofs.hash_refs.HashRefs.copy_all.Goals as goal
use Rattle.mlhash.proofs.hash_refs.HashRefs.copy_all.Goals.{then-is_live, else-is_live}

pub push_reserved-requires : goal.push_reserved-requires
push_reserved-requires c =
    copying_room c.deref-node-items.result.now c.loop-node.node-index c.args.out.now.items c.loop-node.out.items _ _ c.loop-node-test.true
    (sym c.is_live.ensures ∙ c.if-is_live.true) c.loop-node.invariant

pub loop-node-init : goal.loop-node-init
loop-node-init c =
    IsCopying-start c.deref-node-items.result.now c.self.inside.nodes.items c.args.out.now.items c.reserve.new.self.items c.self.inside.len _ _
    c.deref-node-items.ensures.value c.self.invariant.counted c.reserve.ensures.items c.in_ok-reserve.ensures.ok

pub loop-node-preserved : goal.loop-node-preserved
loop-node-preserved c =
    let ns = c.deref-node-items.result.now in
    let i = c.loop-node.node-index in
    let old = c.args.out.now.items in
    let out = c.loop-node.out in
    let reference = (node_at ns i).reference in
    elim c.if-is_live.branch [
      | then-is_live w ↦ copying_along ns (i + 1) old (out.items ++ reference ∷ []) c.if-is_live.out.items (vec_len out + 1) (vec_len c.if-is_live.out)
          (vec_capacity out) (vec_capacity c.if-is_live.out) (cc) (cc) (cc)
          (IsCopying-take ns i old out.items (vec_len out) (vec_capacity out) reference c.loop-node-test.true (sym c.is_live.ensures ∙ w.if-is_live.true) refl
          c.loop-node.invariant)
      | else-is_live w ↦ copying_along ns (i + 1) old out.items c.if-is_live.out.items (vec_len out) (vec_len c.if-is_live.out)
          (vec_capacity out) (vec_capacity c.if-is_live.out) (cc) (cc) (cc)
          (IsCopying-skip ns i old out.items (vec_len out) (vec_capacity out) c.loop-node-test.true (sym c.is_live.ensures ∙ w.if-is_live.false)
          c.loop-node.invariant)
    ]

pub returns-clause-ok : goal.returns-clause-ok
returns-clause-ok c =
    copied c.deref-node-items.result.now c.self.inside.nodes.items c.loop-node.node-index c.args.out.now.items c.loop-node.out.items _ _
    c.args.self.now.entries c.loop-node-test.false c.deref-node-items.ensures.value (ap (λ (b : Bag). b.entries) c.self.view_is) c.loop-node.invariant
