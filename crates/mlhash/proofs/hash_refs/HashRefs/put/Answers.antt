use Rattle.std.proofs.Common.{◌≡◌, ℕ, ◌-◌, ◌<◌, ◌∷◌, List, set, min, refl, ap, ◌∙◌, subst, arith, vec_capacity, IsPermutation}
use Rattle.std.proofs.lemmas.Bool.{lt-ltb}
use Rattle.std.proofs.lemmas.List.{get_or_read}
use Rattle.mlhash.specs.declared.hash_refs.HashRefs.TheInside.{Inside}
use Rattle.mlhash.specs.declared.node.Node.{Node}
use Rattle.mlhash.specs.declared.node.TheConstants.{NIL}
use Rattle.mlhash.specs.Bag.{Bag}
use Rattle.mlhash.specs.Pairs.{blank, pair_of}
use Rattle.mlhash.specs.Table.{entries, IsTable, Stocks}
use Rattle.mlhash.proofs.AddressLemmas.{level_small}
use Rattle.mlhash.proofs.ChainLemmas.{chain_step}
use Rattle.mlhash.proofs.TableLemmas.{IsStocked, stocked, room_for_node, bucket_in, put_all, put_entries}
use Rattle.mlhash.proofs.hash_refs.HashRefs.put.Goals as goal

-- Lemma: the state after the call of `stock`.
stock_is : (i : Inside) (b : Bag) → min (vec_capacity i.nodes) NIL - i.len ≡ b.spare → 0 < b.spare
    → IsTable i.heads i.nodes.items i.len i.place i.free → (ms : List Node) (new : ℕ) → Stocks i.nodes.items i.free ms new
    → IsStocked i.heads i.nodes.items i.len i.place ms new
stock_is i b is some t ms new s =
    stocked i.heads i.nodes.items i.len i.place i.free ms new (λ e. (room_for_node _ _ _ _ _ (vec_capacity i.nodes) b.spare is some t e).1) t s

pub stock-at-requires : goal.stock-at-requires
stock-at-requires c = λ e.
    let is = ap (λ (b : Bag). b.spare) c.self.view_is in
    let r = room_for_node _ _ _ _ _ (vec_capacity c.self.inside.nodes) c.args.self.now.spare is c.requires.room c.self.invariant e in
    (omega (arith, r.0, c.self.inside.nodes.ok.0), omega (arith, r.1, c.self.inside.nodes.ok.0))

pub bucket_of-bucket-requires : goal.bucket_of-bucket-requires
bucket_of-bucket-requires c =
    level_small c.self.inside.place.level (omega (arith, c.self.invariant.size, c.self.invariant.limit))

pub index_mut-node-requires : goal.index_mut-node-requires
index_mut-node-requires c =
    let k = stock_is c.self.inside c.args.self.now (ap (λ (b : Bag). b.spare) c.self.view_is) c.requires.room c.self.invariant _ _ c.stock-at.ensures.nodes in
    omega (arith, (chain_step _ _ k.table.pool.linked k.on).below, c.stock-at.new.nodes.ok.0)

pub get-requires : goal.get-requires
get-requires c =
    omega (arith, c.bucket_of-bucket.ensures, bucket_in _ _ _ _ _ c.self.invariant c.args.hash)

pub set-requires : goal.set-requires
set-requires c =
    omega (arith, c.bucket_of-bucket.ensures, bucket_in _ _ _ _ _ c.self.invariant c.args.hash)

pub invariant_of-self : goal.invariant_of-self
invariant_of-self c =
    let k = stock_is c.self.inside c.args.self.now (ap (λ (b : Bag). b.spare) c.self.view_is) c.requires.room c.self.invariant _ _ c.stock-at.ensures.nodes in
    let n : Node = record { hash = c.args.hash; reference = c.args.reference; next = c.get.result } in
    let below = (chain_step _ _ k.table.pool.linked k.on).below in
    put_all c.self.inside.heads c.stock-at.new.nodes.items c.self.inside.len c.self.inside.place c.stock-at.result c.bucket_of-bucket.result
    c.get.result c.index_mut-node.result.now.next c.set.new.self n k.on (lt-ltb _ _ c.requires.small)
    c.bucket_of-bucket.ensures refl c.get.ensures c.set.ensures
    (ap (λ (m : Node). m.next)
    (get_or_read c.stock-at.new.nodes.items c.stock-at.result c.index_mut-node.result.now below c.index_mut-node.ensures.value blank)) k.table

pub returns-clause-entries : goal.returns-clause-entries
returns-clause-entries c =
    let k = stock_is c.self.inside c.args.self.now (ap (λ (b : Bag). b.spare) c.self.view_is) c.requires.room c.self.invariant _ _ c.stock-at.ensures.nodes in
    let n : Node = record { hash = c.args.hash; reference = c.args.reference; next = c.get.result } in
    let e : entries c.stock-at.new.nodes.items ≡ c.args.self.now.entries = k.same ∙ ap (λ (b : Bag). b.entries) c.self.view_is in
    subst (λ es. IsPermutation (entries (set c.stock-at.new.nodes.items c.stock-at.result n)) (pair_of n ∷ es)) e
    (put_entries c.self.inside.heads c.stock-at.new.nodes.items c.self.inside.len c.self.inside.place c.stock-at.result n k.on
    (lt-ltb _ _ c.requires.small) k.table)
