use Rattle.std.proofs.Common.{◌≡◌, ℕ, ◌-◌, ◌∷◌, ◌≤◌, length, set, refl, sym, ap, ◌∙◌, subst, arith, vec_capacity, IsPermutation}
use Rattle.std.specs.List.{Contains}
use Rattle.std.proofs.lemmas.Bool.{false≢true}
use Rattle.std.proofs.lemmas.List.{get_or_read}
use Rattle.mm_value.specs.declared.row_ref.RowRef.{RowRef}
use Rattle.mlhash.specs.declared.node.Node.{Node}
use Rattle.mlhash.specs.Bag.{Bag}
use Rattle.mlhash.specs.Chain.{IsLinked, HasAll}
use Rattle.mlhash.specs.Pairs.{blank, node_at}
use Rattle.mlhash.specs.Table.{entries, IsTable}
use Rattle.mlhash.proofs.AddressLemmas.{level_small}
use Rattle.mlhash.proofs.BagLemmas.{held}
use Rattle.mlhash.proofs.TableLemmas.{bucket_in}
use Rattle.mlhash.proofs.TakeLemmas.{bucket_at, bucket_has_all, Finds-read, pair_in, freed, not_found, taking, first_below, some_entry, take_table}
use Rattle.mlhash.proofs.TakeLemmas.{take_entries, spare_more}
use Rattle.mlhash.proofs.hash_refs.HashRefs.take.Goals as goal

pub bucket_of-bucket-requires : goal.bucket_of-bucket-requires
bucket_of-bucket-requires c =
    level_small c.self.inside.place.level (omega (arith, c.self.invariant.size, c.self.invariant.limit))

pub get-head-requires : goal.get-head-requires
get-head-requires c =
    omega (arith, c.bucket_of-bucket.ensures, bucket_in _ _ _ _ _ c.self.invariant c.args.hash)

pub find_by_hint-at-requires-clause-linked : goal.find_by_hint-at-requires-clause-linked
find_by_hint-at-requires-clause-linked c =
    let k = bucket_at _ _ _ _ _ _ _ _ c.bucket_of-bucket.ensures c.get-head.ensures c.self.invariant in
    subst (λ ns. IsLinked ns c.get-head.result) (sym c.deref.ensures.value) k.linked

pub find_by_hint-at-requires-clause-all : goal.find_by_hint-at-requires-clause-all
find_by_hint-at-requires-clause-all c =
    let all = bucket_has_all _ _ _ _ _ _ _ _ c.bucket_of-bucket.ensures c.get-head.ensures c.self.invariant in
    subst (λ ns. HasAll ns c.get-head.result c.args.hash) (sym c.deref.ensures.value) all

pub returns-then-at-clause-found : goal.returns-then-at-clause-found
returns-then-at-clause-found c =
    let s = Finds-read _ _ _ _ _ _ c.deref.ensures.value c.find_by_hint-at.ensures.found in
    let none = not_found _ _ _ _ _ _ _ _ _ _ c.bucket_of-bucket.ensures c.get-head.ensures c.self.invariant s c.if-at.true in (
      λ e. absurd (false≢true e),
      λ m.
          absurd (none (subst (λ es. Contains es (c.args.hash, c.args.reference)) (sym (ap (λ (b : Bag). b.entries) c.self.view_is)) m)),
    )

pub index-first-requires : goal.index-first-requires
index-first-requires c =
    let s = Finds-read _ _ _ _ _ _ c.deref.ensures.value c.find_by_hint-at.ensures.found in
    omega (arith, (first_below _ _ _ _ _ _ _ _ _ _ c.bucket_of-bucket.ensures c.get-head.ensures c.self.invariant s c.if-at.false).0, c.self.inside.nodes.ok.0)

pub index-requires : goal.index-requires
index-requires c =
    let s = Finds-read _ _ _ _ _ _ c.deref.ensures.value c.find_by_hint-at.ensures.found in
    omega (arith, (first_below _ _ _ _ _ _ _ _ _ _ c.bucket_of-bucket.ensures c.get-head.ensures c.self.invariant s c.if-at.false).1, c.self.inside.nodes.ok.0)

pub index_mut-requires : goal.index_mut-requires
index_mut-requires c =
    let s = Finds-read _ _ _ _ _ _ c.deref.ensures.value c.find_by_hint-at.ensures.found in
    omega (arith, (first_below _ _ _ _ _ _ _ _ _ _ c.bucket_of-bucket.ensures c.get-head.ensures c.self.invariant s c.if-at.false).1, c.self.inside.nodes.ok.0)

pub index_mut-requires-2 : goal.index_mut-requires-2
index_mut-requires-2 c =
    let s = Finds-read _ _ _ _ _ _ c.deref.ensures.value c.find_by_hint-at.ensures.found in
    omega (arith, (first_below _ _ _ _ _ _ _ _ _ _ c.bucket_of-bucket.ensures c.get-head.ensures c.self.invariant s c.if-at.false).0, c.self.inside.nodes.ok.0)

pub set-requires : goal.set-requires
set-requires c =
    omega (arith, c.bucket_of-bucket.ensures, bucket_in _ _ _ _ _ c.self.invariant c.args.hash)

pub overflow_sub-self : goal.overflow_sub-self
overflow_sub-self c =
    let s = Finds-read _ _ _ _ _ _ c.deref.ensures.value c.find_by_hint-at.ensures.found in
    let k = taking _ _ _ _ _ _ _ _ _ _ _ _ c.bucket_of-bucket.ensures c.get-head.ensures c.self.invariant s c.if-at.false c.index-first.ensures
    c.index.ensures in
    some_entry _ _ _ _ _ _ _ _ _ _ k

pub invariant_of-self : goal.invariant_of-self
invariant_of-self c =
    let s = Finds-read _ _ _ _ _ _ c.deref.ensures.value c.find_by_hint-at.ensures.found in
    let k = taking _ _ _ _ _ _ _ _ _ _ _ _ c.bucket_of-bucket.ensures c.get-head.ensures c.self.invariant s c.if-at.false c.index-first.ensures
    c.index.ensures in
    let i = c.self.inside in
    let n1 = pair_in c.index-first.result.now c.index.result.now.next in
    let below = (first_below _ _ _ _ _ _ _ _ _ _ c.bucket_of-bucket.ensures c.get-head.ensures c.self.invariant s c.if-at.false) in
    let next : c.index-first.result.now.next ≡ (node_at i.nodes.items c.get-head.result).next = ap (λ (m : Node). m.next)
    (get_or_read i.nodes.items _ _ below.0 c.index-first.ensures blank) in
    let ms = set (set i.nodes.items c.find_by_hint-at.result n1) c.get-head.result (freed i.free) in
    subst (λ hs. IsTable hs ms (i.len - 1) i.place c.get-head.result) (sym (c.set.ensures ∙ ap (λ x. set i.heads c.bucket_of-bucket.result x) next))
    (take_table _ _ _ _ _ _ _ _ _ _ k)

pub returns-clause-found : goal.returns-clause-found
returns-clause-found c =
    let s = Finds-read _ _ _ _ _ _ c.deref.ensures.value c.find_by_hint-at.ensures.found in
    let i = c.self.inside in
    let below = (first_below _ _ _ _ _ _ _ _ _ _ c.bucket_of-bucket.ensures c.get-head.ensures c.self.invariant s c.if-at.false) in
    let k = bucket_at _ _ _ _ _ _ _ _ c.bucket_of-bucket.ensures c.get-head.ensures c.self.invariant in
    let f = s.found c.if-at.false in
    let e = ap (λ (b : Bag). b.entries) c.self.view_is in
    let m = held i.nodes.items c.find_by_hint-at.result below.1 (k.here c.find_by_hint-at.result f.0).0 in
    (λ _. subst (λ es. Contains es (c.args.hash, c.args.reference)) e (subst (λ p. Contains (entries i.nodes.items) p) f.1 m), λ _. refl)

pub returns-clause-entries : goal.returns-clause-entries
returns-clause-entries c =
    let s = Finds-read _ _ _ _ _ _ c.deref.ensures.value c.find_by_hint-at.ensures.found in
    let k = taking _ _ _ _ _ _ _ _ _ _ _ _ c.bucket_of-bucket.ensures c.get-head.ensures c.self.invariant s c.if-at.false c.index-first.ensures
    c.index.ensures in
    let i = c.self.inside in
    let n1 = pair_in c.index-first.result.now c.index.result.now.next in
    let ms = set (set i.nodes.items c.find_by_hint-at.result n1) c.get-head.result (freed i.free) in
    let f = s.found c.if-at.false in
    let e : entries i.nodes.items ≡ c.args.self.now.entries = ap (λ (b : Bag). b.entries) c.self.view_is in
    subst (λ es. IsPermutation es ((c.args.hash, c.args.reference) ∷ entries ms)) e
    (subst (λ (p : ℕ × RowRef). IsPermutation (entries i.nodes.items) (p ∷ entries ms)) f.1 (take_entries _ _ _ _ _ _ _ _ _ _ k))

pub returns-clause-spare : goal.returns-clause-spare
returns-clause-spare c =
    let s = Finds-read _ _ _ _ _ _ c.deref.ensures.value c.find_by_hint-at.ensures.found in
    let k = taking _ _ _ _ _ _ _ _ _ _ _ _ c.bucket_of-bucket.ensures c.get-head.ensures c.self.invariant s c.if-at.false c.index-first.ensures
    c.index.ensures in
    let i = c.self.inside in
    let fits : length i.nodes.items ≤ vec_capacity i.nodes = omega (arith, i.nodes.ok.0, i.nodes.ok.1) in
    let spare = ap (λ (b : Bag). b.spare) c.self.view_is in
    spare_more i.heads _ i.len i.place i.free _ _ c.self.invariant fits (some_entry _ _ _ _ _ _ _ _ _ _ k) spare
