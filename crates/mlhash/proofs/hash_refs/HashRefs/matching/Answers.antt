use Rattle.std.proofs.Common.{sym, ap, subst, arith}
use Rattle.mlhash.specs.Bag.{Bag}
use Rattle.mlhash.specs.Chain.{IsLinked}
use Rattle.mlhash.proofs.AddressLemmas.{level_small}
use Rattle.mlhash.proofs.TableLemmas.{bucket_in}
use Rattle.mlhash.proofs.TakeLemmas.{bucket_at}
use Rattle.mlhash.proofs.MatchLemmas.{matching_all}
use Rattle.mlhash.proofs.hash_refs.HashRefs.matching.Goals as goal

pub bucket_of-requires : goal.bucket_of-requires
bucket_of-requires c =
    level_small c.self.inside.place.level (omega (arith, c.self.invariant.size, c.self.invariant.limit))

pub get-head-requires : goal.get-head-requires
get-head-requires c =
    omega (arith, c.bucket_of.ensures, bucket_in _ _ _ _ _ c.self.invariant c.args.hash)

pub along-requires : goal.along-requires
along-requires c =
    subst (λ ns. IsLinked ns c.get-head.result) (sym c.deref.ensures.value)
    ((bucket_at _ _ _ _ _ c.args.hash c.bucket_of.result c.get-head.result c.bucket_of.ensures c.get-head.ensures c.self.invariant).linked)

pub returns : goal.returns
returns c =
    matching_all c.self.inside.nodes.items c.self.inside.place c.get-head.result c.bucket_of.result c.args.hash c.deref.result.now c.along.result
    c.args.self.now.entries c.bucket_of.ensures
    (bucket_at _ _ _ _ _ c.args.hash c.bucket_of.result c.get-head.result c.bucket_of.ensures c.get-head.ensures c.self.invariant)
    c.deref.ensures.value (ap (λ (b : Bag). b.entries) c.self.view_is) c.along.ensures
