use Rattle.std.proofs.Common.{◌∙◌}
use Rattle.mm_plan.specs.Kept.{instance_of}
use Rattle.mm_txn.proofs.listing.list_tables.Goals as goal

pub returns : goal.returns
returns c =
    λ i. record {
      tables = (c.new.ensures ∙ c.in_ok-listed_tables.ensures) i;
      standing = (c.new-2.ensures ∙ c.in_ok-listed_queries.ensures (instance_of c.args.store.now.tables) c.requires.listed) i;
    }
