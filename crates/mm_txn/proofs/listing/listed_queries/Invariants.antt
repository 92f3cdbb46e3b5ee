use Rattle.std.proofs.Common.{◌≡◌, map, take}
use Rattle.mm_schema.specs.Instance.{Instance}
use Rattle.mm_txn.specs.Rest.{listed_state, query_listed}
use Rattle.mm_txn.specs.Listed.{AreListed}
use Rattle.mm_txn.proofs.listing.listed_queries.Given as goal

-- the standing queries so far were listed
abbrev pub invariant-loop-place : goal.invariant-loop-place
invariant-loop-place l = (rows : Instance) → AreListed rows l.standing
    → l.listed.items ≡ map (query_listed (listed_state l.catalog rows l.standing)) (take l.place l.catalog.standing)
