-- The address rule of linear hashing (Litwin, VLDB 1980). No public clause cites this module.
use Rattle.std.specs.Prelude.{ℕ, ◌+◌, ◌*◌, ◌^◌, ◌%◌, cond, nat_lt, ◌==◌}
use Rattle.mlhash.specs.declared.place.Place.{Place}

-- The number of buckets with which the level began.
abbrev pub level_size : Place → ℕ
level_size p = 4 * 2 ^ p.level

-- The bucket of a hash: the remainder by the level's size or, if that bucket has been split, the remainder by twice that size.
abbrev pub bucket_of : Place → ℕ → ℕ
bucket_of p hash = cond (nat_lt (hash % (4 * 2 ^ p.level)) p.split) (hash % (8 * 2 ^ p.level)) (hash % (4 * 2 ^ p.level))

-- The place after one more split: the next bucket, or the first bucket of the next level after the last one of a level.
abbrev pub place_after : Place → Place
place_after p =
    cond (p.split + 1 == 4 * 2 ^ p.level) (record { level = p.level + 1; split = 0 }) (record { level = p.level; split = p.split + 1 })
