use Rattle.std.proofs.Common.{◌≡◌, take}
use Rattle.mm_value.specs.Hash.{bytes_hash}
use Rattle.mm_value.proofs.values.hash_bytes.Given as goal

-- the hash of the bytes so far
abbrev pub invariant-loop-byte : goal.invariant-loop-byte
invariant-loop-byte l = l.hash ≡ bytes_hash (take l.byte-index l.bytes)
