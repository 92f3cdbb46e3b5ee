-- Lemma about repeated halving of a range.
use Rattle.std.proofs.Common.{◌≡◌, ℕ, suc, ◌+◌, ◌-◌, ◌^◌, ◌<◌, ◌≤◌, ap, ◌∙◌, arith}
use Rattle.std.proofs.Math.Nat.{pow-suc}

-- Lemma: the larger half of a range within a power of two is within the next lower power.
pub halved : (n turn size half : ℕ) → turn < n → size ≤ 2 ^ (n - turn) → half + half ≤ size + 1 → half ≤ 2 ^ (n - (turn + 1))
halved n turn size half below within halves =
    let less : n - turn ≡ suc (n - (turn + 1)) = omega arith in
    omega (arith, ap (λ k. 2 ^ k) less ∙ pow-suc 2 (n - (turn + 1)))
