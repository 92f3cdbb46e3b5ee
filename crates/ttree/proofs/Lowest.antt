-- Lemmas about two lowest trees under a root, where the left one has as many nodes as the right one, or one more.
use Rattle.std.proofs.Common.{◌≡◌, ℕ, zero, suc, ◌+◌, ◌^◌, ◌<◌, ◌≤◌, max, ⊎_elim, ◌*◌, sym, subst, arith}
use Rattle.std.proofs.Math.Nat.{pow-suc}
use Rattle.std.proofs.Math.Pow.{pow_mono}
use Rattle.std.proofs.lemmas.Bool.{cases_lt}
use Rattle.ttree.specs.Lowest.{IsLowest}

module _ (l r hl hr : ℕ) (left : IsLowest l hl) (right : IsLowest r hr) (not_fewer : r ≤ l) (one_more : l ≤ r + 1) where
  -- Lemma: the left one is not lower than the right one.
  pub not_lower : hr ≤ hl
  not_lower =
      ⊎_elim
      (λ (h : hl < hr).
      let much : 2 ^ suc hl ≤ 2 ^ hr = pow_mono (omega arith) in
      absurd (omega (arith, much, pow-suc 2 hl, left.0, right.1)))
      (λ (h : hr ≤ hl). h)
      (cases_lt hl hr)

  -- Lemma: the left one is at most one level higher.
  pub one_level : hl ≤ hr + 1
  one_level =
      ⊎_elim
      (λ (h : hr + 1 < hl).
      let much : 2 ^ suc (suc hr) ≤ 2 ^ hl = pow_mono (omega arith) in
      absurd (omega (arith, much, pow-suc 2 (suc hr), pow-suc 2 hr, left.1, right.0)))
      (λ (h : hl ≤ hr + 1). h)
      (cases_lt (hr + 1) hl)

  -- Lemma: the power of two for a height that is not 0 is even.
  below : (h : ℕ) → IsLowest l h → 2 ^ suc h ≤ 2 * (l + r + 1) + 1
  below zero is = omega (arith, is.0, is.1)
  below (suc k) is = omega (arith, is.0, is.1, pow-suc 2 k, pow-suc 2 (suc k))

  -- Lemma: the tree under the root is a lowest one.
  pub IsLowest-root : IsLowest (l + r + 1) (max hl hr + 1)
  IsLowest-root =
      let height : max hl hr + 1 ≡ suc hl = omega (arith, not_lower) in
      subst (IsLowest (l + r + 1)) (sym height) (omega (arith, left.0, pow-suc 2 hl), below hl left)
