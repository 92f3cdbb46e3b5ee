-- Lemmas about the address rule: what one split changes.
use Rattle.std.proofs.Common.{◌≡◌, ◌≢◌, ℕ, zero, suc, ◌+◌, ◌-◌, ◌*◌, ◌/◌, ◌%◌, ◌^◌, ◌<◌, ◌≤◌, bit_and, ◌⊎◌, inl, inr, sym, ap, ◌∙◌, subst, arith}
use Rattle.std.proofs.lemmas.Bool.{cases_eq, cases_lt, lt-ltb, le-ltb, eq-eqb, ne_eqb, cond-true, cond-false}
use Rattle.std.proofs.lemmas.Nat.{pow_pos, pow-add, and_mask, mod-pow-add, mod_below, shl_whole, pow_below}
use Rattle.mlhash.specs.declared.place.Place.{Place}
use Rattle.mlhash.specs.Address.{bucket_of, place_after}

four_times : (l : ℕ) → 2 ^ (l + 2) ≡ 4 * 2 ^ l
four_times l = omega (arith, pow-add 2 l 2)

eight_times : (l : ℕ) → 2 ^ (1 + (l + 2)) ≡ 8 * 2 ^ l
eight_times l = omega (arith, pow-add 2 1 (l + 2), four_times l)

eight_times' : (l : ℕ) → 2 ^ (l + 3) ≡ 8 * 2 ^ l
eight_times' l = omega (arith, pow-add 2 l 3)

-- Lemma: a mask computes the remainder.
pub low_mask : (l h : ℕ) → l < 32 → bit_and h (4 * 2 ^ l % 2 ^ 64 - 1) ≡ h % (4 * 2 ^ l)
low_mask l h small =
    let e : 4 * 2 ^ l % 2 ^ 64 ≡ 2 ^ (l + 2) = shl_whole 4 3 l 64 (omega arith) (omega arith) ∙ sym (four_times l) in
    ap (λ m. bit_and h (m - 1)) e ∙ and_mask h (l + 2) ∙ ap (λ m. h % m) (four_times l)

pub high_mask : (l h : ℕ) → l < 32 → bit_and h (8 * 2 ^ l % 2 ^ 64 - 1) ≡ h % (8 * 2 ^ l)
high_mask l h small =
    let e : 8 * 2 ^ l % 2 ^ 64 ≡ 2 ^ (l + 3) = shl_whole 8 4 l 64 (omega arith) (omega arith) ∙ sym (eight_times' l) in
    ap (λ m. bit_and h (m - 1)) e ∙ and_mask h (l + 3) ∙ ap (λ m. h % m) (eight_times' l)

once_or_not : (q x r t : ℕ) → q < 2 → t ≡ q * x + r → (t ≡ r) ⊎ (t ≡ r + x)
once_or_not zero x r t small e = inl (omega arith)
once_or_not (suc zero) x r t small e = inr (omega arith)
once_or_not (suc (suc q)) x r t small e = absurd (omega arith)

-- Lemma: the remainder by twice a level's size is the remainder by that size, or that plus the size.
pub mod_double : (l h : ℕ) → (h % (8 * 2 ^ l) ≡ h % (4 * 2 ^ l)) ⊎ (h % (8 * 2 ^ l) ≡ h % (4 * 2 ^ l) + 4 * 2 ^ l)
mod_double l h =
    let e : h % 2 ^ (1 + (l + 2)) ≡ (h / 2 ^ (l + 2) % 2 ^ 1) * 2 ^ (l + 2) + h % 2 ^ (l + 2) = mod-pow-add h 1 (l + 2) in
    let e' : h % (8 * 2 ^ l) ≡ (h / (4 * 2 ^ l) % 2) * (4 * 2 ^ l) + h % (4 * 2 ^ l) = ap (λ m. h % m) (sym (eight_times l)) ∙ e
    ∙ ap (λ m. (h / m % 2) * m + h % m) (four_times l) in
    once_or_not (h / (4 * 2 ^ l) % 2) (4 * 2 ^ l) (h % (4 * 2 ^ l)) (h % (8 * 2 ^ l)) (mod_below (h / (4 * 2 ^ l)) 2 (omega arith)) e'

pub bucket_split : (p : Place) (h : ℕ) → h % (4 * 2 ^ p.level) < p.split → bucket_of p h ≡ h % (8 * 2 ^ p.level)
bucket_split p h lt = cond-true _ _ _ (lt-ltb _ _ lt)

pub bucket_whole : (p : Place) (h : ℕ) → p.split ≤ h % (4 * 2 ^ p.level) → bucket_of p h ≡ h % (4 * 2 ^ p.level)
bucket_whole p h le = cond-false _ _ _ (le-ltb _ _ le)

low_below : (l h : ℕ) → h % (4 * 2 ^ l) < 4 * 2 ^ l
low_below l h = mod_below h (4 * 2 ^ l) (omega (arith, pow_pos l))

pub bucket_below : (p : Place) (h : ℕ) → bucket_of p h < 4 * 2 ^ p.level + p.split
bucket_below p h =
    elim (cases_lt (h % (4 * 2 ^ p.level)) p.split) [
      | inl lt ↦ (let e = bucket_split p h lt in elim (mod_double p.level h)
          [ inl d ↦ omega (arith, e, d, low_below p.level h) | inr d ↦ omega (arith, e, d, lt) ])
      | inr le ↦ omega (arith, bucket_whole p h le, low_below p.level h)
    ]

pub place_after-wraps : (p : Place) → p.split + 1 ≡ 4 * 2 ^ p.level → place_after p ≡ record { level = p.level + 1; split = 0 }
place_after-wraps p e = cond-true _ _ _ (eq-eqb _ _ e)

pub place_after-steps : (p : Place) → (p.split + 1 ≡ 4 * 2 ^ p.level → ⊥) → place_after p ≡ record { level = p.level; split = p.split + 1 }
place_after-steps p ne = cond-false _ _ _ (ne_eqb _ _ ne)

-- Lemma: one more split adds one bucket.
pub place_after-size : (p : Place) → 4 * 2 ^ (place_after p).level + (place_after p).split ≡ 4 * 2 ^ p.level + p.split + 1
place_after-size p =
    elim (cases_eq (p.split + 1) (4 * 2 ^ p.level)) [
      | inl e ↦ subst (λ (q : Place). 4 * 2 ^ q.level + q.split ≡ 4 * 2 ^ p.level + p.split + 1) (sym (place_after-wraps p e))
          (omega (arith, e, pow-add 2 p.level 1))
      | inr ne ↦ subst (λ (q : Place). 4 * 2 ^ q.level + q.split ≡ 4 * 2 ^ p.level + p.split + 1)
          (sym (place_after-steps p ne)) (omega arith)
    ]

pub place_after-split : (p : Place) → p.split < 4 * 2 ^ p.level → (place_after p).split < 4 * 2 ^ (place_after p).level
place_after-split p lt =
    elim (cases_eq (p.split + 1) (4 * 2 ^ p.level)) [
      | inl e ↦ subst (λ (q : Place). q.split < 4 * 2 ^ q.level) (sym (place_after-wraps p e)) (omega (arith, pow_pos (p.level + 1)))
      | inr ne ↦ subst (λ (q : Place). q.split < 4 * 2 ^ q.level) (sym (place_after-steps p ne)) (omega (arith, lt, ne))
    ]

next_level : (l h : ℕ) → bucket_of (record { level = l + 1; split = 0 }) h ≡ h % (8 * 2 ^ l)
next_level l h =
    bucket_whole (record { level = l + 1; split = 0 }) h (omega arith) ∙ ap (λ m. h % m)
    (let e : 4 * 2 ^ (l + 1) ≡ 8 * 2 ^ l = omega (arith, pow-add 2 l 1) in e)

-- Lemma: the remainder of a hash in the bucket to split is that bucket.
low_at_split : (p : Place) (h : ℕ) → p.split < 4 * 2 ^ p.level → bucket_of p h ≡ p.split → h % (4 * 2 ^ p.level) ≡ p.split
low_at_split p h lt e =
    elim (cases_lt (h % (4 * 2 ^ p.level)) p.split) [
      | inl small ↦ absurd (let b = bucket_split p h small in elim (mod_double p.level h)
          [ inl d ↦ omega (arith, b, d, e, small) | inr d ↦ omega (arith, b, d, e, lt) ])
      | inr le ↦ sym (bucket_whole p h le) ∙ e
    ]

-- Lemma: after the split, a hash of the split bucket has the remainder by twice the size as its bucket.
pub after_split : (p : Place) (h : ℕ) → p.split < 4 * 2 ^ p.level → bucket_of p h ≡ p.split → bucket_of (place_after p) h ≡ h % (8 * 2 ^ p.level)
after_split p h lt e =
    let low = low_at_split p h lt e in
    elim (cases_eq (p.split + 1) (4 * 2 ^ p.level)) [
      | inl w ↦ subst (λ (q : Place). bucket_of q h ≡ h % (8 * 2 ^ p.level)) (sym (place_after-wraps p w)) (next_level p.level h)
      | inr nw ↦ subst (λ (q : Place). bucket_of q h ≡ h % (8 * 2 ^ p.level)) (sym (place_after-steps p nw))
          (bucket_split (record { level = p.level; split = p.split + 1 }) h (omega (arith, low)))
    ]

other_wraps : (p : Place) (h : ℕ) → p.split + 1 ≡ 4 * 2 ^ p.level → (bucket_of p h ≡ p.split → ⊥) → h % (8 * 2 ^ p.level) ≡ bucket_of p h
other_wraps p h w ne =
    elim (cases_lt (h % (4 * 2 ^ p.level)) p.split) [
      | inl small ↦ sym (bucket_split p h small)
      | inr le ↦ absurd (let b = bucket_whole p h le in let ne' : bucket_of p h ≢ p.split = ne in omega (arith, b, w, ne', low_below p.level h, le))
    ]

other_steps : (p : Place) (h : ℕ) → (bucket_of p h ≡ p.split → ⊥) → bucket_of (record { level = p.level; split = p.split + 1 }) h ≡ bucket_of p h
other_steps p h ne =
    let q : Place = record { level = p.level; split = p.split + 1 } in
    elim (cases_lt (h % (4 * 2 ^ p.level)) p.split) [
      | inl small ↦ bucket_split q h (omega (arith, small)) ∙ sym (bucket_split p h small)
      | inr le ↦ (let b = bucket_whole p h le in let ne' : h % (4 * 2 ^ p.level) ≢ p.split = λ e. ne (b ∙ e) in bucket_whole q h
          (omega (arith, ne', le)) ∙ sym b)
    ]

-- Lemma: every other hash keeps its bucket.
pub after_other : (p : Place) (h : ℕ) → p.split < 4 * 2 ^ p.level → (bucket_of p h ≡ p.split → ⊥) → bucket_of (place_after p) h ≡ bucket_of p h
after_other p h lt ne =
    elim (cases_eq (p.split + 1) (4 * 2 ^ p.level)) [
      | inl w ↦ subst (λ (q : Place). bucket_of q h ≡ bucket_of p h) (sym (place_after-wraps p w)) (next_level p.level h ∙ other_wraps p h w ne)
      | inr nw ↦ subst (λ (q : Place). bucket_of q h ≡ bucket_of p h) (sym (place_after-steps p nw)) (other_steps p h ne)
    ]

-- Lemma: a split distributes the hashes of a bucket over two buckets.
pub split_in_two : (p : Place) (h : ℕ) → p.split < 4 * 2 ^ p.level → bucket_of p h ≡ p.split
    → (h % (8 * 2 ^ p.level) ≡ p.split) ⊎ (h % (8 * 2 ^ p.level) ≡ 4 * 2 ^ p.level + p.split)
split_in_two p h lt e =
    let low = low_at_split p h lt e in
    elim (mod_double p.level h) [ inl d ↦ inl (d ∙ low) | inr d ↦ inr (omega (arith, d, low)) ]

-- Lemma: a hash in either bucket of a split was in the split bucket before.
pub before_in : (p : Place) (h : ℕ) → p.split < 4 * 2 ^ p.level
    → (bucket_of (place_after p) h ≡ p.split) ⊎ (bucket_of (place_after p) h ≡ 4 * 2 ^ p.level + p.split) → bucket_of p h ≡ p.split
before_in p h lt d =
    elim (cases_eq (bucket_of p h) p.split)
    [ inl e ↦ e | inr ne ↦ absurd (let o = after_other p h lt ne in elim d [ inl f ↦ ne (sym o ∙ f) | inr f ↦ omega (arith, o, f, bucket_below p h) ]) ]

pub before_other : (p : Place) (h : ℕ) → p.split < 4 * 2 ^ p.level → (bucket_of (place_after p) h ≡ p.split → ⊥)
    → (bucket_of (place_after p) h ≡ 4 * 2 ^ p.level + p.split → ⊥) → bucket_of p h ≡ bucket_of (place_after p) h
before_other p h lt one two =
    elim (cases_eq (bucket_of p h) p.split) [
      | inl e ↦ absurd (let a = after_split p h lt e in elim (split_in_two p h lt e) [ inl f ↦ one (a ∙ f) | inr f ↦ two (a ∙ f) ])
      | inr ne ↦ sym (after_other p h lt ne)
    ]

pub level_small : (l : ℕ) → 4 * 2 ^ l ≤ 2 ^ 31 → l < 32
level_small l le =
    elim (cases_lt l 32) [ inl lt ↦ lt | inr ge ↦ absurd (let b : 2 ^ 31 < 2 ^ l = pow_below 31 l (omega arith) in omega (arith, b, le)) ]
