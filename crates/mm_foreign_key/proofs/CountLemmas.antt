-- The number of entries that refer to a slot, after an entry is written or entries are appended.
use Rattle.std.proofs.Common.{◌≡◌, ◌≢◌, ℕ, zero, suc, ◌+◌, ◌-◌, ◌<◌, ◌≤◌, ◌^◌, List, [], ◌∷◌, ◌++◌, length, Option, Some, None, cond, get_or, set, replicate}
use Rattle.std.proofs.Common.{refl, sym, ap, ◌∙◌, ⊎_elim, arith, length-set}
use Rattle.std.specs.Prelude.{count_by, sum_by}
use Rattle.std.proofs.lemmas.Bool.{cases_eq, cases_lt, cond-true, cond-false, eq-eqb, ne_eqb}
use Rattle.std.proofs.lemmas.List.{get_or-set_other, get_or-set_same, get_or_past, get_or_append_left, get_or-append_right, length-append, length-replicate}
use Rattle.std.proofs.lemmas.List.Sums.{sum_by-set, sum_by-cons, sum_by-append, get_or-le-sum_by, count_by-le-length}
use Rattle.mm_value.specs.declared.row_ref.RowRef.{RowRef}
use Rattle.mm_foreign_key.specs.Counts.{refers_to, IsCounted}

-- the part of a slot's count from an entry
weight : ℕ → Option RowRef → ℕ
weight place entry = cond (refers_to place entry) 1 0

weight-none : (place : ℕ) → weight place None ≡ 0
unfolding weight
weight-none place = refl

weight-same : (place : ℕ) (target : RowRef) → target.slot ≡ place → weight place (Some target) ≡ 1
unfolding weight
weight-same place target same = cond-true _ _ _ (eq-eqb target.slot place same)

weight-other : (place : ℕ) (target : RowRef) → target.slot ≢ place → weight place (Some target) ≡ 0
unfolding weight
weight-other place target other = cond-false _ _ _ (ne_eqb target.slot place other)

-- a count is the sum of the parts from the entries
count_by-weight : (place : ℕ) (targets : List (Option RowRef)) → count_by (refers_to place) targets ≡ sum_by (weight place) targets
unfolding weight
count_by-weight place targets = refl

-- an entry refers to a slot whose count is not 0
named_by : (place : ℕ) (targets : List (Option RowRef)) → 0 < sum_by (weight place) targets
    → (i : ℕ) × (get_or targets i None ≡ Some (record { slot = place }))
named_by place [] some = absurd (omega arith)
named_by place (None ∷ targets) some =
    let (i, is) = named_by place targets (omega (arith, sum_by-cons (weight place) None targets, weight-none place)) in (suc i, is)
named_by place (Some target ∷ targets) some =
    ⊎_elim
    (λ (same : target.slot ≡ place). (zero, ap {B = Option RowRef} (λ s. Some (record { slot = s })) same))
    (λ (other : target.slot ≢ place).
    let (i, is) = named_by place targets (omega (arith, sum_by-cons (weight place) (Some target) targets, weight-other place target other)) in (suc i, is))
    (cases_eq target.slot place)

pub entry_from_count : (place : ℕ) (targets : List (Option RowRef)) → 0 < count_by (refers_to place) targets
    → (i : ℕ) × (get_or targets i None ≡ Some (record { slot = place }))
entry_from_count place targets some = named_by place targets (omega (arith, count_by-weight place targets))

-- the entry exists
pub entry_within : (targets : List (Option RowRef)) (i : ℕ) (to : RowRef) → get_or targets i None ≡ Some to → i < length targets
entry_within targets i to is =
    ⊎_elim
    (λ (h : i < length targets). h)
    (λ (h : length targets ≤ i). let both : None ≡ Some to = sym (get_or_past targets i None h) ∙ is in cc)
    (cases_lt i (length targets))

-- a row that an entry refers to is counted
pub count_from_entry : (targets : List (Option RowRef)) (i : ℕ) (to : RowRef) → get_or targets i None ≡ Some to → 0 < count_by (refers_to to.slot) targets
count_from_entry targets i to is =
    omega (
      arith,
      count_by-weight to.slot targets,
      get_or-le-sum_by (weight to.slot) targets i None (entry_within targets i to is),
      ap (weight to.slot) is,
      weight-same to.slot to refl,
    )

-- a row that an entry refers to has a count, which is not 0
pub count_within : (targets : List (Option RowRef)) (counts : List ℕ) (i : ℕ) (to : RowRef) → IsCounted targets counts → get_or targets i None ≡ Some to
    → to.slot < length counts
count_within targets counts i to counted is =
    ⊎_elim
    (λ (h : to.slot < length counts). h)
    (λ (h : length counts ≤ to.slot).
    absurd (omega (arith, get_or_past counts to.slot 0 h, counted.counted to.slot, count_from_entry targets i to is)))
    (cases_lt to.slot (length counts))

-- the counts after an entry is written
after_set : (place i : ℕ) (targets : List (Option RowRef)) (was now : Option RowRef) → i < length targets → get_or targets i None ≡ was
    → count_by (refers_to place) (set targets i now) + weight place was ≡ count_by (refers_to place) targets + weight place now
after_set place i targets was now within is =
    omega (
      arith,
      count_by-weight place targets,
      count_by-weight place (set targets i now),
      sum_by-set (weight place) targets i now None within,
      ap (weight place) is,
    )

-- a count that grows by one more entry still fits 32 bits
pub count_fits : (targets : List (Option RowRef)) (counts : List ℕ) (i : ℕ) (to : RowRef) → i < length targets → get_or targets i None ≡ None
    → IsCounted targets counts → get_or counts to.slot 0 + 1 < 2 ^ 32
count_fits targets counts i to within free counted =
    omega (
      arith,
      counted.counted to.slot,
      counted.referrers,
      after_set to.slot i targets None (Some to) within free,
      weight-none to.slot,
      weight-same to.slot to refl,
      count_by-le-length (refers_to to.slot) (set targets i (Some to)),
      length-set targets i (Some to),
    )

pub IsCounted-tied : (targets : List (Option RowRef)) (counts : List ℕ) (i : ℕ) (target : RowRef) (count : ℕ) → i < length targets
    → target.slot < length counts → get_or targets i None ≡ None → count ≡ get_or counts target.slot 0 → IsCounted targets counts
    → IsCounted (set targets i (Some target)) (set counts target.slot (count + 1))
IsCounted-tied targets counts i target count within target_within free read counted =
    record {
      counted = λ place.
          let step : count_by (refers_to place) (set targets i (Some target)) + weight place None
          ≡ count_by (refers_to place) targets + weight place (Some target)
          = after_set place i targets None (Some target) within free in
          ⊎_elim
          (λ (same : target.slot ≡ place).
          let here : get_or (set counts target.slot (count + 1)) target.slot 0 ≡ count + 1 = get_or-set_same counts target.slot (count + 1) 0 target_within in
          ap (λ p. get_or (set counts target.slot (count + 1)) p 0) (sym same)
          ∙ omega (arith, here, read, ap (λ p. get_or counts p 0) same, counted.counted place, step, weight-none place, weight-same place target same))
          (λ (other : target.slot ≢ place).
          get_or-set_other counts target.slot place (count + 1) 0 (λ e. other (sym e))
          ∙ omega (arith, counted.counted place, step, weight-none place, weight-other place target other))
          (cases_eq target.slot place);
      referrers = omega (arith, length-set targets i (Some target), counted.referrers);
      places = omega (arith, length-set counts target.slot (count + 1), counted.places);
    }

pub IsCounted-untied : (targets : List (Option RowRef)) (counts : List ℕ) (i : ℕ) (target : RowRef) (count : ℕ) → get_or targets i None ≡ Some target
    → count ≡ get_or counts target.slot 0 → IsCounted targets counts → IsCounted (set targets i None) (set counts target.slot (count - 1))
IsCounted-untied targets counts i target count tied read counted =
    let within : i < length targets = entry_within targets i target tied in
    let target_within : target.slot < length counts = count_within targets counts i target counted tied in
    record {
      counted = λ place.
          let step : count_by (refers_to place) (set targets i None) + weight place (Some target) ≡ count_by (refers_to place) targets + weight place None
          = after_set place i targets (Some target) None within tied in
          ⊎_elim
          (λ (same : target.slot ≡ place).
          let here : get_or (set counts target.slot (count - 1)) target.slot 0 ≡ count - 1 = get_or-set_same counts target.slot (count - 1) 0 target_within in
          ap (λ p. get_or (set counts target.slot (count - 1)) p 0) (sym same)
          ∙ omega (arith, here, read, ap (λ p. get_or counts p 0) same, counted.counted place, step, weight-none place, weight-same place target same))
          (λ (other : target.slot ≢ place).
          get_or-set_other counts target.slot place (count - 1) 0 (λ e. other (sym e))
          ∙ omega (arith, counted.counted place, step, weight-none place, weight-other place target other))
          (cases_eq target.slot place);
      referrers = omega (arith, length-set targets i None, counted.referrers);
      places = omega (arith, length-set counts target.slot (count - 1), counted.places);
    }

at_replicate : {A : Type 0} (more i : ℕ) (d : A) → get_or (replicate more d) i d ≡ d
at_replicate zero i d = refl
at_replicate (suc more) zero d = refl
at_replicate (suc more) (suc i) d = at_replicate more i d

-- reading past the end of a list gives the value that was appended
pub get_or-grown : {A : Type 0} (xs : List A) (more i : ℕ) (d : A) → get_or (xs ++ replicate more d) i d ≡ get_or xs i d
get_or-grown xs more i d =
    ⊎_elim
    (λ (h : i < length xs). get_or_append_left xs (replicate more d) d i h)
    (λ (h : length xs ≤ i). get_or-append_right xs (replicate more d) (length xs) i d refl h
    ∙ (at_replicate more (i - length xs) d ∙ sym (get_or_past xs i d h)))
    (cases_lt i (length xs))

none_weigh : (place more : ℕ) → sum_by (weight place) (replicate more None) ≡ 0
none_weigh place zero = refl
none_weigh place (suc more) = omega (arith, sum_by-cons (weight place) None (replicate more None), weight-none place, none_weigh place more)

-- appending entries without a target, and counts of 0, keeps the invariant
pub IsCounted-grown : (targets : List (Option RowRef)) (counts : List ℕ) (more_targets more_counts : ℕ) → length targets + more_targets < 2 ^ 32
    → length counts + more_counts < 2 ^ 32 → IsCounted targets counts
    → IsCounted (targets ++ replicate more_targets None) (counts ++ replicate more_counts 0)
IsCounted-grown targets counts more_targets more_counts referrers places counted =
    record {
      counted = λ place. get_or-grown counts more_counts place 0
          ∙ omega (
            arith,
            counted.counted place,
            count_by-weight place targets,
            count_by-weight place (targets ++ replicate more_targets None),
            sum_by-append (weight place) targets (replicate more_targets None),
            none_weigh place more_targets,
          );
      referrers = omega (arith, length-append targets (replicate more_targets None), length-replicate {A = Option RowRef});
      places = omega (arith, length-append counts (replicate more_counts 0), length-replicate {A = ℕ});
    }
