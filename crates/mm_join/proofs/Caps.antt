-- The refusal of a list by its length.
use Rattle.std.proofs.Common.{◌≡◌, ℕ, ◌<◌, ◌≤◌, cond, List, [], ◌∷◌, ◌++◌, Some, None, length, nat_lt, ap, ◌∙◌, arith, length-append}
use Rattle.std.proofs.lemmas.Bool.{le-ltb, lt-ltb, ltb-false, ltb-true}
use Rattle.mm_schema.specs.Refused.{first_refusal}
use Rattle.mm_value.specs.declared.refusal.Refusal.{Refusal}
use Rattle.mm_value.specs.declared.refusal.Refusal.TheVariants.{ResultTooLarge}
use Rattle.mm_join.specs.Caps.{cap_conditions}
use Rattle.mm_query.proofs.PlainEval.{due_by, none_by}

module _ {X : Type 0} (cap : ℕ) (found : List X) where
  -- A list within the cap is not refused.
  pub within_cap : length found ≤ cap → first_refusal (cap_conditions cap found) ≡ None
  within_cap few = ap (λ b. cond b (Some ResultTooLarge) None) (le-ltb cap (length found) few)

  pub cap_within : first_refusal (cap_conditions cap found) ≡ None → length found ≤ cap
  cap_within none = ltb-false cap (length found) (none_by (nat_lt cap (length found)) none)

  -- A longer list is too large.
  pub past_cap : cap < length found → first_refusal (cap_conditions cap found) ≡ Some ResultTooLarge
  past_cap many = ap (λ b. cond b (Some ResultTooLarge) None) (lt-ltb cap (length found) many)

  -- The refusal of a list is also that of any list that is at least as long.
  pub due_of_longer : {Y : Type 0} (all : List Y) (refusal : Refusal) → length found ≤ length all
      → first_refusal (cap_conditions cap found) ≡ Some refusal → first_refusal (cap_conditions cap all) ≡ Some refusal
  due_of_longer all refusal longer due =
      let parts = due_by (nat_lt cap (length found)) refusal due in
      let above : cap < length found = ltb-true cap (length found) parts.0 in
      ap (λ b. cond b (Some ResultTooLarge) None) (lt-ltb cap (length all) (omega (arith, above, longer))) ∙ ap Some parts.1

-- A list with one element more than the cap is too large.
pub past_by_one : {X : Type 0} (cap : ℕ) (found : List X) (x : X) → cap ≤ length found
    → first_refusal (cap_conditions cap (found ++ x ∷ [])) ≡ Some ResultTooLarge
past_by_one cap found x full = past_cap cap (found ++ x ∷ []) (omega (arith, full, length-append found (x ∷ [])))
