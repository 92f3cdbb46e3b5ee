-- The order of refusals, and which of the due ones is the result.
use Rattle.std.proofs.Common.{◌≡◌, ◌<◌, ◌≤◌, ◌&&◌, ℕ, zero, suc, Bool, true, false, cond, List, [], ◌∷◌, Some, inl, inr, map, nat_lt, refl, sym, ap, subst}
use Rattle.std.proofs.Common.{◌∙◌, arith}
use Rattle.std.specs.Prelude.{All, AllPairs, Contains}
use Rattle.std.proofs.lemmas.Bool.{and_parts}
use Rattle.std.proofs.lemmas.Bool.Decides.{nat_tests}
use Rattle.std.proofs.lemmas.List.Kept.{AllPairs-cons}
use Rattle.mm_schema.specs.Refused.{Condition, ascend, first_refusal, rank}
use Rattle.mm_schema.proofs.StrictOrder.{Contains-from_IsIn, IsIn, IsIn-from_Contains}
use Rattle.mm_value.specs.declared.refusal.Refusal.{Refusal}
use Rattle.mm_value.specs.declared.refusal.Refusal.TheVariants.{LineTooLong, Syntax, NumberOutOfRange, TextTooLong, NoSuchTable, NoSuchColumn, NoSuchIndex}
use Rattle.mm_value.specs.declared.refusal.Refusal.TheVariants.{NoSuchStandingQuery, NameTaken, AliasTaken, NoSuchAlias, TypeMismatch, WrongNumberOfValues}
use Rattle.mm_value.specs.declared.refusal.Refusal.TheVariants.{ArithmeticOutOfRange, DuplicateKey, NoTargetRow, RowIsReferenced, InUse, TableFull}
use Rattle.mm_value.specs.declared.refusal.Refusal.TheVariants.{ResultTooLarge, StandingListTooLarge, TooMany, TransactionOpen, NoTransaction}
use Rattle.mm_value.specs.declared.refusal.Refusal.TheVariants.{NotInTransaction, NoSuchSavepoint, Memory}
use Rattle.mm_query.specs.Machine.{conditions}
use Rattle.mm_query.specs.State.{State}
use Rattle.mm_query.specs.declared.command.Command.{Command}
use Rattle.mm_laws.specs.RefusalOrder.{one_order}
use Rattle.mm_laws.proofs.KeyOrder.{ascending}

-- Each number is less than the next.
abbrev rises : List ℕ → Bool
rises [] = true
rises (m ∷ []) = true
rises (m ∷ n ∷ ns) = nat_lt m n && rises (n ∷ ns)

less : (m n : ℕ) → nat_lt m n ≡ true → m < n
less m n is = grind (arith, nat_tests)

-- A list that ascends from each element to the next ascends throughout.
module _ {X : Type 0} (f : X → ℕ) where
  above : (x : X) (xs : List X) → rises (map f (x ∷ xs)) ≡ true → All (λ y. f x < f y) xs
  above x [] up k d within = absurd (omega arith)
  above x (y ∷ ys) up zero d within = less (f x) (f y) (and_parts (nat_lt (f x) (f y)) (rises (map f (y ∷ ys))) up).0
  above x (y ∷ ys) up (suc k) d within =
      let parts = and_parts (nat_lt (f x) (f y)) (rises (map f (y ∷ ys))) up in
      let next = less (f x) (f y) parts.0 in
      let later = above y ys parts.1 k d (omega arith) in
      omega (arith, next, later)

  behind : (x : X) (xs : List X) → rises (map f (x ∷ xs)) ≡ true → rises (map f xs) ≡ true
  behind x [] up = refl
  behind x (y ∷ ys) up = (and_parts (nat_lt (f x) (f y)) (rises (map f (y ∷ ys))) up).1

  pairs : (xs : List X) → rises (map f xs) ≡ true → AllPairs (λ x y. f x < f y) xs
  pairs [] up = λ i j d lt within. absurd (omega arith)
  pairs (x ∷ xs) up = AllPairs-cons (λ x y. f x < f y) x xs (above x xs up) (pairs xs (behind x xs up))

pub ranks_ascend : AllPairs (λ (earlier later : Refusal). rank earlier < rank later) one_order
ranks_ascend = pairs rank one_order refl

pub all_are_there : (refusal : Refusal) → Contains (TextTooLong ∷ one_order) refusal
all_are_there TextTooLong = (0, omega arith, refl)
all_are_there LineTooLong = (1, omega arith, refl)
all_are_there Syntax = (2, omega arith, refl)
all_are_there NumberOutOfRange = (3, omega arith, refl)
all_are_there TransactionOpen = (4, omega arith, refl)
all_are_there NoTransaction = (5, omega arith, refl)
all_are_there NotInTransaction = (6, omega arith, refl)
all_are_there NoSuchSavepoint = (7, omega arith, refl)
all_are_there NoSuchTable = (8, omega arith, refl)
all_are_there NoSuchColumn = (9, omega arith, refl)
all_are_there NoSuchIndex = (10, omega arith, refl)
all_are_there NoSuchStandingQuery = (11, omega arith, refl)
all_are_there NameTaken = (12, omega arith, refl)
all_are_there AliasTaken = (13, omega arith, refl)
all_are_there NoSuchAlias = (14, omega arith, refl)
all_are_there TypeMismatch = (15, omega arith, refl)
all_are_there WrongNumberOfValues = (16, omega arith, refl)
all_are_there TooMany = (17, omega arith, refl)
all_are_there ArithmeticOutOfRange = (18, omega arith, refl)
all_are_there DuplicateKey = (19, omega arith, refl)
all_are_there NoTargetRow = (20, omega arith, refl)
all_are_there RowIsReferenced = (21, omega arith, refl)
all_are_there InUse = (22, omega arith, refl)
all_are_there TableFull = (23, omega arith, refl)
all_are_there ResultTooLarge = (24, omega arith, refl)
all_are_there StandingListTooLarge = (25, omega arith, refl)
all_are_there Memory = (26, omega arith, refl)

-- ---- the resulting refusal

conditions_rise : (cs : List Condition) → ascend cs ≡ rises (map (λ (c : Condition). rank c.refusal) cs)
conditions_rise [] = refl
conditions_rise (c ∷ []) = refl
conditions_rise (c ∷ d ∷ cs) = ap (λ b. nat_lt (rank c.refusal) (rank d.refusal) && b) (conditions_rise (d ∷ cs))

module _ (due : Condition) (holds : due.holds ≡ true) where
  answered : (cs : List Condition) → rises (map (λ (c : Condition). rank c.refusal) cs) ≡ true → IsIn due cs
      → (answered : Refusal) × (first_refusal cs ≡ Some answered) × (rank answered ≤ rank due.refusal)
  answered [] up here = absurd here
  answered (c ∷ cs) up (inl is) = (
    c.refusal,
    ap (λ b. cond b (Some c.refusal) (first_refusal cs)) (ap (λ (d : Condition). d.holds) is ∙ holds),
    (let same : rank c.refusal ≡ rank due.refusal = ap (λ (d : Condition). rank d.refusal) is in omega (arith, same)),
  )
  answered (c ∷ cs) up (inr later) =
      by c.holds refl (answered cs (behind (λ (c : Condition). rank c.refusal) c cs up) later)
    where
      lower : rank c.refusal < rank due.refusal
      lower =
          let place = Contains-from_IsIn cs due later in
          subst (λ (d : Condition). rank c.refusal < rank d.refusal) place.2
          (above (λ (c : Condition). rank c.refusal) c cs up place.0 due place.1)

      by : (b : Bool) → c.holds ≡ b → (answered : Refusal) × (first_refusal cs ≡ Some answered) × (rank answered ≤ rank due.refusal)
          → (answered : Refusal) × (first_refusal (c ∷ cs) ≡ Some answered) × (rank answered ≤ rank due.refusal)
      by true is found = (c.refusal, ap (λ b. cond b (Some c.refusal) (first_refusal cs)) is, (let below = lower in omega (arith, below)))
      by false is found = (found.0, ap (λ b. cond b (Some c.refusal) (first_refusal cs)) is ∙ found.1, found.2)

pub first_is_answered : (command : Command) (state : State) (due : Condition) → Contains (conditions command state) due → due.holds ≡ true
    → (answered : Refusal) × (first_refusal (conditions command state) ≡ Some answered) × (rank answered ≤ rank due.refusal)
first_is_answered command state due among holds =
    answered due holds (conditions command state) (sym (conditions_rise (conditions command state)) ∙ ascending command state)
    (IsIn-from_Contains (conditions command state) due among)

one_refusal : (a b : Refusal) → Some a ≡ Some b → a ≡ b
one_refusal a b is = cc

one_holds : (cs : List Condition) (answered : Refusal) → first_refusal cs ≡ Some answered
    → (c : Condition) × IsIn c cs × (c.holds ≡ true) × (c.refusal ≡ answered)
one_holds [] answered is = absurd (cc)
one_holds (c ∷ cs) answered is = by c.holds refl is (one_holds cs answered)
  where
    by : (b : Bool) → c.holds ≡ b → cond b (Some c.refusal) (first_refusal cs) ≡ Some answered
        → (first_refusal cs ≡ Some answered → (d : Condition) × IsIn d cs × (d.holds ≡ true) × (d.refusal ≡ answered))
        → (d : Condition) × IsIn d (c ∷ cs) × (d.holds ≡ true) × (d.refusal ≡ answered)
    by true holds is behind = (c, inl refl, holds, one_refusal c.refusal answered is)
    by false holds is behind =
        let (d, later, due, same) = behind is in
        (d, inr later, due, same)

pub answered_holds : (command : Command) (state : State) (answered : Refusal) → first_refusal (conditions command state) ≡ Some answered
    → (c : Condition) × Contains (conditions command state) c × (c.holds ≡ true) × (c.refusal ≡ answered)
answered_holds command state answered is =
    let (c, here, due, same) = one_holds (conditions command state) answered is in
    (c, Contains-from_IsIn (conditions command state) c here, due, same)
