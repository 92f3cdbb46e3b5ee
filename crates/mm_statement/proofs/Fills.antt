-- Filled parts, combined.
use Rattle.std.proofs.Common.{◌≡◌, ◌<◌, ◌+◌, ℕ, suc, List, [], ◌∷◌, ◌++◌, Option, Some, None}
use Rattle.std.proofs.Common.{Err, length, map, take, drop, get_or, refl, sym, ap, ◌∙◌}
use Rattle.std.proofs.Common.{inl, inr, subst, append_assoc, append-nil}
use Rattle.std.specs.List.{flat_map}
use Rattle.std.specs.Option.{option_or, unwrap_or}
use Rattle.std.proofs.Math.IntN.{ℤ}
use Rattle.std.proofs.lemmas.List.{drop_more, take-append-drop, take_more}
use Rattle.std.proofs.lemmas.List.Concat.{flat_map-append}
use Rattle.mm_value.specs.Types.{type_of}
use Rattle.mm_value.specs.declared.refusal.Refusal.{Refusal}
use Rattle.mm_value.specs.declared.values.Value.{Value}
use Rattle.mm_value.specs.declared.values.Value.TheVariants.{Int, Text}
use Rattle.mm_query.specs.declared.atom.Assignment.{Assignment}
use Rattle.mm_query.specs.declared.atom.Atom.{Atom}
use Rattle.mm_query.specs.declared.atom.Operand.{Operand}
use Rattle.mm_query.specs.declared.atom.Operand.TheVariants.{Literal, Shifted}
use Rattle.mm_lang.specs.Reading.{first_fault, literal_fault, operand_literals, test_literals}
use Rattle.mm_statement.specs.Filling.{blank_assignment, blank_atom, blank_operand, blank_value}
use Rattle.mm_statement.specs.declared.filler.Filler.{Filler}
use Rattle.mm_statement.specs.steps.Counts.{IsCounted}
use Rattle.mm_statement.specs.steps.Fills.{Fills, FillsPart, Goes, IsUnfillable, Replaces, blank_number, fault_of, filled_by}
use Rattle.mm_statement.specs.steps.Fills.{number_of, only_number, only_value}
use Rattle.mm_statement.proofs.Shapes.{same_parts}
use Rattle.mm_lang.proofs.Readings.{or_assoc, fault-append, or_none_parts, or_none}

-- If a part cannot be filled, neither can the whole; a failed allocation remains one.
pub stuck_with : {A B : Type 0} (blank : A → A) (literals : A → List Value) (blank' : B → B) (literals' : B → List Value) (old mid new newer : Filler)
    (part : A) (whole : B) (refusal : Refusal) → (IsUnfillable blank literals mid part → IsUnfillable blank' literals' old whole)
    → FillsPart blank literals mid new part (Err refusal) → FillsPart blank' literals' old newer whole (Err refusal)
stuck_with blank literals blank' literals' old mid new newer part whole refusal carry (inl syntax) = inl (syntax.0, carry syntax.1)
stuck_with blank literals blank' literals' old mid new newer part whole refusal carry (inr memory) = inr memory

-- Without literals nothing is filled.
pub fills_nothing : {A : Type 0} (blank : A → A) (literals : A → List Value) (old : Filler) (part : A) → literals part ≡ []
    → Fills blank literals old old part part
fills_nothing blank literals old part none = record {
  meant = part;
  same = refl;
  behind = λ rest. ap (λ l. filled_by old (l ++ rest)) none ∙ ap (λ l. l ++ filled_by old rest) (sym none);
  fault = sym (or_none (fault_of old)) ∙ ap (λ l. option_or (fault_of old) (first_fault l)) (sym none);
  kept = λ free. refl;
}

-- ---- values, numbers and operands

only_fault : (old new : Filler) (v : Value) → fault_of new ≡ option_or (fault_of old) (literal_fault v)
    → fault_of new ≡ option_or (fault_of old) (first_fault (v ∷ []))
only_fault old new v fault = fault ∙ ap (option_or (fault_of old)) (sym (or_none (literal_fault v)))

pub fills_value : (old new : Filler) (literal : Value) (value : Option Value) (filled : Value) → Replaces old new literal value
    → filled ≡ unwrap_or value literal → Fills blank_value only_value old new literal filled
fills_value old new literal value filled r is = record {
  meant = r.meant;
  same = refl;
  behind = λ rest. r.behind rest;
  fault = only_fault old new r.meant r.fault;
  kept = λ free. is ∙ r.kept free;
}

number_by : (old new : Filler) (number given : ℤ) (m : Value) → ((rest : List Value) → filled_by old (Int number ∷ rest) ≡ m ∷ filled_by new rest)
    → fault_of new ≡ option_or (fault_of old) (literal_fault m) → (fault_of new ≡ None → Int given ≡ m) → type_of (Int given) ≡ type_of m
    → Fills blank_number only_number old new number given
number_by old new number given (Int z) behind fault kept types = record {
  meant = z;
  same = refl;
  behind = λ rest. behind rest;
  fault = only_fault old new (Int z) fault;
  kept = λ free. let h = kept free in cc;
}
number_by old new number given (Text text) behind fault kept types = absurd (cc)

number_is : (value : Value) (number : ℤ) → Some number ≡ number_of value → value ≡ Int number
number_is (Int z) number h = cc
number_is (Text text) number h = absurd (cc)

pub fills_number : (old new : Filler) (number given : ℤ) (literal taken : Value) (value : Option Value) → literal ≡ Int number → Replaces old new literal value
    → taken ≡ unwrap_or value literal → Some given ≡ number_of taken → Fills blank_number only_number old new number given
fills_number old new number given literal taken value literal_is replaces taken_is given_is =
    let r = subst (λ l. Replaces old new l value) literal_is replaces in
    let is : unwrap_or value (Int number) ≡ Int given = ap (unwrap_or value) (sym literal_is) ∙ sym taken_is ∙ number_is taken given given_is in
    number_by old new number given r.meant r.behind r.fault (λ free. sym is ∙ r.kept free) (ap type_of (sym is) ∙ r.types)

no_number : (value : Value) (number : ℤ) → None ≡ number_of value → type_of value ≡ type_of (Int number) → ⊥
no_number (Int z) number none types = cc
no_number (Text text) number none types = cc

pub text_for_number : (old new : Filler) (number : ℤ) (literal taken : Value) (value : Option Value) → literal ≡ Int number → Replaces old new literal value
    → taken ≡ unwrap_or value literal → None ≡ number_of taken → IsUnfillable blank_number only_number old number
text_for_number old new number literal taken value literal_is replaces taken_is none meant rest tail same h =
    let r = subst (λ l. Replaces old new l value) literal_is replaces in
    let met : r.meant ∷ filled_by new rest ≡ Int meant ∷ tail = sym (r.behind rest) ∙ h in
    let head : r.meant ≡ Int meant = cc in
    no_number taken meant none (ap type_of (taken_is ∙ ap (unwrap_or value) literal_is) ∙ r.types ∙ ap type_of head)

module _ {C : Type 0} where
  pub operand_literal : (old new : Filler) (literal filled : Value) → Fills blank_value only_value old new literal filled
      → Fills (blank_operand {F = C}) operand_literals old new (Literal literal) (Literal filled)
  operand_literal old new literal filled f = record {
    meant = Literal f.meant;
    same = refl;
    behind = λ rest. f.behind rest;
    fault = f.fault;
    kept = λ free. ap Literal (f.kept free);
  }

  pub operand_shift : (old new : Filler) (column : C) (number filled : ℤ) → Fills blank_number only_number old new number filled
      → Fills (blank_operand {F = C}) operand_literals old new (Shifted column number) (Shifted column filled)
  operand_shift old new column number filled f = record {
    meant = Shifted column f.meant;
    same = refl;
    behind = λ rest. f.behind rest;
    fault = f.fault;
    kept = λ free. ap (Shifted column) (f.kept free);
  }

  pub shift_stuck : (old : Filler) (column : C) (number : ℤ) → IsUnfillable blank_number only_number old number
      → IsUnfillable (blank_operand {F = C}) operand_literals old (Shifted column number)
  shift_stuck old column number stuck (Shifted other by) rest tail same h = stuck by rest tail refl h
  shift_stuck old column number stuck _ rest tail same h = absurd (cc)

  pub atom_filled : (old new : Filler) (atom : Atom C) (filled : Operand C) → Fills blank_operand operand_literals old new atom.right filled
      → Fills blank_atom test_literals old new atom (record { left = atom.left; comparison = atom.comparison; right = filled })
  atom_filled old new atom filled f = record {
    meant = record { left = atom.left; comparison = atom.comparison; right = f.meant };
    same = ap (λ o. record { left = atom.left; comparison = atom.comparison; right = o }) f.same;
    behind = λ rest. f.behind rest;
    fault = f.fault;
    kept = λ free. ap (λ o. record { left = atom.left; comparison = atom.comparison; right = o }) (f.kept free);
  }

  pub assignment_filled : (old new : Filler) (assignment : Assignment C) (filled : Operand C)
      → Fills blank_operand operand_literals old new assignment.source filled
      → Fills blank_assignment (λ a. operand_literals a.source) old new assignment (record { column = assignment.column; source = filled })
  assignment_filled old new assignment filled f = record {
    meant = record { column = assignment.column; source = f.meant };
    same = ap (λ o. record { column = assignment.column; source = o }) f.same;
    behind = λ rest. f.behind rest;
    fault = f.fault;
    kept = λ free. ap (λ o. record { column = assignment.column; source = o }) (f.kept free);
  }

-- ---- one part after another

module _ (old mid new : Filler) (a b x y : List Value) (first : (rest : List Value) → filled_by old (a ++ rest) ≡ x ++ filled_by mid rest)
    (second : (rest : List Value) → filled_by mid (b ++ rest) ≡ y ++ filled_by new rest) (fault : fault_of mid ≡ option_or (fault_of old) (first_fault x))
    (next : fault_of new ≡ option_or (fault_of mid) (first_fault y)) where
  pub behind_both : (rest : List Value) → filled_by old ((a ++ b) ++ rest) ≡ (x ++ y) ++ filled_by new rest
  behind_both rest =
      ap (filled_by old) (append_assoc a b rest) ∙ first (b ++ rest) ∙ ap (λ l. x ++ l) (second rest) ∙ sym (append_assoc x y (filled_by new rest))

  pub fault_both : fault_of new ≡ option_or (fault_of old) (first_fault (x ++ y))
  fault_both =
      next ∙ ap (λ f. option_or f (first_fault y)) fault ∙ sym (or_assoc (fault_of old) (first_fault x) (first_fault y))
      ∙ ap (option_or (fault_of old)) (sym (fault-append x y))

-- Without a fault at the end there was none before.
pub free_before : (mid new : Filler) (v : List Value) → fault_of new ≡ option_or (fault_of mid) (first_fault v) → fault_of new ≡ None → fault_of mid ≡ None
free_before mid new v fault free = (or_none_parts (fault_of mid) (first_fault v) (sym fault ∙ free)).0

-- ---- lists

module _ {A : Type 0} (blank : A → A) (literals : A → List Value) where
  pub one_behind : (xs : List A) (x : A) → flat_map literals (xs ++ x ∷ []) ≡ flat_map literals xs ++ literals x
  one_behind xs x = flat_map-append literals xs (x ∷ []) ∙ ap (λ l. flat_map literals xs ++ l) (append-nil (literals x))

  pub blank_behind : (xs ys : List A) (x y : A) → map blank xs ≡ map blank ys → blank x ≡ blank y → map blank (xs ++ x ∷ []) ≡ map blank (ys ++ y ∷ [])
  blank_behind [] [] x y h here = λ i. here i ∷ []
  blank_behind [] (b ∷ ys) x y h here = absurd (cc)
  blank_behind (a ∷ xs) [] x y h here = absurd (cc)
  blank_behind (a ∷ xs) (b ∷ ys) x y h here =
      let first : blank a ≡ blank b = cc in
      let others : map blank xs ≡ map blank ys = cc in
      λ i. first i ∷ blank_behind xs ys x y others here i

  pub fills_none : (old : Filler) → Fills (map blank) (flat_map literals) old old [] []
  fills_none old = fills_nothing (map blank) (flat_map literals) old [] refl

  -- One more part was filled.
  pub fills_next : (old mid new : Filler) (xs ys : List A) (x y : A) → Fills (map blank) (flat_map literals) old mid xs ys → Fills blank literals mid new x y
      → Fills (map blank) (flat_map literals) old new (xs ++ x ∷ []) (ys ++ y ∷ [])
  fills_next old mid new xs ys x y f g =
      let meant = one_behind f.meant g.meant in
      record {
        meant = f.meant ++ g.meant ∷ [];
        same = blank_behind f.meant xs g.meant x f.same g.same;
        behind =
            λ rest. ap (λ l. filled_by old (l ++ rest)) (one_behind xs x)
            ∙ behind_both old mid new (flat_map literals xs) (literals x) (flat_map literals f.meant) (literals g.meant) f.behind g.behind f.fault g.fault rest
            ∙ ap (λ l. l ++ filled_by new rest) (sym meant);
        fault =
            fault_both old mid new (flat_map literals xs) (literals x) (flat_map literals f.meant) (literals g.meant) f.behind g.behind f.fault g.fault
            ∙ ap (λ l. option_or (fault_of old) (first_fault l)) (sym meant);
        kept = λ free. λ i. f.kept (free_before mid new (literals g.meant) g.fault free) i ++ g.kept free i ∷ [];
      }

  stuck_behind : IsCounted blank literals → (mid : Filler) (x : A) → IsUnfillable blank literals mid x → (ns ms zs : List A) (more tail : List Value)
      → map blank ms ≡ map blank (ns ++ x ∷ zs) → flat_map literals ns ++ filled_by mid (literals x ++ more) ≡ flat_map literals ms ++ tail → ⊥
  stuck_behind counted mid x stuck [] [] zs more tail shape h = absurd (cc)
  stuck_behind counted mid x stuck [] (m ∷ ms) zs more tail shape h =
      let here : blank m ≡ blank x = cc in
      stuck m more (flat_map literals ms ++ tail) here (h ∙ append_assoc (literals m) (flat_map literals ms) tail)
  stuck_behind counted mid x stuck (n ∷ ns) [] zs more tail shape h = absurd (cc)
  stuck_behind counted mid x stuck (n ∷ ns) (m ∷ ms) zs more tail shape h =
      let here : blank m ≡ blank n = cc in
      let others : map blank ms ≡ map blank (ns ++ x ∷ zs) = cc in
      let parts =
      same_parts (literals n) (literals m) (flat_map literals ns ++ filled_by mid (literals x ++ more)) (flat_map literals ms ++ tail)
      (sym (counted m n here))
      (sym (append_assoc (literals n) (flat_map literals ns) (filled_by mid (literals x ++ more))) ∙ h
      ∙ append_assoc (literals m) (flat_map literals ms) tail) in
      stuck_behind counted mid x stuck ns ms zs more tail others parts.1

  blank_append : (xs ns zs : List A) → map blank ns ≡ map blank xs → map blank (xs ++ zs) ≡ map blank (ns ++ zs)
  blank_append [] [] zs h = refl
  blank_append [] (n ∷ ns) zs h = absurd (cc)
  blank_append (x ∷ xs) [] zs h = absurd (cc)
  blank_append (x ∷ xs) (n ∷ ns) zs h =
      let here : blank n ≡ blank x = cc in
      let others : map blank ns ≡ map blank xs = cc in
      λ i. sym here i ∷ blank_append xs ns zs others i

  -- If one part cannot be filled, neither can the list.
  pub list_stuck : IsCounted blank literals → (old mid : Filler) (xs ys zs : List A) (x : A) → Fills (map blank) (flat_map literals) old mid xs ys
      → IsUnfillable blank literals mid x → IsUnfillable (map blank) (flat_map literals) old (xs ++ x ∷ zs)
  list_stuck counted old mid xs ys zs x f stuck meant rest tail shape h =
      stuck_behind counted mid x stuck f.meant meant zs (flat_map literals zs ++ rest) tail (shape ∙ blank_append xs f.meant (x ∷ zs) f.same)
      (sym (f.behind (literals x ++ (flat_map literals zs ++ rest)))
      ∙ ap (filled_by old)
      (ap (λ l. flat_map literals xs ++ l) (sym (append_assoc (literals x) (flat_map literals zs) rest))
      ∙ sym (append_assoc (flat_map literals xs) (flat_map literals (x ∷ zs)) rest)
      ∙ ap (λ l. l ++ rest) (sym (flat_map-append literals xs (x ∷ zs))))
      ∙ h)

  -- ---- a loop over a list

  pub goes_next : (old now new : Filler) (parts filled more left rest : List A) (x y : A) → Goes blank literals old now parts filled left → left ≡ x ∷ rest
      → Fills blank literals now new x y → more ≡ filled ++ y ∷ [] → Goes blank literals old new parts more rest
  goes_next old now new parts filled more left rest x y g first f pushed = record {
    done = g.done ++ x ∷ [];
    split = g.split ∙ ap (λ l. g.done ++ l) first ∙ sym (append_assoc g.done (x ∷ []) rest);
    fills =
        subst (λ l. Fills (map blank) (flat_map literals) old new (g.done ++ x ∷ []) l) (sym pushed)
        (fills_next old now new g.done filled x y g.fills f);
  }

  pub goes_stuck : IsCounted blank literals → (old now : Filler) (parts filled left rest : List A) (x : A) → Goes blank literals old now parts filled left
      → left ≡ x ∷ rest → IsUnfillable blank literals now x → IsUnfillable (map blank) (flat_map literals) old parts
  goes_stuck counted old now parts filled left rest x g first stuck =
      subst (IsUnfillable (map blank) (flat_map literals) old) (sym (g.split ∙ ap (λ l. g.done ++ l) first))
      (list_stuck counted old now g.done filled rest x g.fills stuck)

  one_left : (parts rest : List A) (x : A) → parts ≡ x ∷ rest → length parts ≡ 1 → parts ≡ x ∷ []
  one_left parts [] x split one = split
  one_left parts (y ∷ rest) x split one = let two : length parts ≡ suc (suc (length rest)) = ap length split in absurd (cc)

  pub fills_only : (old new : Filler) (parts rest : List A) (x y : A) → parts ≡ x ∷ rest → length parts ≡ 1 → Fills blank literals old new x y
      → Fills (map blank) (flat_map literals) old new parts (y ∷ [])
  fills_only old new parts rest x y split one f =
      subst (λ l. Fills (map blank) (flat_map literals) old new l (y ∷ [])) (sym (one_left parts rest x split one))
      (fills_next old old new [] [] x y (fills_none old) f)

-- ---- tuples

pub tuple_next : (old mid new : Filler) (xs ys : List Value) (x y : Value) → Fills (map blank_value) (λ (t : List Value). t) old mid xs ys
    → Fills blank_value only_value mid new x y → Fills (map blank_value) (λ (t : List Value). t) old new (xs ++ x ∷ []) (ys ++ y ∷ [])
tuple_next old mid new xs ys x y f g = record {
  meant = f.meant ++ g.meant ∷ [];
  same = blank_behind blank_value only_value f.meant xs g.meant x f.same refl;
  behind = λ rest. behind_both old mid new xs (x ∷ []) f.meant (g.meant ∷ []) f.behind g.behind f.fault g.fault rest;
  fault = fault_both old mid new xs (x ∷ []) f.meant (g.meant ∷ []) f.behind g.behind f.fault g.fault;
  kept = λ free. λ i. f.kept (free_before mid new (g.meant ∷ []) g.fault free) i ++ g.kept free i ∷ [];
}

-- ---- the elements of a list that were read

pub at_place : {X : Type 0} (xs : List X) (i : ℕ) (d : X) → i < length xs → xs ≡ take i xs ++ get_or xs i d ∷ drop (i + 1) xs
at_place xs i d here = sym (take-append-drop i xs) ∙ ap (λ l. take i xs ++ l) (drop_more xs i d here)

pub one_read : {X : Type 0} (xs : List X) (i : ℕ) (x : X) → i < length xs → x ≡ get_or xs i x → take (i + 1) xs ≡ take i xs ++ x ∷ []
one_read xs i x here is = take_more xs i x here ∙ ap (λ y. take i xs ++ y ∷ []) (sym is)

-- If two lists are equal from a position on, so are the elements there and all later ones.
pub from_here : {X : Type 0} (xs ys : List X) (i : ℕ) (d : X) → i < length xs → i < length ys → drop i ys ≡ drop i xs
    → (get_or ys i d ≡ get_or xs i d) × (drop (i + 1) ys ≡ drop (i + 1) xs)
from_here xs ys i d here there same =
    let both : get_or ys i d ∷ drop (i + 1) ys ≡ get_or xs i d ∷ drop (i + 1) xs =
    sym (drop_more ys i d there) ∙ same ∙ drop_more xs i d here in
    let head : get_or ys i d ≡ get_or xs i d = cc in
    let tail : drop (i + 1) ys ≡ drop (i + 1) xs = cc in
    (head, tail)
