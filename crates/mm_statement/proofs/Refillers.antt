-- Literals and parts with new values in their holes, combined.
use Rattle.std.proofs.Common.{◌≡◌, ◌<◌, ◌≤◌, ◌+◌, arith, ℕ, Bool, true, false, List, [], ◌∷◌, ◌++◌, Result, Ok, Err, OnOk}
use Rattle.std.proofs.Common.{length, map, take, drop, get_or, set, refl, sym, ap, ◌∙◌, subst}
use Rattle.std.proofs.Common.{append_assoc, append-nil}
use Rattle.std.specs.List.{flat_map}
use Rattle.std.specs.Option.{option_or}
use Rattle.std.proofs.lemmas.List.{drop-set-lt, length-drop, map-append, take_all, take_more_set}
use Rattle.mm_value.specs.Types.{type_of}
use Rattle.mm_value.specs.declared.values.Value.{Value}
use Rattle.mm_query.specs.declared.atom.Assignment.{Assignment}
use Rattle.mm_query.specs.declared.atom.Atom.{Atom}
use Rattle.mm_query.specs.declared.atom.Operand.{Operand}
use Rattle.mm_query.specs.declared.bind.BoundChange.TheVariants as bound
use Rattle.mm_query.specs.declared.bound_query.FieldPlace.{FieldPlace}
use Rattle.mm_lang.specs.Reading.{first_fault, operand_literals, test_literals}
use Rattle.mm_statement.specs.Alike.{blank_bound_change, bound_change_literals}
use Rattle.mm_statement.specs.Filling.{blank_assignment, blank_atom, blank_operand, blank_value}
use Rattle.mm_statement.specs.Holes.{HolePlaces}
use Rattle.mm_statement.specs.Refilling.{Refills, left_over, refilled}
use Rattle.mm_statement.specs.declared.refiller.Refiller.{Refiller}
use Rattle.mm_statement.specs.steps.Refills.{Puts, RefillsPart, RefillsUpTo, left_by, refilled_by, source_literals}
use Rattle.mm_statement.proofs.Fills.{blank_behind, from_here, one_behind, one_read}
use Rattle.mm_lang.proofs.Readings.{fault-append, or_none_parts}

-- ---- nothing remains

refilled_no_literals : (holes minus_ones : List Bool) (values : List Value) → refilled holes minus_ones values [] ≡ []
refilled_no_literals [] minus_ones values = refl
refilled_no_literals (true ∷ holes) [] values = refl
refilled_no_literals (true ∷ holes) (m ∷ minus_ones) [] = refl
refilled_no_literals (true ∷ holes) (m ∷ minus_ones) (v ∷ values) = refl
refilled_no_literals (false ∷ holes) [] values = refl
refilled_no_literals (false ∷ holes) (m ∷ minus_ones) values = refl

left_over_no_literals : (holes : List Bool) (values : List Value) → left_over holes values [] ≡ values
left_over_no_literals [] values = refl
left_over_no_literals (true ∷ holes) [] = refl
left_over_no_literals (true ∷ holes) (v ∷ values) = refl
left_over_no_literals (false ∷ holes) values = refl

-- A property that holds if a call succeeds.
pub then_done : {X E P Q : Type 0} (result : Result X E) → (P → Q) → OnOk result P → OnOk result Q
then_done (Ok x) follows h = follows h
then_done (Err e) follows h = tt

-- ---- literals after others

pub puts_none : (old : Refiller) → Puts old old [] []
puts_none old = record { types = refl; behind = λ rest. refl; used = λ rest. refl; within = λ h. h }

pub puts_both : (old mid new : Refiller) (a b x y : List Value) → Puts old mid a x → Puts mid new b y → Puts old new (a ++ b) (x ++ y)
puts_both old mid new a b x y f g = record {
  types = map-append type_of x y ∙ (λ i. f.types i ++ g.types i) ∙ sym (map-append type_of a b);
  behind =
      λ rest. ap (refilled_by old) (append_assoc a b rest) ∙ f.behind (b ++ rest) ∙ ap (λ l. x ++ l) (g.behind rest)
      ∙ sym (append_assoc x y (refilled_by new rest));
  used = λ rest. ap (left_by old) (append_assoc a b rest) ∙ f.used (b ++ rest) ∙ g.used rest;
  within =
      λ h. let parts = or_none_parts (first_fault a) (first_fault b) (sym (fault-append a b) ∙ h) in
      fault-append x y ∙ λ i. option_or (f.within parts.0 i) (g.within parts.1 i);
}

-- ---- atoms and assignments

pub atom_refilled : {C : Type 0} (old new : Refiller) (atom : Atom C) (filled : Operand C)
    → RefillsPart blank_operand operand_literals old new atom.right filled
    → RefillsPart blank_atom test_literals old new atom (record { left = atom.left; comparison = atom.comparison; right = filled })
atom_refilled old new atom filled f = record {
  same = ap (λ o. record { left = atom.left; comparison = atom.comparison; right = o }) f.same;
  puts = f.puts;
}

pub assignment_refilled : {C : Type 0} (old new : Refiller) (assignment : Assignment C) (filled : Operand C)
    → RefillsPart blank_operand operand_literals old new assignment.source filled
    → RefillsPart blank_assignment source_literals old new assignment (record { column = assignment.column; source = filled })
assignment_refilled old new assignment filled f = record {
  same = ap (λ o. record { column = assignment.column; source = o }) f.same;
  puts = f.puts;
}

-- ---- lists

module _ {A : Type 0} (blank : A → A) (literals : A → List Value) where
  pub none_refilled : (old : Refiller) → RefillsPart (map blank) (flat_map literals) old old [] []
  none_refilled old = record { same = refl; puts = puts_none old }

  -- One more part has its value.
  pub next_refilled : (old mid new : Refiller) (xs ys : List A) (x y : A) → RefillsPart (map blank) (flat_map literals) old mid xs ys
      → RefillsPart blank literals mid new x y → RefillsPart (map blank) (flat_map literals) old new (xs ++ x ∷ []) (ys ++ y ∷ [])
  next_refilled old mid new xs ys x y f g = record {
    same = blank_behind blank literals ys xs y x f.same g.same;
    puts =
        subst (λ l. Puts old new l (flat_map literals (ys ++ y ∷ []))) (sym (one_behind blank literals xs x))
        (subst (λ l. Puts old new (flat_map literals xs ++ literals x) l) (sym (one_behind blank literals ys y))
        (puts_both old mid new (flat_map literals xs) (literals x) (flat_map literals ys) (literals y) f.puts g.puts));
  }

  -- An element that was not reached yet is unchanged.
  pub still_there : (first now : List A) (i : ℕ) → i < length first → drop i now ≡ drop i first → i < length now
  still_there first now i here left =
      let same = ap length left in
      let a = length-drop i first in
      let b = length-drop i now in
      omega arith

  module _ (old : Refiller) (first : List A) where
    pub up_to_none : (parts : List A) → parts ≡ first → RefillsUpTo blank literals old old first parts 0
    up_to_none parts same = record { refills = none_refilled old; left = ap (drop 0) same }

    -- One more part has its value in place, ..
    pub up_to_next : (mid new : Refiller) (now : List A) (i : ℕ) (x y : A) → i < length first → i < length now
        → RefillsUpTo blank literals old mid first now i → x ≡ get_or now i x → RefillsPart blank literals mid new x y
        → RefillsUpTo blank literals old new first (set now i y) (i + 1)
    up_to_next mid new now i x y here there h is f =
        let same = from_here first now i x here there h.left in
        record {
          refills =
              subst (λ l. RefillsPart (map blank) (flat_map literals) old new (take (i + 1) first) l) (sym (take_more_set now i y there))
              (subst (λ l. RefillsPart (map blank) (flat_map literals) old new l (take i now ++ y ∷ []))
              (sym (one_read first i x here (is ∙ same.0)))
              (next_refilled old mid new (take i first) (take i now) x y h.refills f));
          left = drop-set-lt (i + 1) now i y (omega arith) ∙ same.1;
        }

    -- .. or has no hole, and is unchanged.
    pub up_to_kept : (mid new : Refiller) (now : List A) (i : ℕ) (x : A) → i < length first → i < length now
        → RefillsUpTo blank literals old mid first now i → x ≡ get_or now i x → RefillsPart blank literals mid new x x
        → RefillsUpTo blank literals old new first now (i + 1)
    up_to_kept mid new now i x here there h is f =
        let same = from_here first now i x here there h.left in
        record {
          refills =
              subst (λ l. RefillsPart (map blank) (flat_map literals) old new (take (i + 1) first) l) (sym (one_read now i x there is))
              (subst (λ l. RefillsPart (map blank) (flat_map literals) old new l (take i now ++ x ∷ []))
              (sym (one_read first i x here (is ∙ same.0)))
              (next_refilled old mid new (take i first) (take i now) x x h.refills f));
          left = same.1;
        }

    pub up_to_end : (new : Refiller) (now : List A) (i : ℕ) → length first ≤ i → RefillsUpTo blank literals old new first now i
        → RefillsPart (map blank) (flat_map literals) old new first now
    up_to_end new now i here h =
        let same = ap length h.left in
        let a = length-drop i first in
        let b = length-drop i now in
        let there : length now ≤ i = omega arith in
        subst (λ l. RefillsPart (map blank) (flat_map literals) old new first l) (take_all i now there)
        (subst (λ l. RefillsPart (map blank) (flat_map literals) old new l (take i now)) (take_all i first here) h.refills)

-- ---- rows

pub row_next : (old mid new : Refiller) (xs ys : List Value) (x y : Value) → RefillsPart (map blank_value) (λ (t : List Value). t) old mid xs ys
    → Puts mid new (x ∷ []) (y ∷ []) → RefillsPart (map blank_value) (λ (t : List Value). t) old new (xs ++ x ∷ []) (ys ++ y ∷ [])
row_next old mid new xs ys x y f g = record {
  same = blank_behind blank_value (λ (v : Value). v ∷ []) ys xs y x f.same refl;
  puts = puts_both old mid new xs (x ∷ []) ys (y ∷ []) f.puts g;
}

-- ---- whole commands

module _ (holes : HolePlaces) (values : List Value) (old new : Refiller) (holes_are : old.holes.now ≡ holes.are_holes)
    (minus_ones_are : old.minus_ones.now ≡ holes.are_minus_one) (values_are : old.values.now ≡ values) (spent : new.values.now ≡ []) where
  pub whole_refilled : {B : Type 0} (blank : B → B) (literals : B → List Value) (part filled : B) → RefillsPart blank literals old new part filled
      → Refills blank literals holes values part filled
  whole_refilled blank literals part filled f = record {
    same = f.same;
    types = f.puts.types;
    literals =
        sym (append-nil (literals filled))
        ∙ ap (λ l. literals filled ++ l) (sym (refilled_no_literals new.holes.now new.minus_ones.now new.values.now))
        ∙ sym (f.puts.behind [])
        ∙ ap (refilled_by old) (append-nil (literals part))
        ∙ λ i. refilled (holes_are i) (minus_ones_are i) (values_are i) (literals part);
    used =
        (λ i. left_over (sym holes_are i) (sym values_are i) (literals part))
        ∙ ap (left_by old) (sym (append-nil (literals part)))
        ∙ f.puts.used []
        ∙ left_over_no_literals new.holes.now new.values.now
        ∙ spent;
    within = f.puts.within;
  }

  pub update_refilled : (mid : Refiller) (table : ℕ) (assignments sets : List (Assignment ℕ)) (tests asked : List (Atom FieldPlace))
      → RefillsPart (map blank_assignment) (flat_map source_literals) old mid assignments sets
      → RefillsPart (map blank_atom) (flat_map test_literals) mid new tests asked
      → Refills blank_bound_change bound_change_literals holes values (bound.Update table assignments tests) (bound.Update table sets asked)
  update_refilled mid table assignments sets tests asked f g =
      whole_refilled blank_bound_change bound_change_literals (bound.Update table assignments tests) (bound.Update table sets asked)
      (record {
        same = λ i. bound.Update table (f.same i) (g.same i);
        puts =
            puts_both old mid new (flat_map source_literals assignments) (flat_map test_literals tests)
            (flat_map source_literals sets) (flat_map test_literals asked) f.puts g.puts;
      })
