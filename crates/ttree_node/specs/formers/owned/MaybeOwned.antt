-- `MaybeOwned` as a type that may contain the type that contains it.
use Rattle.std.specs.Prelude.{◌≡◌, Option, None, Some}
use mathlib.Core.Path.{refl, ap}
use mathlib.Core.Logic.{◌⊎◌, inl, inr}
use mathlib.Core.Former.{Former, this, const, pair, or, via}
use base.Stored.{Gv, gcons, gnum}
use base.Fraction.{full_share}
use base.Fml.{Fml, fsep}
use mir.Raw.{raw}
use mir.Syntax.{Ty}
use denote.RattleType.{RattleType}
use denote.Memory.{lone}
use denote.RawPtr.{Ptr, null_ptr}
use denote.Sharing.{beside}
use denote.Struct.Struct.{Struct}
use denote.Struct.Owning.{shape, to}
use denote.HoleLaws.{Alike}
use denote.HolePlaces.{Recodes}
use denote.Param.Weighed.{Weighed, w_const, w_pair, w_or}
use Rattle.std.specs.Coded.{coded_option}
use Rattle.std.specs.Vec.Recursive.{lies_placed, lent_at_placed}
use Rattle.std.specs.declared.alloc.Allocator.{Ghosts}
use Rattle.ttree_node.specs.Block.{maybe_owns, maybe_lends}
use Rattle.ttree_node.specs.declared.owned.MaybeOwned.{MaybeOwned}
use Rattle.ttree_node.specs.contracts.owned.MaybeOwned as C

abbrev cases : {X : Type 0} → Option X → Unit {0} ⊎ X
cases None = inl tt
cases (Some x) = inr x

abbrev option : {X : Type 0} → Unit {0} ⊎ X → Option X
option (inl _) = None
option (inr x) = Some x

pub option_cases : {X : Type 0} (o : Option X) → option (cases o) ≡ o
option_cases None = refl
option_cases (Some x) = refl

pub cases_option : {X : Type 0} (s : Unit {0} ⊎ X) → cases (option s) ≡ s
cases_option (inl _) = refl
cases_option (inr x) = refl

abbrev split : {X Z : Type 0} → MaybeOwned X Z → (Ptr × Z) × (Unit {0} ⊎ X)
split d = ((d.at, d.alloc), cases d.value)

abbrev join : {X Z : Type 0} → (Ptr × Z) × (Unit {0} ⊎ X) → MaybeOwned X Z
join v = record { at = v.0.0; alloc = v.0.1; value = option v.1 }

abbrev pub the_former : Former {0} → Type 0 → Former {0}
the_former g Z = via (pair (const (Ptr × Z)) (or (const (Unit {0})) g)) (λ X. MaybeOwned (g.Of X) Z) (λ X d. split d) (λ X v. join v)
    (λ X d i. record { at = d.at; alloc = d.alloc; value = option_cases d.value i }) (λ X v i. (v.0, cases_option v.1 i))

abbrev pub the_weighed : {g : Former {0}} → Weighed g → (Z : Type 0) → Weighed (the_former g Z)
the_weighed w Z =
    let v = w_pair (w_const (Ptr × Z)) (w_or (w_const (Unit {0})) w) in
    record { weight = λ X μ d. v.weight X μ (split d); puts = λ X μ d. v.puts X μ (split d) }

pub the_empty : (Z : Type 0) → Z → MaybeOwned ⊥ Z
the_empty Z a = record { at = null_ptr; alloc = a; value = None }

module _ (R R' : RattleType) (h : R.Denot → R'.Denot) where
  abbrev over : Option R.Denot → Option R'.Denot
  over None = None
  over (Some x) = Some (h x)

  owns_placed : Alike R R' h → (t : Ty → Ptr → Fml) (p : Ptr) (o : Option R.Denot)
      → maybe_owns t R' p ((the_former this (Unit {0})).map R.Denot R'.Denot h (record { at = p; alloc = tt; value = o })).value ≡ maybe_owns t R p o
  owns_placed a t p None = refl
  owns_placed a t p (Some x) = λ i. fsep (lies_placed R R' h a full_share p x i) (t (raw (lone (a.mir_same i))) p)

  lends_placed : Alike R R' h → (p : Ptr) (o : Option R.Denot)
      → maybe_lends R' p ((the_former this (Unit {0})).map R.Denot R'.Denot h (record { at = p; alloc = tt; value = o })).value ≡ maybe_lends R p o
  lends_placed a p None = refl
  lends_placed a p (Some x) = lent_at_placed R R' h a p x

  codes_placed : Recodes R R' h → (p : Ptr) (o : Option R.Denot)
      → (coded_option R'.coded).code ((the_former this (Unit {0})).map R.Denot R'.Denot h (record { at = p; alloc = tt; value = o })).value
      ≡ (coded_option R.coded).code o
  codes_placed e p None = refl
  codes_placed e p (Some x) = ap (λ (c : Gv). gcons (gnum 1) c) (e x)

first : {a b c : Gv} → a ≡ b → gcons a c ≡ gcons b c
first {c = c} e = λ i. gcons (e i) c

second : {a b c : Gv} → a ≡ b → gcons c a ≡ gcons c b
second {c = c} e = λ i. gcons c (e i)

module _ (A : RattleType) (G : Ghosts A.Denot) (R R' : RattleType) (h : R.Denot → R'.Denot) where
  pub the_places : Alike R R' h → Alike (C.the_row R A G) (C.the_row R' A G) ((the_former this A.Denot).map R.Denot R'.Denot h)
  the_places a = record {
    mir_same = refl;
    own_same = λ d i vs. fsep ((Struct (shape (C.the_type R A G))).own_val (to (C.the_type R A G) d) vs)
        (owns_placed R R' h a (G.dealloc_token d.alloc) d.at d.value i);
    shr_same = λ d i b o. beside ((Struct (shape (C.the_type R A G))).shr_at (to (C.the_type R A G) d) b o) (lends_placed R R' h a d.at d.value i);
  }

  pub the_codes_placed : Recodes R R' h → Recodes (C.the_row R A G) (C.the_row R' A G) ((the_former this A.Denot).map R.Denot R'.Denot h)
  the_codes_placed e d = second (first (codes_placed R R' h e d.at d.value))
