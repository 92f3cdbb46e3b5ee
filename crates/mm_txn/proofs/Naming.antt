-- The refusals of a new standing query by the catalog alone: the first of those of its query and those of its name.
use Rattle.std.proofs.Common.{◌≡◌, ◌||◌, Bool, true, false, cond, Option, Some, None, refl, sym, subst}
use Rattle.mm_value.specs.declared.refusal.Refusal.{Refusal}
use Rattle.mm_value.specs.declared.refusal.Refusal.TheVariants.{AliasTaken, NameTaken, NoSuchAlias, NoSuchColumn, NoSuchTable, TooMany, TypeMismatch}
use Rattle.mm_txn.specs.Rest.{comes_before_name, earlier_refusal}

-- The first refusal of a query.
abbrev pub query_due : (a b c d e f : Bool) → Option Refusal
query_due a b c d e f =
    cond a (Some NoSuchTable) (cond b (Some NoSuchColumn) (cond c (Some AliasTaken)
    (cond d (Some NoSuchAlias) (cond e (Some TypeMismatch) (cond f (Some TooMany) None)))))

-- The first refusal of a name.
abbrev pub name_due : (t m : Bool) → Option Refusal
name_due t m = cond t (Some NameTaken) (cond m (Some TooMany) None)

-- The first refusal of both.
abbrev pub naming_due : (a b c d e f t m : Bool) → Option Refusal
naming_due a b c d e f t m =
    cond a (Some NoSuchTable) (cond b (Some NoSuchColumn)
    (cond t (Some NameTaken) (cond c (Some AliasTaken) (cond d (Some NoSuchAlias) (cond e (Some TypeMismatch) (cond (f || m) (Some TooMany) None))))))

-- ---- a name that is free

free_due : (a b c d e f m : Bool) (r : Refusal) → query_due a b c d e f ≡ Some r → naming_due a b c d e f false m ≡ Some r
free_due true b c d e f m r h = h
free_due false true c d e f m r h = h
free_due false false true d e f m r h = h
free_due false false false true e f m r h = h
free_due false false false false true f m r h = h
free_due false false false false false true m r h = h
free_due false false false false false false m r h = cc

free_earlier : (m : Bool) (r : Refusal) → earlier_refusal r (name_due false m) ≡ r
free_earlier true r = by (comes_before_name r)
  where
    by : (b : Bool) → cond b r r ≡ r
    by true = refl
    by false = refl
free_earlier false r = by (comes_before_name r)
  where
    by : (b : Bool) → cond b r r ≡ r
    by true = refl
    by false = refl

-- ---- a name that is taken

turned : (x r : Refusal) (due : Option Refusal) → Some x ≡ Some r → due ≡ Some (earlier_refusal x (Some NameTaken))
    → due ≡ Some (earlier_refusal r (Some NameTaken))
turned x r due h is = let same : x ≡ r = cc in subst (λ y. due ≡ Some (earlier_refusal y (Some NameTaken))) same is

taken_due : (a b c d e f m : Bool) (r : Refusal) → query_due a b c d e f ≡ Some r
    → naming_due a b c d e f true m ≡ Some (earlier_refusal r (Some NameTaken))
taken_due true b c d e f m r h = turned NoSuchTable r (Some NoSuchTable) h refl
taken_due false true c d e f m r h = turned NoSuchColumn r (Some NoSuchColumn) h refl
taken_due false false true d e f m r h = turned AliasTaken r (Some NameTaken) h refl
taken_due false false false true e f m r h = turned NoSuchAlias r (Some NameTaken) h refl
taken_due false false false false true f m r h = turned TypeMismatch r (Some NameTaken) h refl
taken_due false false false false false true m r h = turned TooMany r (Some NameTaken) h refl
taken_due false false false false false false m r h = cc

-- ---- both

-- If a query is refused, the earlier of its refusal and that of its name is due.
pub refused_due : (a b c d e f t m : Bool) (r : Refusal) → query_due a b c d e f ≡ Some r
    → naming_due a b c d e f t m ≡ Some (earlier_refusal r (name_due t m))
refused_due a b c d e f true m r h = taken_due a b c d e f m r h
refused_due a b c d e f false m r h = subst (λ x. naming_due a b c d e f false m ≡ Some x) (sym (free_earlier m r)) (free_due a b c d e f m r h)

-- If a query is not refused, the refusal of its name is due.
pub granted_due : (a b c d e f t m : Bool) → query_due a b c d e f ≡ None → naming_due a b c d e f t m ≡ name_due t m
granted_due true b c d e f t m h = cc
granted_due false true c d e f t m h = cc
granted_due false false true d e f t m h = cc
granted_due false false false true e f t m h = cc
granted_due false false false false true f t m h = cc
granted_due false false false false false true t m h = cc
granted_due false false false false false false t m h = refl
