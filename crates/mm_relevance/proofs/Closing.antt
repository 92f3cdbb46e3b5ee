-- The steps of the search.
use Rattle.std.proofs.Common.{◌≡◌, ℕ, suc, zero, ◌+◌, ◌-◌, ◌<◌, ◌≤◌, List, [], ◌∷◌, ◌++◌, ℤ, pos, ◌+ℤ◌, Bool, true, false, cond, ◌⊎◌, inl, inr, length-append}
use Rattle.std.proofs.Common.{Option, Some, None, length, map, get_or, refl, sym, ap, subst, ◌∙◌, arith}
use Rattle.std.specs.Prelude.{◌<ℤ◌, IsTrue, ◌↔◌}
use Rattle.std.specs.List.{All, AllByRecursion, Contains}
use Rattle.std.proofs.lemmas.Int.{ints}
use Rattle.std.proofs.lemmas.List.Elements.{All-from_recursion}
use Rattle.mm_relevance.specs.declared.term.Point.{Point}
use Rattle.mm_relevance.specs.declared.edge.Edge.{Edge}
use Rattle.mm_relevance.specs.declared.search.Reach.{Reach}
use Rattle.mm_relevance.specs.Relevance.{IsWalk, total}
use Rattle.mm_relevance.specs.Walks.{point_eq, IsNear}
use Rattle.mm_relevance.specs.Walks.{least, reach_of, rest, reaches_of, stepped, IsNegative, IsNegativeWalk, IsFit, Takes}
use Rattle.mm_relevance.proofs.Points.{point_eq_true}
use Rattle.mm_relevance.proofs.Sums.{stepped_reaches, stays, reaches_fit, attained}

pub fits_at : (es : List Edge) (target : Point) (n : ℕ) (rs : List Reach) → rs ≡ reaches_of es target n → n ≤ 31 → All IsNear es → All IsFit rs
fits_at es target n rs is le near = subst (All IsFit) (sym is) (reaches_fit es target n le near)

pub next_is : (es : List Edge) (target : Point) (n : ℕ) (rs next : List Reach) → rs ≡ reaches_of es target n → next ≡ stepped rs → next
    ≡ reaches_of es target (n + 1)
next_is es target n rs next is h = h ∙ ap stepped is ∙ stepped_reaches es target n ∙ ap (reaches_of es target) (let e : suc n ≡ n + 1 = omega arith in e)

pub last_is : (es : List Edge) (target : Point) (n m : ℕ) (rs : List Reach) → rs ≡ reaches_of es target n → stepped rs ≡ rs → n ≤ m → rs
    ≡ reaches_of es target m
last_is es target n m rs is h le = go m le
  where
    same : stepped (reaches_of es target n) ≡ reaches_of es target n
    same = ap stepped (sym is) ∙ h ∙ is

    far : (m : ℕ) → n ≤ m → (d : ℕ) × (m ≡ n + d)
    far m le = (m - n, omega arith)

    go : (m : ℕ) → n ≤ m → rs ≡ reaches_of es target m
    go m le = is ∙ sym (stays es target n same (far m le).0 m (far m le).1)

-- ---- The walk

path_push : (es : List Edge) (e : Edge) (p : Point) → (q : Point) → IsWalk p es q → e.left ≡ q → IsWalk p (es ++ e ∷ []) e.right
path_push [] e p q h left = (left ∙ sym h, refl)
path_push (x ∷ es) e p q h left = (h.0, path_push es e x.right q h.1 left)

total_push : (es : List Edge) (e : Edge) → total (es ++ e ∷ []) ≡ total es +ℤ e.cost
total_push [] e = omega (arith, ints)
total_push (x ∷ es) e = let h = total_push es e in omega (arith, ints, h)

all_push : {X : Type 0} (P : X → Type 0) (xs : List X) (x : X) → AllByRecursion P xs → P x → AllByRecursion P (xs ++ x ∷ [])
all_push P [] x h k = (k, tt)
all_push P (y ∷ xs) x h k = (h.0, all_push P xs x h.1 k)

reach_among : (f : Point → Option ℤ) (es : List Edge) (r : Reach) (k : ℕ) → k < length (map (reach_of f) es) → get_or (map (reach_of f) es) k r ≡ r
    → Contains es r.edge × (r.sum ≡ f r.edge.right)
reach_among f [] r k h is = absurd (omega arith)
reach_among f (e ∷ es) r zero h is =
    let same : e ≡ r.edge = ap (λ (x : Reach). x.edge) is in
    ((0, omega arith, same), sym (ap (λ (x : Reach). x.sum) is) ∙ ap (λ (x : Edge). f x.right) same)
reach_among f (e ∷ es) r (suc k) h is =
    let more = reach_among f es r k (omega arith) is in
    ((suc more.0.0, (let l = more.0.1 in omega arith), more.0.2), more.1)

-- The sum that remains where at most m edges are left.
abbrev IsOwed : List Edge → Point → ℕ → Point → Option ℤ → Type 0
IsOwed es target m at owed =
    (rest es target m at ≡ owed) ⊎ ((k : ℕ) × (m ≡ suc k) × (least at None (reaches_of es target k) ≡ owed))

pub record Walking (es : List Edge) (target : Point) (first : Option ℤ) (left : ℕ) (at : Point) (owed : Option ℤ) (cycle : List Edge) : Type 0 where
  pub path : IsWalk target cycle at
  pub among : AllByRecursion (Contains es) cycle
  pub few : length cycle + left ≤ 32
  pub after : ℤ
  pub owes : owed ≡ Some after
  pub sums : first ≡ Some (total cycle +ℤ after)
  pub least : IsOwed es target left at owed

module _ (es : List Edge) (target : Point) (first : Option ℤ) where
  start_of : (n : ℕ) (v : ℤ) → n ≤ 31 → first ≡ Some v → first ≡ least target None (reaches_of es target n) → Walking es target first (n + 1) target first []
  start_of n v le is h = record {
    path = refl;
    among = tt;
    few = omega arith;
    after = v;
    owes = is;
    sums = is ∙ ap Some (let e : v ≡ pos 0 +ℤ v = omega (arith, ints) in e);
    least = inr (n, (let e : n + 1 ≡ suc n = omega arith in e), sym h);
  }

  some_of : (o : Option ℤ) → IsNegative o → (v : ℤ) × (o ≡ Some v) × (v <ℤ pos 0)
  some_of None h = absurd h
  some_of (Some v) h = (v, refl, h)

  pub walking_start : (n : ℕ) → n ≤ 31 → first ≡ least target None (reaches_of es target n) → IsNegative first → Walking es target first (n + 1) target first []
  walking_start n le h neg = let s = some_of first neg in start_of n s.0 le s.1 h

  pub walking_takes : (left m : ℕ) (at : Point) (owed : Option ℤ) (cycle : List Edge) (rs : List Reach) (r : Reach)
      → Walking es target first left at owed cycle → left ≡ suc m
      → rs ≡ reaches_of es target m → Takes at owed r → Contains rs r → Walking es target first m r.edge.right r.sum (cycle ++ r.edge ∷ [])
  walking_takes left m at owed cycle rs r w e is t among =
      let here : Contains (reaches_of es target m) r = subst (λ l. Contains l r) is among in
      let found = reach_among (rest es target m) es r here.0 here.1 here.2 in
      let same : w.after ≡ r.edge.cost +ℤ t.after = some_is w.after (r.edge.cost +ℤ t.after) (sym w.owes ∙ t.sums) in
      let few = w.few in
      let sum : total cycle +ℤ w.after ≡ total (cycle ++ r.edge ∷ []) +ℤ t.after = omega (arith, ints, same, total_push cycle r.edge) in
      record {
        path = path_push cycle r.edge target at w.path t.left;
        among = all_push (Contains es) cycle r.edge w.among found.0;
        few = omega (arith, few, length-append cycle (r.edge ∷ []));
        after = t.after;
        owes = t.reached;
        sums = w.sums ∙ ap Some sum;
        least = inl (sym found.1);
      }
    where
      some_is : (a b : ℤ) → Some a ≡ Some b → a ≡ b
      some_is a b h = cc

  pub walking_stays : (left m : ℕ) (at : Point) (owed : Option ℤ) (cycle : List Edge) (rs : List Reach) → Walking es target first left at owed cycle → left
      ≡ suc m
      → rs ≡ reaches_of es target m → All (λ r. Takes at owed r → ⊥) rs → Walking es target first m at owed cycle
  walking_stays left m at owed cycle rs w e is none =
      let few = w.few in
      record { path = w.path; among = w.among; few = omega (arith, few); after = w.after; owes = w.owes; sums = w.sums; least = inl (go w.least ∙ sym w.owes) }
    where
      none_here : All (λ r. Takes at (Some w.after) r → ⊥) (reaches_of es target m)
      none_here = subst (λ o. All (λ r. Takes at o r → ⊥) (reaches_of es target m)) w.owes (subst (All (λ r. Takes at owed r → ⊥)) is none)

      go : IsOwed es target left at owed → rest es target m at ≡ Some w.after
      go (inl h) =
          let k : least at (rest es target m at) (reaches_of es target m) ≡ Some w.after = ap (λ n. rest es target n at) (sym e) ∙ h ∙ w.owes in
          attained at (reaches_of es target m) (rest es target m at) w.after k none_here
      go (inr (k, is', h)) =
          let same : k ≡ m = omega arith in
          let l : least at None (reaches_of es target m) ≡ Some w.after = ap (λ n. least at None (reaches_of es target n)) (sym same) ∙ h ∙ w.owes in
          let never = attained at (reaches_of es target m) None w.after l none_here in
          absurd (let b : ⊥ = cc in b)

  end_of : (at : Point) (v : ℤ) (c : Bool) → (c ≡ true → at ≡ target) → cond c (Some (pos 0)) None ≡ Some v → (at ≡ target) × (v ≡ pos 0)
  end_of at v true h e = (h refl, (let k : pos 0 ≡ v = cc in sym k))
  end_of at v false h e = absurd (let b : ⊥ = cc in b)

  not_empty : (cycle : List Edge) → total cycle <ℤ pos 0 → 1 ≤ length cycle
  not_empty [] h = absurd (omega (arith, ints))
  not_empty (e ∷ cycle) h = omega arith

  pub walking_done : (left : ℕ) (at : Point) (owed : Option ℤ) (cycle : List Edge) → Walking es target first left at owed cycle → left ≤ 0 → IsNegative first
      → IsNegativeWalk es cycle
  walking_done left at owed cycle w none_left neg =
      let few = w.few in
      let last = go w.least in
      let sums : Some s.0 ≡ Some (total cycle +ℤ w.after) = sym s.1 ∙ w.sums in
      let sum : s.0 ≡ total cycle +ℤ w.after = cc in
      let below = s.2 in
      let zero_after = last.1 in
      let negative : total cycle <ℤ pos 0 = omega (arith, ints, sum, below, zero_after) in
      record {
        point = target;
        closed = subst (IsWalk target cycle) last.0 w.path;
        among = All-from_recursion (Contains es) cycle w.among;
        not_empty = not_empty cycle negative;
        few = omega (arith, few);
        negative = negative;
      }
    where
      s : (v : ℤ) × (first ≡ Some v) × (v <ℤ pos 0)
      s = some_of first neg

      go : IsOwed es target left at owed → (at ≡ target) × (w.after ≡ pos 0)
      go (inl h) =
          let z : left ≡ 0 = omega arith in
          end_of at w.after (point_eq at target) (point_eq_true at target) (ap (λ n. rest es target n at) (sym z) ∙ h ∙ w.owes)
      go (inr (k, is, h)) = absurd (omega arith)

pub walking_moved : (es : List Edge) (target : Point) (first : Option ℤ) (m : ℕ) (at at' : Point) (owed owed' : Option ℤ) (cycle cycle' : List Edge) → at'
    ≡ at → owed' ≡ owed → cycle' ≡ cycle
    → Walking es target first m at owed cycle → Walking es target first m at' owed' cycle'
walking_moved es target first m at at' owed owed' cycle cycle' e f g w =
    subst (λ p. Walking es target first m p owed' cycle') (sym e)
    (subst (λ o. Walking es target first m at o cycle') (sym f) (subst (Walking es target first m at owed) (sym g) w))

pub never_negative : (es : List Edge) (target : Point) (n : ℕ) (rs : List Reach) → rs ≡ reaches_of es target n → stepped rs ≡ rs → n ≤ 31
    → (IsNegative (least target None rs) → ⊥)
    → IsNegative (least target None (reaches_of es target 31)) → ⊥
never_negative es target n rs is h le never k =
    never (subst (λ l. IsNegative (least target None l)) (sym (last_is es target n 31 rs is h le)) k)

not_from : (b : Bool) (P : Type 0) → b ≡ false → (IsTrue b ↔ P) → P → ⊥
not_from true P h e p = let t : true ≡ false = h in cc
not_from false P h e p = let t : false ≡ true = e.1 p in cc

pub never_here : (target : Point) (rs : List Reach) (b : Bool) (owed : Option ℤ) → b ≡ false → (IsTrue b ↔ IsNegative owed) → owed ≡ least target None rs
    → IsNegative (least target None rs) → ⊥
never_here target rs b owed h e is k = not_from b (IsNegative owed) h e (subst IsNegative (sym is) k)
