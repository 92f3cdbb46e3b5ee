-- The edits of a command, one after the other.
use Rattle.std.proofs.Common.{◌≡◌, ◌≢◌, ℕ, ◌⊎◌, ⊎_elim, inl, inr, true, Some, List, [], ◌∷◌, suc, get_or, refl, sym, ap, ap₂, ◌∙◌, subst, arith}
use Rattle.std.specs.List.{All, AllPairs, Contains}
use Rattle.std.proofs.lemmas.List.Elements.{All-head, All-tail, All-cons, Contains-append_left, Contains-append_right}
use Rattle.mm_value.specs.declared.row_ref.RowRef.{RowRef}
use Rattle.std.specs.declared.cmp.Ordering.TheVariants.{Equal}
use Rattle.mm_value.specs.declared.values.Value.{Value}
use Rattle.mm_partition.specs.Places.{Live, Hidden, row_in}
use Rattle.mm_schema.specs.Rows.{column_cmp}
use Rattle.mm_row_order.specs.Refs.{Slots, HasRow, HasHidden, row_at}
use Rattle.mm_indexed.specs.Twins.{AreApart, HasTwin, keys_by}
use Rattle.mm_tables.specs.Edits.{put, step, Fits, came_by, has_new_key}
use Rattle.mm_tables.specs.Commands.{after, FitsForth, LeavesOut, IsApart, IsCommand, CameLive, CameAlone, NewKeyAlone}
use Rattle.mm_tables.specs.declared.edit.Edit.{Edit}
use Rattle.mm_tables.specs.declared.edit.Edit.TheVariants.{Stage, Insert, Update, Move, Delete}
use Rattle.mm_tables.proofs.Slots.{same_or_apart, holds_at, on_true, put_other, put_here, equal_self, equal_turns, equal_through}

-- an edit does not change a slot that it does not name
pub step_leaves : (e : Edit) (now : Slots) (r : RowRef) → LeavesOut e r → step e now r ≡ now r
step_leaves (Stage s) now r out = refl
step_leaves (Insert s) now r out = put_other s r (Live (row_in (now s))) now out
step_leaves (Update a b) now r (not_a, not_b) =
    put_other a r (Live (row_in (now b))) (put b (Hidden (row_in (now a))) now) not_a ∙ put_other b r (Hidden (row_in (now a))) now not_b
step_leaves (Move a b) now r (not_a, not_b) =
    put_other a r (Live (row_in (now b))) (put b (Hidden (row_in (now a))) now) not_a ∙ put_other b r (Hidden (row_in (now a))) now not_b
step_leaves (Delete s) now r out = put_other s r (Hidden (row_in (now s))) now out

row_stays : (old new : Slots) (r : RowRef) → new r ≡ old r → HasRow old r → HasRow new r
row_stays old new r same (row, is) = (row, same ∙ is)

hidden_stays : (old new : Slots) (r : RowRef) → new r ≡ old r → HasHidden old r → HasHidden new r
hidden_stays old new r same (row, is) = (row, same ∙ is)

-- so the slots that another edit requires, or has left, are unchanged
fits_still : (key : ℕ) (e f : Edit) (now : Slots) → IsApart e f → Fits key now f → Fits key (step e now) f
fits_still key e (Stage r) now out fits = fits
fits_still key e (Insert r) now out fits = hidden_stays now (step e now) r (step_leaves e now r out) fits
fits_still key e (Update a b) now (not_a, not_b) (live, hidden, same) = (
  row_stays now (step e now) a (step_leaves e now a not_a) live,
  hidden_stays now (step e now) b (step_leaves e now b not_b) hidden,
  ap₂ (λ c d. column_cmp key (row_in c) (row_in d)) (step_leaves e now a not_a) (step_leaves e now b not_b) ∙ same,
)
fits_still key e (Move a b) now (not_a, not_b) (live, hidden) =
    (row_stays now (step e now) a (step_leaves e now a not_a) live, hidden_stays now (step e now) b (step_leaves e now b not_b) hidden)
fits_still key e (Delete r) now out fits = row_stays now (step e now) r (step_leaves e now r out) fits

pub all_fit_still : (key : ℕ) (e : Edit) (es : List Edit) (now : Slots) → All (IsApart e) es → All (Fits key now) es → All (Fits key (step e now)) es
all_fit_still key e es now apart fits k d within = fits_still key e (get_or es k d) now (apart k d within) (fits k d within)

pub first_apart : (e : Edit) (es : List Edit) → AllPairs IsApart (e ∷ es) → All (IsApart e) es
first_apart e es apart k d within = apart 0 (suc k) d (omega arith) (omega arith)

pub rest_apart : (e : Edit) (es : List Edit) → AllPairs IsApart (e ∷ es) → AllPairs IsApart es
rest_apart e es apart i j d before within = apart (suc i) (suc j) d (omega arith) (omega arith)

-- the edits after the first are a command of their own
pub next_command : (key : ℕ) (e : Edit) (es : List Edit) (now : Slots) → IsCommand key (e ∷ es) now → IsCommand key es (step e now)
next_command key e es now standing = record {
  fits = all_fit_still key e es now (first_apart e es standing.apart) (All-tail (Fits key now) e es standing.fits);
  apart = rest_apart e es standing.apart;
}

-- edits of one command fit one after the other
pub FitsForth-command : (key : ℕ) (es : List Edit) (now : Slots) → IsCommand key es now → FitsForth key es now
FitsForth-command key [] now standing = tt
FitsForth-command key (e ∷ es) now standing = (
  All-head (Fits key now) e es standing.fits,
  FitsForth-command key es (step e now) (next_command key e es now standing),
)

-- ---- which rows have changed

-- a row in use that an edit did not bring is as it was
step_came : (e : Edit) (now : Slots) (r : RowRef) → HasRow (step e now) r → (came_by e ≡ Some r) ⊎ (step e now r ≡ now r)
step_came (Stage s) now r live = inr refl
step_came (Insert s) now r live =
    ⊎_elim (λ (same : s ≡ r). inl (ap Some same)) (λ (out : s ≢ r). inr (put_other s r (Live (row_in (now s))) now out)) (same_or_apart s r)
step_came (Update a b) now r (row, is) =
    ⊎_elim
    (λ (same : a ≡ r). inl (ap Some same))
    (λ (out : a ≢ r).
    let rest : step (Update a b) now r ≡ put b (Hidden (row_in (now a))) now r =
    put_other a r (Live (row_in (now b))) (put b (Hidden (row_in (now a))) now) out in
    ⊎_elim
    (λ (gone : b ≡ r). let both : Live row ≡ Hidden (row_in (now a)) = sym is ∙ (rest ∙ put_here b r (Hidden (row_in (now a))) now gone) in
    let no : ⊥ = cc in absurd no)
    (λ (away : b ≢ r). inr (rest ∙ put_other b r (Hidden (row_in (now a))) now away))
    (same_or_apart b r))
    (same_or_apart a r)
step_came (Move a b) now r (row, is) =
    ⊎_elim
    (λ (same : a ≡ r). inl (ap Some same))
    (λ (out : a ≢ r).
    let rest : step (Move a b) now r ≡ put b (Hidden (row_in (now a))) now r =
    put_other a r (Live (row_in (now b))) (put b (Hidden (row_in (now a))) now) out in
    ⊎_elim
    (λ (gone : b ≡ r). let both : Live row ≡ Hidden (row_in (now a)) = sym is ∙ (rest ∙ put_here b r (Hidden (row_in (now a))) now gone) in
    let no : ⊥ = cc in absurd no)
    (λ (away : b ≢ r). inr (rest ∙ put_other b r (Hidden (row_in (now a))) now away))
    (same_or_apart b r))
    (same_or_apart a r)
step_came (Delete s) now r (row, is) =
    ⊎_elim
    (λ (gone : s ≡ r). let both : Live row ≡ Hidden (row_in (now s)) = sym is ∙ put_here s r (Hidden (row_in (now s))) now gone in
    let no : ⊥ = cc in absurd no)
    (λ (out : s ≢ r). inr (put_other s r (Hidden (row_in (now s))) now out))
    (same_or_apart s r)

abbrev pub CameIn : List Edit → RowRef → Type 0
CameIn es r = (e : Edit) × Contains es e × (came_by e ≡ Some r)

pub after_came : (es : List Edit) (now : Slots) (r : RowRef) → HasRow (after es now) r → CameIn es r ⊎ (after es now r ≡ now r)
after_came [] now r live = inr refl
after_came (e ∷ es) now r live =
    ⊎_elim
    (λ (came : CameIn es r). inl (came.0, Contains-append_right (e ∷ []) es came.0 came.1, came.2))
    (λ (same : after es (step e now) r ≡ step e now r).
    ⊎_elim
    (λ (here : came_by e ≡ Some r). inl (e, Contains-append_left (e ∷ []) es e (0, omega arith, refl), here))
    (λ (stays : step e now r ≡ now r). inr (same ∙ stays))
    (step_came e now r (live.0, sym same ∙ live.1)))
    (after_came es (step e now) r live)

-- ---- which rows have a new key

abbrev NewIn : List Edit → RowRef → Type 0
NewIn es r = (e : Edit) × Contains es e × (came_by e ≡ Some r) × (has_new_key e ≡ true)

-- a row was in use before, with the same key
abbrev HadKey : ℕ → Slots → Slots → RowRef → Type 0
HadKey key old new r = HasRow old r × (column_cmp key (row_at new r) (row_at old r) ≡ Equal)

stays_had : (key : ℕ) (old new : Slots) (r : RowRef) → HasRow new r → new r ≡ old r → HadKey key old new r
stays_had key old new r live same = (
  (live.0, sym same ∙ live.1),
  ap (λ c. column_cmp key (row_in c) (row_at old r)) same ∙ equal_self key (row_at old r),
)

-- a row that an edit brought has a new key, or the key that it had
came_new : (key : ℕ) (e : Edit) (now : Slots) (r : RowRef) → Fits key now e → came_by e ≡ Some r → (has_new_key e ≡ true) ⊎ HadKey key now (step e now) r
came_new key (Stage s) now r fits came = let no : ⊥ = cc in absurd no
came_new key (Insert s) now r fits came = inl refl
came_new key (Update a b) now r (live, hidden, same) came =
    let is : a ≡ r = cc in
    let here : step (Update a b) now r ≡ Live (row_in (now b)) = put_here a r (Live (row_in (now b))) (put b (Hidden (row_in (now a))) now) is in
    inr (
      subst (HasRow now) is live,
      ap (λ c. column_cmp key (row_in c) (row_at now r)) here
          ∙ subst (λ x. column_cmp key (row_at now b) (row_at now x) ≡ Equal) is (equal_turns key (row_at now a) (row_at now b) same),
    )
came_new key (Move a b) now r fits came = inl refl
came_new key (Delete s) now r fits came = let no : ⊥ = cc in absurd no

after_new : (key : ℕ) (es : List Edit) (now : Slots) (r : RowRef) → FitsForth key es now → HasRow (after es now) r
    → NewIn es r ⊎ HadKey key now (after es now) r
after_new key [] now r fits live = inr (live, equal_self key (row_at now r))
after_new key (e ∷ es) now r (first, rest) live =
    ⊎_elim
    (λ (new : NewIn es r). inl (new.0, Contains-append_right (e ∷ []) es new.0 new.1, new.2, new.3))
    (λ (had : HadKey key (step e now) (after es (step e now)) r).
    let back : HadKey key now (step e now) r → NewIn (e ∷ es) r ⊎ HadKey key now (after es (step e now)) r =
    λ (was : HadKey key now (step e now) r).
    inr (was.0, equal_through key (row_at (after es (step e now)) r) (row_at (step e now) r) (row_at now r) had.1 was.1) in
    ⊎_elim
    (λ (came : came_by e ≡ Some r).
    ⊎_elim (λ (new : has_new_key e ≡ true). inl (e, Contains-append_left (e ∷ []) es e (0, omega arith, refl), came, new)) back
    (came_new key e now r first came))
    (λ (stays : step e now r ≡ now r). back (stays_had key now (step e now) r had.0 stays))
    (step_came e now r had.0))
    (after_new key es (step e now) r rest live)

new_alone : (key : ℕ) (es : List Edit) (now : Slots) (r : RowRef) → NewIn es r → All (NewKeyAlone key now) es → HasTwin key now r → ⊥
new_alone key es now r (e, within, came, new) alone =
    on_true (CameAlone key now e) (has_new_key e) new (holds_at (NewKeyAlone key now) es e alone within) r came

-- no two rows have one key, if none had, and no row with a new key has the key of another
pub AreApart-after : (key : ℕ) (es : List Edit) (now : Slots) → AreApart key now → FitsForth key es now → All (NewKeyAlone key (after es now)) es
    → AreApart key (after es now)
AreApart-after key es now was fits alone at live (other, other_live, apart, same) =
    let row : RowRef → List Value = row_at (after es now) in
    ⊎_elim
    (λ (new : NewIn es at). new_alone key es (after es now) at new alone (other, other_live, apart, same))
    (λ (had : HadKey key now (after es now) at).
    ⊎_elim
    (λ (new : NewIn es other). new_alone key es (after es now) other new alone (at, live, λ e. apart (sym e), equal_turns key (row other) (row at) same))
    (λ (other_had : HadKey key now (after es now) other).
    was at had.0 (
      other,
      other_had.0,
      apart,
      equal_through key (row_at now other) (row other) (row_at now at) (equal_turns key (row other) (row_at now other) other_had.1)
          (equal_through key (row other) (row at) (row_at now at) same had.1),
    ))
    (after_new key es now other fits other_live))
    (after_new key es now at fits live)

-- ---- the rows that edits brought are in use

leaves_named : (s r : RowRef) (f : Edit) → s ≡ r → IsApart (Insert s) f → LeavesOut f r
leaves_named s r (Stage q) is out = λ e. out (is ∙ sym e)
leaves_named s r (Insert q) is out = λ e. out (is ∙ sym e)
leaves_named s r (Update a b) is (not_a, not_b) = (λ e. not_a (is ∙ sym e), λ e. not_b (is ∙ sym e))
leaves_named s r (Move a b) is (not_a, not_b) = (λ e. not_a (is ∙ sym e), λ e. not_b (is ∙ sym e))
leaves_named s r (Delete q) is out = λ e. out (is ∙ sym e)

first_of_update : (a b : RowRef) (f : Edit) → IsApart (Update a b) f → IsApart (Insert a) f
first_of_update a b (Stage q) out = out.0
first_of_update a b (Insert q) out = out.0
first_of_update a b (Update c d) out = (out.0.0, out.1.0)
first_of_update a b (Move c d) out = (out.0.0, out.1.0)
first_of_update a b (Delete q) out = out.0

pub leaves_came : (e f : Edit) (r : RowRef) → came_by e ≡ Some r → IsApart e f → LeavesOut f r
leaves_came (Stage s) f r came out = let no : ⊥ = cc in absurd no
leaves_came (Insert s) f r came out = leaves_named s r f (let is : s ≡ r = cc in is) out
leaves_came (Update a b) f r came out = leaves_named a r f (let is : a ≡ r = cc in is) (first_of_update a b f out)
leaves_came (Move a b) f r came out = leaves_named a r f (let is : a ≡ r = cc in is) (first_of_update a b f out)
leaves_came (Delete s) f r came out = let no : ⊥ = cc in absurd no

came_live : (e : Edit) (now : Slots) (r : RowRef) → came_by e ≡ Some r → HasRow (step e now) r
came_live (Stage s) now r came = let no : ⊥ = cc in absurd no
came_live (Insert s) now r came = (row_in (now s), put_here s r (Live (row_in (now s))) now (let is : s ≡ r = cc in is))
came_live (Update a b) now r came =
    (row_in (now b), put_here a r (Live (row_in (now b))) (put b (Hidden (row_in (now a))) now) (let is : a ≡ r = cc in is))
came_live (Move a b) now r came =
    (row_in (now b), put_here a r (Live (row_in (now b))) (put b (Hidden (row_in (now a))) now) (let is : a ≡ r = cc in is))
came_live (Delete s) now r came = let no : ⊥ = cc in absurd no

pub after_leaves : (es : List Edit) (now : Slots) (r : RowRef) → All (λ e. LeavesOut e r) es → after es now r ≡ now r
after_leaves [] now r out = refl
after_leaves (e ∷ es) now r out =
    after_leaves es (step e now) r (All-tail (λ f. LeavesOut f r) e es out) ∙ step_leaves e now r (All-head (λ f. LeavesOut f r) e es out)

pub CameLive-after : (es : List Edit) (now : Slots) → AllPairs IsApart es → All (CameLive (after es now)) es
CameLive-after [] now apart = λ k d within. absurd (let no : ⊥ = omega arith in no)
CameLive-after (e ∷ es) now apart =
    All-cons (CameLive (after es (step e now))) e es
    (λ r came.
    let live : HasRow (step e now) r = came_live e now r came in
    (live.0, after_leaves es (step e now) r (λ k d within. leaves_came e (get_or es k d) r came (first_apart e es apart k d within)) ∙ live.1))
    (CameLive-after es (step e now) (rest_apart e es apart))

-- ---- a command of a single insert

-- a row has the key that it had while it was hidden
shown_keys : (key : ℕ) (now : Slots) (at other : RowRef) → other ≢ at → keys_by key (step (Insert at) now) other at ≡ keys_by key now other at
shown_keys key now at other apart =
    ap₂ (λ c d. column_cmp key (row_in c) (row_in d)) (step_leaves (Insert at) now other (λ same. apart (sym same)))
    (put_here at at (Live (row_at now at)) now refl)

module _ (key : ℕ) (edits : List Edit) (now : Slots) (at : RowRef) (lone : edits ≡ Insert at ∷ []) where
  pub lone_hidden : All (Fits key now) edits → HasHidden now at
  lone_hidden fits = All-head (Fits key now) (Insert at) [] (subst (All (Fits key now)) lone fits)

  -- another row has its key afterwards if one has it before
  pub lone_twins : HasTwin key now at → AreApart key (after edits now) → ⊥
  lone_twins (other, live, differ, same) apart =
      subst (λ (es : List Edit). AreApart key (after es now)) lone apart at (came_live (Insert at) now at refl) (
        other,
        row_stays now (step (Insert at) now) other (step_leaves (Insert at) now other (λ is. differ (sym is))) live,
        differ,
        shown_keys key now at other differ ∙ same,
      )

  -- .. and only then
  lone_alone : (HasTwin key now at → ⊥) → NewKeyAlone key (step (Insert at) now) (Insert at)
  lone_alone none r came =
      let here : at ≡ r = cc in
      subst (λ (x : RowRef). HasTwin key (step (Insert at) now) x → ⊥) here
      (λ (other, live, differ, same). none (
        other,
        row_stays (step (Insert at) now) now other (sym (step_leaves (Insert at) now other (λ is. differ (sym is)))) live,
        differ,
        sym (shown_keys key now at other differ) ∙ same,
      ))

  pub lone_apart : AreApart key now → HasHidden now at → (HasTwin key now at → ⊥) → AreApart key (after edits now)
  lone_apart was hidden none =
      subst (λ (es : List Edit). AreApart key (after es now)) (sym lone)
      (AreApart-after key (Insert at ∷ []) now was (hidden, tt)
      (All-cons (NewKeyAlone key (step (Insert at) now)) (Insert at) [] (lone_alone none)
      (λ k d within. absurd (let no : ⊥ = omega (arith, within) in no))))
