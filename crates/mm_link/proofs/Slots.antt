-- The slots that edits name, before and after them.
use Rattle.std.proofs.Common.{◌≡◌, ◌≢◌, ℕ, ◌⊎◌, ⊎_elim, inl, inr, List, [], ◌∷◌, suc, get_or, refl, sym, ap, ap₂, ◌∙◌, subst, arith}
use Rattle.std.specs.List.{All, AllPairs}
use Rattle.std.proofs.lemmas.List.Elements.{All-head, All-tail, All-cons}
use Rattle.mm_value.specs.declared.row_ref.RowRef.{RowRef}
use Rattle.mm_partition.specs.Places.{Content, Free, Live, Hidden, row_in}
use Rattle.mm_row_order.specs.Refs.{Slots, HasRow, HasHidden, row_at}
use Rattle.mm_schema.specs.Rows.{column_cmp}
use Rattle.mm_indexed.specs.Twins.{keys_by}
use Rattle.mm_tables.specs.Edits.{put, step, step_back, exchanged, Fits, Stands}
use Rattle.mm_tables.specs.Log.{before}
use Rattle.mm_tables.specs.Commands.{after, LeavesOut, IsApart, IsCommand}
use Rattle.mm_tables.specs.declared.edit.Edit.{Edit}
use Rattle.mm_tables.specs.declared.edit.Edit.TheVariants.{Stage, Insert, Update, Move, Delete}
use Rattle.mm_tables.proofs.Slots.{same_or_apart, put_other, put_here}
use Rattle.mm_link.specs.Edited.{Exchanges, IsOut, Switches, Turns}

-- ---- which slots an edit names

one_or_other : (s at : RowRef) → (s ≢ at) ⊎ ((s ≢ at) → ⊥)
one_or_other s at = ⊎_elim (λ (same : s ≡ at). inr (λ out. out same)) (λ (apart : s ≢ at). inl apart) (same_or_apart s at)

two_or_other : (a b at : RowRef) → ((a ≢ at) × (b ≢ at)) ⊎ (((a ≢ at) × (b ≢ at)) → ⊥)
two_or_other a b at =
    ⊎_elim
    (λ (same : a ≡ at). inr (λ out. out.0 same))
    (λ (not_a : a ≢ at). ⊎_elim (λ (same : b ≡ at). inr (λ out. out.1 same)) (λ (not_b : b ≢ at). inl (not_a, not_b)) (same_or_apart b at))
    (same_or_apart a at)

pub leaves_or_names : (e : Edit) (at : RowRef) → LeavesOut e at ⊎ (LeavesOut e at → ⊥)
leaves_or_names (Stage s) at = one_or_other s at
leaves_or_names (Insert s) at = one_or_other s at
leaves_or_names (Update a b) at = two_or_other a b at
leaves_or_names (Move a b) at = two_or_other a b at
leaves_or_names (Delete s) at = one_or_other s at

pub named_one : (s at : RowRef) → ((s ≢ at) → ⊥) → s ≡ at
named_one s at named = ⊎_elim (λ (same : s ≡ at). same) (λ (apart : s ≢ at). absurd (named apart)) (same_or_apart s at)

pub named_two : (a b at : RowRef) → (((a ≢ at) × (b ≢ at)) → ⊥) → (a ≡ at) ⊎ (b ≡ at)
named_two a b at named =
    ⊎_elim
    (λ (same : a ≡ at). inl same)
    (λ (not_a : a ≢ at). ⊎_elim (λ (same : b ≡ at). inr same) (λ (not_b : b ≢ at). absurd (named (not_a, not_b))) (same_or_apart b at))
    (same_or_apart a at)

away : (e : Edit) (r at : RowRef) → LeavesOut e r → (LeavesOut e at → ⊥) → r ≢ at
away (Stage s) r at out named same = named (λ is. out (is ∙ sym same))
away (Insert s) r at out named same = named (λ is. out (is ∙ sym same))
away (Update a b) r at out named same = named (λ is. out.0 (is ∙ sym same), λ is. out.1 (is ∙ sym same))
away (Move a b) r at out named same = named (λ is. out.0 (is ∙ sym same), λ is. out.1 (is ∙ sym same))
away (Delete s) r at out named same = named (λ is. out (is ∙ sym same))

-- a slot that an edit names is left out by one that is apart from it
pub leaves_other : (e f : Edit) (at : RowRef) → IsApart e f → (LeavesOut e at → ⊥) → LeavesOut f at
leaves_other e (Stage r) at apart named = away e r at apart named
leaves_other e (Insert r) at apart named = away e r at apart named
leaves_other e (Update a b) at apart named = (away e a at apart.0 named, away e b at apart.1 named)
leaves_other e (Move a b) at apart named = (away e a at apart.0 named, away e b at apart.1 named)
leaves_other e (Delete r) at apart named = away e r at apart named

pub first_apart : (e : Edit) (es : List Edit) → AllPairs IsApart (e ∷ es) → All (IsApart e) es
first_apart e es apart k d within = apart 0 (suc k) d (omega arith) (omega arith)

pub rest_apart : (e : Edit) (es : List Edit) → AllPairs IsApart (e ∷ es) → AllPairs IsApart es
rest_apart e es apart i j d before within = apart (suc i) (suc j) d (omega arith) (omega arith)

pub all_leave : (e : Edit) (es : List Edit) (at : RowRef) → All (IsApart e) es → (LeavesOut e at → ⊥) → All (λ f. LeavesOut f at) es
all_leave e es at apart named k d within = leaves_other e (get_or es k d) at (apart k d within) named

-- ---- the slots that edits do not change

two_left : (a b r : RowRef) (c d : Content) (now : Slots) → a ≢ r → b ≢ r → put a c (put b d now) r ≡ now r
two_left a b r c d now not_a not_b = put_other a r c (put b d now) not_a ∙ put_other b r d now not_b

pub step_leaves : (e : Edit) (now : Slots) (r : RowRef) → LeavesOut e r → step e now r ≡ now r
step_leaves (Stage s) now r out = refl
step_leaves (Insert s) now r out = put_other s r (Live (row_at now s)) now out
step_leaves (Update a b) now r out = two_left a b r (Live (row_at now b)) (Hidden (row_at now a)) now out.0 out.1
step_leaves (Move a b) now r out = two_left a b r (Live (row_at now b)) (Hidden (row_at now a)) now out.0 out.1
step_leaves (Delete s) now r out = put_other s r (Hidden (row_at now s)) now out

pub back_leaves : (e : Edit) (now : Slots) (r : RowRef) → LeavesOut e r → step_back e now r ≡ now r
back_leaves (Stage s) now r out = put_other s r Free now out
back_leaves (Insert s) now r out = put_other s r (Hidden (row_at now s)) now out
back_leaves (Update a b) now r out = two_left a b r (Live (row_at now b)) (Hidden (row_at now a)) now out.0 out.1
back_leaves (Move a b) now r out = two_left a b r (Live (row_at now b)) (Hidden (row_at now a)) now out.0 out.1
back_leaves (Delete s) now r out = put_other s r (Live (row_at now s)) now out

pub after_leaves : (es : List Edit) (now : Slots) (r : RowRef) → All (λ e. LeavesOut e r) es → after es now r ≡ now r
after_leaves [] now r out = refl
after_leaves (e ∷ es) now r out =
    after_leaves es (step e now) r (All-tail (λ f. LeavesOut f r) e es out) ∙ step_leaves e now r (All-head (λ f. LeavesOut f r) e es out)

-- ---- the effect of edits on the slots that they name

pub live_apart_hidden : (now : Slots) (a b : RowRef) → HasRow now a → HasHidden now b → a ≢ b
live_apart_hidden now a b (x, live) (y, hidden) same =
    let both : Live x ≡ Hidden y = sym live ∙ (ap now same ∙ hidden) in let no : ⊥ = cc in absurd no

pub first_exchanged : (a b : RowRef) (now : Slots) → exchanged a b now a ≡ Live (row_at now b)
first_exchanged a b now = put_here a a (Live (row_at now b)) (put b (Hidden (row_at now a)) now) refl

pub second_exchanged : (a b : RowRef) (now : Slots) → a ≢ b → exchanged a b now b ≡ Hidden (row_at now a)
second_exchanged a b now apart =
    put_other a b (Live (row_at now b)) (put b (Hidden (row_at now a)) now) apart ∙ put_here b b (Hidden (row_at now a)) now refl

pub out_hidden : (now : Slots) (r : RowRef) → HasHidden now r → IsOut (now r)
out_hidden now r (row, is) = subst IsOut (sym is) tt

out_free : (now : Slots) (r : RowRef) → now r ≡ Free → IsOut (now r)
out_free now r is = subst IsOut (sym is) tt

exchanges : (now : Slots) (a b : RowRef) → HasRow now a → HasHidden now b → Exchanges now (exchanged a b now) a b
exchanges now a b live hidden = record {
  live = live;
  hidden = hidden;
  came = (row_at now b, first_exchanged a b now);
  went = second_exchanged a b now (live_apart_hidden now a b live hidden);
}

exchanges_back : (now : Slots) (a b : RowRef) → HasRow now a → HasHidden now b → Exchanges (exchanged a b now) now a b
exchanges_back now a b live hidden = record {
  live = (row_at now b, first_exchanged a b now);
  hidden = (row_at now a, second_exchanged a b now (live_apart_hidden now a b live hidden));
  came = live;
  went = hidden.1 ∙ (ap (λ (c : Content). Hidden (row_in c)) (sym hidden.1) ∙ ap (λ (c : Content). Hidden (row_in c)) (sym (first_exchanged a b now)));
}

-- an edit that is made
pub Turns-step : (key : ℕ) (e : Edit) (now : Slots) → Fits key now e → Turns now (step e now) e
Turns-step key (Stage r) now fits = absurd fits
Turns-step key (Insert r) now fits = inl (out_hidden now r fits, (row_at now r, put_here r r (Live (row_at now r)) now refl))
Turns-step key (Update a b) now (live, hidden, same) = exchanges now a b live hidden
Turns-step key (Move a b) now (live, hidden) = exchanges now a b live hidden
Turns-step key (Delete r) now fits =
    inr (fits, out_hidden (step (Delete r) now) r (row_at now r, put_here r r (Hidden (row_at now r)) now refl))

-- .. and an edit that is undone
pub Turns-back : (key : ℕ) (e : Edit) (now : Slots) → Stands key now e → Turns now (step_back e now) e
Turns-back key (Stage r) now stands = (out_hidden now r stands, out_free (step_back (Stage r) now) r (put_here r r Free now refl))
Turns-back key (Insert r) now stands =
    inr (stands, out_hidden (step_back (Insert r) now) r (row_at now r, put_here r r (Hidden (row_at now r)) now refl))
Turns-back key (Update a b) now (live, hidden, same) = exchanges now a b live hidden
Turns-back key (Move a b) now (live, hidden) = exchanges now a b live hidden
Turns-back key (Delete r) now stands = inl (out_hidden now r stands, (row_at now r, put_here r r (Live (row_at now r)) now refl))

row_moved : (x y : Slots) (at : RowRef) → y at ≡ x at → HasRow x at → HasRow y at
row_moved x y at same (row, is) = (row, same ∙ is)

hidden_moved : (x y : Slots) (at : RowRef) → y at ≡ x at → HasHidden x at → HasHidden y at
hidden_moved x y at same (row, is) = (row, same ∙ is)

out_moved : (x y : Slots) (at : RowRef) → y at ≡ x at → IsOut (x at) → IsOut (y at)
out_moved x y at same out = subst IsOut (sym same) out

switched : (was now other later : Slots) (r : RowRef) → other r ≡ was r → later r ≡ now r → Switches was now r → Switches other later r
switched was now other later r before behind turned =
    ⊎_elim
    (λ (comes : IsOut (was r) × HasRow now r). inl (out_moved was other r before comes.0, row_moved now later r behind comes.1))
    (λ (goes : HasRow was r × IsOut (now r)). inr (row_moved was other r before goes.0, out_moved now later r behind goes.1))
    turned

exchanged_moved : (a b : RowRef) (was now other later : Slots) → other a ≡ was a → other b ≡ was b → later a ≡ now a → later b ≡ now b
    → Exchanges was now a b → Exchanges other later a b
exchanged_moved a b was now other later was_a was_b now_a now_b turned = record {
  live = row_moved was other a was_a turned.live;
  hidden = hidden_moved was other b was_b turned.hidden;
  came = row_moved now later a now_a turned.came;
  went = now_b ∙ (turned.went ∙ ap (λ (c : Content). Hidden (row_in c)) (sym was_a));
}

-- the change by an edit depends only on the slots that it names
pub Turns-moved : (e : Edit) (was now other later : Slots) → ((at : RowRef) → (LeavesOut e at → ⊥) → other at ≡ was at)
    → ((at : RowRef) → (LeavesOut e at → ⊥) → later at ≡ now at) → Turns was now e → Turns other later e
Turns-moved (Stage r) was now other later before behind turned =
    (out_moved was other r (before r (λ out. out refl)) turned.0, out_moved now later r (behind r (λ out. out refl)) turned.1)
Turns-moved (Insert r) was now other later before behind turned =
    switched was now other later r (before r (λ out. out refl)) (behind r (λ out. out refl)) turned
Turns-moved (Update a b) was now other later before behind turned =
    exchanged_moved a b was now other later (before a (λ out. out.0 refl)) (before b (λ out. out.1 refl)) (behind a (λ out. out.0 refl))
    (behind b (λ out. out.1 refl)) turned
Turns-moved (Move a b) was now other later before behind turned =
    exchanged_moved a b was now other later (before a (λ out. out.0 refl)) (before b (λ out. out.1 refl)) (behind a (λ out. out.0 refl))
    (behind b (λ out. out.1 refl)) turned
Turns-moved (Delete r) was now other later before behind turned =
    switched was now other later r (before r (λ out. out refl)) (behind r (λ out. out refl)) turned

-- ---- the edits of a command

pub keys_still : (key : ℕ) (a b : RowRef) (was now : Slots) → now a ≡ was a → now b ≡ was b → keys_by key now a b ≡ keys_by key was a b
keys_still key a b was now same_a same_b = ap₂ (λ (c d : Content). column_cmp key (row_in c) (row_in d)) same_a same_b

-- a slot that the later edit names is left out by one that is apart from it
pub leaves_earlier : (e f : Edit) (at : RowRef) → IsApart e f → (LeavesOut f at → ⊥) → LeavesOut e at
leaves_earlier e f at apart named =
    ⊎_elim
    (λ (out : LeavesOut e at). out)
    (λ (here : LeavesOut e at → ⊥). absurd (named (leaves_other e f at apart here)))
    (leaves_or_names e at)

fits_still : (key : ℕ) (e f : Edit) (now : Slots) → IsApart e f → Fits key now f → Fits key (step e now) f
fits_still key e (Stage r) now out fits = fits
fits_still key e (Insert r) now out fits = hidden_moved now (step e now) r (step_leaves e now r out) fits
fits_still key e (Update a b) now out fits = (
  row_moved now (step e now) a (step_leaves e now a out.0) fits.0,
  hidden_moved now (step e now) b (step_leaves e now b out.1) fits.1,
  keys_still key a b now (step e now) (step_leaves e now a out.0) (step_leaves e now b out.1) ∙ fits.2,
)
fits_still key e (Move a b) now out fits = (
  row_moved now (step e now) a (step_leaves e now a out.0) fits.0,
  hidden_moved now (step e now) b (step_leaves e now b out.1) fits.1,
)
fits_still key e (Delete r) now out fits = row_moved now (step e now) r (step_leaves e now r out) fits

pub IsCommand-rest : (key : ℕ) (e : Edit) (es : List Edit) (now : Slots) → IsCommand key (e ∷ es) now → IsCommand key es (step e now)
IsCommand-rest key e es now command = record {
  fits = λ k d within. fits_still key e (get_or es k d) now (first_apart e es command.apart k d within)
      (All-tail (Fits key now) e es command.fits k d within);
  apart = rest_apart e es command.apart;
}

-- each edit has changed its slots from their content before the command
pub Turns-after : (key : ℕ) (es : List Edit) (now : Slots) → IsCommand key es now → All (Turns now (after es now)) es
Turns-after key [] now command = λ k d within. absurd (let no : ⊥ = omega arith in no)
Turns-after key (e ∷ es) now command =
    let apart : All (IsApart e) es = first_apart e es command.apart in
    All-cons (Turns now (after es (step e now))) e es
    (Turns-moved e now (step e now) now (after es (step e now)) (λ at named. refl)
    (λ at named. after_leaves es (step e now) at (all_leave e es at apart named))
    (Turns-step key e now (All-head (Fits key now) e es command.fits)))
    (λ k d within.
    let f : Edit = get_or es k d in
    Turns-moved f (step e now) (after es (step e now)) now (after es (step e now))
    (λ at named. sym (step_leaves e now at (leaves_earlier e f at (apart k d within) named)))
    (λ at named. refl)
    (Turns-after key es (step e now) (IsCommand-rest key e es now command) k d within))

-- ---- the undo of edits that were made

back_two : (a b : RowRef) (now : Slots) (at : RowRef) → HasRow now a → HasHidden now b → (((a ≢ at) × (b ≢ at)) → ⊥)
    → exchanged a b (exchanged a b now) at ≡ now at
back_two a b now at (x, live) (y, hidden) named =
    let apart : a ≢ b = live_apart_hidden now a b (x, live) (y, hidden) in
    let first : exchanged a b now a ≡ Live (row_at now b) = first_exchanged a b now in
    let second : exchanged a b now b ≡ Hidden (row_at now a) = second_exchanged a b now apart in
    ⊎_elim
    (λ (here : a ≡ at).
    subst (λ (q : RowRef). exchanged a b (exchanged a b now) q ≡ now q) here
    (first_exchanged a b (exchanged a b now)
    ∙ (ap (λ (c : Content). Live (row_in c)) second ∙ (ap (λ (c : Content). Live (row_in c)) live ∙ sym live))))
    (λ (here : b ≡ at).
    subst (λ (q : RowRef). exchanged a b (exchanged a b now) q ≡ now q) here
    (second_exchanged a b (exchanged a b now) apart
    ∙ (ap (λ (c : Content). Hidden (row_in c)) first ∙ (ap (λ (c : Content). Hidden (row_in c)) hidden ∙ sym hidden))))
    (named_two a b at named)

back_named : (key : ℕ) (e : Edit) (now : Slots) (at : RowRef) → Fits key now e → (LeavesOut e at → ⊥) → step_back e (step e now) at ≡ now at
back_named key (Stage r) now at fits named = absurd fits
back_named key (Insert r) now at (row, is) named =
    let made : step (Insert r) now r ≡ Live (row_at now r) = put_here r r (Live (row_at now r)) now refl in
    subst (λ (q : RowRef). step_back (Insert r) (step (Insert r) now) q ≡ now q) (named_one r at named)
    (put_here r r (Hidden (row_at (step (Insert r) now) r)) (step (Insert r) now) refl
    ∙ (ap (λ (c : Content). Hidden (row_in c)) made ∙ (ap (λ (c : Content). Hidden (row_in c)) is ∙ sym is)))
back_named key (Update a b) now at (live, hidden, same) named = back_two a b now at live hidden named
back_named key (Move a b) now at (live, hidden) named = back_two a b now at live hidden named
back_named key (Delete r) now at (row, is) named =
    let made : step (Delete r) now r ≡ Hidden (row_at now r) = put_here r r (Hidden (row_at now r)) now refl in
    subst (λ (q : RowRef). step_back (Delete r) (step (Delete r) now) q ≡ now q) (named_one r at named)
    (put_here r r (Live (row_at (step (Delete r) now) r)) (step (Delete r) now) refl
    ∙ (ap (λ (c : Content). Live (row_in c)) made ∙ (ap (λ (c : Content). Live (row_in c)) is ∙ sym is)))

pub back_step : (key : ℕ) (e : Edit) (now : Slots) → Fits key now e → step_back e (step e now) ≡ now
back_step key e now fits = λ i at.
    ⊎_elim
    (λ (out : LeavesOut e at). back_leaves e (step e now) at out ∙ step_leaves e now at out)
    (λ (named : LeavesOut e at → ⊥). back_named key e now at fits named)
    (leaves_or_names e at)
    i

pub before-after : (key : ℕ) (es : List Edit) (now : Slots) → IsCommand key es now → before step_back es (after es now) ≡ now
before-after key [] now command = refl
before-after key (e ∷ es) now command =
    ap (step_back e) (before-after key es (step e now) (IsCommand-rest key e es now command))
    ∙ back_step key e now (All-head (Fits key now) e es command.fits)
