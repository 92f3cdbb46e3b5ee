-- A log while changes are made and undone.
use Rattle.std.proofs.Common.{◌≡◌, ℕ, ◌≤◌, List, [], ◌∷◌, ◌++◌, length, take, drop, refl, sym, ap, ◌∙◌, subst, arith}
use Rattle.std.proofs.lemmas.List.{drop-append-le, append_assoc, append-nil}
use Rattle.std.proofs.Math.Seq.{take-append_seam, drop-append_seam}
use Rattle.mm_tables.specs.Log.{before, StandsBack}

module _ {E S : Type 0} (back : E → S → S) where
  pub before-append : (es fs : List E) (now : S) → before back (es ++ fs) now ≡ before back es (before back fs now)
  before-append [] fs now = refl
  before-append (e ∷ es) fs now = ap (back e) (before-append es fs now)

  pub mark-push : (log new_log : List E) (e : E) (old new : S) (mark : ℕ) → new_log ≡ log ++ e ∷ [] → back e new ≡ old → mark ≤ length log
      → before back (drop mark new_log) new ≡ before back (drop mark log) old
  mark-push log new_log e old new mark pushed was within =
      ap (λ es. before back (drop mark es) new) pushed
      ∙ (ap (λ es. before back es new) (drop-append-le mark log (e ∷ []) within)
      ∙ (before-append (drop mark log) (e ∷ []) new ∙ ap (before back (drop mark log)) was))

  -- several changes at once
  pub mark-push_all : (log new_log es : List E) (old new : S) (mark : ℕ) → new_log ≡ log ++ es → before back es new ≡ old → mark ≤ length log
      → before back (drop mark new_log) new ≡ before back (drop mark log) old
  mark-push_all log new_log es old new mark pushed was within =
      ap (λ rs. before back (drop mark rs) new) pushed
      ∙ (ap (λ rs. before back rs new) (drop-append-le mark log es within)
      ∙ (before-append (drop mark log) es new ∙ ap (before back (drop mark log)) was))

  -- these changes remain, and the rest is undone
  pub record IsUndoing (all : List E) (start : S) (left : List E) (now : S) : Type 0 where
    pub gone : List E
    pub split : all ≡ left ++ gone
    pub state : now ≡ before back gone start

  pub IsUndoing-none : (all : List E) (start : S) → IsUndoing all start all start
  IsUndoing-none all start = record { gone = []; split = sym (append-nil all); state = refl }

  pub IsUndoing-more : (all left less : List E) (e : E) (start now next : S) → left ≡ less ++ e ∷ [] → next ≡ back e now → IsUndoing all start left now
      → IsUndoing all start less next
  IsUndoing-more all left less e start now next popped was so_far = record {
    gone = e ∷ so_far.gone;
    split = so_far.split ∙ (ap (λ es. es ++ so_far.gone) popped ∙ append_assoc less (e ∷ []) so_far.gone);
    state = was ∙ ap (back e) so_far.state;
  }

  module _ (all left : List E) (start now : S) (mark : ℕ) (size : length left ≡ mark) (done : IsUndoing all start left now) where
    pub undone_log : left ≡ take mark all
    undone_log = sym (ap (take mark) done.split ∙ (ap (λ n. take n (left ++ done.gone)) (sym size) ∙ take-append_seam left done.gone))

    pub undone_state : now ≡ before back (drop mark all) start
    undone_state =
        done.state
        ∙ ap (λ es. before back es start)
        (sym (ap (drop mark) done.split ∙ (ap (λ n. drop n (left ++ done.gone)) (sym size) ∙ drop-append_seam left done.gone)))

    pub undone_marks : (earlier : ℕ) → earlier ≤ mark → before back (drop earlier left) now ≡ before back (drop earlier all) start
    undone_marks earlier within =
        ap (before back (drop earlier left)) done.state
        ∙ (sym (before-append (drop earlier left) done.gone start)
        ∙ (ap (λ es. before back es start) (sym (drop-append-le earlier left done.gone (omega (arith, size))))
        ∙ ap (λ es. before back (drop earlier es) start) (sym done.split)))

  module _ (Holds : S → E → Type 0) where
    pub StandsBack-push : (es : List E) (e : E) (now : S) → Holds now e → StandsBack back Holds es (back e now) → StandsBack back Holds (es ++ e ∷ []) now
    StandsBack-push [] e now stands rest = (tt, stands)
    StandsBack-push (x ∷ es) e now stands (rest, here) =
        (StandsBack-push es e now stands rest, subst (λ s. Holds s x) (sym (before-append es (e ∷ []) now)) here)

    pub StandsBack-append : (es fs : List E) (now : S) → StandsBack back Holds es (before back fs now) → StandsBack back Holds fs now
        → StandsBack back Holds (es ++ fs) now
    StandsBack-append [] fs now old new = new
    StandsBack-append (x ∷ es) fs now (rest, here) new =
        (StandsBack-append es fs now rest new, subst (λ s. Holds s x) (sym (before-append es fs now)) here)

    pub StandsBack-pop : (es : List E) (e : E) (now : S) → StandsBack back Holds (es ++ e ∷ []) now → Holds now e × StandsBack back Holds es (back e now)
    StandsBack-pop [] e now (rest, here) = (here, tt)
    StandsBack-pop (x ∷ es) e now (rest, here) =
        let (stands, more) = StandsBack-pop es e now rest in
        (stands, (more, subst (λ s. Holds s x) (before-append es (e ∷ []) now) here))
