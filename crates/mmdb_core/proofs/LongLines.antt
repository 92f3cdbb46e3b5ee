-- The rest of a line that is too long.
use Rattle.std.proofs.Common.{◌≡◌, ℕ, ◌+◌, ◌<◌, ◌≤◌, inl, inr, Bool, true, false, cond, eqb, Option, List, [], ◌∷◌, ◌++◌, length, take, drop, refl, sym, ap}
use Rattle.std.proofs.Common.{subst, ◌∙◌, arith, append_assoc, length-append}
use Rattle.std.proofs.lemmas.List.{append-nil, length-take-le}
use Rattle.std.proofs.Math.Seq.{take-append-add}
use Rattle.mm_lang.specs.Lines.{without_return, HasNoFeed}
use Rattle.mm_value.specs.declared.device.Watched.{Watched}
use Rattle.mmdb_core.specs.steps.Feeds.{EndsLine}
use Rattle.mmdb_core.specs.steps.Input.{Advances, Comes, IsFault, StopsInLine}
use Rattle.mmdb_core.specs.declared.run_error.RunError.{RunError}
use Rattle.mmdb_core.specs.declared.input.Input.{Input}
use Rattle.mmdb_core.specs.declared.input.Next.TheVariants.{Long}
use Rattle.mmdb_core.proofs.Inputs.{Advances-clear, Advances-skip, Advances-then}

-- Some bytes of a line that is too long were dropped, and nothing is left in the window.
pub record Drops {R : Type 0} (remaining : R → Option (List ℕ)) (reader after : Watched R) (old new : Input) : Type 0 where
  pub line : List ℕ
  pub no_feed : HasNoFeed line
  pub long : 4097 < length line
  pub advances : Advances remaining reader after old new line
  pub empty : new.window.bytes ≡ []

no_feed-append : (xs ys : List ℕ) → HasNoFeed xs → HasNoFeed ys → HasNoFeed (xs ++ ys)
no_feed-append [] ys h k = k
no_feed-append (x ∷ xs) ys h k = (h.0, no_feed-append xs ys h.1 k)

-- dropping the return takes one byte at most
without_return-longer : (line : List ℕ) → length line ≤ length (without_return line) + 1
without_return-longer [] = omega arith
without_return-longer (b ∷ []) = longer (eqb b 13)
  where
    longer : (is_return : Bool) → 1 ≤ length (cond is_return [] (b ∷ [])) + 1
    longer true = omega arith
    longer false = omega arith
without_return-longer (b ∷ c ∷ bs) = omega (arith, without_return-longer (c ∷ bs))

stays_long : (line : List ℕ) → 4097 < length line → 4096 < length (without_return line)
stays_long line long = omega (arith, without_return-longer line)

-- the bytes of a line and its line feed, from a window
pub take-line : (window : List ℕ) (len : ℕ) → EndsLine window len → take (len + 1) window ≡ take len window ++ 10 ∷ []
take-line window len ends =
    let long : length (take len window) ≡ len = length-take-le len window (omega (arith, ends.within)) in
    ap (λ w. take (len + 1) w) ends.feed ∙ (ap (λ n. take (n + 1) (take len window ++ 10 ∷ drop (len + 1) window)) (sym long)
    ∙ take-append-add (take len window) (10 ∷ drop (len + 1) window) 1)

module _ {R : Type 0} {remaining : R → Option (List ℕ)} where
  -- the reader failed, or returned too much
  pub Drops-stops : {r s t : Watched R} {a b c : Input} (fault : RunError) → Drops remaining r s a b → Advances remaining s t b c []
      → c.window.bytes ≡ b.window.bytes → IsFault c t fault → StopsInLine remaining r t a c fault
  Drops-stops {a = a} {c = c} fault drops advances same why =
      let none : drops.line ++ c.window.bytes ≡ drops.line = ap (λ l. drops.line ++ l) (same ∙ drops.empty) ∙ append-nil drops.line in
      record {
        gone = drops.line;
        advances = Advances-then (sym (append-nil drops.line)) drops.advances advances;
        no_feed = subst HasNoFeed (sym none) drops.no_feed;
        why = why;
      }

  -- the line ended with the input
  pub Drops-last : {r s : Watched R} {a b : Input} → Drops remaining r s a b → b.is_ended ≡ true → Comes remaining r s a b Long
  Drops-last drops ended = (
    drops.line,
    record {
      gone = drops.line;
      advances = drops.advances;
      is_line = record { no_feed = drops.no_feed; end = inr (refl, omega (arith, drops.long), drops.empty, ended) };
    },
    stays_long drops.line drops.long,
  )

  module _ {r s t : Watched R} {a b c : Input} (drops : Drops remaining r s a b) (fills : Advances remaining s t b c []) where
    so_far : Advances remaining r t a c drops.line
    so_far = Advances-then (sym (append-nil drops.line)) drops.advances fills

    -- the line ended at a line feed
    pub Drops-feed : {d : Input} (len : ℕ) → EndsLine c.window.bytes len → d.window.bytes ≡ drop (len + 1) c.window.bytes → d.still ≡ c.still
        → d.is_ended ≡ c.is_ended
        → Comes remaining r t a d Long
    Drops-feed len ends is still ended =
        let line = drops.line ++ take len c.window.bytes in (
          line,
          record {
            gone = drops.line ++ take (len + 1) c.window.bytes;
            advances = Advances-then refl so_far (Advances-skip (len + 1) is still ended);
            is_line = record {
              no_feed = no_feed-append drops.line (take len c.window.bytes) drops.no_feed ends.no_feed;
              end = inl (ap (λ l. drops.line ++ l) (take-line c.window.bytes len ends) ∙ sym (append_assoc drops.line (take len c.window.bytes) (10 ∷ [])));
            };
          },
          stays_long line (omega (arith, drops.long, length-append drops.line (take len c.window.bytes))),
        )

    -- the line continues
    pub Drops-more : {d : Input} → HasNoFeed c.window.bytes → d.window.bytes ≡ [] → d.still ≡ c.still → d.is_ended ≡ c.is_ended → Drops remaining r t a d
    Drops-more no_feed is still ended = record {
      line = drops.line ++ c.window.bytes;
      no_feed = no_feed-append drops.line c.window.bytes drops.no_feed no_feed;
      long = omega (arith, drops.long, length-append drops.line c.window.bytes);
      advances = Advances-then refl so_far (Advances-clear is still ended);
      empty = is;
    }
