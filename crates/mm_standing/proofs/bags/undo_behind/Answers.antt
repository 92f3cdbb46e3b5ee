-- The newest remaining change of the log is undone.
use Rattle.std.proofs.Common.{◌≡◌, ℕ, zero, suc, pos, false, ◌+◌, ◌+ℤ◌, ◌++◌, ◌∷◌, [], ◌-◌, ◌≤◌, ◌<◌, List, drop, take, length, map, get_or, refl, sym, ap}
use Rattle.std.proofs.Common.{◌∙◌, subst, arith}
use Rattle.std.proofs.lemmas.Grind.{take_at_read}
use Rattle.std.proofs.lemmas.List.{drop-append-le, length-map, length-take-le, take_all}
use Rattle.std.proofs.Math.Seq.{take-append_seam}
use Rattle.mm_value.specs.declared.values.Value.{Value}
use Rattle.mm_multiset.specs.Counts.{Counts, count_in}
use Rattle.mm_standing.specs.Bags.{IsSound, change_of, count_with, entries_at, opposite, row_change, sum_over, undos}
use Rattle.mm_standing.specs.declared.change.ListChange.{ListChange}
use Rattle.mm_standing.specs.declared.change.RowChange.{RowChange}
use Rattle.mm_standing.proofs.Stages.{count_moved, nothing_left}
use Rattle.mm_standing.proofs.Steps.{newest_there, newest_within, sound_back, undos_back, undos_push}
use Rattle.mm_standing.proofs.Dropping.{counts_removed, sound_removed, types_removed, undos_removed, feeds_removed, size_removed}
use Rattle.mm_standing.proofs.Purging.{slot_inside}
use Rattle.mm_standing.proofs.bags.undo_behind.Goals as goal

abbrev none : ListChange
none = record { list = 0; entry = record { slot = record { slot = 0 }; hash = 0 }; by = pos 0; is_new = false }

abbrev last : List ListChange → ℕ → ListChange
last log left = get_or log (left - 1) none

-- The log up to a place consists of the part before it and the change there.
parts : (log : List ListChange) (left : ℕ) → 0 < left → left ≤ length log → take left log ≡ take (left - 1) log ++ last log left ∷ []
parts log left some within = ap (λ n. take n log) (omega (arith, some)) ∙ (take_at_read log (left - 1) none (omega (arith, some, within))).1

sound_with : (bags : List Counts) (log : List ListChange) (left : ℕ) → 0 < left → left ≤ length log → IsSound bags [] (take left log)
    → IsSound bags [] (take (left - 1) log ++ last log left ∷ [])
sound_with bags log left some within sound = subst (IsSound bags []) (parts log left some within) sound

-- The prefix of a list that has one more element.
front : (us : List RowChange) (u : RowChange) (all : List RowChange) (n : ℕ) → length us ≡ n → take (n + 1) all ≡ us ++ u ∷ [] → us ≡ take n all
front us u all n many is =
    sym (take-append_seam us (u ∷ [])) ∙ ap (λ k. take k (us ++ u ∷ [])) many ∙ ap (take n) (sym is) ∙ take_less n (n + 1) (omega arith) all
  where
    take_less : (k m : ℕ) → k ≤ m → (xs : List RowChange) → take k (take m xs) ≡ take k xs
    take_less zero m less xs = refl
    take_less (suc k) zero less xs = absurd (omega (arith, less))
    take_less (suc k) (suc m) less [] = refl
    take_less (suc k) (suc m) less (x ∷ xs) = ap (λ l. x ∷ l) (take_less k m (omega (arith, less)) xs)

counts_with : (old new : List Counts) (cs : List RowChange)
    → ((list : ℕ) (row : List Value) → count_in row (entries_at new list) ≡ count_in row (entries_at old list))
    → (list : ℕ) (row : List Value) → count_with new cs list row ≡ count_with old cs list row
counts_with old new cs same list row = ap (λ n. pos n +ℤ sum_over (row_change list row) cs) (same list row)

pub loop-left-init : goal.loop-left-init
loop-left-init c =
    let bags = c.args.bags.now.items in
    let log = c.args.log.now in
    let all = sym (take_all (length log) log (omega arith)) in
    record {
      sound = subst (λ (l : List ListChange). IsSound bags [] l) all c.requires.sound;
      log = ap (undos bags) (sym all)
          ∙ sym (take_all (length log) (undos bags log) (omega (arith, length-map log (λ (d : ListChange). opposite (change_of bags d)))));
      least = c.requires.mark;
      most = omega arith;
      counts = λ earlier within list row. ap (λ (l : List ListChange). count_with bags (drop earlier (undos bags l)) list row) (sym all);
      types = refl;
      feeds = refl;
      size = refl;
    }

pub undo-requires-clause-there : goal.undo-requires-clause-there
undo-requires-clause-there c =
    newest_there c.loop-left.bags.items (take (c.loop-left.left - 1) c.args.log.now) (last c.args.log.now c.loop-left.left)
    (sound_with c.loop-left.bags.items c.args.log.now c.loop-left.left (omega (arith, c.loop-left-test.true)) c.loop-left.invariant.most
    c.loop-left.invariant.sound)

pub undo-requires-clause-within : goal.undo-requires-clause-within
undo-requires-clause-within c =
    newest_within c.loop-left.bags.items (take (c.loop-left.left - 1) c.args.log.now) (last c.args.log.now c.loop-left.left)
    (sound_with c.loop-left.bags.items c.args.log.now c.loop-left.left (omega (arith, c.loop-left-test.true)) c.loop-left.invariant.most
    c.loop-left.invariant.sound)

pub undo-requires-clause-now : goal.undo-requires-clause-now
undo-requires-clause-now c = nothing_left c.loop-left.bags.items (undos c.loop-left.bags.items (take c.loop-left.left c.args.log.now))
    c.loop-left.invariant.sound.undo

pub loop-left-preserved : goal.loop-left-preserved
loop-left-preserved c =
    let bags = c.loop-left.bags.items in
    let new = c.undo.new.bags.items in
    let log = c.args.log.now in
    let rest = take (c.loop-left.left - 1) log in
    let change = last c.args.log.now c.loop-left.left in
    let mid = c.undo.ensures.0 in
    let adds = c.undo.ensures.1 in
    let removed = c.undo.ensures.2 in
    let kept = c.undo.ensures.3 in
    let is = parts log c.loop-left.left (omega (arith, c.loop-left-test.true)) c.loop-left.invariant.most in
    let sound = sound_with c.loop-left.bags.items c.args.log.now c.loop-left.left (omega (arith, c.loop-left-test.true)) c.loop-left.invariant.most
    c.loop-left.invariant.sound in
    let test = c.loop-left-test.true in
    let so_far = c.loop-left.invariant in
    let most = so_far.most in
    let short = length-take-le (c.loop-left.left - 1) log (omega (arith, most, test)) in
    let long = length-map rest (λ (d : ListChange). opposite (change_of bags d)) ∙ short in
    let back = sound_back bags mid rest change sound adds in
    let undone : undos new rest ≡ undos bags rest = undos_removed mid [] rest change back new removed kept ∙ undos_back bags mid rest change sound adds in
    let joined : undos bags (take c.loop-left.left log) ≡ undos bags rest ++ opposite (change_of bags change) ∷ [] = ap (undos bags) is ∙ undos_push bags rest
    change in
    record {
      sound = sound_removed mid [] rest change back new removed kept;
      log = undone ∙ front (undos bags rest) (opposite (change_of bags change)) (undos c.args.bags.now.items log) (c.loop-left.left - 1) (omega (arith, long))
          (ap (λ n. take n (undos c.args.bags.now.items log)) (omega (arith, test)) ∙ sym so_far.log ∙ joined);
      least = omega (arith, test);
      most = omega (arith, most);
      counts = λ earlier within list row.
          counts_with mid new (drop earlier (undos new rest)) (counts_removed mid [] rest change back new removed kept) list row
          ∙ ap (λ (us : List RowChange). count_with mid (drop earlier us) list row) undone
          ∙ count_moved (opposite (change_of bags change)) bags mid adds (drop earlier (undos bags rest)) list row
          ∙ ap (λ (us : List RowChange). count_with bags us list row)
          (sym (drop-append-le earlier (undos bags rest) (opposite (change_of bags change) ∷ []) (omega (arith, within, long))))
          ∙ ap (λ (us : List RowChange). count_with bags (drop earlier us) list row) (sym joined)
          ∙ so_far.counts earlier (omega (arith, within)) list row;
      types = types_removed mid [] rest change back new removed kept ∙ adds.types ∙ so_far.types;
      feeds = feeds_removed mid [] rest change back new removed kept ∙ adds.feeds ∙ so_far.feeds;
      size = size_removed mid [] rest change back new removed kept ∙ adds.size ∙ so_far.size;
    }
