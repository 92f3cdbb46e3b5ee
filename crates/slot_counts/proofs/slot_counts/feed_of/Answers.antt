-- One more slot, with its count.
use Rattle.std.proofs.Common.{◌≡◌, ℕ, ◌+◌, ◌<◌, ◌∷◌, ◌++◌, [], Bool, false, List, length, map, take, get_or, set, refl, sym, ap, ◌∙◌, subst, arith}
use Rattle.std.proofs.lemmas.List.{length-map, length-take-le, length_push, map_push, replicate_more, set_at, take_more}
use Rattle.slot_counts.specs.Numbers.{Tells, differs, shown_count}
use Rattle.slot_counts.proofs.Telling.{tells_grown_both, tells_set}
use Rattle.slot_counts.proofs.slot_counts.feed_of.Goals as goal

more : (distinct : Bool) (flags flags' : List Bool) (counts told told' : List ℕ) (i n : ℕ)
    → Tells flags (map (shown_count distinct) (take i counts)) told → i < length counts → told' ≡ told ++ 0 ∷ [] → n ≡ get_or counts i 0
    → flags' ≡ set (flags ++ false ∷ []) i (differs (shown_count distinct n) (get_or (told ++ 0 ∷ []) i 0))
    → Tells flags' (map (shown_count distinct) (take (i + 1) counts)) told'
more distinct flags flags' counts told told' i n tells within same read is =
    let f = shown_count distinct in
    let size : length (map f (take i counts)) ≡ i = length-map (take i counts) f ∙ length-take-le i counts (omega (arith, within)) in
    let grown = tells_grown_both flags (map f (take i counts)) told tells in
    let inside : i < length (map f (take i counts) ++ 0 ∷ []) = omega (arith, size, length_push (map f (take i counts)) 0) in
    let last : set (map f (take i counts) ++ 0 ∷ []) i (f n) ≡ map f (take (i + 1) counts) =
    set_at (map f (take i counts)) 0 [] (f n) i size
    ∙ (sym (map_push f (take i counts) n)
    ∙ ap (map f) (ap (λ (m : ℕ). take i counts ++ m ∷ []) read ∙ sym (take_more counts i 0 within)))
    in
    subst (λ (l : List Bool). Tells l (map f (take (i + 1) counts)) told') (sym is)
    (subst (λ (l : List ℕ). Tells (set (flags ++ false ∷ []) i (differs (f n) (get_or (told ++ 0 ∷ []) i 0))) (map f (take (i + 1) counts)) l) (sym same)
    (subst (λ (l : List ℕ). Tells (set (flags ++ false ∷ []) i (differs (f n) (get_or (told ++ 0 ∷ []) i 0))) l (told ++ 0 ∷ [])) last
    (tells_set (flags ++ false ∷ []) (map f (take i counts) ++ 0 ∷ []) (told ++ 0 ∷ []) i (f n) grown inside)))

pub loop-slot-preserved : goal.loop-slot-preserved
loop-slot-preserved c =
    let i : ℕ = c.loop-slot.slot in
    let within : i < length c.args.counts.now = omega (arith, c.loop-slot-test.true) in
    let told = c.note.ensures.told ∙ c.grow.ensures.told in
    let same : c.grow.new.self.distinct ≡ c.args.distinct = c.grow.ensures.distinct ∙ c.loop-slot.invariant.distinct in
    record {
      distinct = c.note.ensures.distinct ∙ same;
      told = told ∙ (ap (λ (l : List ℕ). l ++ 0 ∷ []) c.loop-slot.invariant.told ∙ replicate_more c.loop-slot.slot 0);
      tells = more c.args.distinct c.loop-slot.feed.changed c.note.new.self.changed c.args.counts.now c.loop-slot.feed.told c.note.new.self.told
          c.loop-slot.slot (get_or c.args.counts.now c.loop-slot.slot 0) c.loop-slot.invariant.tells within told refl
          (c.note.ensures.changed
          ∙ (λ j. set (c.grow.ensures.changed j) c.loop-slot.slot
          (differs (shown_count (same j) (get_or c.args.counts.now c.loop-slot.slot 0)) (get_or (c.grow.ensures.told j) c.loop-slot.slot 0))));
      room = omega (arith, c.loop-slot.invariant.room, c.note.ensures.room, c.grow.ensures.room);
    }
