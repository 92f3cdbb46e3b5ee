-- One more change is applied and logged.
use Rattle.std.proofs.Common.{◌≡◌, ℕ, ℤ, pos, false, ◌+◌, ◌<◌, ◌++◌, ◌∷◌, [], List, drop, length, get_or, refl, subst, sym, ap, ◌∙◌, arith}
use Rattle.std.proofs.lemmas.List.{at_drop_more, drop_all}
use Rattle.mm_multiset.specs.Counts.{Counts}
use Rattle.mm_standing.specs.Bags.{AddedTo, IsSound, IsThere, IsWithin, Made, change_of, done_of, row_of, undos}
use Rattle.mm_standing.specs.declared.change.RowChange.{RowChange}
use Rattle.mm_standing.specs.declared.change.ListChange.{ListChange}
use Rattle.mm_standing.proofs.Steps.{made_more, made_none, next_short, next_there, next_within, sound_made}
use Rattle.mm_standing.proofs.bags.make_all.Goals as goal

pub loop-change-init : goal.loop-change-init
loop-change-init c = record {
  sound = c.requires.sound;
  room = c.requires.room;
  made = made_none c.args.bags.now.items (done_of c.args.bags.now.items c.args.prepared.now) (undos c.args.bags.now.items c.args.log.now.items);
}

abbrev none : ListChange
none = record { list = 0; entry = record { slot = record { slot = 0 }; hash = 0 }; by = pos 0; is_new = false }

abbrev at : List ListChange → ℕ → ListChange
at cs i = get_or cs i none

-- The rest begins with the change.
parts : (cs : List ListChange) (i : ℕ) → i < length cs → drop i cs ≡ at cs i ∷ drop (i + 1) cs
parts cs i within = at_drop_more (λ (l : List ListChange). l) cs i none within

sound_with : (bags : List Counts) (cs log : List ListChange) (i : ℕ) → i < length cs → IsSound bags (drop i cs) log
    → IsSound bags (at cs i ∷ drop (i + 1) cs) log
sound_with bags cs log i within sound = subst (λ (ps : List ListChange). IsSound bags ps log) (parts cs i within) sound

there : (bags : List Counts) (cs log : List ListChange) (i : ℕ) → i < length cs → IsSound bags (drop i cs) log → IsThere bags (at cs i)
there bags cs log i within sound = next_there bags (at cs i) (drop (i + 1) cs) log (sound_with bags cs log i within sound)

-- the change of the row's count by a number
abbrev with_number : List Counts → ListChange → ℤ → RowChange
with_number bags c z = record { list = c.list; change = record { row = row_of bags c; count = z } }

pub add-requires-clause-list : goal.add-requires-clause-list
add-requires-clause-list c =
    (there c.loop-change.bags.items c.args.prepared.now c.loop-change.log.items c.loop-change.change-index c.loop-change-test.true
    c.loop-change.invariant.sound).list

pub add-requires-clause-entry : goal.add-requires-clause-entry
add-requires-clause-entry c =
    (there c.loop-change.bags.items c.args.prepared.now c.loop-change.log.items c.loop-change.change-index c.loop-change-test.true
    c.loop-change.invariant.sound).entry

pub add-requires-clause-within : goal.add-requires-clause-within
add-requires-clause-within c =
    let bags = c.loop-change.bags.items in
    let cs = c.args.prepared.now in
    let i = c.loop-change.change-index in
    let sound = sound_with bags cs c.loop-change.log.items i c.loop-change-test.true c.loop-change.invariant.sound in
    subst (λ (z : ℤ). IsWithin bags (with_number bags (at cs i) z ∷ [])) (sym (next_short bags (at cs i) (drop (i + 1) cs) c.loop-change.log.items sound))
    (next_within bags (at cs i) (drop (i + 1) cs) c.loop-change.log.items sound)

pub loop-change-preserved : goal.loop-change-preserved
loop-change-preserved c =
    let bags = c.loop-change.bags.items in
    let new = c.add.new.bags.items in
    let cs = c.args.prepared.now in
    let i = c.loop-change.change-index in
    let change = at cs i in
    let rest = drop (i + 1) cs in
    let log = c.loop-change.log.items in
    let is = parts cs i c.loop-change-test.true in
    let sound = sound_with bags cs log i c.loop-change-test.true c.loop-change.invariant.sound in
    let adds : AddedTo (change_of bags change) bags new =
    subst (λ (z : ℤ). AddedTo (with_number bags change z) bags new) (next_short bags change rest log sound) c.add.ensures in
    let longer = c.push_reserved.ensures in
    let room = c.loop-change.invariant.room in
    let bags0 = c.args.bags.now.items in
    record {
      sound = subst (λ (l : List ListChange). IsSound new rest l) (sym longer.items) (sound_made bags new change rest log sound adds);
      room = omega (arith, room, longer.len, longer.capacity, ap (λ (ps : List ListChange). length ps) is);
      made = subst (λ (l : List ListChange). Made bags0 (done_of bags0 cs) (undos bags0 c.args.log.now.items) new (done_of new rest) (undos new l))
          (sym longer.items)
          (made_more bags new change rest log sound adds bags0 (done_of bags0 cs) (undos bags0 c.args.log.now.items)
          (subst (λ (ps : List ListChange). Made bags0 (done_of bags0 cs) (undos bags0 c.args.log.now.items) bags (done_of bags ps) (undos bags log))
          is c.loop-change.invariant.made));
    }
