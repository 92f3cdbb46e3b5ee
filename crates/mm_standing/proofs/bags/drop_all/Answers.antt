-- The last prepared change is dropped, with the entry that was inserted for it.
use Rattle.std.proofs.Common.{◌≡◌, ◌-◌, ◌++◌, ◌∷◌, [], List, take, refl, sym, ap, ◌∙◌, subst}
use Rattle.std.proofs.lemmas.List.{append-nil}
use Rattle.mm_standing.specs.Bags.{IsSound}
use Rattle.mm_standing.specs.declared.change.ListChange.{ListChange}
use Rattle.mm_standing.proofs.Dropping.{counts_removed, last_there, feeds_removed, size_removed, sound_removed, types_removed, undos_removed}
use Rattle.mm_standing.proofs.Purging.{slot_inside}
use Rattle.mm_standing.proofs.bags.drop_all.Goals as goal
use Rattle.mm_standing.proofs.bags.drop_all.Goals.{In-Some}

pub loop-change-init : goal.loop-change-init
loop-change-init c = record {
  sound = c.requires.sound;
  log = refl;
  counts = λ list row. refl;
  types = refl;
  feeds = refl;
  size = refl;
}

sound_with : (c : In-Some) → IsSound c.loop-change.bags.items (c.pop.new.self.items ++ c.in-Some.change ∷ []) c.args.log.now
sound_with c =
    subst (λ (ps : List ListChange). IsSound c.loop-change.bags.items ps c.args.log.now) c.in-Some.ensures.items c.loop-change.invariant.sound

pub remove_new-requires-clause-list : goal.remove_new-requires-clause-list
remove_new-requires-clause-list c =
    (last_there c.loop-change.bags.items c.pop.new.self.items c.args.log.now c.in-Some.change
    (sound_with (goal.at.remove_new-requires-clause-list c).In-Some)).list

pub remove_new-requires-clause-slot : goal.remove_new-requires-clause-slot
remove_new-requires-clause-slot c =
    slot_inside c.loop-change.bags.items c.in-Some.change
    (last_there c.loop-change.bags.items c.pop.new.self.items c.args.log.now c.in-Some.change
    (sound_with (goal.at.remove_new-requires-clause-slot c).In-Some))

pub loop-change-preserved : goal.loop-change-preserved
loop-change-preserved c =
    let bags = c.loop-change.bags.items in
    let rest = c.pop.new.self.items in
    let log = c.args.log.now in
    let change = c.in-Some.change in
    let sound = sound_with (goal.at.loop-change-preserved c).In-Some in
    let new = c.remove_new.new.bags.items in
    let removed = c.remove_new.ensures.removed in
    let kept = c.remove_new.ensures.kept in
    let so_far = c.loop-change.invariant in
    record {
      sound = sound_removed bags rest log change sound new removed kept;
      log = undos_removed bags rest log change sound new removed kept ∙ so_far.log;
      counts = λ list row. counts_removed bags rest log change sound new removed kept list row ∙ so_far.counts list row;
      types = types_removed bags rest log change sound new removed kept ∙ so_far.types;
      feeds = feeds_removed bags rest log change sound new removed kept ∙ so_far.feeds;
      size = size_removed bags rest log change sound new removed kept ∙ so_far.size;
    }

emptied : (c : goal.In_default) → c.pop.new.self.items ≡ []
emptied c = c.in_default.ensures.rest ∙ ap (λ n. take (n - 1) c.loop-change.prepared.items) c.in_default.ensures.cases.0

pub returns-clause-sound : goal.returns-clause-sound
returns-clause-sound c =
    subst (λ (ps : List ListChange). IsSound c.loop-change.bags.items ps c.args.log.now)
    (c.in_default.ensures.items ∙ append-nil c.pop.new.self.items ∙ emptied c) c.loop-change.invariant.sound
