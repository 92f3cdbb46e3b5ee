-- A purge changes no count, and removes the entries with the count 0.
use Rattle.std.proofs.Common.{◌≡◌, [], ◌++◌, ◌∷◌, ◌-◌, List, take, refl, sym, ap, ◌∙◌, subst}
use Rattle.std.specs.List.{All}
use Rattle.std.proofs.lemmas.List.{append-nil}
use Rattle.std.proofs.lemmas.List.Elements.{All-weaker}
use Rattle.mm_standing.specs.Bags.{IsLean, IsSound, IsThere, undos}
use Rattle.mm_standing.specs.declared.change.ListChange.{ListChange}
use Rattle.mm_standing.proofs.Dropping.{lean_sound, sound_empty}
use Rattle.mm_standing.proofs.Purging.{IsThereOrGone, lean_left, there_first, there_left}
use Rattle.mm_standing.proofs.Stages.{nothing_left, within_still}
use Rattle.mm_standing.proofs.Steps.{All_left}
use Rattle.mm_standing.proofs.bags.purge.Goals as goal
use Rattle.mm_standing.proofs.bags.purge.Goals.{In-Some}

pub loop-change-init : goal.loop-change-init
loop-change-init c =
    let bags = c.args.bags.now.items in
    let log = c.args.log.now.items in
    record {
      there = All-weaker (IsThere bags) (IsThereOrGone bags bags) (there_first bags) log (subst (All (IsThere bags)) (append-nil log) c.requires.there);
      counts = λ list row. refl;
      totals = λ list. refl;
      types = refl;
      feeds = refl;
      size = refl;
      lean = lean_sound bags log c.requires;
    }

parts : (c : In-Some) → All (IsThereOrGone c.args.bags.now.items c.loop-change.bags.items) c.pop.new.self.items
    × IsThereOrGone c.args.bags.now.items c.loop-change.bags.items c.in-Some.change
parts c =
    All_left (IsThereOrGone c.args.bags.now.items c.loop-change.bags.items) c.pop.new.self.items c.in-Some.change
    (subst (All (IsThereOrGone c.args.bags.now.items c.loop-change.bags.items)) c.in-Some.ensures.items c.loop-change.invariant.there)

pub remove-requires-clause-list : goal.remove-requires-clause-list
remove-requires-clause-list c = (parts (goal.at.remove-requires-clause-list c).In-Some).1.list

pub remove-requires-clause-slot : goal.remove-requires-clause-slot
remove-requires-clause-slot c = (parts (goal.at.remove-requires-clause-slot c).In-Some).1.slot

pub loop-change-preserved : goal.loop-change-preserved
loop-change-preserved c =
    let start = c.args.bags.now.items in
    let bags = c.loop-change.bags.items in
    let new = c.remove.new.bags.items in
    let rest = c.pop.new.self.items in
    let change = c.in-Some.change in
    let purged = c.remove.ensures in
    let so_far = c.loop-change.invariant in
    let both = parts (goal.at.loop-change-preserved c).In-Some in
    record {
      there = All-weaker (IsThereOrGone start bags) (IsThereOrGone start new) (there_left start bags new change purged) rest both.0;
      counts = λ list row. purged.counts list row ∙ so_far.counts list row;
      totals = λ list. purged.totals list ∙ so_far.totals list;
      types = purged.types ∙ so_far.types;
      feeds = purged.feeds ∙ so_far.feeds;
      size = purged.size ∙ so_far.size;
      lean = lean_left start bags new change purged rest both.1
          (subst (λ (l : List ListChange). IsLean bags (undos start l)) c.in-Some.ensures.items so_far.lean);
    }

emptied : (c : goal.In_default) → c.pop.new.self.items ≡ []
emptied c = c.in_default.ensures.rest ∙ ap (λ n. take (n - 1) c.loop-change.log.items) c.in_default.ensures.cases.0

pub returns-clause-sound : goal.returns-clause-sound
returns-clause-sound c =
    let start = c.args.bags.now.items in
    let bags = c.loop-change.bags.items in
    let none = c.in_default.ensures.items ∙ append-nil c.pop.new.self.items ∙ emptied c in
    subst (λ (l : List ListChange). IsSound bags [] l) (sym (emptied c))
    (sound_empty bags
    (within_still start bags c.loop-change.invariant.counts c.loop-change.invariant.totals [] (nothing_left start (undos start c.args.log.now.items)
    c.requires.undo))
    (subst (λ (l : List ListChange). IsLean bags (undos start l)) none c.loop-change.invariant.lean))
