-- One more change is prepared.
use Rattle.std.proofs.Common.{◌≡◌, ◌≤◌, ◌<◌, ◌++◌, ◌∷◌, ◌-◌, [], List, length, take, refl, sym, ap, ◌∙◌, subst, arith}
use Rattle.std.specs.List.{All}
use Rattle.std.proofs.lemmas.List.{append-nil}
use Rattle.std.proofs.lemmas.List.Elements.{All-weaker}
use Rattle.mm_standing.specs.Bags.{IsSmall, IsSound, IsTyped, CanAdd, done_of}
use Rattle.mm_standing.specs.declared.change.ListChange.{ListChange}
use Rattle.mm_standing.specs.declared.change.RowChange.{RowChange}
use Rattle.mm_standing.proofs.Dropping.{done_put, sound_put, sound_same, undos_put}
use Rattle.mm_standing.proofs.Preparing.{AreSplit, split_more, split_none, split_within, still_typed}
use Rattle.mm_standing.proofs.Steps.{All_left}
use Rattle.mm_standing.proofs.prepare.prepare_each.Goals as goal

pub loop-change-init : goal.loop-change-init
loop-change-init c =
    let bags = c.args.bags.now.items in
    let all = c.args.changes.items in
    let empty = ap (λ (ps : List ListChange). length ps) c.requires.prepared in
    record {
      sound = subst (λ (ps : List ListChange). IsSound bags ps c.args.log.now) (sym c.requires.prepared) c.requires.sound;
      split = subst (λ (ps : List ListChange). AreSplit all all (done_of bags ps)) (sym c.requires.prepared) (split_none all);
      there = c.requires.there;
      small = c.requires.small;
      typed = c.requires.typed;
      room = omega (arith, c.requires.room, empty, c.args.prepared.now.ok.0);
      many = omega (arith, empty, c.args.prepared.now.ok.0);
      log = refl;
      counts = λ list row. refl;
      totals = λ list. refl;
      types = refl;
      feeds = refl;
      size = refl;
    }

last : (P : RowChange → Type 0) (all rest : List RowChange) (c : RowChange) → all ≡ rest ++ c ∷ [] → All P all → All P rest × P c
last P all rest c is each = All_left P rest c (subst (All P) is each)

pub prepare_one-requires-clause-there : goal.prepare_one-requires-clause-there
prepare_one-requires-clause-there c =
    (last (λ (d : RowChange). d.list < length c.loop-change.bags.items) c.loop-change.changes.items c.pop.new.self.items c.in-Some.change
    c.in-Some.ensures.items c.loop-change.invariant.there).1

pub prepare_one-requires-clause-small : goal.prepare_one-requires-clause-small
prepare_one-requires-clause-small c =
    (last IsSmall c.loop-change.changes.items c.pop.new.self.items c.in-Some.change c.in-Some.ensures.items c.loop-change.invariant.small).1

pub prepare_one-requires-clause-typed : goal.prepare_one-requires-clause-typed
prepare_one-requires-clause-typed c =
    (last (IsTyped c.loop-change.bags.items) c.loop-change.changes.items c.pop.new.self.items c.in-Some.change
    c.in-Some.ensures.items c.loop-change.invariant.typed).1

pub returns-in_err-change-clause-sound : goal.returns-in_err-change-clause-sound
returns-in_err-change-clause-sound c =
    sound_same c.loop-change.bags.items c.prepare_one.new.bags.items c.in_err-change.ensures.err c.loop-change.prepared.items c.args.log.now
    c.loop-change.invariant.sound

pub loop-change-preserved : goal.loop-change-preserved
loop-change-preserved c =
    let bags0 = c.args.bags.now.items in
    let all = c.args.changes.items in
    let bags = c.loop-change.bags.items in
    let new = c.prepare_one.new.bags.items in
    let prepared = c.loop-change.prepared.items in
    let log = c.args.log.now in
    let rest = c.pop.new.self.items in
    let change = c.in-Some.change in
    let one = c.in_ok-change.change in
    let e = c.in_ok-change.ensures in
    let items = c.in-Some.ensures.items in
    let so_far = c.loop-change.invariant in
    let theres = last (λ (d : RowChange). d.list < length bags) c.loop-change.changes.items rest change items so_far.there in
    let smalls = last IsSmall c.loop-change.changes.items rest change items so_far.small in
    let typeds = last (IsTyped bags) c.loop-change.changes.items rest change items so_far.typed in
    let split : AreSplit all (rest ++ change ∷ []) (done_of bags prepared) =
    subst (λ (cs : List RowChange). AreSplit all cs (done_of bags prepared)) items so_far.split in
    let can = split_within all rest (done_of bags prepared) change split bags0 bags c.requires.within so_far.counts so_far.totals in
    let more = c.push_reserved.ensures in
    let less = c.in-Some.ensures.cases in
    let room = so_far.room in
    let many = so_far.many in
    record {
      sound = subst (λ (ps : List ListChange). IsSound new ps log) (sym more.items)
          (sound_put bags new prepared log change one e.list e.by so_far.sound e.puts theres.1 can);
      split = subst (λ (ds : List RowChange). AreSplit all rest ds)
          (sym (ap (done_of new) more.items ∙ done_put bags new prepared log change one e.list e.by so_far.sound e.puts theres.1))
          (split_more all rest (done_of bags prepared) change split);
      there = All-weaker (λ (d : RowChange). d.list < length bags) (λ (d : RowChange). d.list < length new) (λ d h. omega (arith, h, e.puts.size)) rest
          theres.0;
      small = smalls.0;
      typed = still_typed bags new e.puts.types rest typeds.0;
      room = omega (arith, room, more.len, more.capacity, less);
      many = omega (arith, many, more.len, less);
      log = undos_put bags new prepared log change one e.list e.by so_far.sound e.puts theres.1 ∙ so_far.log;
      counts = λ list row. e.puts.counts list row ∙ so_far.counts list row;
      totals = λ list. e.puts.totals list ∙ so_far.totals list;
      types = e.puts.types ∙ so_far.types;
      feeds = e.puts.feeds ∙ so_far.feeds;
      size = e.puts.size ∙ so_far.size;
    }
