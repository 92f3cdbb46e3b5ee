use Rattle.mm_link.specs.Links.{HaveTargets}
use Rattle.mm_link.specs.Logged.{slots_at}
use Rattle.mm_link.proofs.Coming.{HaveTargets-after, HaveTargets-follows}
use Rattle.mm_link.proofs.Logged.{FollowsUndo-record, KeepsLink-source, KeepsLink-staged, KeepsLink-target}
use Rattle.mm_link.proofs.SameRows.{Follows-same_rows}
use Rattle.mm_link.proofs.Targets.{Follows-after}
use Rattle.mm_link.proofs.link.Link.are_kept.Goals as goal

pub returns-clause-rows : goal.returns-clause-rows
returns-clause-rows c = λ key was now then later own same follows.
    Follows-same_rows c.args.self.now.reference.column key was now then later c.args.self.now.ties own same follows

pub returns-clause-command : goal.returns-clause-command
returns-clause-command c = λ key now then edits command spares follows.
    Follows-after c.args.self.now.reference.column key now then c.args.self.now.ties edits command spares follows

pub returns-clause-source : goal.returns-clause-source
returns-clause-source c = λ key own_key s edits apart within command comes follows.
    let column = c.args.self.now.reference.column in
    let now = slots_at s c.args.self.now.reference.from in
    let then = slots_at s c.args.self.now.reference.to in
    let first : HaveTargets column key now then = HaveTargets-follows column key then now c.args.self.now.ties follows in
    KeepsLink-source c.args.self.now.reference key apart s own_key edits within command first
    (HaveTargets-after column key then own_key edits now command comes first)

pub returns-clause-staged : goal.returns-clause-staged
returns-clause-staged c = λ key s table r row apart within free follows.
    KeepsLink-staged c.args.self.now.reference key apart s table r row within free
    (HaveTargets-follows c.args.self.now.reference.column key (slots_at s c.args.self.now.reference.to)
    (slots_at s c.args.self.now.reference.from) c.args.self.now.ties follows)

pub returns-clause-target : goal.returns-clause-target
returns-clause-target c = λ key s edits apart within command spares follows keys_apart.
    KeepsLink-target c.args.self.now.reference key apart s c.args.self.now.ties edits within command spares follows keys_apart

pub returns-clause-undo : goal.returns-clause-undo
returns-clause-undo c = λ key keys s r apart own holds keeps follows.
    FollowsUndo-record c.args.self.now.reference key apart keys s r c.args.self.now.ties holds keeps follows own
