use Rattle.std.proofs.Common.{◌≡◌, ◌≢◌, ◌-◌, [], ◌∷◌, ◌++◌, List, length, get_or, take, drop, sym, ap, ◌∙◌, subst, arith, rules}
use Rattle.std.proofs.lemmas.List.{get_or_default}
use Rattle.std.specs.Prelude.{IfSome}
use Rattle.std.specs.List.{All, insert}
use Rattle.std.specs.declared.cmp.Ordering.{Ordering}
use Rattle.std.specs.declared.cmp.Ordering.TheVariants.{Less, Equal, Greater}
use Rattle.mm_value.specs.declared.row_ref.RowRef.{RowRef}
use Rattle.mm_order.specs.Order.{IsOrdered}
use Rattle.mm_order.specs.Refs.{AddsInOrder}
use Rattle.mm_order.proofs.Pairs.{All-append_left, All-append_right}
use Rattle.ttree_node.specs.Entries.{last_entry}
use Rattle.ttree_node.specs.Tree.{Empty, fork, tree_of, in_order}
use Rattle.ttree.specs.Balanced.{IsTTree}
use Rattle.ttree.proofs.Bound.{after_last, behind_front, last_behind, not_below}
use Rattle.ttree.proofs.Parts.{IsOrdered-front, IsOrdered-middle, IsOrdered-back, adds_alone, adds_behind, adds_left, adds_right}
use Rattle.ttree.proofs.inserts.+insert_into.Goals as goal

pub is_before-requires-clause-covered_entries : goal.is_before-requires-clause-covered_entries
is_before-requires-clause-covered_entries g t c =
    let n = c.in-Some.node in
    rw c.node.ensures (IsOrdered-middle _ _ (in_order n.left) n.entries (in_order n.right) (rw c.in-Some.is at c.requires.ordered)).covered

pub returns-then-len-lt16-clause-adds : goal.returns-then-len-lt16-clause-adds
returns-then-len-lt16-clause-adds g t c =
    let n = c.in-Some.node in
    let cmp : RowRef → RowRef → Ordering = g.O.RefOrder.cmp c.args.order.now in
    let none : n.left ≡ Empty = search rules in
    let whole : in_order (tree_of c.args.tree) ≡ [] ++ n.entries ++ in_order n.right = search rules in
    let made : in_order (fork c.put_entry.new.self) ≡ c.args.added ∷ [] ++ n.entries ++ in_order n.right = search rules in
    let was : IsOrdered (g.O.RefOrder.covers c.args.order.now) cmp ([] ++ n.entries ++ in_order n.right) =
    subst (IsOrdered (g.O.RefOrder.covers c.args.order.now) cmp) whole c.requires.ordered in
    let tree : IsTTree (fork n) = rw c.in-Some.is at c.requires.tree in
    let adds : AddsInOrder cmp ([] ++ n.entries ++ in_order n.right) c.args.added (c.args.added ∷ [] ++ n.entries ++ in_order n.right) =
    adds_left _ _ (g.met.O.RefOrder.total c.args.order.now) [] n.entries (in_order n.right) was tree.2.filled c.args.added c.requires.covered
    (c.args.added ∷ []) (rw c.node.ensures at c.is_before.ensures.0 c.if-is_before.true) (adds_alone (g.O.RefOrder.covers c.args.order.now) cmp c.args.added) in
    subst (λ xs. AddsInOrder cmp xs c.args.added (in_order (fork c.put_entry.new.self))) (sym whole)
    (subst (AddsInOrder cmp ([] ++ n.entries ++ in_order n.right) c.args.added) (sym made) adds)

pub insert_into-requires : goal.insert_into-requires
insert_into-requires g t c κs within =
    let n = c.in-Some.node in
    let cmp : RowRef → RowRef → Ordering = g.O.RefOrder.cmp c.args.order.now in
    let P : RowRef → Type 0 = λ a. cmp a c.args.added ≢ Equal in
    let is : in_order (tree_of c.take_left-left.result) ≡ in_order n.left = search rules in
    let was : IsOrdered (g.O.RefOrder.covers c.args.order.now) cmp (in_order n.left ++ n.entries ++ in_order n.right) = rw c.in-Some.is at c.requires.ordered in
    let apart : All P (in_order n.left ++ n.entries ++ in_order n.right) = rw c.in-Some.is at c.requires.apart in
    let ordered = IsOrdered-front _ _ (in_order n.left) n.entries (IsOrdered-front _ _ (in_order n.left ++ n.entries) (in_order n.right) was) in
    let left_apart = All-append_left P (in_order n.left) n.entries (All-append_left P (in_order n.left ++ n.entries) (in_order n.right) apart) in
    let behind : IfSome c.args.bound (λ b. All (λ a. cmp b a ≡ Less) (in_order n.left ++ n.entries ++ in_order n.right)) = rw c.in-Some.is at
    c.requires.behind in
    let left_behind : IfSome c.args.bound (λ b. All (λ a. cmp b a ≡ Less) (in_order n.left)) = behind_front cmp c.args.bound (in_order n.left) n.entries
    (behind_front cmp c.args.bound (in_order n.left ++ n.entries) (in_order n.right) behind) in (
      search rules,
      (
        search rules,
        (
          search rules,
          (
            subst (IsOrdered (g.O.RefOrder.covers c.args.order.now) cmp) (sym is) ordered,
            (
              search rules,
              (
                subst (All P) (sym is) left_apart,
                (
                  c.requires.bound_covered,
                  (
                    subst (λ xs. IfSome c.args.bound (λ b. All (λ a. cmp b a ≡ Less) xs)) (sym is) left_behind,
                    (search rules, search rules),
                  ),
                ),
              ),
            ),
          ),
        ),
      ),
    )

pub returns-in-Ok-clause-adds : goal.returns-in-Ok-clause-adds
returns-in-Ok-clause-adds g t c =
    let n = c.in-Some.node in
    let cmp : RowRef → RowRef → Ordering = g.O.RefOrder.cmp c.args.order.now in
    let whole : in_order (tree_of c.args.tree) ≡ in_order n.left ++ n.entries ++ in_order n.right = search rules in
    let is : in_order (tree_of c.take_left-left.result) ≡ in_order n.left = search rules in
    let made : in_order (fork c.balance.result) ≡ in_order (fork c.in-Ok.left) ++ n.entries ++ in_order n.right = search rules in
    let was : IsOrdered (g.O.RefOrder.covers c.args.order.now) cmp (in_order n.left ++ n.entries ++ in_order n.right) = rw c.in-Some.is at c.requires.ordered in
    let tree : IsTTree (fork n) = rw c.in-Some.is at c.requires.tree in
    let below : AddsInOrder cmp (in_order n.left) c.args.added (in_order (fork c.in-Ok.left)) =
    subst (λ xs. AddsInOrder cmp xs c.args.added (in_order (fork c.in-Ok.left))) is c.in-Ok.ensures.adds in
    let adds = adds_left _ _ (g.met.O.RefOrder.total c.args.order.now) (in_order n.left) n.entries
    (in_order n.right) was tree.2.filled c.args.added c.requires.covered (in_order (fork c.in-Ok.left))
    (rw c.node.ensures at c.is_before.ensures.0 c.if-is_before.true) below in
    subst (λ xs. AddsInOrder cmp xs c.args.added (in_order (fork c.balance.result))) (sym whole)
    (subst (AddsInOrder cmp (in_order n.left ++ n.entries ++ in_order n.right) c.args.added) (sym made) adds)

pub place_among-at-requires-clause-ordered : goal.place_among-at-requires-clause-ordered
place_among-at-requires-clause-ordered g t c =
    let n = c.in-Some.node in
    let cmp : RowRef → RowRef → Ordering = g.O.RefOrder.cmp c.args.order.now in
    let was : IsOrdered (g.O.RefOrder.covers c.args.order.now) cmp (in_order n.left ++ n.entries ++ in_order n.right) = rw c.in-Some.is at c.requires.ordered in
    let is : c.entries-then-len-lt16-2.result.now ≡ n.entries = search rules in
    subst (IsOrdered (g.O.RefOrder.covers c.args.order.now) cmp) (sym is) (IsOrdered-middle _ _ (in_order n.left) n.entries (in_order n.right) was)

pub place_among-at-requires-clause-apart : goal.place_among-at-requires-clause-apart
place_among-at-requires-clause-apart g t c =
    let n = c.in-Some.node in
    let cmp : RowRef → RowRef → Ordering = g.O.RefOrder.cmp c.args.order.now in
    let P : RowRef → Type 0 = λ a. cmp a c.args.added ≢ Equal in
    let apart : All P (in_order n.left ++ n.entries ++ in_order n.right) = rw c.in-Some.is at c.requires.apart in
    let is : c.entries-then-len-lt16-2.result.now ≡ n.entries = search rules in
    subst (All P) (sym is) (All-append_right P (in_order n.left) n.entries (All-append_left P (in_order n.left ++ n.entries) (in_order n.right) apart))

pub returns-then-len-lt16-2-clause-adds : goal.returns-then-len-lt16-2-clause-adds
returns-then-len-lt16-2-clause-adds g t c =
    let n = c.in-Some.node in
    let cmp : RowRef → RowRef → Ordering = g.O.RefOrder.cmp c.args.order.now in
    let at = c.place_among-at.result in
    let none : n.right ≡ Empty = search rules in
    let is : c.entries-then-len-lt16-2.result.now ≡ n.entries = search rules in
    let whole : in_order (tree_of c.args.tree) ≡ in_order n.left ++ n.entries = search rules in
    let made : in_order (fork c.put_entry-then-len-lt16-2.new.self) ≡ in_order n.left ++ insert n.entries at c.args.added = search rules in
    let was : IsOrdered (g.O.RefOrder.covers c.args.order.now) cmp (in_order n.left ++ n.entries) =
    subst (IsOrdered (g.O.RefOrder.covers c.args.order.now) cmp) whole c.requires.ordered in
    let before : All (λ a. cmp a c.args.added ≡ Less) (take at n.entries) =
    subst (λ (xs : List RowRef). All (λ a. cmp a c.args.added ≡ Less) (take at xs)) is c.place_among-at.ensures.before in
    let after : All (λ a. cmp a c.args.added ≡ Greater) (drop at n.entries) =
    subst (λ (xs : List RowRef). All (λ a. cmp a c.args.added ≡ Greater) (drop at xs)) is c.place_among-at.ensures.after in
    let adds = adds_behind _ _ (g.met.O.RefOrder.total c.args.order.now) (in_order n.left) n.entries was c.args.added c.requires.covered at
    c.place_among-at.ensures.above_first (omega (arith, ap length is, c.place_among-at.ensures.in_bounds)) before after in
    subst (λ xs. AddsInOrder cmp xs c.args.added (in_order (fork c.put_entry-then-len-lt16-2.new.self))) (sym whole)
    (subst (AddsInOrder cmp (in_order n.left ++ n.entries) c.args.added) (sym made) adds)

pub insert_into-requires-2 : goal.insert_into-requires-2
insert_into-requires-2 g t c κs within =
    let n = c.in-Some.node in
    let cmp : RowRef → RowRef → Ordering = g.O.RefOrder.cmp c.args.order.now in
    let P : RowRef → Type 0 = λ a. cmp a c.args.added ≢ Equal in
    let is : in_order (tree_of c.take_right-right.result) ≡ in_order n.right = search rules in
    let was : IsOrdered (g.O.RefOrder.covers c.args.order.now) cmp (in_order n.left ++ n.entries ++ in_order n.right) = rw c.in-Some.is at c.requires.ordered in
    let tree : IsTTree (fork n) = rw c.in-Some.is at c.requires.tree in
    let apart : All P (in_order n.left ++ n.entries ++ in_order n.right) = rw c.in-Some.is at c.requires.apart in
    let ordered = IsOrdered-back _ _ (in_order n.left ++ n.entries) (in_order n.right) was in
    let right_apart = All-append_right P (in_order n.left ++ n.entries) (in_order n.right) apart in
    let last : c.last-last.result ≡ last_entry n.entries = search rules in
    let last_covered = (IsOrdered-middle _ _ (in_order n.left) n.entries (in_order n.right) was).covered (length n.entries - 1)
    (record { slot = 0 }) (omega (arith, tree.2.filled)) in
    let behind = last_behind _ _ (g.met.O.RefOrder.total c.args.order.now) (in_order n.left) n.entries (in_order n.right) was tree.2.filled c.args.added
    c.requires.covered (record { slot = 0 }) in (
      search rules,
      (
        search rules,
        (
          search rules,
          (
            subst (IsOrdered (g.O.RefOrder.covers c.args.order.now) cmp) (sym is) ordered,
            (
              search rules,
              (
                subst (All P) (sym is) right_apart,
                (
                  subst (g.O.RefOrder.covers c.args.order.now) (sym last) last_covered,
                  (
                    subst (λ b. All (λ a. cmp b a ≡ Less) (in_order (tree_of c.take_right-right.result))) (sym last)
                        (subst (All (λ a. cmp (last_entry n.entries) a ≡ Less)) (sym is) behind),
                    (search rules, search rules),
                  ),
                ),
              ),
            ),
          ),
        ),
      ),
    )

pub returns-in-Ok-insert_into-clause-adds : goal.returns-in-Ok-insert_into-clause-adds
returns-in-Ok-insert_into-clause-adds g t c =
    let n = c.in-Some.node in
    let cmp : RowRef → RowRef → Ordering = g.O.RefOrder.cmp c.args.order.now in
    let whole : in_order (tree_of c.args.tree) ≡ in_order n.left ++ n.entries ++ in_order n.right = search rules in
    let is : in_order (tree_of c.take_right-right.result) ≡ in_order n.right = search rules in
    let right : List RowRef = in_order (fork c.in-Ok-insert_into.right) in
    let made : in_order (fork c.balance-in-Ok-insert_into.result) ≡ in_order n.left ++ n.entries ++ right = search rules in
    let was : IsOrdered (g.O.RefOrder.covers c.args.order.now) cmp (in_order n.left ++ n.entries ++ in_order n.right) = rw c.in-Some.is at c.requires.ordered in
    let tree : IsTTree (fork n) = rw c.in-Some.is at c.requires.tree in
    let apart : All (λ a. cmp a c.args.added ≢ Equal) (in_order n.left ++ n.entries ++ in_order n.right) = rw c.in-Some.is at c.requires.apart in
    let greatest : c.last-last.result ≡ last_entry n.entries = search rules in
    let last : c.last-last.result ≡ get_or n.entries (length n.entries - 1) c.args.added =
    greatest ∙ get_or_default n.entries (length n.entries - 1) (record { slot = 0 }) c.args.added (omega (arith, tree.2.filled)) in
    let not_less : cmp c.args.added (get_or n.entries (length n.entries - 1) c.args.added) ≢ Less =
    subst (λ b. cmp c.args.added b ≢ Less) last c.in-Ok-insert_into.ensures.behind in
    let after = after_last _ _ (g.met.O.RefOrder.total c.args.order.now) (in_order n.left) n.entries (in_order n.right) was tree.2.filled c.args.added
    c.requires.covered (All-append_right (λ a. cmp a c.args.added ≢ Equal) (in_order n.left) n.entries
    (All-append_left (λ a. cmp a c.args.added ≢ Equal) (in_order n.left ++ n.entries) (in_order n.right) apart)) not_less in
    let below : AddsInOrder cmp (in_order n.right) c.args.added right =
    subst (λ xs. AddsInOrder cmp xs c.args.added right) is c.in-Ok-insert_into.ensures.adds in
    let adds = adds_right _ _ (g.met.O.RefOrder.total c.args.order.now) (in_order n.left) n.entries
    (in_order n.right) was tree.2.filled c.args.added c.requires.covered right after below in
    subst (λ xs. AddsInOrder cmp xs c.args.added (in_order (fork c.balance-in-Ok-insert_into.result))) (sym whole)
    (subst (AddsInOrder cmp (in_order n.left ++ n.entries ++ in_order n.right) c.args.added) (sym made) adds)

pub returns-then-len-lt16-2-clause-behind : goal.returns-then-len-lt16-2-clause-behind
returns-then-len-lt16-2-clause-behind g t c =
    let n = c.in-Some.node in
    let cmp : RowRef → RowRef → Ordering = g.O.RefOrder.cmp c.args.order.now in
    let was : IsOrdered (g.O.RefOrder.covers c.args.order.now) cmp (in_order n.left ++ n.entries ++ in_order n.right) = rw c.in-Some.is at c.requires.ordered in
    let tree : IsTTree (fork n) = rw c.in-Some.is at c.requires.tree in
    let behind : IfSome c.args.bound (λ b. All (λ a. cmp b a ≡ Less) (in_order n.left ++ n.entries ++ in_order n.right)) = rw c.in-Some.is at
    c.requires.behind in
    not_below _ _ (g.met.O.RefOrder.total c.args.order.now) (in_order n.left) n.entries (in_order n.right) was tree.2.filled c.args.added c.requires.covered
    (λ less. let e = sym (c.is_before.ensures.1 (rw (← c.node.ensures) at less)) ∙ c.if-is_before.false in cc) c.args.bound c.requires.bound_covered behind

pub returns-in-Ok-insert_into-clause-behind : goal.returns-in-Ok-insert_into-clause-behind
returns-in-Ok-insert_into-clause-behind g t c =
    let n = c.in-Some.node in
    let cmp : RowRef → RowRef → Ordering = g.O.RefOrder.cmp c.args.order.now in
    let was : IsOrdered (g.O.RefOrder.covers c.args.order.now) cmp (in_order n.left ++ n.entries ++ in_order n.right) = rw c.in-Some.is at c.requires.ordered in
    let tree : IsTTree (fork n) = rw c.in-Some.is at c.requires.tree in
    let behind : IfSome c.args.bound (λ b. All (λ a. cmp b a ≡ Less) (in_order n.left ++ n.entries ++ in_order n.right)) = rw c.in-Some.is at
    c.requires.behind in
    not_below _ _ (g.met.O.RefOrder.total c.args.order.now) (in_order n.left) n.entries (in_order n.right) was tree.2.filled c.args.added c.requires.covered
    (λ less. let e = sym (c.is_before.ensures.1 (rw (← c.node.ensures) at less)) ∙ c.if-is_before.false in cc) c.args.bound c.requires.bound_covered behind

pub returns-in-Err-insert_into-clause-behind : goal.returns-in-Err-insert_into-clause-behind
returns-in-Err-insert_into-clause-behind g t c =
    let n = c.in-Some.node in
    let cmp : RowRef → RowRef → Ordering = g.O.RefOrder.cmp c.args.order.now in
    let was : IsOrdered (g.O.RefOrder.covers c.args.order.now) cmp (in_order n.left ++ n.entries ++ in_order n.right) = rw c.in-Some.is at c.requires.ordered in
    let tree : IsTTree (fork n) = rw c.in-Some.is at c.requires.tree in
    let behind : IfSome c.args.bound (λ b. All (λ a. cmp b a ≡ Less) (in_order n.left ++ n.entries ++ in_order n.right)) = rw c.in-Some.is at
    c.requires.behind in
    not_below _ _ (g.met.O.RefOrder.total c.args.order.now) (in_order n.left) n.entries (in_order n.right) was tree.2.filled c.args.added c.requires.covered
    (λ less. let e = sym (c.is_before.ensures.1 (rw (← c.node.ensures) at less)) ∙ c.if-is_before.false in cc) c.args.bound c.requires.bound_covered behind
