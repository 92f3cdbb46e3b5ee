-- Foreign keys when a table is added or dropped.
use Rattle.std.proofs.Common.{◌≡◌, ◌≢◌, ℕ, suc, ◌-◌, ◌+◌, ◌<◌, ◌⊎◌, inl, inr, Bool, true, false, cond, not, List, [], ◌∷◌, ◌++◌, length, map, get_or}
use Rattle.std.proofs.Common.{⊎_elim, refl, sym, ap, ◌∙◌, subst, arith}
use Rattle.std.specs.Prelude.{remove}
use Rattle.std.specs.Bool.{◌==◌}
use Rattle.std.specs.List.{All, filter}
use Rattle.std.proofs.lemmas.Bool.{cases_Bool, cases_order, cond-true, cond-false, eq-eqb, false≢true, lt-ltb, le-ltb}
use Rattle.std.proofs.lemmas.List.{get_or-map, get_or_append_left, get_or_default, length-append, length-map}
use Rattle.std.proofs.lemmas.List.Edits.{length-remove, get_or-remove_below, get_or-remove_above}
use Rattle.std.proofs.lemmas.List.Elements.{All-append, All-cons, All-head, All-nil, All-tail}
use Rattle.std.proofs.Math.Seq.{get_or-append_seam}
use Rattle.mm_foreign_key.specs.Ties.{Ties}
use Rattle.mm_indexed.specs.Index.{EachTurns}
use Rattle.mm_link.specs.Grown.{HasMovedUp}
use Rattle.mm_link.specs.Links.{Follows as FollowsSlots}
use Rattle.mm_link.specs.declared.link.Link.{Link}
use Rattle.mm_link.proofs.SameRows.{Follows-empty}
use Rattle.mm_partition.specs.Places.{Free, Live}
use Rattle.mm_row_order.specs.Refs.{HasRow, Slots}
use Rattle.mm_schema.specs.References.{moved_up, above}
use Rattle.mm_schema.specs.declared.reference.Reference.{Reference}
use Rattle.mm_tables.specs.Tables.{AddsTable, Shape, extent_in, key_in, no_slots, shape_of, slots_in}
use Rattle.mm_tables.specs.declared.log_record.LogRecord.{LogRecord}
use Rattle.mm_tables.specs.declared.logged_table.LoggedTable.{LoggedTable}
use Rattle.mm_tables.proofs.InTables.{extent_read, key_read, slots_read}
use Rattle.mm_value.specs.declared.col_type.ColType.{ColType}
use Rattle.mm_value.specs.declared.row_ref.RowRef.{RowRef}
use Rattle.mm_base.specs.Bases.{references_without}
use Rattle.mm_base.specs.Columns.{IsFrom}
use Rattle.mm_base.specs.Joined.{IsJoined, IsReady, types_at}
use Rattle.mm_base.proofs.InBases.{types_read}
use Rattle.mm_base.proofs.Retied.{subst_three}

-- ---- a table at another place

-- the table at one place of one list is that at another place of the other list
record SameAt (old new : List LoggedTable) (i j : ℕ) : Type 0 where
  pub key : key_in new j ≡ key_in old i
  pub slots : slots_in new j ≡ slots_in old i
  pub extent : extent_in new j ≡ extent_in old i
  pub types : types_at (map shape_of new) j ≡ types_at (map shape_of old) i

some_table : (tables : List LoggedTable) (i : ℕ) → i < length tables → LoggedTable
some_table [] i within = absurd (omega (arith, within))
some_table (t ∷ ts) i within = t

SameAt-from : (old new : List LoggedTable) (i j : ℕ) → i < length old → j < length new
    → ((d : LoggedTable) → get_or new j d ≡ get_or old i d) → SameAt old new i j
SameAt-from old new i j within inside same =
    let d : LoggedTable = some_table old i within in
    let t : LoggedTable = get_or old i d in
    let was : t ≡ get_or old i t = get_or_default old i d t within in
    let is : t ≡ get_or new j t = was ∙ sym (same t) in
    record {
      key = key_read new j t inside is ∙ sym (key_read old i t within was);
      slots = slots_read new j t inside is ∙ sym (slots_read old i t within was);
      extent = extent_read new j t inside is ∙ sym (extent_read old i t within was);
      types = types_read new j t inside is ∙ sym (types_read old i t within was);
    }

-- a link whose tables are at other places
joined_moved : (old new : List LoggedTable) (log : List LogRecord) (x y : Link) (f t : ℕ)
    → y.reference ≡ record { from = f; column = x.reference.column; to = t } → y.ties ≡ x.ties → f < length new → t < f
    → SameAt old new x.reference.from f → SameAt old new x.reference.to t → IsJoined old log x → IsJoined new [] y
joined_moved old new log x y f t same ties within below source target joined =
    let r : Reference = record { from = f; column = x.reference.column; to = t } in
    subst (λ (z : Reference). IsJoined new [] (record { reference = z; ties = y.ties })) (sym same)
    (subst (λ (z : Ties). IsJoined new [] (record { reference = r; ties = z })) (sym ties) (record {
      between = record {
        from = omega (arith, within, length-map new shape_of);
        column = subst (λ (types : List ColType). x.reference.column < length types) (sym source.types) joined.between.column;
        to = below;
      };
      entries = record {
        referrers = omega (arith, joined.entries.referrers, source.extent);
        targets = omega (arith, joined.entries.targets, target.extent);
      };
      follows = subst_three (λ (key : ℕ) (now then : Slots). FollowsSlots x.reference.column key now then x.ties) target.key source.slots target.slots
          joined.follows;
      logged = tt;
    }))

-- ---- a table is added

module _ (key : ℕ) (types : List ColType) (old new : List LoggedTable) (adds : AddsTable key types old new) where
  size_added : length new ≡ length old + 1
  size_added = ap length adds.added ∙ length-append old (adds.table ∷ [])

  SameAt-added : (i : ℕ) → i < length old → SameAt old new i i
  SameAt-added i within =
      SameAt-from old new i i within (omega (arith, within, size_added))
      (λ d. ap (λ (ts : List LoggedTable). get_or ts i d) adds.added ∙ get_or_append_left old (adds.table ∷ []) d i within)

  joined_more : (log : List LogRecord) (link : Link) → IsJoined old log link → IsJoined new [] link
  joined_more log link joined =
      let from : link.reference.from < length old = omega (arith, joined.between.from, length-map old shape_of) in
      joined_moved old new log link link link.reference.from link.reference.to refl refl (omega (arith, from, size_added)) joined.between.to
      (SameAt-added link.reference.from from) (SameAt-added link.reference.to (omega (arith, from, joined.between.to))) joined

  last : length old < length new
  last = omega (arith, size_added)

  last_is : adds.table ≡ get_or new (length old) adds.table
  last_is = sym (ap (λ (ts : List LoggedTable). get_or ts (length old) adds.table) adds.added ∙ get_or-append_seam old adds.table [] adds.table)

  joined_ready : (link : Link) → IsFrom (length old) (length types) link.reference → IsReady old link → IsJoined new [] link
  joined_ready link is ready =
      let r : Reference = link.reference in
      let target : SameAt old new r.to r.to = SameAt-added r.to is.to in
      let types_are : types_at (map shape_of new) r.from ≡ types =
      ap (types_at (map shape_of new)) is.from ∙ (types_read new (length old) adds.table last last_is ∙ ap (λ (x : Shape). x.types) adds.shape) in
      let slots_are : slots_in new r.from ≡ no_slots =
      ap (slots_in new) is.from ∙ (slots_read new (length old) adds.table last last_is ∙ adds.empty) in
      record {
        between = record {
          from = omega (arith, is.from, last, length-map new shape_of);
          column = subst (λ (ts : List ColType). r.column < length ts) (sym types_are) is.column;
          to = omega (arith, is.from, is.to);
        };
        entries = record {
          referrers = omega (
            arith,
            ap (extent_in new) is.from,
            extent_read new (length old) adds.table last last_is,
            adds.extent,
          );
          targets = omega (arith, ready.targets, target.extent);
        };
        follows = Follows-empty r.column (key_in new r.to) (slots_in new r.from) (slots_in new r.to) link.ties
            (λ at live. no_live at (subst (λ (s : Slots). HasRow s at) slots_are live)) ready.untied;
        logged = tt;
      }
    where
      no_live : (at : RowRef) → HasRow no_slots at → ⊥
      no_live at live = let both : Free ≡ Live live.0 = live.1 in let no : ⊥ = cc in no

  pub joined_added : (log : List LogRecord) (links more : List Link) (references : List Reference)
      → map (λ (link : Link). link.reference) more ≡ references → All (IsFrom (length old) (length types)) references → All (IsReady old) more
      → All (IsJoined old log) links → All (IsJoined new []) (links ++ more)
  joined_added log links more references are from ready joined =
      All-append (IsJoined new []) links more (λ k d within. joined_more log (get_or links k d) (joined k d within))
      (λ k d within.
      let link : Link = get_or more k d in
      let own : IsFrom (length old) (length types) link.reference =
      subst (IsFrom (length old) (length types)) (get_or-map (λ (l : Link). l.reference) more k d d.reference within)
      (subst (All (IsFrom (length old) (length types))) (sym are) from k d.reference
      (omega (arith, within, length-map more (λ (l : Link). l.reference)))) in
      joined_ready link own (ready k d within))

-- ---- a table is dropped

-- the new place of another table
pub record Lies (gone place to : ℕ) : Type 0 where
  pub side : ((gone < place) × (to + 1 ≡ place)) ⊎ ((place < gone) × (to ≡ place))

lies : (gone place : ℕ) → place ≢ gone → Lies gone place (above gone place)
lies gone place apart =
    ⊎_elim
    (λ (same : gone ≡ place). absurd (apart (sym same)))
    (λ (o : (gone < place) ⊎ (place < gone)).
    ⊎_elim
    (λ (behind : gone < place).
    let to : above gone place ≡ place - 1 = cond-true _ _ _ (lt-ltb gone place behind) in
    record { side = inl (behind, omega (arith, to, behind)) })
    (λ (before : place < gone).
    let to : above gone place ≡ place = cond-false _ _ _ (le-ltb gone place (omega (arith, before))) in
    record { side = inr (before, to) })
    o)
    (cases_order gone place)

lie_below : (gone a b x y : ℕ) → Lies gone a x → Lies gone b y → b < a → y < x
lie_below gone a b x y one two below =
    ⊎_elim
    (λ (p : (gone < a) × (x + 1 ≡ a)).
    ⊎_elim (λ (q : (gone < b) × (y + 1 ≡ b)). omega (arith, p.1, q.1, below))
    (λ (q : (b < gone) × (y ≡ b)). omega (arith, p.0, p.1, q.0, q.1)) two.side)
    (λ (p : (a < gone) × (x ≡ a)).
    ⊎_elim (λ (q : (gone < b) × (y + 1 ≡ b)). omega (arith, p.0, q.0, below))
    (λ (q : (b < gone) × (y ≡ b)). omega (arith, p.1, q.1, below)) two.side)
    one.side

module _ (old new : List LoggedTable) (gone : ℕ) (there : gone < length old) (removed : new ≡ remove old gone) where
  size_removed : length new + 1 ≡ length old
  size_removed = omega (arith, ap length removed, length-remove old gone there)

  SameAt-removed : (place to : ℕ) → place < length old → Lies gone place to → SameAt old new place to
  SameAt-removed place to within where_it =
      ⊎_elim
      (λ (behind : (gone < place) × (to + 1 ≡ place)).
      SameAt-from old new place to within (omega (arith, within, behind.1, size_removed))
      (λ d.
      ap (λ (ts : List LoggedTable). get_or ts to d) removed
      ∙ (get_or-remove_above old gone d to (omega (arith, behind.0, behind.1)) there ∙ ap (λ (n : ℕ). get_or old n d) behind.1)))
      (λ (before : (place < gone) × (to ≡ place)).
      SameAt-from old new place to within (omega (arith, before.0, before.1, there, size_removed))
      (λ d.
      ap (λ (ts : List LoggedTable). get_or ts to d) removed
      ∙ (get_or-remove_below old gone d to (omega (arith, before.0, before.1)) there ∙ ap (λ (n : ℕ). get_or old n d) before.1)))
      where_it.side

  joined_up : (log : List LogRecord) (x y : Link) → HasMovedUp gone x y → x.reference.from ≢ gone → x.reference.to ≢ gone → IsJoined old log x
      → IsJoined new [] y
  joined_up log x y moved from to joined =
      let f : ℕ = above gone x.reference.from in
      let t : ℕ = above gone x.reference.to in
      let source : Lies gone x.reference.from f = lies gone x.reference.from from in
      let target : Lies gone x.reference.to t = lies gone x.reference.to to in
      let inside : x.reference.from < length old = omega (arith, joined.between.from, length-map old shape_of) in
      let below : x.reference.to < x.reference.from = joined.between.to in
      joined_moved old new log x y f t moved.reference moved.ties
      (⊎_elim (λ (p : (gone < x.reference.from) × (f + 1 ≡ x.reference.from)). omega (arith, p.1, inside, size_removed))
      (λ (p : (x.reference.from < gone) × (f ≡ x.reference.from)). omega (arith, p.0, p.1, there, size_removed)) source.side)
      (lie_below gone x.reference.from x.reference.to f t source target below)
      (SameAt-removed x.reference.from f inside source) (SameAt-removed x.reference.to t (omega (arith, inside, below)) target) joined

-- the links that stay
module _ (gone : ℕ) where
  abbrev stays : Link → Bool
  stays link = not (link.reference.from == gone)

  one_stays : (link : Link) → stays link ≡ true → link.reference.from ≢ gone
  one_stays link holds same =
      let no : not true ≡ true = ap not (sym (eq-eqb link.reference.from gone same)) ∙ holds in
      absurd (false≢true no)

  record Stays (old : List LoggedTable) (log : List LogRecord) (link : Link) : Type 0 where
    pub from : link.reference.from ≢ gone
    pub to : link.reference.to ≢ gone
    pub joined : IsJoined old log link

  kept_stay : (old : List LoggedTable) (log : List LogRecord) (links : List Link) → All (IsJoined old log) links
      → All (λ (link : Link). link.reference.to ≢ gone) links → All (Stays old log) (filter stays links)
  kept_stay old log [] joined unused = All-nil (Stays old log)
  kept_stay old log (link ∷ links) joined unused =
      let Q : Link → Type 0 = λ (l : Link). l.reference.to ≢ gone in
      let rest : All (Stays old log) (filter stays links) =
      kept_stay old log links (All-tail (IsJoined old log) link links joined) (All-tail Q link links unused) in
      ⊎_elim
      (λ (holds : stays link ≡ true).
      let it : Stays old log link = record {
        from = one_stays link holds;
        to = All-head Q link links unused;
        joined = All-head (IsJoined old log) link links joined;
      } in
      subst (All (Stays old log)) (sym (cond-true _ _ _ holds)) (All-cons (Stays old log) link (filter stays links) it rest))
      (λ (fails : stays link ≡ false). subst (All (Stays old log)) (sym (cond-false _ _ _ fails)) rest)
      (cases_Bool (stays link))

  pub joined_removed : (old new : List LoggedTable) (log : List LogRecord) → gone < length old → new ≡ remove old gone → (links kept moved : List Link)
      → kept ≡ filter stays links → EachTurns (HasMovedUp gone) kept moved → All (λ (link : Link). link.reference.to ≢ gone) links
      → All (IsJoined old log) links → All (IsJoined new []) moved
  joined_removed old new log there removed links kept moved are turned unused joined k d within =
      let inside : k < length kept = omega (arith, within, turned.size) in
      let it : Stays old log (get_or kept k d) = subst (All (Stays old log)) (sym are) (kept_stay old log links joined unused) k d inside in
      joined_up old new gone there removed log (get_or kept k d) (get_or moved k d) (turned.each k d inside) it.from it.to it.joined

  moved_references : (old new : List Link) → EachTurns (HasMovedUp gone) old new
      → map (λ (link : Link). link.reference) new ≡ map (moved_up gone) (map (λ (link : Link). link.reference) old)
  moved_references [] [] turned = refl
  moved_references [] (y ∷ ys) turned = absurd (omega (arith, turned.size))
  moved_references (x ∷ xs) [] turned = absurd (omega (arith, turned.size))
  moved_references (x ∷ xs) (y ∷ ys) turned =
      let first : HasMovedUp gone x y = turned.each 0 x (omega arith) in
      let is : y.reference ≡ moved_up gone x.reference = first.reference in
      let rest : EachTurns (HasMovedUp gone) xs ys = record {
        size = omega (arith, turned.size);
        each = λ k d within. turned.each (suc k) d (omega (arith, within));
      } in
      let later = moved_references xs ys rest in
      λ i. is i ∷ later i

  filtered : (links : List Link)
      → filter (λ (reference : Reference). not (reference.from == gone)) (map (λ (link : Link). link.reference) links)
      ≡ map (λ (link : Link). link.reference) (filter stays links)
  filtered [] = refl
  filtered (link ∷ links) = step (stays link) (filter stays links) _ (filtered links)
    where
      step : (b : Bool) (xs : List Link) (rs : List Reference) → rs ≡ map (λ (l : Link). l.reference) xs
          → cond b (link.reference ∷ rs) rs ≡ map (λ (l : Link). l.reference) (cond b (link ∷ xs) xs)
      step true xs rs same = ap (λ l. link.reference ∷ l) same
      step false xs rs same = same

  pub links_removed : (links kept new : List Link) → kept ≡ filter stays links → EachTurns (HasMovedUp gone) kept new
      → map (λ (link : Link). link.reference) new ≡ references_without gone (map (λ (link : Link). link.reference) links)
  links_removed links kept new are turned =
      moved_references kept new turned
      ∙ ap (map (moved_up gone)) (ap (map (λ (link : Link). link.reference)) are ∙ sym (filtered links))
