-- The spelling of commands with literals in place of holes.
use Rattle.std.proofs.Common.{◌≡◌, ℕ, Bool, true, false, List, [], ◌∷◌, ◌++◌, Option, Some, None, map, refl, sym, ap, ◌∙◌, subst}
use Rattle.std.specs.List.{AllZip, cons_option, flat_map}
use Rattle.mm_schema.specs.Name.{IsName}
use Rattle.mm_value.specs.declared.values.Value.{Value}
use Rattle.mm_query.specs.declared.command.Command.{Command}
use Rattle.mm_query.specs.declared.command.Command.TheVariants.{Change, Define, Explain, Select}
use Rattle.mm_query.specs.declared.command.Definition.TheVariants as define
use Rattle.mm_query.specs.declared.command.Mutation.{Mutation}
use Rattle.mm_query.specs.declared.command.Mutation.TheVariants.{Delete, Insert, Update}
use Rattle.mm_query.specs.declared.command.NamedQuery.{NamedQuery}
use Rattle.mm_query.specs.declared.query.Query.{Query}
use Rattle.mm_lang.specs.Grammar.{command_of, literal_of}
use Rattle.mm_lang.specs.Reading.{assignment_literals, literals_among, literals_of, query_literals, test_literals}
use Rattle.mm_lang.specs.Spelling.{SpellsAssignment, SpellsCommand, SpellsList, SpellsName, SpellsTestsOn, SpellsTuple, word}
use Rattle.mm_lang.specs.Templates.{holes_among}
use Rattle.mm_lang.specs.Tokens.{Token, Word, Signed, Quoted, Mark, Hole, Unreadable}
use Rattle.mm_lang.specs.declared.read.keyword.Keyword.{Keyword}
use Rattle.mm_lang.specs.declared.read.keyword.Keyword.TheVariants as keyword
use Rattle.mm_lang.specs.declared.read.token.Symbol.TheVariants.{Comma, Minus, Plus}
use Rattle.mm_lang.proofs.LiteralOrder.{read_literals}
use Rattle.mm_lang.proofs.SpelledCommands.{command_read, command_spelled}
use Rattle.mm_lang.proofs.SpelledWords.{name_no_literal}
use Rattle.mm_statement.specs.Filling.{Filled, blank, blank_assignment, blank_atom, blank_mutation, blank_query, blank_value, merged}
use Rattle.mm_statement.specs.Texts.{IsText, with_texts}
use Rattle.mm_statement.proofs.TextSpellings.{ArePlain, among, assignment_respells, list_respells, name_plain, plain_among, query_respells}
use Rattle.mm_statement.proofs.TextSpellings.{respelled_alone, tests_respell, tuple_respells}
use Rattle.mm_statement.proofs.TextTokens.{AreReadable, among_texts, texts_readable}

-- ---- commands without literals

unfoldable pub is_fixed : Command → Bool
is_fixed (Define (define.Watch watched)) = false
is_fixed (Change mutation) = false
is_fixed (Select query) = false
is_fixed (Explain query) = false
is_fixed command = true

fixed_itself : (c : Command) → is_fixed c ≡ true → blank c ≡ c
unfolding is_fixed
fixed_itself (Define (define.Watch watched)) h = absurd (cc)
fixed_itself (Change mutation) h = absurd (cc)
fixed_itself (Select query) h = absurd (cc)
fixed_itself (Explain query) h = absurd (cc)
fixed_itself c h = refl

fixed_blank : (c : Command) → is_fixed (blank c) ≡ is_fixed c
unfolding is_fixed
fixed_blank (Define (define.Watch watched)) = refl
fixed_blank (Change mutation) = refl
fixed_blank (Select query) = refl
fixed_blank (Explain query) = refl
fixed_blank c = refl

fixed_literals : (c : Command) → is_fixed c ≡ true → literals_of c ≡ []
unfolding is_fixed
fixed_literals (Define (define.Watch watched)) h = absurd (cc)
fixed_literals (Change mutation) h = absurd (cc)
fixed_literals (Select query) h = absurd (cc)
fixed_literals (Explain query) h = absurd (cc)
fixed_literals c h = refl

pub fixed_same : (c f : Command) → is_fixed c ≡ true → blank f ≡ blank c → f ≡ c
fixed_same c f h same =
    sym (fixed_itself f (sym (fixed_blank f) ∙ ap is_fixed same ∙ fixed_blank c ∙ h)) ∙ same ∙ fixed_itself c h

behind_none : (o : Option Value) (literals : List Value) → cons_option o literals ≡ [] → literals ≡ []
behind_none None literals h = h
behind_none (Some v) literals h = absurd (cc)

-- Tokens without literals have no holes.
no_holes : (ts texts : List Token) → literals_among ts ≡ [] → with_texts ts texts ≡ ts
no_holes [] texts h = refl
no_holes (Mark Plus ∷ Hole ∷ ts) texts h = absurd (cc)
no_holes (Mark Minus ∷ Hole ∷ ts) texts h = absurd (cc)
no_holes (Mark Minus ∷ Word w ∷ ts) texts h =
    ap (λ l. Mark Minus ∷ Word w ∷ l) (no_holes ts texts (behind_none (literal_of (Signed w)) (literals_among ts) h))
no_holes (Hole ∷ ts) texts h = absurd (cc)
no_holes (Word w ∷ ts) texts h = ap (λ l. Word w ∷ l) (no_holes ts texts (behind_none (literal_of (Word w)) (literals_among ts) h))
no_holes (Signed w ∷ ts) texts h = ap (λ l. Signed w ∷ l) (no_holes ts texts (behind_none (literal_of (Signed w)) (literals_among ts) h))
no_holes (Quoted text ∷ ts) texts h = absurd (cc)
no_holes (Mark s ∷ ts) texts h = ap (λ l. Mark s ∷ l) (no_holes ts texts h)
no_holes (Unreadable ∷ ts) texts h = ap (λ l. Unreadable ∷ l) (no_holes ts texts h)

pub fixed_texts : (ts texts : List Token) (c : Command) → command_of ts ≡ Some c → is_fixed c ≡ true → with_texts ts texts ≡ ts
fixed_texts ts texts c read fixed = no_holes ts texts (sym (read_literals ts c read) ∙ fixed_literals c fixed)

-- ---- commands of the same shape

pub same_change : (f : Command) (n : Mutation) → blank f ≡ Change n → (m : Mutation) × (f ≡ Change m) × (blank_mutation m ≡ n)
same_change (Change m) n h = (m, refl, cc)
same_change _ n h = absurd (cc)

pub same_select : (f : Command) (p : Query) → blank f ≡ Select p → (q : Query) × (f ≡ Select q) × (blank_query q ≡ p)
same_select (Select q) p h = (q, refl, cc)
same_select _ p h = absurd (cc)

pub same_explain : (f : Command) (p : Query) → blank f ≡ Explain p → (q : Query) × (f ≡ Explain q) × (blank_query q ≡ p)
same_explain (Explain q) p h = (q, refl, cc)
same_explain _ p h = absurd (cc)

pub same_watch : (f : Command) (w : NamedQuery) → blank f ≡ Define (define.Watch w)
    → (v : NamedQuery) × (f ≡ Define (define.Watch v)) × (v.name ≡ w.name) × (blank_query v.query ≡ w.query)
same_watch (Define (define.Watch v)) w h =
    let made : NamedQuery = record { name = v.name; query = blank_query v.query } in
    let same : made ≡ w = cc in
    (v, refl, ap (λ (n : NamedQuery). n.name) same, ap (λ (n : NamedQuery). n.query) same)
same_watch _ w h = absurd (cc)

-- ---- changes of rows

-- The literals after a keyword and a name.
named_left : (k : Keyword) (name : List ℕ) (us : List Token) → literal_of (word k) ≡ None → IsName name → among (word k ∷ Word name ∷ us) ≡ among us
named_left k name us none named = plain_among (word k ∷ Word name ∷ []) us ((tt, none), ((tt, name_no_literal name named), tt))

mutation_respelled : (ts : List Token) (x y : Mutation) (texts : List Token) → AreReadable texts → SpellsCommand ts (Change x)
    → blank_mutation y ≡ blank_mutation x → among (with_texts ts texts) ≡ literals_of (Change y) → SpellsCommand (with_texts ts texts) (Change y)
mutation_respelled ts (Insert t tuples) (Insert u others) texts r h same e =
    let names : u ≡ t = cc in
    let shape : map (map blank_value) others ≡ map (map blank_value) tuples = cc in
    let is : with_texts ts texts ≡ word keyword.Insert ∷ Word t ∷ with_texts h.0 texts = ap (λ l. with_texts l texts) h.3 in (
      with_texts h.0 texts,
      subst IsName (sym names) h.1,
      respelled_alone (SpellsList (Mark Comma) SpellsTuple) (map (map blank_value)) (flat_map (λ (values : List Value). values))
          (list_respells (Mark Comma) SpellsTuple (map blank_value) (λ values. values) (tt, refl) tuple_respells) h.0 tuples others texts r h.2 shape
          (sym (named_left keyword.Insert t (with_texts h.0 texts) refl h.1) ∙ ap among (sym is) ∙ e),
      is ∙ ap (λ n. word keyword.Insert ∷ Word n ∷ with_texts h.0 texts) (sym names),
    )
mutation_respelled ts (Update t set asked) (Update u sets tests) texts r h same e =
    let names : u ≡ t = cc in
    let set_shape : map blank_assignment sets ≡ map blank_assignment set = cc in
    let shape : map blank_atom tests ≡ map blank_atom asked = cc in
    let front = word keyword.Update ∷ Word t ∷ word keyword.Set ∷ [] in
    let quiet : ArePlain front = ((tt, refl), ((tt, name_no_literal t h.2), ((tt, refl), tt))) in
    let is : with_texts ts texts ≡ front ++ with_texts (h.0 ++ h.1) texts = ap (λ l. with_texts l texts) h.5 in
    let first = list_respells (Mark Comma) SpellsAssignment blank_assignment assignment_literals (tt, refl) assignment_respells h.0 set sets h.1 texts
    (flat_map test_literals tests) r h.3 set_shape (sym (plain_among front (with_texts (h.0 ++ h.1) texts) quiet) ∙ ap among (sym is) ∙ e) in (
      first.front,
      with_texts h.1 first.left,
      subst IsName (sym names) h.2,
      first.spelled,
      respelled_alone (SpellsTestsOn SpellsName) (map blank_atom) (flat_map test_literals) (tests_respell SpellsName name_plain) h.1 asked tests first.left
          first.readable h.4 shape first.literals_left,
      is ∙ (λ i. word keyword.Update ∷ Word (sym names i) ∷ word keyword.Set ∷ first.split i),
    )
mutation_respelled ts (Delete t asked) (Delete u tests) texts r h same e =
    let names : u ≡ t = cc in
    let shape : map blank_atom tests ≡ map blank_atom asked = cc in
    let is : with_texts ts texts ≡ word keyword.Delete ∷ Word t ∷ with_texts h.0 texts = ap (λ l. with_texts l texts) h.3 in (
      with_texts h.0 texts,
      subst IsName (sym names) h.1,
      respelled_alone (SpellsTestsOn SpellsName) (map blank_atom) (flat_map test_literals) (tests_respell SpellsName name_plain) h.0 asked tests texts r
          h.2 shape (sym (named_left keyword.Delete t (with_texts h.0 texts) refl h.1) ∙ ap among (sym is) ∙ e),
      is ∙ ap (λ n. word keyword.Delete ∷ Word n ∷ with_texts h.0 texts) (sym names),
    )
mutation_respelled ts _ _ texts r h same e = absurd (cc)

-- ---- commands

module _ (ts texts : List Token) (r : AreReadable texts) where
  select_respelled : (p q : Query) → SpellsCommand ts (Select p) → blank_query q ≡ blank_query p → among (with_texts ts texts) ≡ query_literals q
      → SpellsCommand (with_texts ts texts) (Select q)
  select_respelled p q h same e =
      let is : with_texts ts texts ≡ word keyword.Select ∷ with_texts h.0 texts = ap (λ l. with_texts l texts) h.2 in
      (with_texts h.0 texts, query_respells h.0 p q texts r h.1 same (ap among (sym is) ∙ e), is)

  explain_respelled : (p q : Query) → SpellsCommand ts (Explain p) → blank_query q ≡ blank_query p → among (with_texts ts texts) ≡ query_literals q
      → SpellsCommand (with_texts ts texts) (Explain q)
  explain_respelled p q h same e =
      let is : with_texts ts texts ≡ word keyword.Explain ∷ word keyword.Select ∷ with_texts h.0 texts = ap (λ l. with_texts l texts) h.2 in
      (with_texts h.0 texts, query_respells h.0 p q texts r h.1 same (ap among (sym is) ∙ e), is)

  watch_respelled : (w v : NamedQuery) → SpellsCommand ts (Define (define.Watch w)) → v.name ≡ w.name → blank_query v.query ≡ blank_query w.query
      → among (with_texts ts texts) ≡ query_literals v.query → SpellsCommand (with_texts ts texts) (Define (define.Watch v))
  watch_respelled w v h names same e =
      let is : with_texts ts texts ≡ word keyword.Watch ∷ Word w.name ∷ word keyword.Select ∷ with_texts h.0 texts = ap (λ l. with_texts l texts) h.3 in
      let rest = sym (named_left keyword.Watch w.name (word keyword.Select ∷ with_texts h.0 texts) refl h.1) ∙ ap among (sym is) ∙ e in (
        with_texts h.0 texts,
        subst IsName (sym names) h.1,
        query_respells h.0 w.query v.query texts r h.2 same rest,
        is ∙ ap (λ n. word keyword.Watch ∷ Word n ∷ word keyword.Select ∷ with_texts h.0 texts) (sym names),
      )

  -- The tokens spell the command that differs only in its literals and has those among the tokens.
  command_respelled : (c f : Command) → SpellsCommand ts c → (is_fixed c ≡ true → with_texts ts texts ≡ ts) → blank f ≡ blank c
      → among (with_texts ts texts) ≡ literals_of f → SpellsCommand (with_texts ts texts) f
  unfolding is_fixed
  command_respelled (Change m) f h fixed same e =
      let p = same_change f (blank_mutation m) same in
      subst (SpellsCommand (with_texts ts texts)) (sym p.1) (mutation_respelled ts m p.0 texts r h p.2 (e ∙ ap literals_of p.1))
  command_respelled (Select q) f h fixed same e =
      let p = same_select f (blank_query q) same in
      subst (SpellsCommand (with_texts ts texts)) (sym p.1) (select_respelled q p.0 h p.2 (e ∙ ap literals_of p.1))
  command_respelled (Explain q) f h fixed same e =
      let p = same_explain f (blank_query q) same in
      subst (SpellsCommand (with_texts ts texts)) (sym p.1) (explain_respelled q p.0 h p.2 (e ∙ ap literals_of p.1))
  command_respelled (Define (define.Watch w)) f h fixed same e =
      let p = same_watch f (record { name = w.name; query = blank_query w.query }) same in
      subst (SpellsCommand (with_texts ts texts)) (sym p.1) (watch_respelled w p.0 h p.2 p.3 (e ∙ ap literals_of p.1))
  command_respelled c f h fixed same e =
      let is : f ≡ c = fixed_same c f refl same in
      subst (λ l. SpellsCommand l f) (sym (fixed refl)) (subst (SpellsCommand ts) (sym is) h)

-- A filled command is read from the tokens with literals of its values in place of the holes.
pub filled_read : (ts texts : List Token) (values : List Value) (command filled : Command) → command_of ts ≡ Some command → AllZip IsText texts values
    → Filled (holes_among ts) values command filled → command_of (with_texts ts texts) ≡ Some filled
filled_read ts texts values c f read stand h =
    command_spelled (with_texts ts texts) f
    (command_respelled ts texts (texts_readable texts values stand) c f (command_read ts c read) (fixed_texts ts texts c read) h.same
    (among_texts ts texts values stand ∙ ap (merged (holes_among ts) values) (sym (read_literals ts c read)) ∙ sym h.literals))
