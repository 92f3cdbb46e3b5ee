-- No text of a plan begins like a refusal.
use Rattle.std.proofs.Common.{◌≡◌, ◌≢◌, ℕ, true, false, List, [], ◌∷◌, ◌++◌, codes, get_or, length, refl, sym, ap, ◌∙◌, append_assoc, arith}
use Rattle.std.specs.Char.{is_ascii_digit}
use Rattle.std.specs.List.{All, flat_map}
use Rattle.std.proofs.lemmas.Bool.{and_parts, false≢true}
use Rattle.mm_schema.specs.Name.{IsName, is_lower, is_name_byte, is_name_text}
use Rattle.mm_query.specs.Plans.{line_alias}
use Rattle.mm_query.specs.declared.plan_line.PlanLine.{PlanLine}
use Rattle.mm_query.specs.declared.plan_line.PlanLine.TheVariants as line
use Rattle.mm_lang.specs.ReplyText.{access_method_text, line_text, steps_text}
use Rattle.mm_lang.proofs.ReplyLemmas.{counted_split, item_line, number_line}

differ : (a b : ℕ) → a ≡ b → a ≢ b → ⊥
differ a b e ne = ne e

no_digit : (a b : ℕ) → is_ascii_digit a ≡ false → is_ascii_digit b ≡ true → a ≡ b → ⊥
no_digit a b letter digit e = false≢true (sym letter ∙ (ap is_ascii_digit e ∙ digit))

-- A space and a letter follow an alias.
access_method_begins : (step : PlanLine) → (b : ℕ) × (tail : List ℕ) × (access_method_text step ≡ 32 ∷ b ∷ tail) × (is_ascii_digit b ≡ false)
access_method_begins (line.Scan alias) = (115, codes "can", refl, refl)
access_method_begins (line.Hash alias index) = (104, codes "ash " ++ index, refl, refl)
access_method_begins (line.TreeEqual alias index) = (116, _, refl, refl)
access_method_begins (line.TreeRange alias index) = (116, _, refl, refl)
access_method_begins (line.Precomputed alias field) = (112, _, refl, refl)
access_method_begins (line.TreeMerge alias outer inner) = (116, _, refl, refl)
access_method_begins (line.TreeJoin alias index) = (116, _, refl, refl)
access_method_begins (line.HashJoin alias index) = (104, _, refl, refl)
access_method_begins (line.BuiltHash alias column) = (98, _, refl, refl)
access_method_begins (line.NestedLoops alias) = (110, _, refl, refl)

-- The sixth byte of a name is not a space.
no_space : (a b c d e f : ℕ) (others : List ℕ) → IsName (a ∷ b ∷ c ∷ d ∷ e ∷ f ∷ others) → f ≡ 32 → ⊥
no_space a b c d e f others named is =
    let text = (and_parts (is_name_text (a ∷ b ∷ c ∷ d ∷ e ∷ f ∷ others)) _ named).0 in
    let bytes = (and_parts (is_lower a) _ text).1 in
    let third = (and_parts (is_name_byte b) _ bytes).1 in
    let fourth = (and_parts (is_name_byte c) _ third).1 in
    let fifth = (and_parts (is_name_byte d) _ fourth).1 in
    let sixth = (and_parts (is_name_byte e) _ fifth).1 in
    let byte = (and_parts (is_name_byte f) _ sixth).0 in
    false≢true (ap is_name_byte (sym is) ∙ byte)

alias_ends : (alias : List ℕ) (b : ℕ) (tail : List ℕ) (digit : ℕ) (rest : List ℕ) → IsName alias → is_ascii_digit b ≡ false
    → is_ascii_digit digit ≡ true → alias ++ 32 ∷ b ∷ tail ≡ codes "error " ++ digit ∷ rest → ⊥
alias_ends [] b tail digit rest named letter is e = differ 32 101 (ap (λ l. get_or l 0 0) e) (omega arith)
alias_ends (_ ∷ []) b tail digit rest named letter is e = differ 32 114 (ap (λ l. get_or l 1 0) e) (omega arith)
alias_ends (_ ∷ _ ∷ []) b tail digit rest named letter is e = differ 32 114 (ap (λ l. get_or l 2 0) e) (omega arith)
alias_ends (_ ∷ _ ∷ _ ∷ []) b tail digit rest named letter is e = differ 32 111 (ap (λ l. get_or l 3 0) e) (omega arith)
alias_ends (_ ∷ _ ∷ _ ∷ _ ∷ []) b tail digit rest named letter is e = differ 32 114 (ap (λ l. get_or l 4 0) e) (omega arith)
alias_ends (_ ∷ _ ∷ _ ∷ _ ∷ _ ∷ []) b tail digit rest named letter is e = no_digit b digit letter is (ap (λ l. get_or l 6 0) e)
alias_ends (a0 ∷ a1 ∷ a2 ∷ a3 ∷ a4 ∷ a5 ∷ others) b tail digit rest named letter is e =
    no_space a0 a1 a2 a3 a4 a5 others named (ap (λ l. get_or l 5 0) e)

-- The text before and after the access method of a line.
line_begins : (alias way more rest : List ℕ) (b : ℕ) (tail : List ℕ) → way ≡ 32 ∷ b ∷ tail
    → (((alias ++ way) ++ 10 ∷ []) ++ more) ++ rest ≡ alias ++ 32 ∷ b ∷ (tail ++ 10 ∷ (more ++ rest))
line_begins alias way more rest b tail e =
    append_assoc ((alias ++ way) ++ 10 ∷ []) more rest ∙ append_assoc (alias ++ way) (10 ∷ []) (more ++ rest)
    ∙ append_assoc alias way (10 ∷ (more ++ rest)) ∙ ap (λ w. alias ++ (w ++ 10 ∷ (more ++ rest))) e

pub steps_are_no_refusal : (steps : List PlanLine) (digit : ℕ) (rest : List ℕ) → All (λ (step : PlanLine). IsName (line_alias step)) steps
    → is_ascii_digit digit ≡ true → steps_text steps ≡ codes "error " ++ digit ∷ rest → ⊥
steps_are_no_refusal [] digit rest named is e = differ 115 101 (ap (λ l. get_or l 0 0) e) (omega arith)
steps_are_no_refusal (step ∷ steps) digit rest named is e =
    let begins = access_method_begins step in
    let label = codes "steps " in
    let behind = number_line line_text label (length (step ∷ steps)) in
    let parts : steps_text (step ∷ steps) ≡ line_alias step ++ 32 ∷ begins.0 ∷ (begins.1 ++ 10 ∷ (flat_map (item_line line_text label) steps ++ behind)) =
    counted_split line_text label (step ∷ steps)
    ∙ line_begins (line_alias step) (access_method_text step) (flat_map (item_line line_text label) steps) behind begins.0 begins.1 begins.2 in
    alias_ends (line_alias step) begins.0 _ digit rest (named 0 step (omega arith)) begins.3 is (sym parts ∙ e)
