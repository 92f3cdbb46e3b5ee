-- The first line of an input.
use Rattle.std.proofs.Common.{◌≡◌, ℕ, ◌<◌, List, [], ◌∷◌, ◌++◌, length, map, refl, ap, arith}
use Rattle.mm_lang.specs.Lines.{Pieces, pieces_of, with_byte, without_return, whole_lines_of, last_line_of, lines_of, HasNoFeed}

-- a line before its line feed is the first piece
pieces-line : (line rest : List ℕ) → HasNoFeed line
    → pieces_of (line ++ 10 ∷ rest) ≡ record { ended = line ∷ (pieces_of rest).ended; rest = (pieces_of rest).rest }
unfolding pieces_of
pieces-line [] rest h = refl
pieces-line (b ∷ bs) rest h = rw h.0 (ap (λ (p : Pieces). with_byte b p.ended p.rest) (pieces-line bs rest h.1))

-- bytes without a line feed are the rest
pieces-rest : (rest : List ℕ) → HasNoFeed rest → pieces_of rest ≡ record { ended = []; rest = rest }
unfolding pieces_of
pieces-rest [] h = refl
pieces-rest (b ∷ bs) h = rw h.0 (ap (λ (p : Pieces). with_byte b p.ended p.rest) (pieces-rest bs h.1))

pub whole_lines_of-line : (line rest : List ℕ) → HasNoFeed line → whole_lines_of (line ++ 10 ∷ rest) ≡ without_return line ∷ whole_lines_of rest
whole_lines_of-line line rest h = ap (λ (p : Pieces). map without_return p.ended) (pieces-line line rest h)

pub lines_of-line : (line rest : List ℕ) → HasNoFeed line → lines_of (line ++ 10 ∷ rest) ≡ without_return line ∷ lines_of rest
lines_of-line line rest h = ap (λ (p : Pieces). map without_return p.ended ++ last_line_of p.rest) (pieces-line line rest h)

pub whole_lines_of-rest : (rest : List ℕ) → HasNoFeed rest → whole_lines_of rest ≡ []
whole_lines_of-rest rest h = ap (λ (p : Pieces). map without_return p.ended) (pieces-rest rest h)

pub lines_of-nil : lines_of [] ≡ []
unfolding pieces_of
lines_of-nil = refl

pub lines_of-last : (line : List ℕ) → 0 < length line → HasNoFeed line → lines_of line ≡ without_return line ∷ []
lines_of-last [] some h = absurd (omega arith)
lines_of-last (b ∷ bs) some h = ap (λ (p : Pieces). map without_return p.ended ++ last_line_of p.rest) (pieces-rest (b ∷ bs) h)
