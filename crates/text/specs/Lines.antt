-- The lines of an input: The order program 3.
use Rattle.std.specs.Prelude.{cond, List, [], ◌∷◌, ◌++◌, map, ℕ, eqb, leb, length}

abbrev pub line_feed : ℕ
line_feed = 10

abbrev pub most_bytes : ℕ
most_bytes = 64

-- The lines of an input after the bytes `begun` of its first line: each ends at a line feed; what follows the last line feed is a
-- line if there is any.
unfoldable pub lines_after : List ℕ → List ℕ → List (List ℕ)
lines_after [] [] = []
lines_after (b ∷ begun) [] = (b ∷ begun) ∷ []
lines_after begun (byte ∷ input) = cond (eqb byte line_feed) (begun ∷ lines_after [] input) (lines_after (begun ++ (byte ∷ [])) input)

unfoldable pub lines_of : List ℕ → List (List ℕ)
lines_of input = lines_after [] input

-- A line as it is handed on: its bytes, or only that it has more than 64 of them.
pub data Handed : Type 0 where
  line : List ℕ → Handed
  too_long : Handed

abbrev pub handed : List ℕ → Handed
handed bytes = cond (leb (length bytes) most_bytes) (line bytes) too_long

-- what is handed on of an input
unfoldable pub handed_of : List ℕ → List Handed
handed_of input = map handed (lines_of input)
