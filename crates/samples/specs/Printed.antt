-- What is printed for a row of the table: the answer of set up, and the checksum of every word afterwards.
use Rattle.std.specs.Prelude.{List, ℕ, get_or, replicate}
use Rattle.answers.specs.Refusals.{Outcome}
use Rattle.meaning.specs.Operations.{set_up_out}
use Rattle.report.specs.Report.{checked_text}

-- a word that no fresh list has, so that a word left as it was shows
abbrev pub left : ℕ
left = 2779096485

-- set up with D, K and C on n such words
abbrev pub edge_outcome : ℕ → ℕ → ℕ → ℕ → Outcome (List ℕ)
edge_outcome D K C n = set_up_out D K C (replicate n left)

unfoldable pub edge_text : ℕ → ℕ → ℕ → ℕ → List ℕ
edge_text D K C n = checked_text (edge_outcome D K C n).answered (edge_outcome D K C n).left

-- a row is D, K, C and the number of words lent
unfoldable pub row_text : List ℕ → List ℕ
row_text row = edge_text (get_or row 0 0) (get_or row 1 0) (get_or row 2 0) (get_or row 3 0)
