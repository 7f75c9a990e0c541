-- What is printed: for a line the list's four numbers and the row's four; at the end how many lines there were, or the first on which they differ.
use Rattle.std.specs.Prelude.{Bool, cond, ◌&&◌, not, List, [], ◌∷◌, ◌++◌, ◌≡◌, ℕ, suc, ◌*◌, eqb, ltb, take}
use Rattle.text.specs.Fields.{space}
use Rattle.text.specs.Lines.{line_feed}
use Rattle.report.specs.Report.{decimal, answer_text, answer_bytes}
use Rattle.trace.specs.Lines.{most_words}
use Rattle.trace_held.specs.Held.{Held, Holds}
use Rattle.engines.specs.Alike.{alike}
use Rattle.acceptance_step.specs.Lines.{Engines, engines_of, most_row_words, altered_by, kind_reply, kind_leaves}
use Rattle.acceptance_step.specs.declared.Kind.{Kind}
use Rattle.acceptance_step.specs.declared.Pair.{Pair}
use Rattle.acceptance_step.specs.declared.Sizes.{Sizes}
use Rattle.acceptance_step.specs.declared.Done.{Done}
use Rattle.acceptance_step.specs.declared.Tally.{Tally}

-- so many words of both engines are held
pub record Room (words keys : List ℕ) (sizes : Sizes) : Type 0 where
  pub words_held : Held most_words words sizes.list
  pub keys_held : Held most_row_words keys sizes.row

-- what is held
abbrev pub held_in : List ℕ → List ℕ → Sizes → Engines
held_in words keys sizes = engines_of (take sizes.list words) (take sizes.row keys)

-- what both answer to a line, and what is held after it, on what is held before
unfoldable pub answers_to : Kind → Engines → Pair
answers_to kind e = kind_reply kind (altered_by kind e)

unfoldable pub left_by : Kind → Engines → Engines
left_by kind e = kind_leaves kind (altered_by kind e)

-- the bytes printed for two answers
unfoldable pub pair_text : Pair → List ℕ
pair_text p = answer_text p.list space ++ answer_text p.row line_feed

-- the room for a line
abbrev pub line_bytes : ℕ
line_bytes = 2 * answer_bytes

-- the lines counted, up to the most that 64 bits hold, and the first on which the engines differ; 0 if there is none
abbrev pub most_lines : ℕ
most_lines = 18446744073709551615

abbrev pub counted : ℕ → ℕ
counted n = cond (ltb n most_lines) (suc n) n

unfoldable pub tallied_by : Bool → Pair → Tally → Tally
tallied_by count p t =
    record {
      lines = counted t.lines;
      first = cond (eqb t.first 0 && not (alike count p.list p.row)) (counted t.lines) t.first;
    }

-- A line was done on what was held: what it leaves, and what both answered.
pub record LineDone (kind : Kind) (before : Engines) (words keys : List ℕ) (r : Done) : Type 0 where
  pub words_are : Holds most_words words r.list (left_by kind before).list
  pub keys_are : Holds most_row_words keys r.row (left_by kind before).row
  pub answers_are : r.answers ≡ answers_to kind before

-- `SAME on N lines`, or `DIFFER first on line n`
unfoldable pub verdict_text : Tally → List ℕ
verdict_text t =
    cond (eqb t.first 0)
    (83 ∷ 65 ∷ 77 ∷ 69 ∷ space ∷ 111 ∷ 110 ∷ space ∷ (decimal t.lines ++ (space ∷ 108 ∷ 105 ∷ 110 ∷ 101 ∷ 115 ∷ line_feed ∷ [])))
    (68 ∷ 73 ∷ 70 ∷ 70 ∷ 69 ∷ 82 ∷ space ∷ 102 ∷ 105 ∷ 114 ∷ 115 ∷ 116 ∷ space ∷ 111 ∷ 110 ∷ space ∷ 108 ∷ 105 ∷ 110 ∷ 101 ∷ space
    ∷ (decimal t.first ++ (line_feed ∷ [])))
