-- The keys of the cells met. A cell that is right after the one read before has the larger key, and shares with it as many coordinates as the
-- number says by which it was met. In a row that rises so, the cell that link d leads to is the first that shares exactly d coordinates.
use mathlib.Core.Path.{◌≡◌, refl, sym, ◌∙◌}
use mathlib.Core.List.{List, [], ◌∷◌, map}
use Prim.Native.Nat.{ℕ, ◌≤◌, ◌<◌, min}
use native.Mathlib.Decide.{ℕ_discrete, dec_lt}
use native.Mathlib.Omega.{arith}
use Rattle.lists.proofs.All.{All}
use Rattle.meaning.specs.Keys.{shared}
use Rattle.meaning.specs.Row.{Node, first_sharing}
use Rattle.meaning.specs.Words.{key_at, dimensions_at, base_at}
use Rattle.meaning.proofs.Rows.AscendingRow.{Asc}
use Rattle.meaning.proofs.Rows.Keys.{shared_same, ultra}
use Rattle.meaning.proofs.Rows.Blocks.{shared_by_blocks}
use Rattle.meaning.proofs.Rows.Parent.{sharing_skips, sharing_hits, sharing_above}
use Rattle.meaning.proofs.BothWays.ConverseRow.{node_in}
use Rattle.account.specs.declared.Seen.{Seen}
use Rattle.account.proofs.AcceptedTests.{Header}
use Rattle.account.proofs.AcceptedRun.{Met, next, next_past, next_here, next_none, seen, Trace}

-- The row

abbrev pub row_in : List ℕ → List Met → List Node
row_in ws met = map (λ m. node_in ws m.cell) met

-- cells met after cell x: each has a larger key than the one before, and shares with it what the number says by which it was met
abbrev pub Rising : List ℕ → ℕ → List Met → Type 0
Rising ws x [] = Unit {0}
Rising ws x (m ∷ met) = ((key_at ws x < key_at ws m.cell) × (shared (base_at ws) (dimensions_at ws) (key_at ws x) (key_at ws m.cell) ≡ m.link_number))
    × Rising ws m.cell met

pub row_asc : (ws : List ℕ) (x : ℕ) (met : List Met) → Rising ws x met → Asc (key_at ws x) (row_in ws met)
row_asc ws x [] r = tt
row_asc ws x (m ∷ met) r = (r.0.0, row_asc ws m.cell met r.1)

pub rising : (ws : List ℕ) → Header ws → (s : Seen) (met : List Met) → Trace ws s met → All (λ m. m.link_number < dimensions_at ws) met →
    Rising ws s.last met
rising ws header s [] t levels = tt
rising ws header s (m ∷ met) t levels =
    let below = header.base.above in
    let most = t.0.key in (
      (shared_by_blocks (base_at ws) (dimensions_at ws) (key_at ws s.last) (key_at ws m.cell) m.link_number header.positive (omega arith) levels.0
          ).1 (t.0.from, t.0.to),
      rising ws header (seen ws m s) met t.1 levels.1,
    )

-- The first that shares d coordinates

module _ (ws : List ℕ) (pos : 0 < base_at ws) where
  -- after a cell p that shares more than d with x, the first that is met by a number of at most d
  sharing_next : (x p d : ℕ) (met : List Met) → Rising ws p met → key_at ws x ≤ key_at ws p → d < shared (base_at ws) (dimensions_at ws) (key_at ws x) (key_at ws p) →
      first_sharing (base_at ws) (dimensions_at ws) (key_at ws x) d (row_in ws met) ≡ next d met
  unfolding first_sharing next
  sharing_next x p d [] r h l = refl
  sharing_next x p d (m ∷ met) r h l =
      at (dec_lt d m.link_number) (ℕ_discrete m.link_number d) r.0.1
      (ultra b D (key_at ws x) (key_at ws p) (key_at ws m.cell) pos h (let k = r.0.0 in omega arith))
      (λ k. sharing_next x m.cell d met r.1 (let i = r.0.0 in omega arith) k)
    where
      b : ℕ
      b = base_at ws

      D : ℕ
      D = dimensions_at ws

      at : Dec (d < m.link_number) → Dec (m.link_number ≡ d) → shared b D (key_at ws p) (key_at ws m.cell) ≡ m.link_number →
          shared b D (key_at ws x) (key_at ws m.cell) ≡ min (shared b D (key_at ws x) (key_at ws p)) (shared b D (key_at ws p) (key_at ws m.cell)) →
          (d < shared b D (key_at ws x) (key_at ws m.cell) → first_sharing b D (key_at ws x) d (row_in ws met) ≡ next d met) →
          first_sharing b D (key_at ws x) d (node_in ws m.cell ∷ row_in ws met) ≡ next d (m ∷ met)
      at (yes k) q is u more =
          sharing_skips b D (key_at ws x) d (node_in ws m.cell ∷ []) (row_in ws met) ((λ e. omega arith), tt) ∙ more (omega arith) ∙ sym (next_past d m met k)
      at (no k) (yes q) is u more =
          sharing_hits b D (key_at ws x) d (node_in ws m.cell) (row_in ws met) (omega arith) ∙ sym (next_here d m met q)
      at (no k) (no q) is u more =
          sharing_above b D pos (key_at ws x) d (node_in ws m.cell) (row_in ws met) (let i = r.0.0 in omega arith) (row_asc ws m.cell met r.1)
          (omega arith)
          ∙ sym (next_none d m met (omega arith))

  -- link d of x
  pub sharing_is_next : (x d : ℕ) (met : List Met) → Rising ws x met → d < dimensions_at ws →
      first_sharing (base_at ws) (dimensions_at ws) (key_at ws x) d (row_in ws met) ≡ next d met
  sharing_is_next x d met r l = sharing_next x x d met r (omega arith) (omega (arith, shared_same (base_at ws) (dimensions_at ws) (key_at ws x)))
