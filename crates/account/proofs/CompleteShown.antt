-- What the words of the picture of a state in order say of each standing cell.
use mathlib.Core.Path.{◌≡◌, refl, sym, subst}
use mathlib.Core.Bool.{true, false}
use mathlib.Core.List.{List, [], ◌∷◌, map}
use mathlib.Core.Logic.{inl, inr}
use Prim.Native.Nat.{ℕ, ◌≤◌, ◌<◌}
use native.Mathlib.Decide.{ℕ_discrete}
use native.Mathlib.Omega.{arith}
use Rattle.lists.specs.Lists.{occurrences}
use Rattle.lists.proofs.Occurrences.{occurrences_past, distinct_left}
use Rattle.lists.proofs.All.{All}
use Rattle.meaning.specs.Row.{Node, head_node, Place, places}
use Rattle.meaning.specs.State.{State, position_key, key_of}
use Rattle.meaning.specs.Picture.{picture}
use Rattle.meaning.proofs.Rows.AscendingRow.{Asc}
use Rattle.meaning.proofs.Pictures.State.{Debt, Sound, base_positive, base_above}
use Rattle.meaning.proofs.Pictures.StateCells.{cells_distinct, row_range}
use Rattle.meaning.proofs.Pictures.Picture.{picture_path, places_later}
use Rattle.meaning.proofs.Rows.Places.{key_of_same, key_of_other}
use Rattle.meaning.proofs.Cells.WalkRead.{Held, all_places, places_held}
use Rattle.meaning.proofs.BothWays.SentencesRow.{places_ascend}
use Rattle.account.proofs.CompletePath.{Stands, PlaceOnPath, places_on_path}
use Rattle.account.proofs.CompleteCell.{Shown}

-- The position

occurs_stands : (c : ℕ) (row : List Node) → 0 < occurrences c (map (λ x. x.cell) row) → Stands (key_of c row) row
occurs_stands c [] h = absurd (unfold occurrences in omega arith)
occurs_stands c (x ∷ row) h = at (ℕ_discrete x.cell c) (occurs_stands c row)
  where
    at : Dec (x.cell ≡ c) → (0 < occurrences c (map (λ y. y.cell) row) → Stands (key_of c row) row) → Stands (key_of c (x ∷ row)) (x ∷ row)
    at (yes e) more = inl (sym (key_of_same c x row e))
    at (no ne) more = inr (subst (λ k. Stands k row) (sym (key_of_other c x row ne)) (more (rw (occurrences_past c x.cell (map (λ y. y.cell) row) ne) at h)))

pub position_stands : (s : State) → Sound s → Stands (position_key s) (head_node ∷ s.row)
position_stands s v = occurs_stands s.position (head_node ∷ s.row) v.position

-- What is known of the nodes

-- of the head too
record Kept (s : State) (x : Node) : Type 0 where
  cell : x.cell < s.settings.cells
  most : x.key ≤ s.settings.largest
  worthless : x.live ≡ false → x.value ≡ 0
  dead : x.key ≤ position_key s → x.live ≡ false

kept : (s : State) (row : List Node) → All (λ x. (0 < x.cell) × (x.cell < s.settings.cells)) row →
    All (λ x. x.key ≤ s.settings.largest) row →
    All (λ x. x.live ≡ false → x.value ≡ 0) row → All (λ x. x.key ≤ position_key s → x.live ≡ false) row → All (Kept s) row
kept s [] range most worthless dead = tt
kept s (x ∷ row) range most worthless dead = (
  record { cell = range.0.1; most = most.0; worthless = worthless.0; dead = dead.0 },
  kept s row range.1 most.1 worthless.1 dead.1,
)

head_kept : (s : State) → Sound s → Kept s head_node
head_kept s v = let c = v.ranges.cells_least in record { cell = omega arith; most = omega arith; worthless = λ e. refl; dead = λ h. refl }

places_kept : (s : State) → Sound s → All (λ p. Kept s p.node) (places s.settings.base s.settings.dimensions s.row)
places_kept s v =
    all_places (Kept s) s.settings.base s.settings.dimensions s.row (head_kept s v)
    (kept s s.row (row_range s v) v.keys v.values v.dead)

-- The words

module _ (s : State) (v : Sound s) where
  shown : (p : Place) → Held (picture s) s.settings.base s.settings.dimensions p → Kept s p.node →
      (p.node.owes ≡ true → Debt s.settings.base s.settings.dimensions p) → Asc p.node.key p.later →
      All (λ z. (0 < z.cell) × (z.cell < s.settings.cells)) p.later → PlaceOnPath (picture s) s.settings.base (position_key s) p →
      Shown (picture s) (position_key s) p
  unfolding picture
  shown p held kept debt ascends later path =
      let most = kept.most in
      let above = base_above s v in
      record {
        held = held;
        cell = kept.cell;
        most = most;
        below = omega arith;
        worthless = kept.worthless;
        dead = kept.dead;
        debt = debt;
        ascends = ascends;
        later = later;
        path = path;
      }

  path_shown : All (PlaceOnPath (picture s) s.settings.base (position_key s)) (places s.settings.base s.settings.dimensions s.row)
  unfolding picture
  path_shown =
      places_on_path (picture s) s.settings.base (position_key s) s.row (base_positive s v) v.ascends
      (distinct_left (0 ∷ map (λ x. x.cell) s.row) s.free (cells_distinct s v)) (position_stands s v) (picture_path s)

  pub places_shown : All (Shown (picture s) (position_key s)) (places s.settings.base s.settings.dimensions s.row)
  places_shown =
      each standing (places_held s v) (places_kept s v) v.debts (places_ascend b D s.row v.ascends)
      (places_later (λ z. (0 < z.cell) × (z.cell < s.settings.cells)) b D s.row (row_range s v)) path_shown
    where
      b : ℕ
      b = s.settings.base

      D : ℕ
      D = s.settings.dimensions

      standing : List Place
      standing = places b D s.row

      each : (ps : List Place) → All (Held (picture s) b D) ps → All (λ p. Kept s p.node) ps →
          All (λ p. p.node.owes ≡ true → Debt b D p) ps → All (λ p. Asc p.node.key p.later) ps →
          All (λ p. All (λ z. (0 < z.cell) × (z.cell < s.settings.cells)) p.later) ps → All (PlaceOnPath (picture s) b (position_key s)) ps →
          All (Shown (picture s) (position_key s)) ps
      each [] held kept debt ascends later path = tt
      each (p ∷ ps) held kept debt ascends later path = (
        shown p held.0 kept.0 debt.0 ascends.0 later.0 path.0,
        each ps held.1 kept.1 debt.1 ascends.1 later.1 path.1,
      )
