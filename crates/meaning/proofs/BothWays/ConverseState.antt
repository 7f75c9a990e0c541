-- The state that a buffer of which every sentence holds is the picture of, and that it is in order. Its cells are all numbers from 1 to
-- C - 1, each once, and so are C - 1. A debt's owed cell is the first later one in the row, by what next larger means.
use mathlib.Core.Path.{◌≡◌, refl, sym, ◌∙◌, ap, subst}
use mathlib.Core.Bool.{Bool, true, false}
use mathlib.Core.Logic.{⊎_elim}
use mathlib.Core.List.{List, [], ◌∷◌, ◌++◌, map}
use Prim.Native.Nat.{ℕ, ◌-◌, ◌<◌}
use native.Mathlib.Decide.{ℕ_discrete}
use native.Mathlib.Omega.{arith}
use lib.ListN.{length}
use Rattle.settings.proofs.Numbers.{base_is, base_unique}
use Rattle.lists.specs.Lists.{occurrences}
use Rattle.lists.proofs.Counting.{each_once}
use Rattle.lists.proofs.Occurrences.{occurrences_here, occurrences_append, occurrences_more, all_occur, none_occurs}
use Rattle.lists.proofs.All.{All, all_map, all_append, all_mapped}
use Rattle.meaning.specs.Keys.{shared}
use Rattle.meaning.specs.Row.{Node, head_node, first_of, Place, places}
use Rattle.meaning.specs.State.{State, position_key}
use Rattle.meaning.specs.Picture.{mark}
use Rattle.meaning.specs.Reading.{settings_at}
use Rattle.meaning.specs.Words.{key_at, owed_at, low_at, high_at, dimensions_at, largest_at, cells_at, base_at, position_at}
use Rattle.meaning.specs.Sentences.{shared_at, Free, Standing, NextLarger, AList}
use Rattle.meaning.proofs.Pictures.State.{cells_in, Debt, Sound}
use Rattle.meaning.proofs.Pictures.Picture.{first_has}
use Rattle.meaning.proofs.Cells.Placed.{standing_not_free}
use Rattle.meaning.proofs.BothWays.ConverseKeys.{next_larger_unique, dimension_unique, head_stands, free_or_standing}
use Rattle.meaning.proofs.BothWays.ConverseRow.{Shown, unowing_shown, standing_row, shown_key, head_shown, row_shown, row_once}
use Rattle.meaning.proofs.BothWays.ConversePlaces.{Above, above_next_larger, Stands, PlaceShown, row_above, shown_shared, row_placed}

-- The state

abbrev pub state_of : (ws : List ℕ) → AList ws → State
state_of ws a = record { settings = settings_at ws; row = standing_row ws; free = a.free_chain.chain; position = position_at ws }

-- the words of a cell that owes, by its dimension e and the later ones
pub record DebtShown (ws : List ℕ) (n : Node) (e : ℕ) (later : List Node) : Type 0 where
  pub followed : 0 < length later
  pub owed : owed_at ws n.cell ≡ (first_of later).cell
  pub low : low_at ws n.cell ≡ e
  pub high : high_at ws n.cell ≡ shared (base_at ws) (dimensions_at ws) n.key (first_of later).key

mark_dead : (live : Bool) → mark live ≡ 2 → live ≡ false
mark_dead true e = absurd (omega arith)
mark_dead false e = refl

module _ (ws : List ℕ) (a : AList ws) where
  -- Cells

  cells_once : (y : ℕ) → 0 < y → y < cells_at ws → occurrences y (cells_in (state_of ws a)) ≡ 1
  cells_once y pos less = ⊎_elim free standing (free_or_standing ws a y less)
    where
      row : List ℕ
      row = map (λ x. x.cell) (standing_row ws)

      chain : List ℕ
      chain = a.free_chain.chain

      free : Free ws y → occurrences y (row ++ chain) ≡ 1
      free f =
          let none = none_occurs y row (all_mapped (λ x. y ≡ x → ⊥) (λ x. x.cell) (standing_row ws)
          (all_map (λ x s e. standing_not_free (subst (Standing ws) (sym e) s.standing) f) (standing_row ws) (row_above ws a).shown)) in
          omega (arith, occurrences_append y row chain, a.free_chain.once y f)

      unchained : Standing ws y → Dec (occurrences y chain ≡ 0) → occurrences y chain ≡ 0
      unchained st (yes e) = e
      unchained st (no ne) = absurd (standing_not_free st (a.free_chain.no_other y (omega arith)))

      standing : Standing ws y → occurrences y (row ++ chain) ≡ 1
      standing st =
          let none = unchained st (ℕ_discrete (occurrences y chain) 0) in
          let one = row_once ws a y 1 (cells_at ws - 1) st pos (omega arith) (omega arith) in
          omega (arith, occurrences_append y row chain)

  free_positive : (y : ℕ) → Free ws y → 0 < y
  free_positive y f = at (ℕ_discrete 0 y)
    where
      at : Dec (0 ≡ y) → 0 < y
      at (yes e) = absurd (standing_not_free (subst (Standing ws) e (head_stands ws a)) f)
      at (no ne) = omega arith

  cells_range : All (λ c. (0 < c) × (c < cells_at ws)) (cells_in (state_of ws a))
  cells_range =
      let P : ℕ → Type 0 = λ c. (0 < c) × (c < cells_at ws) in
      let chain = a.free_chain.chain in
      let least = a.count.0 in
      all_append P (map (λ x. x.cell) (standing_row ws)) chain
      (all_mapped P (λ x. x.cell) (standing_row ws) (all_map (λ x s. (s.1, s.0.standing.cell)) (standing_row ws)
      (row_shown ws a 1 (cells_at ws - 1) (omega arith))))
      (all_map (λ c h. let f = a.free_chain.no_other c h in (free_positive c f, f.cell)) chain (all_occur chain))

  -- a standing cell is the head or in the row
  pub standing_occurs : (y : ℕ) → Standing ws y → 0 < occurrences y (0 ∷ map (λ x. x.cell) (standing_row ws))
  standing_occurs y st = at (ℕ_discrete 0 y)
    where
      row : List ℕ
      row = map (λ x. x.cell) (standing_row ws)

      at : Dec (0 ≡ y) → 0 < occurrences y (0 ∷ row)
      at (yes e) = let h = occurrences_here y 0 row e in omega arith
      at (no ne) = let less = st.cell in let h = row_once ws a y 1 (cells_at ws - 1) st (omega arith) (omega arith) (omega arith) in
          let m = occurrences_more y 0 row in omega arith

  pub position_key_lem : position_key (state_of ws a) ≡ key_at ws (position_at ws)
  position_key_lem = shown_key ws (position_at ws) (head_node ∷ standing_row ws) (head_shown ws a, (row_above ws a).shown)
      (standing_occurs (position_at ws) a.position)

  -- Debts

  owed_first : (n : Node) (later : List Node) (c : ℕ) → Shown ws n → Above ws n.key later → NextLarger ws n.cell c →
      (0 < length later) × (c ≡ (first_of later).cell)
  unfolding occurrences
  owed_first n [] c s r p = absurd (let h = r.complete c p.standing (let k = s.key in let l = p.larger in omega arith) in omega arith)
  owed_first n (x ∷ later) c s r p = (omega arith, next_larger_unique ws a n.cell c x.cell p (above_next_larger s r))

  pub debt_shown : (n : Node) (e : ℕ) (later : List Node) → Stands ws n e later → n.owes ≡ true → DebtShown ws n e later
  debt_shown n e later s o =
      let m = a.debts n.cell s.shown.standing (s.shown.owing o) in
      let first = owed_first n later (owed_at ws n.cell) s.shown s.above m.owed in
      let shown = first_has (Shown ws) later s.above.shown first.0 in
      record {
        followed = first.0;
        owed = first.1;
        low = dimension_unique ws a m.low s.dimension;
        high = m.high ∙ ap (shared_at ws n.cell) first.1 ∙ sym (shown_shared ws a s.shown shown);
      }

  debt_sound : (n : Place) → PlaceShown ws n → n.node.owes ≡ true → Debt (base_at ws) (dimensions_at ws) n
  debt_sound n p o =
      let x = n.node.cell in
      let s = p.here in
      let m = a.debts x s.shown.standing (s.shown.owing o) in
      let d = debt_shown n.node n.dimension n.later s o in
      record {
        later = d.followed;
        unowing = unowing_shown (first_of n.later) (first_has (Shown ws) n.later s.above.shown d.followed)
            (ap (owed_at ws) (sym d.owed) ∙ m.owes_nothing);
        lower = (let h = m.low_below_high in let l = d.low in let k = d.high in omega arith);
      }

  pub state_sound : Sound (state_of ws a)
  state_sound =
      let s = state_of ws a in
      let C = cells_at ws in
      let row = standing_row ws in
      let shown = (row_above ws a).shown in
      let least = a.count.0 in
      record {
        ranges =
            record {
              dimensions_least = a.dimensions.0;
              dimensions_most = a.dimensions.1;
              largest_least = a.largest.0;
              largest_most = a.largest.1;
              cells_least = a.count.0;
              cells_most = a.count.1;
            };
        base = base_unique a.base (base_is (dimensions_at ws) (largest_at ws) (let h = a.dimensions.0 in omega arith));
        ascends = (row_above ws a).ascends;
        keys = all_map (λ x t. (let k = t.0.key in let l = t.1 in let h = (a.keys x.cell t.0.standing l).1 in omega arith)) row
            (row_shown ws a 1 (C - 1) (omega arith));
        count = each_once 1 (C - 1) (cells_in s) (all_map (λ c h. (h.0, (let k = h.1 in omega arith))) (cells_in s) cells_range)
            (λ y low high. cells_once y low (omega arith));
        range = cells_range;
        once = all_map (λ c h. cells_once c h.0 h.1) (cells_in s) cells_range;
        values = all_map (λ x t e. t.value ∙ a.dead_value x.cell t.standing.cell (sym t.marked ∙ ap mark e)) row shown;
        debts = all_map debt_sound (places (base_at ws) (dimensions_at ws) row) (row_placed ws a);
        position = standing_occurs (position_at ws) a.position;
        dead = all_map (λ x t h. mark_dead x.live (t.marked ∙ a.passed_dead x.cell t.standing
            (let k = t.key in let p = position_key_lem in omega arith))) row shown;
      }
