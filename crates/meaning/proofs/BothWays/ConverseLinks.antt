-- Debts and links of a buffer of which every sentence holds are those of its places: the first later one that shares exactly d coordinates
-- is the least-key one, so the settled link is what the sentence asks for, and that has one answer.
use mathlib.Core.Path.{◌≡◌, refl, sym, ◌∙◌, ap, ap₂, subst}
use mathlib.Core.Bool.{Bool, true, false, cond, ◌&&◌, false≢true}
use mathlib.Core.List.{List, ◌∷◌}
use Prim.Native.Nat.{ℕ, ◌≤◌, ◌<◌}
use native.Mathlib.Omega.{arith}
use Rattle.lists.proofs.All.{All, all_map, all_zip}
use Rattle.lists.proofs.Tests.{both, and_both}
use Rattle.meaning.specs.Keys.{shared}
use Rattle.meaning.specs.Row.{Node, first_of, first_sharing, Place, settled_link, owed, low, high, between, link}
use Rattle.meaning.specs.Words.{key_at, owed_at, low_at, high_at, link_at, dimensions_at, base_at}
use Rattle.meaning.specs.Sentences.{NextLarger, LargerAt, Settled, Owing, AList}
use Rattle.meaning.proofs.Rows.AscendingRow.{asc_above}
use Rattle.meaning.proofs.Cells.WalkRead.{between_is, between_facts, link_due, link_owing, link_tested}
use Rattle.meaning.proofs.BothWays.SentencesShape.{settled_first, settled_link_lem}
use Rattle.meaning.proofs.BothWays.ConverseKeys.{shared_is, larger_key, larger_at, next_larger_of_one, settled_unique}
use Rattle.meaning.proofs.BothWays.ConverseRow.{Shown, owes_shown}
use Rattle.meaning.proofs.BothWays.ConversePlaces.{above_has, above_next_larger, Stands, Behind, none, one, PlaceShown}
use Rattle.meaning.proofs.BothWays.ConverseState.{DebtShown, debt_shown}

-- A link's number between two others

inside : (t : Bool) (lower above d : ℕ) → (t && between lower above d) ≡ true → (t ≡ true) × ((lower ≤ d) × (d < above))
inside t lower above d e = let (h, k) = both t (between lower above d) e in (h, between_facts lower above d k)

outside : (t : Bool) (lower above d : ℕ) → (t && between lower above d) ≡ false → t ≡ true → lower ≤ d → d < above → ⊥
outside t lower above d e o h k = false≢true (sym e ∙ and_both t (between lower above d) o (between_is lower above d h k))

owing_cases : (owes : Bool) (v w : ℕ) → (owes ≡ true → w ≡ v) → (owes ≡ false → w ≡ 0) → cond owes v 0 ≡ w
owing_cases true v w f g = sym (f refl)
owing_cases false v w f g = sym (g refl)

module _ (ws : List ℕ) (a : AList ws) where
  -- Links

  -- link d, by the later ones of a cell of dimension at most d
  stands_settled : (n : Node) (e : ℕ) (later : List Node) (d : ℕ) → Stands ws n e later → e ≤ d →
      Settled ws n.cell d (first_sharing (base_at ws) (dimensions_at ws) n.key d later)
  stands_settled n e later d s h =
      settled_first ws b D n.cell n.key d later s.dimension h s.above.ascends (all_map (λ y t. sym t.key) later s.above.shown)
      (all_zip larger later s.above.shown (asc_above n.key later s.above.ascends)) has
    where
      b : ℕ
      b = base_at ws

      D : ℕ
      D = dimensions_at ws

      -- a later one that shares just d, and the other way round
      larger : (y : Node) → Shown ws y → n.key < y.key → shared b D n.key y.key ≡ d → LargerAt ws n.cell d y.cell
      larger y t k q =
          let i = s.shown.key in
          let j = t.key in
          larger_at ws a n.cell d y.cell s.shown.standing t.standing (omega arith) (ap₂ (shared b D) (sym i) (sym j) ∙ q)

      shares : (z : ℕ) → LargerAt ws n.cell d z → shared b D n.key (key_at ws z) ≡ d
      shares z l = ap (λ key. shared b D key (key_at ws z)) s.shown.key ∙ sym (shared_is ws a n.cell z s.shown.standing l.standing) ∙ l.shares

      has : (P : ℕ → Type 0) → All (λ y. shared b D n.key y.key ≡ d → P y.cell) later → (z : ℕ) → LargerAt ws n.cell d z → P z
      has P all z l =
          let k = larger_key ws a n.cell d z s.shown.standing l in
          above_has (λ z. shared b D n.key (key_at ws z) ≡ d → P z) s.above
          (all_zip (λ y t f q. f (ap (shared b D n.key) t.key ∙ q)) later s.above.shown all)
          z l.standing (let i = s.shown.key in omega arith) (shares z l)

  place_settled : (p : Place) (d : ℕ) → PlaceShown ws p → Settled ws p.node.cell d (settled_link (base_at ws) (dimensions_at ws) p d)
  place_settled p d q =
      settled_link_lem ws (base_at ws) (dimensions_at ws) p.node.cell p d q.here.dimension (stands_settled p.node p.dimension p.later d q.here)

  -- Debts

  debt_at : (p : Place) → PlaceShown ws p → p.node.owes ≡ true → DebtShown ws p.node p.dimension p.later
  debt_at p q = debt_shown ws a p.node p.dimension p.later q.here

  pub owed_shown : (p : Place) → PlaceShown ws p → owed p ≡ owed_at ws p.node.cell
  owed_shown p q =
      owing_cases p.node.owes (first_of p.later).cell (owed_at ws p.node.cell) (λ o. (debt_at p q o).owed) q.here.shown.unowing

  pub low_shown : (p : Place) → PlaceShown ws p → low p ≡ low_at ws p.node.cell
  low_shown p q =
      owing_cases p.node.owes p.dimension (low_at ws p.node.cell) (λ o. (debt_at p q o).low)
      (λ o. (a.owes_nothing p.node.cell q.here.shown.standing (q.here.shown.unowing o)).0)

  pub high_shown : (p : Place) → PlaceShown ws p → high (base_at ws) (dimensions_at ws) p ≡ high_at ws p.node.cell
  high_shown p q =
      owing_cases p.node.owes (shared (base_at ws) (dimensions_at ws) p.node.key (first_of p.later).key) (high_at ws p.node.cell)
      (λ o. (debt_at p q o).high)
      (λ o. (a.owes_nothing p.node.cell q.here.shown.standing (q.here.shown.unowing o)).1)

  -- Links as they stand

  -- where the node before owes, link d is its settled one
  link_owed : (p : Place) (d : ℕ) → Behind ws p → p.before.owes ≡ true → p.before_dimension ≤ d → d < p.dimension →
      first_sharing (base_at ws) (dimensions_at ws) p.before.key d (p.node ∷ p.later) ≡ link_at ws p.node.cell d
  link_owed p d (none e f) o h k = absurd (let z : ◌≡◌ {A = ℕ} 0 1 = cc in omega arith)
  link_owed p d (one s e) o h k =
      let n = p.before.cell in
      let m = a.debts n s.shown.standing (s.shown.owing o) in
      let t = debt_shown ws a p.before p.before_dimension (p.node ∷ p.later) s o in
      let l = t.low in
      let g = t.high in
      settled_unique ws a (stands_settled p.before p.before_dimension (p.node ∷ p.later) d s h)
      (subst (λ c. Settled ws n d (link_at ws c d)) t.owed (m.owed_links d (omega arith) (omega arith)))

  -- who owes link d of the node of a place is the node before
  owing_before : (p : Place) (d n : ℕ) → Behind ws p → Owing ws n d → owed_at ws n ≡ p.node.cell →
      (p.before.owes ≡ true) × ((p.before_dimension ≤ d) × (d < p.dimension))
  owing_before p d n (none e f) w q = absurd (let h = w.owes in omega arith)
  owing_before p d n (one s e) w q =
      let m = a.debts n w.standing w.owes in
      let same = next_larger_of_one ws a n p.before.cell p.node.cell w.standing s.shown.standing (subst (NextLarger ws n) q m.owed)
      (above_next_larger s.shown s.above) in
      let v = subst (λ i. Owing ws i d) same w in
      let o = owes_shown p.before s.shown v.owes in
      let t = debt_shown ws a p.before p.before_dimension (p.node ∷ p.later) s o in
      (o, (let h = t.low in let k = v.low in omega arith, let h = t.high in let k = v.high in omega arith))

  pub link_shown : (p : Place) (d : ℕ) → PlaceShown ws p → d < dimensions_at ws → link (base_at ws) (dimensions_at ws) p d ≡ link_at ws p.node.cell d
  link_shown p d q less = at (link_due p d) (link_owing b D p d) refl refl
    where
      b : ℕ
      b = base_at ws

      D : ℕ
      D = dimensions_at ws

      x : ℕ
      x = p.node.cell

      at : (t u : Bool) → link_due p d ≡ t → link_owing b D p d ≡ u → link b D p d ≡ link_at ws x d
      at true u e f =
          link_tested b D p d e f ∙
          (let i = inside p.before.owes p.before_dimension p.dimension d e in
          link_owed p d q.behind i.0 i.1.0 i.1.1)
      at false true e f =
          let i = inside p.node.owes (low p) (high b D p) d f in
          let m = a.debts x q.here.shown.standing (q.here.shown.owing i.0) in
          let l = low_shown p q in
          let g = high_shown p q in
          link_tested b D p d e f ∙ sym (m.own_links d (omega arith) (omega arith))
      at false false e f =
          link_tested b D p d e f
          ∙ settled_unique ws a (place_settled p d q)
          (a.links x d q.here.shown.standing less
          (λ w. outside p.node.owes (low p) (high b D p) d f (owes_shown p.node q.here.shown w.owes)
          (let l = low_shown p q in let k = w.low in omega arith) (let g = high_shown p q in let k = w.high in omega arith))
          (λ n w r. let i = owing_before p d n q.behind w r in outside p.before.owes p.before_dimension p.dimension d e i.0 i.1.0 i.1.1))
