-- Every rule from Numbers to A list holds of a list, as a condition on its words. A list is the picture of a state in order; its standing
-- cells have their places, its other cells are free, and what a rule says of cells by their words is so of the places by the laws of the
-- row.
use Rattle.std.specs.Prelude.{Option, None, Some}
use mathlib.Core.Path.{◌≡◌, refl, sym, ap, ◌∙◌, subst, subst₂}
use mathlib.Core.Bool.{Bool, true, false, cond, false≢true}
use mathlib.Core.List.{List, [], ◌∷◌, Memᴰ}
use mathlib.Core.Logic.{inr}
use Prim.Native.Nat.{ℕ, suc, ◌≤◌, ◌<◌}
use native.Mathlib.Omega.{arith}
use Rattle.settings.proofs.Numbers.{base_is}
use Rattle.lists.specs.Lists.{first_number}
use Rattle.lists.proofs.All.{All, all_in, members}
use Rattle.lists.proofs.Tests.{both, and_both}
use Rattle.meaning.specs.Keys.{shared}
use Rattle.meaning.specs.Row.{head_node, first_of, Place, head_place, settled_link, low, high, between, place_of}
use Rattle.meaning.specs.State.{State, position_key, places_of}
use Rattle.meaning.specs.Picture.{mark, path_word, picture}
use Rattle.meaning.specs.Reading.{read, is_list}
use Rattle.meaning.specs.Words.{key_at, value_at, mark_at, owed_at, low_at, high_at, link_at, position_at}
use Rattle.meaning.specs.Walk.{link_read}
use Rattle.meaning.specs.Sentences.{Standing, shared_at, NextLarger, Dimension, Settled, Chained, FreeChain, Owing, MayOwe, Sharing, OnPath, AList}
use Rattle.meaning.specs.Sentences.Chained.{ended, chained_on}
use Rattle.meaning.proofs.Rows.Keys.{shared_same, shared_le, shared_sym}
use Rattle.meaning.proofs.Pictures.State.{Sound, Debt}
use Rattle.meaning.proofs.Pictures.StateCells.{free_range, free_distinct}
use Rattle.meaning.proofs.Pictures.Picture.{picture_length, picture_path, free_found, places_later}
use Rattle.meaning.proofs.Pictures.ReadBack.{Follow, distinct_follow, position_read, list_is_picture, list_sound}
use Rattle.meaning.proofs.Cells.WalkRead.{between_is, link_read_lem, between_facts, link_due, link_owing, link_tested, undue_above, read_through}
use Rattle.meaning.proofs.Kept.KeepsState.{cells_positive}
use Rattle.meaning.proofs.BothWays.SentencesRow.{Compared, Least, SharesAtLeast, first_with_lem}
use Rattle.meaning.proofs.BothWays.SentencesRow.Led.{head, led}
use Rattle.meaning.proofs.BothWays.SentencesRow.Compared.{same, later, earlier}
use Rattle.meaning.proofs.BothWays.SentencesRow.Least.{least, nowhere}
use Rattle.meaning.proofs.Cells.Placed.{Placed, placed_has, placed_node, placed_cell, placed_key_of, placed_most, head_placed, place_key, place_value}
use Rattle.meaning.proofs.Cells.Placed.{place_mark, place_owed, place_low, place_high, place_link, place_standing, free_cell_first}
use Rattle.meaning.proofs.Cells.Placed.{free_cell_rest, free_cell_free, cell_standing, cell_unfound, cell_free, free_cell_lem, position_placed}
use Rattle.meaning.proofs.Cells.Placed.{place_unowing}
use Rattle.meaning.proofs.BothWays.SentencesShape.{NextIn, LedIn, HasPlace, placed_shared, placed_led, placed_compared, next_larger}
use Rattle.meaning.proofs.BothWays.SentencesShape.{place_after, place_next_smaller, place_dimension, row_placed, place_settled}

-- What a cell owes

-- cell x, in place p, owes to the cell of place q
pub record Owes (s : State) (x : ℕ) (p q : Place) : Type 0 where
  pub placed : Placed s q.node.cell q
  pub next : NextIn s p q
  pub positive : 0 < q.node.cell
  pub unowing : q.node.owes ≡ false
  pub lower : p.dimension < q.dimension
  pub owed : owed_at (picture s) x ≡ q.node.cell
  pub low : low_at (picture s) x ≡ p.dimension
  pub high : high_at (picture s) x ≡ q.dimension

module _ {s : State} (v : Sound s) where
  pub later_positive : {x : ℕ} {p : Place} → Placed s x p → All (λ y. 0 < y.cell) p.later
  later_positive here =
      placed_has here (λ p. All (λ y. 0 < y.cell) p.later)
      (places_later (λ y. 0 < y.cell) s.settings.base s.settings.dimensions s.row (cells_positive s v))

  pub place_owes : {x : ℕ} {p : Place} → Placed s x p → p.node.owes ≡ true → (q : Place) × Owes s x p q
  place_owes {x} {p} here o =
      let b = s.settings.base in
      let D = s.settings.dimensions in
      let debt = placed_has here (λ n. n.node.owes ≡ true → Debt b D n) v.debts o in
      let (q, there, next) = place_after v here debt.later in
      let first : first_of p.later ≡ q.node = ap first_of next.later in
      let high_is = ap (λ y. shared b D p.node.key y.key) first ∙ sym next.dimension in (
        q,
        record {
          placed = there;
          next = next;
          positive = (subst (All (λ y. 0 < y.cell)) next.later (later_positive here)).0;
          unowing = ap (λ y. y.owes) (sym first) ∙ debt.unowing;
          lower = let h = debt.lower in omega arith;
          owed = place_owed v here ∙ ap (λ t. cond t (first_of p.later).cell 0) o ∙ ap (λ y. y.cell) first;
          low = place_low v here ∙ ap (λ t. cond t p.dimension 0) o;
          high = place_high v here ∙ ap (λ t. cond t (shared b D p.node.key (first_of p.later).key) 0) o ∙ high_is;
        },
      )

  -- a cell whose owed word is not 0 owes
  pub owed_owes : {x : ℕ} {p : Place} → Placed s x p → 0 < owed_at (picture s) x → p.node.owes ≡ true
  owed_owes {x} {p} here h = at p.node.owes refl
    where
      at : (t : Bool) → p.node.owes ≡ t → t ≡ true
      at true e = refl
      at false e = absurd (omega (arith, h, (place_unowing v here e).0))

  owing_standing : {x : ℕ} {p q : Place} → Placed s x p → Owes s x p q → (d : ℕ) → p.dimension ≤ d → d < q.dimension → Owing (picture s) x d
  owing_standing here o d h k =
      record {
        standing = place_standing v here;
        owes = let z = o.positive in omega (arith, o.owed);
        low = omega (arith, o.low);
        high = omega (arith, o.high);
      }

  -- the head's place does not owe
  owes_not_head : {x : ℕ} {p : Place} → Placed s x p → p.node.owes ≡ true → 0 < x
  owes_not_head {x} {p} here o = at (placed_led v here)
    where
      at : LedIn s p → 0 < x
      at (head e) = absurd (false≢true (ap (λ q. q.node.owes) (sym e) ∙ o))
      at (led q there next) =
          let h = (subst (All (λ y. 0 < y.cell)) next.later (later_positive there)).0 in
          omega (arith, placed_cell here)

  owing_true : {x : ℕ} {p : Place} → Placed s x p → p.node.owes ≡ true → (d : ℕ) → low_at (picture s) x ≤ d → d < high_at (picture s) x →
      link_owing s.settings.base s.settings.dimensions p d ≡ true
  owing_true {x} {p} here o d h k =
      let b = s.settings.base in
      let D = s.settings.dimensions in
      and_both p.node.owes (between (low p) (high b D p) d) o
      (between_is (low p) (high b D p) d (omega (arith, place_low v here)) (omega (arith, place_high v here)))

  -- from the dimension on, the link read through what is owed is the settled one
  owed_link : {n : ℕ} {p : Place} → Placed s n p → (d : ℕ) → d < s.settings.dimensions → p.dimension ≤ d →
      link_read (picture s) n d ≡ settled_link s.settings.base s.settings.dimensions p d
  owed_link {n} {p} here d h k =
      ap (λ c. link_read (picture s) c d) (sym (placed_cell here))
      ∙ placed_has here (λ p. p.dimension ≤ d → link_read (picture s) p.node.cell d ≡ settled_link s.settings.base s.settings.dimensions p d)
      (link_read_lem s v d h) k

  may_owe : {n : ℕ} {p q : Place} → Placed s n p → p.node.owes ≡ true → Owes s n p q → MayOwe (picture s) n
  may_owe {n} {p} {q} here o owes =
      record {
        not_head = owes_not_head here o;
        owed = subst (NextLarger (picture s) n) (sym owes.owed) (next_larger v here owes.placed owes.next);
        owes_nothing = ap (λ c. owed_at (picture s) c) owes.owed ∙ (place_unowing v owes.placed owes.unowing).0;
        low = subst (Dimension (picture s) n) (sym owes.low) (place_dimension v here);
        high =
            owes.high ∙ owes.next.dimension ∙ sym (placed_shared v here owes.placed)
            ∙ ap (λ c. shared_at (picture s) n c) (sym owes.owed);
        low_below_high = let h = owes.lower in omega (arith, owes.low, owes.high);
        own_links = λ d h k. place_link v here d (inside d k) ∙ link_tested b D p d (undue_above p d (above d h)) (owing_true here o d h k);
        owed_links = λ d h k.
            let through = read_through (picture s) n d (let z = owes.positive in omega (arith, owes.owed)) h k in
            subst (Settled (picture s) n d) (sym (owed_link here d (inside d k) (above d h)) ∙ through) (place_settled v here d);
      }
    where
      b : ℕ
      b = s.settings.base

      D : ℕ
      D = s.settings.dimensions

      above : (d : ℕ) → low_at (picture s) n ≤ d → p.dimension ≤ d
      above d h = omega (arith, owes.low)

      inside : (d : ℕ) → d < high_at (picture s) n → d < D
      inside d k = omega (arith, k, owes.high, owes.next.dimension, shared_le b D p.node.key q.node.key)

  -- Debts 2 and 3
  pub debt_sentence : {n : ℕ} {p : Place} → Placed s n p → 0 < owed_at (picture s) n → MayOwe (picture s) n
  debt_sentence here h = let o = owed_owes here h in may_owe here o (place_owes here o).1

  -- Debts 3: every other link
  pub link_sentence : {x : ℕ} {p : Place} → Placed s x p → (d : ℕ) → d < s.settings.dimensions → (Owing (picture s) x d → ⊥) →
      ((n : ℕ) → Owing (picture s) n d → owed_at (picture s) n ≡ x → ⊥) → Settled (picture s) x d (link_at (picture s) x d)
  link_sentence {x} {p} here d h own due-to =
      let is = link_tested b D p d (not_due (link_due p d) refl) (not_owing (link_owing b D p d) refl) in
      subst (Settled (picture s) x d) (sym (place_link v here d h ∙ is)) (place_settled v here d)
    where
      b : ℕ
      b = s.settings.base

      D : ℕ
      D = s.settings.dimensions

      not_owing : (t : Bool) → link_owing b D p d ≡ t → t ≡ false
      not_owing true e =
          let (owes, inside) = both p.node.owes (between (low p) (high b D p) d) e in
          let (l, k) = between_facts (low p) (high b D p) d inside in
          let (q, o) = place_owes here owes in
          absurd (own (owing_standing here o d (omega (arith, l, place_low v here, o.low)) (omega (arith, k, place_high v here, o.high))))
      not_owing false e = refl

      no_debtor : p.before.owes ≡ true → p.before_dimension ≤ d → d < p.dimension → LedIn s p → ⊥
      no_debtor owes l k (head e) = false≢true (ap (λ q. q.before.owes) (sym e) ∙ owes)
      no_debtor owes l k (led q there next) =
          let (r, o) = place_owes there (ap (λ y. y.owes) (sym next.before) ∙ owes) in
          let is : r.node ≡ p.node = ap first_of (sym o.next.later ∙ next.later) in
          let dimension = o.next.dimension ∙ ap (λ y. shared b D q.node.key y.key) is ∙ sym next.dimension in
          due-to q.node.cell (owing_standing there o d (omega (arith, l, next.before_dimension)) (omega arith))
          (o.owed ∙ ap (λ y. y.cell) is ∙ placed_cell here)

      not_due : (t : Bool) → link_due p d ≡ t → t ≡ false
      not_due true e =
          let (owes, inside) = both p.before.owes (between p.before_dimension p.dimension d) e in
          let (l, k) = between_facts p.before_dimension p.dimension d inside in
          absurd (no_debtor owes l k (placed_led v here))
      not_due false e = refl

  -- The path

  node_member : {x : ℕ} {p : Place} → Placed s x p → Memᴰ p.node (head_node ∷ s.row)
  node_member here =
      let (first, rest) = members (head_node ∷ s.row) in
      placed_node here (λ y. Memᴰ y (head_node ∷ s.row)) first rest

  nodes_placed : All (HasPlace s) (head_node ∷ s.row)
  nodes_placed = (record { place = head_place s.row; placed = head_placed s; node = refl }, row_placed v)

  -- c is the least-key standing cell sharing the first n coordinates with x
  abbrev LeastSharing : ℕ → ℕ → ℕ → Type 0
  LeastSharing n x c = Sharing (picture s) x n c × ((y : ℕ) → Sharing (picture s) x n y → key_at (picture s) c ≤ key_at (picture s) y)

  least_sharing : {x : ℕ} {p : Place} → Placed s x p → (n : ℕ) → n ≤ s.settings.dimensions → {c : ℕ} →
      Least (SharesAtLeast s.settings.base s.settings.dimensions p.node.key n) (head_node ∷ s.row) c → LeastSharing n x c
  least_sharing {x} {p} here n h (least y m k a) = (
    record { standing = place_standing v there; shares = omega (arith, k, placed_shared v here there, shares) },
    λ z l. let (r, found) = cell_standing s z l.standing in at z r found l.shares,
  )
    where
      b : ℕ
      b = s.settings.base

      D : ℕ
      D = s.settings.dimensions

      stands : HasPlace s y
      stands = all_in (HasPlace s) m nodes_placed

      there : Placed s y.cell stands.place
      there = stands.placed

      shares : shared b D p.node.key stands.place.node.key ≡ shared b D y.key p.node.key
      shares = ap (λ e. shared b D p.node.key e.key) stands.node ∙ shared_sym b D p.node.key y.key

      at : (z : ℕ) (r : Place) → Placed s z r → n ≤ shared_at (picture s) x z → key_at (picture s) y.cell ≤ key_at (picture s) z
      at z r found l =
          let le = all_in (λ z. SharesAtLeast b D p.node.key n z → y.key ≤ z.key) (node_member found) a
          (omega (arith, l, placed_shared v here found, shared_sym b D p.node.key r.node.key)) in
          omega (arith, place_key v there, place_key v found, ap (λ e. e.key) stands.node)
  least_sharing {x} {p} here n h (nowhere a) =
      absurd (all_in (λ z. SharesAtLeast s.settings.base s.settings.dimensions p.node.key n z → ⊥) (node_member here) a
      (omega (arith, shared_same s.settings.base s.settings.dimensions p.node.key)))

  -- The position 1
  pub position_is : position_at (picture s) ≡ s.position
  unfolding picture
  position_is = position_read s v

  pub position_key_is : key_at (picture s) (position_at (picture s)) ≡ position_key s
  position_key_is =
      let (p, here) = position_placed v in
      ap (λ c. key_at (picture s) c) position_is ∙ place_key v here ∙ sym (placed_key_of here)

  -- The position 2
  pub path_sentence : (d : ℕ) → d < s.settings.dimensions → OnPath (picture s) d
  path_sentence d h =
      let b = s.settings.base in
      let D = s.settings.dimensions in
      let (p, here) = position_placed v in
      let first = first_with_lem b D (position_key s) (suc d) head_node s.row v.ascends in
      let found = subst (λ k. Least (SharesAtLeast b D k (suc d)) (head_node ∷ s.row) (path_word s d)) (placed_key_of here) first in
      let (sharing, less) = subst₂ (LeastSharing (suc d)) (sym position_is) (sym (picture_path s d h)) (least_sharing here (suc d) h found) in
      record { sharing = sharing; least = less }

  pub position_standing : Standing (picture s) (position_at (picture s))
  position_standing = subst (Standing (picture s)) (sym position_is) (place_standing v (position_placed v).1)

  -- The position 1: all up to it are dead
  pub passed_dead : {x : ℕ} {p : Place} → Placed s x p → key_at (picture s) x ≤ key_at (picture s) (position_at (picture s)) → mark_at (picture s) x ≡ 2
  passed_dead {x} {p} here h =
      let dead = placed_node here (λ y. y.key ≤ position_key s → y.live ≡ false) (λ k. refl) v.dead in
      place_mark v here ∙ ap mark (dead (omega (arith, h, place_key v here, position_key_is)))

  -- The free chain

  chained_from : (cs : List ℕ) → Follow s.free cs → All (λ c. (0 < c) × (c < s.settings.cells)) cs → All (λ c. place_of c (places_of s s.row) ≡ None) cs →
      Chained (picture s) (first_number cs) cs
  chained_from [] f r u = ended
  chained_from (c ∷ cs) f r u =
      let onto = free_cell_first s c r.0.1 u.0 ∙ f.0 in
      chained_on r.0.0 (subst (λ n. Chained (picture s) n cs) (sym onto) (chained_from cs f.1 r.1 u.1))

  -- The words 4: the chain
  pub chain_sentence : FreeChain (picture s)
  unfolding picture
  chain_sentence =
      record {
        chain = s.free;
        chained = chained_from s.free (distinct_follow s.free (free_distinct s v)) (free_range s v) (free_found s v);
        once = cell_free v;
        no_other = free_cell_lem v;
      }

  -- The other sentences

  -- Numbers 2
  pub key_sentence : {x : ℕ} {p : Place} → Placed s x p → 0 < x → (0 < key_at (picture s) x) × (key_at (picture s) x ≤ s.settings.largest)
  key_sentence {x} here h =
      let above = (place_next_smaller v here h).smaller in
      (omega arith, omega (arith, placed_most v here, place_key v here))

  -- The words 1: the marks
  mark_sentence : (x : ℕ) → x < s.settings.cells → mark_at (picture s) x ≤ 2
  mark_sentence x h = at (place_of x (places_of s s.row)) refl
    where
      of : (live : Bool) → mark live ≤ 2
      of true = omega arith
      of false = omega arith

      at : (o : Option Place) → place_of x (places_of s s.row) ≡ o → mark_at (picture s) x ≤ 2
      at None e = let m = (free_cell_free s x h e).mark in omega arith
      at (Some p) e = omega (arith, place_mark v (record { found = e }), of p.node.live)

  -- The words 3: a dead cell's value
  dead_sentence : (x : ℕ) → x < s.settings.cells → mark_at (picture s) x ≡ 2 → value_at (picture s) x ≡ 0
  unfolding picture
  dead_sentence x h e =
      let (p, here) = cell_standing s x (record { cell = h; mark = inr e }) in
      let value = placed_node here (λ y. y.live ≡ false → y.value ≡ 0) (λ l. refl) v.values in
      place_value v here ∙ value (dead p.node.live (sym (place_mark v here) ∙ e))
    where
      dead : (live : Bool) → mark live ≡ 2 → live ≡ false
      dead true m = absurd (omega arith)
      dead false m = refl

  -- How cells hang together 1
  pub distinct_sentence : {x y : ℕ} {p q : Place} → Placed s x p → Placed s y q → key_at (picture s) x ≡ key_at (picture s) y → x ≡ y
  distinct_sentence {x} {y} {p} {q} here there e = at (placed_compared v here there)
    where
      at : Compared p q → x ≡ y
      at (same is) = sym (placed_cell here) ∙ ap (λ r. r.node.cell) is ∙ placed_cell there
      at (later l) = absurd (omega (arith, e, place_key v here, place_key v there, l.larger))
      at (earlier l) = absurd (omega (arith, e, place_key v here, place_key v there, l.larger))

  owes_nothing_sentence : {x : ℕ} {p : Place} → Placed s x p → owed_at (picture s) x ≡ 0 → (low_at (picture s) x ≡ 0) × (high_at (picture s) x ≡ 0)
  owes_nothing_sentence {x} {p} here e = at p.node.owes refl
    where
      at : (t : Bool) → p.node.owes ≡ t → (low_at (picture s) x ≡ 0) × (high_at (picture s) x ≡ 0)
      at true o = let (q, owes) = place_owes here o in absurd (omega (arith, e, owes.owed, owes.positive))
      at false o = let (z, low, high) = place_unowing v here o in (low, high)

-- Every sentence

pub picture_sentences : (s : State) → Sound s → AList (picture s)
unfolding picture
picture_sentences s v =
    record {
      dimensions = (v.ranges.dimensions_least, v.ranges.dimensions_most);
      largest = (v.ranges.largest_least, v.ranges.largest_most);
      count = (v.ranges.cells_least, v.ranges.cells_most);
      keys = λ x stands h. key_sentence v (cell_standing s x stands).1 h;
      base = rw v.base (base_is s.settings.dimensions s.settings.largest (let h = v.ranges.dimensions_least in omega arith));
      long = picture_length s;
      marks = mark_sentence v;
      head = (place_key v (head_placed s), (place_value v (head_placed s), place_mark v (head_placed s)));
      dead_value = dead_sentence v;
      free_words = λ x j free h k. free_cell_rest s x free.cell (cell_unfound v x free) j h k;
      free_chain = chain_sentence v;
      owes_nothing = λ x stands e. owes_nothing_sentence v (cell_standing s x stands).1 e;
      distinct = λ x y sx sy e. distinct_sentence v (cell_standing s x sx).1 (cell_standing s y sy).1 e;
      debts = λ n stands h. debt_sentence v (cell_standing s n stands).1 h;
      links = λ x d stands h own due-to. link_sentence v (cell_standing s x stands).1 d h own due-to;
      position = position_standing v;
      path = path_sentence v;
      passed_dead = λ x stands h. passed_dead v (cell_standing s x stands).1 h;
    }

-- a list meets every sentence
pub list_sentences : (ws : List ℕ) → is_list ws ≡ true → AList ws
list_sentences ws e = subst AList (list_is_picture ws e) (picture_sentences (read ws) (list_sound ws e))
