-- A buffer of which every sentence holds is a list: it is the picture of the state of its standing cells, its chain and its position,
-- word for word. So for the path: the least-key standing cell that shares so many coordinates with the position is one cell.
use mathlib.Core.Path.{◌≡◌, refl, sym, ◌∙◌, ap, subst}
use mathlib.Core.Bool.{true}
use mathlib.Core.Logic.{◌↔◌}
use mathlib.Core.List.{List, ◌∷◌, map}
use Prim.Native.Nat.{ℕ, suc, ◌+◌, ◌≤◌, ◌<◌}
use native.Mathlib.Omega.{arith}
use lib.ListN.{get_or}
use Rattle.settings.specs.Numbers.{header_words}
use Rattle.lists.specs.Lists.{first_number}
use Rattle.lists.proofs.Occurrences.{all_occur, occurs_has}
use Rattle.lists.proofs.All.{All, all_map, all_zip, all_mapped, all_in}
use Rattle.meaning.specs.Keys.{shared}
use Rattle.meaning.specs.Row.{head_node, Place, places}
use Rattle.meaning.specs.Picture.{next_free, first_with, path_word, picture}
use Rattle.meaning.specs.Reading.{is_list}
use Rattle.meaning.specs.Words.{word_at, key_at, dimensions_at, base_at, position_at}
use Rattle.meaning.specs.Sentences.{shared_at, Standing, Chained, ended, chained_on, AList}
use Rattle.meaning.proofs.Rows.Keys.{shared_sym}
use Rattle.meaning.proofs.Pictures.StateCells.{free_distinct}
use Rattle.meaning.proofs.Pictures.ReadBack.{Follow, distinct_follow, picture_is_list}
use Rattle.meaning.proofs.Cells.WalkRead.{Held}
use Rattle.meaning.proofs.BothWays.SentencesRow.{Least, least, nowhere, SharesAtLeast, first_with_lem}
use Rattle.meaning.proofs.Cells.Placed.{FreeHeld, held_picture}
use Rattle.meaning.proofs.BothWays.Sentences.{list_sentences}
use Rattle.meaning.proofs.BothWays.ConverseKeys.{shared_is}
use Rattle.meaning.proofs.BothWays.ConverseRow.{Shown, standing_row, head_shown}
use Rattle.meaning.proofs.BothWays.ConversePlaces.{PlaceShown, row_above, row_placed}
use Rattle.meaning.proofs.BothWays.ConverseLinks.{owed_shown, low_shown, high_shown, link_shown}
use Rattle.meaning.proofs.BothWays.ConverseState.{state_of, standing_occurs, position_key_lem, state_sound}

-- The chain

chained_first : {ws : List ℕ} {c : ℕ} {cs : List ℕ} → Chained ws c cs → first_number cs ≡ c
chained_first ended = refl
chained_first (chained_on h more) = refl

-- each cell of the chain is followed by the one that its first word names
chained_next : (free : List ℕ) {ws : List ℕ} {c : ℕ} {cs : List ℕ} → Chained ws c cs → Follow free cs → All (λ x. next_free x free ≡ word_at ws x 0) cs
chained_next free ended f = tt
chained_next free (chained_on h more) f = (f.0 ∙ chained_first more, chained_next free more f.1)

module _ (ws : List ℕ) (a : AList ws) where
  -- The path

  path_shown : (d : ℕ) → d < dimensions_at ws → path_word (state_of ws a) d ≡ get_or ws (header_words + d) 0
  path_shown d h =
      ap (λ key. first_with b D key (suc d) (head_node ∷ standing_row ws)) (position_key_lem ws a)
      ∙ at (first_with_lem b D here (suc d) head_node (standing_row ws) (row_above ws a).ascends)
    where
      b : ℕ
      b = base_at ws

      D : ℕ
      D = dimensions_at ws

      here : ℕ
      here = key_at ws (position_at ws)

      word : ℕ
      word = get_or ws (header_words + d) 0

      all_shown : All (Shown ws) (head_node ∷ standing_row ws)
      all_shown = (head_shown ws a, (row_above ws a).shown)

      same : (y : ℕ) → Standing ws y → shared b D (key_at ws y) here ≡ shared_at ws (position_at ws) y
      same y st = shared_sym b D (key_at ws y) here ∙ sym (shared_is ws a (position_at ws) y a.position st)

      -- the path word is the cell of a node that shares so many
      has : (P : ℕ → Type 0) → All (λ y. suc d ≤ shared b D y.key here → P y.cell) (head_node ∷ standing_row ws) → P word
      has P all =
          let s = (a.path d h).sharing in
          let k = same word s.standing in
          let m = s.shares in
          occurs_has (λ y. suc d ≤ shared b D (key_at ws y) here → P y) word (0 ∷ map (λ x. x.cell) (standing_row ws)) (standing_occurs ws a word s.standing)
          (all_mapped (λ y. suc d ≤ shared b D (key_at ws y) here → P y) (λ x. x.cell) (head_node ∷ standing_row ws)
          (all_zip (λ y t f k. f (subst (λ key. suc d ≤ shared b D key here) (sym t.key) k)) (head_node ∷ standing_row ws) all_shown all))
          (omega arith)

      at : {c : ℕ} → Least (SharesAtLeast b D here (suc d)) (head_node ∷ standing_row ws) c → c ≡ word
      at (least y m q all) =
          let t = all_in (Shown ws) m all_shown in
          let k : suc d ≤ shared b D (key_at ws y.cell) here = subst (λ key. suc d ≤ shared b D key here) t.key q in
          let e = same y.cell t.standing in
          let least_known = (a.path d h).least y.cell (record { standing = t.standing; shares = omega arith }) in
          let least-met = has (λ z. key_at ws y.cell ≤ key_at ws z)
          (all_zip (λ z u f r. let i = t.key in let j = u.key in let l = f r in omega arith) (head_node ∷ standing_row ws) all_shown all) in
          a.distinct y.cell word t.standing (a.path d h).sharing.standing (omega arith)
      at (nowhere all) = absurd (has (λ z. ⊥) all)

  -- The words of a cell

  place_held : (p : Place) → PlaceShown ws p → Held ws (base_at ws) (dimensions_at ws) p
  place_held p q =
      let shown = q.here.shown in
      record {
        key = sym shown.key;
        value = sym shown.value;
        mark = sym shown.marked;
        owed = sym (owed_shown ws a p q);
        low = sym (low_shown ws a p q);
        high = sym (high_shown ws a p q);
        link = λ d h. sym (link_shown ws a p d q h);
      }

  free_held : All (FreeHeld ws a.free_chain.chain) a.free_chain.chain
  free_held =
      let chain = a.free_chain.chain in
      all_zip (λ c next met. record { next = sym next; rest = λ j h l. a.free_words c j (a.free_chain.no_other c met) h l }) chain
      (chained_next chain a.free_chain.chained (distinct_follow chain (free_distinct (state_of ws a) (state_sound ws a)))) (all_occur chain)

  -- The whole

  pub sentences_picture : picture (state_of ws a) ≡ ws
  sentences_picture =
      held_picture ws (standing_row ws) a.free_chain.chain (position_at ws) (state_sound ws a) a.long (chained_first a.free_chain.chained) path_shown
      (all_map place_held (places (base_at ws) (dimensions_at ws) (standing_row ws)) (row_placed ws a)) free_held

-- A list 1, from the conditions on the words
pub sentences_list : (ws : List ℕ) → AList ws → is_list ws ≡ true
sentences_list ws a = subst (λ words. is_list words ≡ true) (sentences_picture ws a) (picture_is_list (state_of ws a) (state_sound ws a))

-- The conditions on the words hold of a buffer exactly if it is a list by specs/Reading.antt.
pub list_exactly_if : (ws : List ℕ) → (is_list ws ≡ true) ↔ AList ws
list_exactly_if ws = (list_sentences ws, sentences_list ws)
