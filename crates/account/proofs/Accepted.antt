-- A buffer that the check accepts is a list: it is the picture of the state whose row is the cells read, in that order, whose free
-- cells are those of the chain, and whose position is the last path word; and that state is in order.
use mathlib.Core.Path.{◌≡◌, refl, sym, ◌∙◌, ap, subst}
use mathlib.Core.Bool.{Bool, true, false, ◌&&◌, false≢true}
use mathlib.Core.Logic.{◌⊎◌, inl, inr}
use mathlib.Core.List.{List, ◌∷◌, map}
use Prim.Native.Nat.{ℕ, suc, ◌+◌, ◌-◌, ◌≤◌, ◌<◌}
use native.Mathlib.Omega.{arith}
use lib.ListN.{length, get_or, length-append, length-map}
use borrow.Author.Tests.{eqb-true}
use Rattle.settings.specs.Numbers.{header_words}
use Rattle.settings.proofs.Numbers.{base_is, base_unique}
use Rattle.lists.specs.Lists.{occurrences}
use Rattle.lists.proofs.Occurrences.{Distinct, occurrences_here, occurrences_more}
use Rattle.lists.proofs.All.{All, all_map, all_append}
use Rattle.lists.proofs.Tests.{both}
use Rattle.meaning.specs.Row.{head_node, places}
use Rattle.meaning.specs.State.{State, position_key}
use Rattle.meaning.specs.Picture.{first_with, picture, path_word}
use Rattle.meaning.specs.Reading.{settings_at, is_list}
use Rattle.meaning.specs.Words.{key_at, mark_at, dimensions_at, largest_at, cells_at, base_at, position_at, first_free_at}
use Rattle.meaning.proofs.Rows.AscendingRow.{Asc}
use Rattle.meaning.proofs.Pictures.State.{Sound, cells_in}
use Rattle.meaning.proofs.Pictures.ReadBack.{picture_is_list}
use Rattle.meaning.proofs.Cells.Placed.{held_picture}
use Rattle.account.specs.Tree.{head_right, header_right, at_head, chain_right, seen_all, accepts}
use Rattle.account.proofs.AcceptedTests.{Header, header_right_lem, Head, head_right_lem}
use Rattle.account.proofs.AcceptedRun.{Run, head_run}
use Rattle.account.proofs.AcceptedKeys.{row_in, Rising, rising, row_asc}
use Rattle.account.proofs.AcceptedWords.{StandingWords, standing_places}
use Rattle.account.proofs.AcceptedPath.{Occurs, position_met, path_right_lem, position_key_lem, dead_met, values_met, keys_met}
use Rattle.account.proofs.AcceptedChain.{chain_cells, chain_length, chain_free, chain_first, free_mark_lem, free_positive, chain_distinct, free_held}
use Rattle.account.proofs.AcceptedCells.{distinct_append, distinct_once, left_met, distinct_met, range_met, marked_met}

-- What the check has found of a buffer that it accepts.
record Checked (ws : List ℕ) : Type 0 where
  header : Header ws
  head : Head ws
  begins : (at_head ws).right ≡ true
  run : Run ws 0 0 (at_head ws) (seen_all ws)
  reached : (seen_all ws).reached ≡ true
  chain : chain_right ws (seen_all ws).left (first_free_at ws) ≡ true

checked : (ws : List ℕ) → accepts ws ≡ true → Checked ws
unfolding accepts
checked ws e = at (header_right ws) refl e
  where
    tree : Bool
    tree = (at_head ws).right && (seen_all ws).right

    rest : Bool
    rest = (seen_all ws).reached && chain_right ws (seen_all ws).left (first_free_at ws)

    at : (t : Bool) → header_right ws ≡ t → elim t [ true ↦ head_right ws && (tree && rest) | false ↦ false ] ≡ true → Checked ws
    at true q h =
        let t = both (head_right ws) (tree && rest) h in
        let u = both tree rest t.1 in
        let v = both (at_head ws).right (seen_all ws).right u.0 in
        let w = both (seen_all ws).reached (chain_right ws (seen_all ws).left (first_free_at ws)) u.1 in
        record { header = header_right_lem ws q; head = head_right_lem ws t.0; begins = v.0; run = head_run ws v.1; reached = w.0; chain = w.1 }
    at false q h = absurd (false≢true h)

-- the state that the buffer shows
abbrev state_of : (ws : List ℕ) → Checked ws → State
state_of ws k =
    record { settings = settings_at ws; row = row_in ws k.run.met; free = chain_cells ws (seen_all ws).left (first_free_at ws); position = position_at ws }

module _ (ws : List ℕ) (k : Checked ws) where
  levels : All (λ m. m.link_number < dimensions_at ws) k.run.met
  levels = all_map (λ m h. h.1) k.run.met k.run.levels

  rises : Rising ws 0 k.run.met
  unfolding at_head
  rises = rising ws k.header (at_head ws) k.run.met k.run.trace levels

  standing : All (StandingWords ws (base_at ws) (dimensions_at ws)) (places (base_at ws) (dimensions_at ws) (row_in ws k.run.met))
  standing = standing_places ws k.header k.head k.run.met k.run.trace k.run.links rises k.run.cells levels k.run.linked

  position_is : (position_at ws ≡ 0) ⊎ Occurs ws (position_at ws) k.run.met
  position_is = position_met ws k.run.met (ap (λ t. t.reached) (sym k.run.ends) ∙ k.reached)

  -- The state is in order

  free_range : All (λ c. (0 < c) × (c < cells_at ws)) (state_of ws k).free
  free_range = all_map (λ c f. (free_positive ws k.head c f, f.inside)) (state_of ws k).free (chain_free ws (seen_all ws).left (first_free_at ws) k.chain)

  range : All (λ c. (0 < c) × (c < cells_at ws)) (cells_in (state_of ws k))
  range =
      all_append (λ c. (0 < c) × (c < cells_at ws)) (map (λ x. x.cell) (state_of ws k).row) (state_of ws k).free
      (range_met ws (at_head ws) k.run.met k.run.trace k.run.cells) free_range

  distinct : Distinct (cells_in (state_of ws k))
  distinct =
      let free = (state_of ws k).free in
      let row = map (λ x. x.cell) (state_of ws k).row in
      distinct_append row free (distinct_met ws 0 k.run.met rises) (chain_distinct ws k.head (seen_all ws).left (first_free_at ws) k.chain)
      (all_map (λ x marked. all_map (λ y f q. omega (arith, marked, free_mark_lem ws y f, ap (mark_at ws) q)) free
      (chain_free ws (seen_all ws).left (first_free_at ws) k.chain)) row (marked_met ws (at_head ws) k.run.met k.run.trace))

  count : length (cells_in (state_of ws k)) ≡ cells_at ws - 1
  unfolding at_head
  count =
      let row = (state_of ws k).row in
      let free = (state_of ws k).free in
      omega (
        arith,
        length-append (map (λ x. x.cell) row) free,
        length-map row (λ x. x.cell),
        chain_length ws (seen_all ws).left (first_free_at ws),
        left_met ws (at_head ws) k.run.met k.run.trace,
        ap (λ t. t.left) k.run.ends,
      )

  key_is : position_key (state_of ws k) ≡ key_at ws (position_at ws)
  key_is = position_key_lem ws k.head k.run.met rises position_is

  position_stands : 0 < occurrences (position_at ws) (0 ∷ map (λ x. x.cell) (state_of ws k).row)
  position_stands = at position_is
    where
      row : List ℕ
      row = map (λ x. x.cell) (state_of ws k).row

      at : (position_at ws ≡ 0) ⊎ Occurs ws (position_at ws) k.run.met → 0 < occurrences (position_at ws) (0 ∷ row)
      at (inl q) = omega (arith, occurrences_here (position_at ws) 0 row (sym q))
      at (inr o) = omega (arith, o, occurrences_more (position_at ws) 0 row)

  dead : All (λ x. x.key ≤ position_key (state_of ws k) → x.live ≡ false) (state_of ws k).row
  unfolding at_head
  dead =
      all_map (λ x d h. d (omega (arith, h, key_is))) (state_of ws k).row
      (dead_met ws (at_head ws) k.run.met k.run.trace rises (λ e. omega (arith, ap (key_at ws) (eqb-true (position_at ws) 0 e))))

  sound : Sound (state_of ws k)
  sound =
      let r = k.header.in_range in
      record {
        ranges = r;
        base = base_unique k.header.base (base_is (dimensions_at ws) (largest_at ws) (let h = r.dimensions_least in omega arith));
        ascends = subst (λ low. Asc low (state_of ws k).row) k.head.key (row_asc ws 0 k.run.met rises);
        keys = keys_met ws (at_head ws) k.run.met k.run.trace;
        count = count;
        range = range;
        once = distinct_once (cells_in (state_of ws k)) distinct;
        values = values_met ws (at_head ws) k.run.met k.run.trace;
        debts = all_map (λ p t. t.debt) (places (base_at ws) (dimensions_at ws) (state_of ws k).row) standing;
        position = position_stands;
        dead = dead;
      }

  -- The buffer is its picture

  path_word_lem : (d : ℕ) → d < dimensions_at ws → path_word (state_of ws k) d ≡ get_or ws (header_words + d) 0
  path_word_lem d l =
      ap (λ key. first_with (base_at ws) (dimensions_at ws) key (suc d) (head_node ∷ (state_of ws k).row)) key_is
      ∙ sym (path_right_lem ws k.header.positive k.head k.run.met k.run.trace rises k.begins position_is d l)

  picture_is : picture (state_of ws k) ≡ ws
  picture_is =
      held_picture ws (state_of ws k).row (state_of ws k).free (position_at ws) sound k.header.size
      (sym (chain_first ws (seen_all ws).left (first_free_at ws) k.chain)) path_word_lem
      (all_map (λ p t. t.held) (places (base_at ws) (dimensions_at ws) (state_of ws k).row) standing)
      (free_held ws k.head (seen_all ws).left (first_free_at ws) k.chain)

pub accepts_list : (ws : List ℕ) → accepts ws ≡ true → is_list ws ≡ true
accepts_list ws e =
    let k = checked ws e in
    subst (λ t. is_list t ≡ true) (picture_is ws k) (picture_is_list (state_of ws k) (sound ws k))
