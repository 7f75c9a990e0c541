-- On the way over the cells to free: `next` leads from each to the following, and from the last of them to the new position. Value words that
-- are written on the way change no link.
use mathlib.Core.Path.{◌≡◌, refl, sym, ap, ◌∙◌, subst}
use mathlib.Core.List.{List, [], ◌∷◌, ◌++◌, map, append_assoc}
use Prim.Native.Nat.{ℕ, ◌+◌, ◌<◌}
use native.Mathlib.Omega.{arith}
use lib.ListN.{length, replicate, length-append, length-map}
use Rattle.settings.specs.declared.Settings.{Settings}
use Rattle.lists.specs.Lists.{first_number}
use Rattle.lists.proofs.All.{all_at}
use Rattle.meaning.specs.Row.{Node, head_node, last_of}
use Rattle.meaning.specs.Reading.{read}
use Rattle.meaning.specs.Operations.{dead_front, from_live, freed_by}
use Rattle.meaning.specs.Layer.Listed.{Listed}
use Rattle.meaning.specs.Layer.Paths.{PathOf, next_from}
use Rattle.meaning.specs.Layer.Stores.{store}
use Rattle.meaning.proofs.Pictures.StateCells.{free_length}
use Rattle.meaning.proofs.Kept.KeepsSweep.{kept_by, swept_split}
use Rattle.meaning.proofs.Rows.Parent.{Apart, apart_before}
use Rattle.meaning.proofs.Kept.Slot.{sound_apart}
use Rattle.meaning.proofs.Written.SweepWords.{swept_front}
use Rattle.words.proofs.Listed.{listed_picture, on_listed, listed_shaped}
use Rattle.paths.specs.declared.path.Path.{Path}
use Rattle.paths.specs.declared.NextCell.{NextCell}
use Rattle.paths.specs.Paths.{path_of, PathIn, Walkable, NoneNext, NextAt, NextWith}
use Rattle.paths.proofs.Alike.{value_next, value_walkable}
use Rattle.paths.proofs.Listed.{listed_walkable}
use Rattle.paths.proofs.Ways.{head_starts, MovesTo, moves_to, moves_end}
use Rattle.free_between.specs.Between.{freed_cells, kept_nodes, LastDead, FirstFreed, chain_values, CellsChained}

abbrev cells_of : List Node → List ℕ
cells_of nodes = map (λ y. y.cell) nodes

-- Up to the new position

-- a move to the first of the others that are to be freed
record MovesBefore (ws : List ℕ) (s : Settings) (path : List ℕ) (front others : List Node) (r : NextCell) : Type 0 where
  node : Node
  rest : List Node
  next : others ≡ node ∷ rest
  to : MovesTo (read ws) ws s path front node (rest ++ kept_nodes ws) r

-- the way does not end before it
upto_never :
    {ws : List ℕ} {s : Settings} {x : ℕ} → LastDead ws s x → {path : List ℕ} → NoneNext ws s path → {front : List Node} (others : List Node) →
    PathOf (read ws) path front (others ++ kept_nodes ws) → ⊥
upto_never {ws} d none [] w = cc (moves_end d.listed none (kept_nodes ws) w)
upto_never {ws} d none (y ∷ others) w = cc (moves_end d.listed none (y ∷ (others ++ kept_nodes ws)) w)

module _ {ws : List ℕ} {s : Settings} {x : ℕ} (d : LastDead ws s x) {path : List ℕ} {r : NextCell} (n : NextAt ws s path r) {front : List Node} where
  upto_end : (others : List Node) → PathOf (read ws) path front (others ++ kept_nodes ws) → r.cell ≡ x → others ≡ []
  upto_end [] w e = refl
  upto_end (y ∷ others) w e =
      let last = last_of (dead_front (read ws).row) in
      let split = w.split ∙ sym (append_assoc front (y ∷ others) (kept_nodes ws)) in
      let apart = subst (λ row. Apart (head_node ∷ row)) split (sound_apart (read ws) (listed_picture d.listed).sound) in
      let others-differ = (apart_before (head_node ∷ (front ++ y ∷ others)) last (from_live (read ws).row) apart).1 in
      absurd (all_at (λ z. z.cell ≡ last.cell → ⊥) front y others others-differ (sym (moves_to d.listed n w).cell ∙ e ∙ d.is))

  upto_on : (others : List Node) → PathOf (read ws) path front (others ++ kept_nodes ws) → (r.cell ≡ x → ⊥) → MovesBefore ws s path front others r
  upto_on [] w ne = absurd (ne ((moves_to d.listed n w).cell ∙ sym d.is))
  upto_on (y ∷ others) w ne = record { node = y; rest = others; next = refl; to = moves_to d.listed n w }

-- Chaining

-- The cells to free are chained up to cell `last`, which has this path: what is left to chain, in the words as they stand, comes to the same
-- as all of it in the words before, where the same links lead on.
pub record Chaining (before ws : List ℕ) (s : Settings) (p : Path) (last count : ℕ) : Type 0 where
  pub front : List Node
  pub others : List Node
  pub on_way : PathOf (read before) (path_of p) front (others ++ kept_nodes before)
  pub path_in : PathIn s p
  pub below : last < s.cells
  pub walkable : Walkable ws s
  pub same : (path : List ℕ) → next_from ws path s.dimensions ≡ next_from before path s.dimensions
  pub words : chain_values s.dimensions before (freed_cells before) ≡ chain_values s.dimensions ws (last ∷ cells_of others)
  pub number : length (freed_cells before) ≡ count + length others

pub chaining_start : {ws : List ℕ} {s : Settings} {x first : ℕ} {start : Path} → FirstFreed ws s x first start → Chaining ws ws s start first 1
chaining_start {ws} {s} f =
    let cells = ap cells_of f.freed in
    record {
      front = f.node ∷ [];
      others = f.others;
      on_way = f.on_way;
      path_in = f.path_in;
      below = f.below;
      walkable = listed_walkable f.dead.listed;
      same = λ path. refl;
      words = ap (chain_values s.dimensions ws) (cells ∙ ap {B = List ℕ} (λ c. c ∷ cells_of f.others) (sym f.cell));
      number = omega (arith, ap length cells, length-map f.others (λ y. y.cell));
    }

freed_room : {ws : List ℕ} {s : Settings} → Listed ws s → length (freed_cells ws) < s.cells
freed_room =
    on_listed (λ t ws s. length (cells_of (freed_by t.row)) < s.cells)
    (λ t v.
    omega (
      arith,
      v.ranges.cells_least,
      free_length t v,
      length-map (freed_by t.row) (λ y. y.cell),
      ap length (swept_split t.row),
      length-append (freed_by t.row) (kept_by t.row),
    ))

module _ {before ws : List ℕ} {s : Settings} {x first : ℕ} {start p : Path} {last count : ℕ} (f : FirstFreed before s x first start)
    (k : Chaining before ws s p last count) where
  pub chaining_room : count < s.cells
  chaining_room = omega (arith, k.number, freed_room f.dead.listed)

  pub chaining_never : NoneNext ws s (path_of p) → ⊥
  chaining_never none = upto_never f.dead (sym (k.same (path_of p)) ∙ none) k.others k.on_way

  module _ {r : NextCell} {q : Path} (n : NextWith ws s p r q) where
    as_before : NextAt before s (path_of p) r
    as_before = record { is = sym (k.same (path_of p)) ∙ n.at.is; other = n.at.other; below = n.at.below; number = n.at.number }

    pub chaining_end : r.cell ≡ x → CellsChained before s count ws
    unfolding chain_values
    chaining_end e =
        let none = upto_end f.dead as_before k.others k.on_way e in
        record {
          words = sym (k.words ∙ ap (λ o. chain_values s.dimensions ws (last ∷ cells_of o)) none);
          count = omega (arith, k.number, ap length none);
          shaped = k.walkable.shaped;
        }

    pub chaining_onward :
        (r.cell ≡ x → ⊥) → {after : List ℕ} → after ≡ store s.dimensions ws last 1 r.cell →
        Chaining before after s q r.cell (count + 1)
    unfolding chain_values
    chaining_onward ne written =
        let on = upto_on f.dead as_before k.others k.on_way ne in
        rw written
        (record {
          front = k.front ++ (on.node ∷ []);
          others = on.rest;
          on_way = on.to.way n.way;
          path_in = n.path_in;
          below = n.at.below;
          walkable = value_walkable k.walkable last r.cell;
          same = λ path. value_next k.walkable.shaped last r.cell path ∙ k.same path;
          words =
              k.words
              ∙ ap (λ o. chain_values s.dimensions ws (last ∷ cells_of o)) on.next
              ∙ ap (λ c. chain_values s.dimensions (store s.dimensions ws last 1 c) (c ∷ cells_of on.rest)) (sym on.to.cell);
          number = omega (arith, k.number, ap length on.next);
        })

-- From the head: the first cell is the first of the chain

module _ {ws : List ℕ} {s : Settings} {x : ℕ} (d : LastDead ws s x) (p : Path) (is : path_of p ≡ replicate s.dimensions 0) where
  from_head : PathOf (read ws) (path_of p) [] (freed_by (read ws).row ++ kept_nodes ws)
  from_head = record { split = swept_front (read ws).row (λ e. d.other (d.is ∙ e)); is = (head_starts d.listed is).is }

  pub between_never : NoneNext ws s (path_of p) → ⊥
  between_never none = upto_never d none (freed_by (read ws).row) from_head

  module _ {r : NextCell} {q : Path} (n : NextWith ws s p r q) where
    pub between_none : r.cell ≡ x → CellsChained ws s 0 ws × (0 ≡ first_number (freed_cells ws))
    unfolding chain_values
    between_none e =
        let none : [] ≡ freed_cells ws = ap cells_of (sym (upto_end d n.at (freed_by (read ws).row) from_head e)) in
        (record { words = ap (chain_values s.dimensions ws) none; count = ap length none; shaped = listed_shaped d.listed }, ap first_number none)

    module _ (ne : r.cell ≡ x → ⊥) where
      on : MovesBefore ws s (path_of p) [] (freed_by (read ws).row) r
      on = upto_on d n.at (freed_by (read ws).row) from_head ne

      pub between_first : FirstFreed ws s x r.cell q
      between_first =
          record {
            dead = d;
            node = on.node;
            others = on.rest;
            freed = on.next;
            cell = on.to.cell;
            below = n.at.below;
            on_way = on.to.way n.way;
            path_in = n.path_in;
          }

      pub between_some : r.cell ≡ first_number (freed_cells ws)
      between_some = on.to.cell ∙ ap (λ o. first_number (cells_of o)) (sym on.next)
