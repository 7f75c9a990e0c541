-- Words that differ only where no link is read: in the words of path, where walks go the same way, or in a value word, where the next
-- cell of a path stays.
use mathlib.Core.Path.{◌≡◌, refl, sym, ap, ap₂, ◌∙◌}
use mathlib.Core.Bool.{cond, ◌&&◌, not}
use mathlib.Core.List.{List, ◌∷◌}
use Prim.Native.Nat.{ℕ, zero, suc, ◌*◌, ◌<◌}
use native.Mathlib.Omega.{arith}
use lib.Dec.{eqb}
use lib.ListN.{length, get_or}
use lib.Seq.{length-sets}
use Rattle.settings.specs.Numbers.{header_words, cell_words}
use Rattle.settings.specs.declared.Settings.{Settings}
use Rattle.meaning.specs.Row.{between}
use Rattle.meaning.specs.Reading.{settings_at}
use Rattle.meaning.specs.Words.{word_at, owed_at, low_at, high_at, link_at, link_field, dimensions_at, base_at}
use Rattle.meaning.specs.Walk.{link_read, step_at, on_from, trail_from, trail}
use Rattle.meaning.specs.Layer.Paths.{NextCell, next_from}
use Rattle.meaning.specs.Layer.Stores.{store, write_path}
use Rattle.meaning.proofs.Cells.Stores.{store_other, store_below, path_sets_header, path_sets_word}
use Rattle.words.specs.Shaped.{Shaped}
use Rattle.words.proofs.Shaped.{shaped_dimensions, store_shaped}
use Rattle.paths.specs.Paths.{Walkable}

-- Links read alike

-- the cell from which link d of cell x is read, by the debt of x
abbrev source : ℕ → ℕ → ℕ → ℕ → ℕ → ℕ
source owed low high d x = cond (not (eqb owed 0) && between low high d) owed x

link_read-alike :
    (ws vs : List ℕ) (x d : ℕ) → owed_at ws x ≡ owed_at vs x → low_at ws x ≡ low_at vs x → high_at ws x ≡ high_at vs x →
    ((y : ℕ) → link_at ws y d ≡ link_at vs y d) → link_read ws x d ≡ link_read vs x d
unfolding link_read
link_read-alike ws vs x d owed low high links =
    ap₂ (λ o l. link_at ws (source o l (high_at ws x) d x) d) owed low
    ∙ ap (λ h. link_at ws (source (owed_at vs x) (low_at vs x) h d x) d) high
    ∙ links (source (owed_at vs x) (low_at vs x) (high_at vs x) d x)

pub next_alike :
    (ws vs path : List ℕ) (n : ℕ) → ((x d : ℕ) → d < n → link_read ws x d ≡ link_read vs x d) → next_from ws path n ≡ next_from vs path n
unfolding next_from
next_alike ws vs path zero f = refl
next_alike ws vs path (suc n) f =
    ap₂ {C = NextCell} (λ y further. cond (eqb y 0) further (record { cell = y; number = n })) (f (get_or path n 0) n (omega arith))
    (next_alike ws vs path n (λ x d h. f x d (omega arith)))

-- A value word is written

module _ {ws : List ℕ} {s : Settings} (h : Shaped ws s) (x v : ℕ) where
  value_word : (y j : ℕ) → j < cell_words s.dimensions → (j ≡ 1 → ⊥) → word_at (store s.dimensions ws x 1 v) y j ≡ word_at ws y j
  value_word y j l other =
      let D = s.dimensions in
      let after : get_or (store D ws x 1 v) 0 0 ≡ D = store_below D ws x 1 v 0 (omega arith) ∙ shaped_dimensions h in
      rw (after, shaped_dimensions h) (store_other D ws x 1 v y j (omega arith) l (λ e. other))

  -- links are read as before, ..
  pub value_link_read : (y d : ℕ) → d < s.dimensions → link_read (store s.dimensions ws x 1 v) y d ≡ link_read ws y d
  value_link_read y d l =
      link_read-alike (store s.dimensions ws x 1 v) ws y d (value_word y 3 (omega arith) (λ e. omega arith)) (value_word y 4 (omega arith) (λ e. omega arith))
      (value_word y 5 (omega arith) (λ e. omega arith)) (λ z. value_word z (link_field d) (omega arith) (λ e. omega arith))

  -- .. so the next cell of a path is the same
  pub value_next : (path : List ℕ) → next_from (store s.dimensions ws x 1 v) path s.dimensions ≡ next_from ws path s.dimensions
  value_next path = next_alike (store s.dimensions ws x 1 v) ws path s.dimensions value_link_read

pub value_walkable : {ws : List ℕ} {s : Settings} → Walkable ws s → (x v : ℕ) → Walkable (store s.dimensions ws x 1 v) s
value_walkable w x v =
    record {
      shaped = store_shaped w.shaped x 1 v;
      head = w.head;
      owed = λ y h. rw (value_word w.shaped x v y 3 (omega arith) (λ e. omega arith)) (w.owed y h);
      links = λ y d h l. rw (value_link_read w.shaped x v y d l) (w.links y d h l);
    }

-- The words of path are others

-- two lists of words that differ at most in the words of path
pub record Alike (ws vs : List ℕ) : Type 0 where
  pub long : length ws ≡ length vs
  pub header : (i : ℕ) → i < header_words → get_or ws i 0 ≡ get_or vs i 0
  pub cells : (x j : ℕ) → word_at ws x j ≡ word_at vs x j

pub path_alike : (ws path : List ℕ) → length path ≡ dimensions_at ws → Alike ws (write_path ws path)
path_alike ws path long =
    record {
      long = sym (length-sets ws header_words path);
      header = λ i h. sym (path_sets_header ws path i h);
      cells = λ x j. rw (path_sets_header ws path 0 (omega arith)) (sym (path_sets_word (dimensions_at ws) ws path long x j));
    }

module _ {ws vs : List ℕ} (a : Alike ws vs) where
  alike_link_read : (x d : ℕ) → link_read ws x d ≡ link_read vs x d
  alike_link_read x d = link_read-alike ws vs x d (a.cells x 3) (a.cells x 4) (a.cells x 5) (λ y. a.cells y (link_field d))

  alike_step : (k x d : ℕ) → step_at ws k x d ≡ step_at vs k x d
  unfolding step_at
  alike_step k x d =
      rw (← a.cells x 0, ← alike_link_read x d, ← a.header 3 (omega arith), ← a.header 0 (omega arith)) refl

  alike_trail_from : (fuel k x d : ℕ) → trail_from fuel ws k x d ≡ trail_from fuel vs k x d
  unfolding trail_from
  alike_trail_from zero k x d = refl
  alike_trail_from (suc fuel) k x d = λ i. alike_step k x d i ∷ on_from (λ y e. alike_trail_from fuel k y e i) x d (alike_step k x d i)

  pub alike_trail : (k : ℕ) → trail ws k ≡ trail vs k
  unfolding trail
  alike_trail k = rw (a.header 0 (omega arith), a.header 3 (omega arith)) (alike_trail_from (dimensions_at vs * base_at vs) k 0 0)

  alike_settings : settings_at ws ≡ settings_at vs
  alike_settings = rw (a.header 0 (omega arith), a.header 1 (omega arith), a.header 2 (omega arith), a.header 3 (omega arith)) refl

  pub alike_walkable : {s : Settings} → Walkable vs s → Walkable ws s
  alike_walkable w =
      let h = w.shaped in
      record {
        shaped =
            record {
              header = alike_settings ∙ h.header;
              long = a.long ∙ h.long;
              dimensions_least = h.dimensions_least;
              dimensions_most = h.dimensions_most;
              cells_most = h.cells_most;
            };
        head = w.head;
        owed = λ x l. rw (a.cells x 3) (w.owed x l);
        links = λ x d l m. rw (alike_link_read x d) (w.links x d l m);
      }
