-- Paths as structs: a path that goes on to a cell, and the search for the next cell, from the highest link of the path's cells down.
use mathlib.Core.Path.{◌≡◌, sym, ap, ap₂, ◌∙◌}
use mathlib.Core.List.{List, ◌++◌, append_assoc}
use Prim.Native.Nat.{ℕ, suc, ◌+◌, ◌-◌, ◌≤◌, ◌<◌}
use native.Mathlib.Decide.{dec_lt}
use native.Mathlib.Omega.{arith}
use lib.ListN.{length, get_or, take, drop, replicate, length-replicate, length-append}
use lib.Seq.{drop-drop, take_at, take-take, get_or-take, length-take-le, sets, sets-eq}
use borrow.Rule.Slice.PartMut.{mid_of, put_mid, mid_len}
use Rattle.std.proofs.lemmas.Slice.{drop-append-drop}
use Rattle.settings.specs.Numbers.{header_words}
use Rattle.settings.specs.declared.Settings.{Settings}
use Rattle.meaning.specs.Walk.{link_read}
use Rattle.meaning.specs.Layer.Paths.{onward, next_from}
use Rattle.meaning.specs.Layer.Stores.{write_path}
use Rattle.meaning.proofs.Paths.Path.{onward_front, onward_back}
use Rattle.meaning.proofs.Paths.PathNext.{next_down, next_here}
use Rattle.words.specs.Shaped.{Shaped}
use Rattle.words.proofs.Shaped.{sets_shaped}
use Rattle.paths.specs.declared.path.Path.{Path}
use Rattle.paths.specs.declared.NextCell.{NextCell}
use Rattle.paths.specs.Paths.{path_of, Onward, PathIn, Walkable, NextAt, NextWith}

-- Onward

pub path_length : (p : Path) → length (path_of p) ≡ p.used
path_length p = length-take-le p.used p.cells p.within

-- cell y written from word d up to word D of some cell numbers, ..
pub onward_put : (D d y : ℕ) (cells : List ℕ) {ys : List ℕ} → d ≤ D → D ≤ length cells → ys ≡ replicate (length (mid_of d (D - d) cells)) y →
    put_mid d (D - d) cells ys ≡ onward D cells d y ++ drop D cells
onward_put D d y cells {ys} h long filled =
    let count : length (mid_of d (D - d) cells) ≡ D - d = mid_len d D cells (omega arith) in
    let past : drop (D - d) (drop d cells) ≡ drop D cells =
    drop-drop (D - d) d cells ∙ ap (λ n. drop n cells) (let all : d + (D - d) ≡ D = omega arith in all) in
    ap₂ (λ l m. take d cells ++ (l ++ m)) (filled ∙ ap (λ n. replicate n y) count) past
    ∙ sym (append_assoc (take d cells) (replicate (D - d) y) (drop D cells))

-- .. as many as before: the first D are ..
onward_long : (D d y : ℕ) (cells : List ℕ) → d ≤ D → D ≤ length cells → length (onward D cells d y) ≡ D
onward_long D d y cells h long =
    length-append (take d cells) (replicate (D - d) y) ∙ omega (arith, length-take-le d cells (omega arith), length-replicate {A = ℕ} (D - d) y)

-- .. the path with y from word d on
pub onward_path : {p r : Path} {d y : ℕ} → d ≤ p.used → r.cells ≡ onward p.used p.cells d y ++ drop p.used p.cells → r.used ≡ p.used → Onward p d y r
onward_path {p} {r} {d} {y} h is used =
    let front : length (onward p.used p.cells d y) ≡ p.used = onward_long p.used d y p.cells h p.within in
    record {
      way =
          ap₂ take used is
          ∙ take_at (onward p.used p.cells d y) (drop p.used p.cells) p.used front
          ∙ ap (λ l. l ++ replicate (p.used - d) y) (sym (take-take d p.used p.cells h));
      rest = ap (drop p.used) is ∙ drop-append-drop p.used p.cells (onward p.used p.cells d y) p.used (omega arith) front;
      used = used;
    }

-- a path in the list, onward to a cell of the list
module _ {s : Settings} {p r : Path} {d y : ℕ} (i : PathIn s p) (o : Onward p d y r) where
  pub onward_way : path_of r ≡ onward s.dimensions (path_of p) d y
  onward_way = o.way ∙ ap (λ D. onward D (path_of p) d y) i.used

  pub onward_in : d < s.dimensions → y < s.cells → PathIn s r
  onward_in h below = record { used = o.used ∙ i.used; below = λ e l. rw onward_way (at e l (dec_lt e d)) }
    where
      long : length (path_of p) ≡ s.dimensions
      long = path_length p ∙ i.used

      at : (e : ℕ) → e < s.dimensions → Dec (e < d) → get_or (onward s.dimensions (path_of p) d y) e 0 < s.cells
      at e l (yes m) = rw (onward_front s.dimensions (path_of p) d y e long (omega arith) m) (i.below e l)
      at e l (no m) = rw (onward_back s.dimensions (path_of p) d y e long (omega arith) l) below

-- The path's words

pub path_inside : {ws : List ℕ} {s : Settings} → Shaped ws s → (i : ℕ) → i < s.dimensions → header_words + i < length ws
path_inside h i l = omega (arith, h.long)

pub path_written :
    {ws : List ℕ} {s : Settings} (p : Path) {k : ℕ} {ys : List ℕ} → Shaped ws s → p.used ≡ s.dimensions → k ≡ s.dimensions → ys ≡ path_of p →
    (put_mid header_words k ws ys ≡ write_path ws (path_of p)) × Shaped (put_mid header_words k ws ys) s
path_written {ws} {s} p {k} {ys} h used whole is =
    let long : length ys ≡ k = ap length is ∙ path_length p ∙ omega arith in
    let written : put_mid header_words k ws ys ≡ write_path ws (path_of p) =
    rw (drop-drop k header_words ws, ← long)
    (sym (sets-eq ys ws header_words (omega (arith, h.long)) ∙ append_assoc (take header_words ws) ys (drop (header_words + length ys) ws)))
    ∙ ap (sets ws header_words) is in
    (written, rw written (sets_shaped h header_words (path_of p) (omega arith)))

-- The next cell

module _ {s : Settings} {p : Path} (i : PathIn s p) {d : ℕ} (h : d < s.dimensions) where
  pub cell_is : get_or p.cells d 0 ≡ get_or (path_of p) d 0
  cell_is = sym (get_or-take p.used p.cells d 0 (omega (arith, i.used)))

  pub cell_below : get_or p.cells d 0 < s.cells
  cell_below = rw cell_is (i.below d h)

-- links from e on lead nowhere, and the one below leads to y
module _ (ws : List ℕ) {s : Settings} {p : Path} (i : PathIn s p) {e y : ℕ} (low : 0 < e) (high : e ≤ s.dimensions)
    (rest : next_from ws (path_of p) s.dimensions ≡ next_from ws (path_of p) e) (is : y ≡ link_read ws (get_or p.cells (e - 1) 0) (e - 1)) where
  read_at : link_read ws (get_or (path_of p) (e - 1) 0) (e - 1) ≡ y
  read_at = ap (λ x. link_read ws x (e - 1)) (sym (cell_is i (omega arith))) ∙ sym is

  one_less : next_from ws (path_of p) s.dimensions ≡ next_from ws (path_of p) (suc (e - 1))
  one_less = rest ∙ ap (next_from ws (path_of p)) (omega arith)

  pub next_lower : y ≡ 0 → next_from ws (path_of p) s.dimensions ≡ next_from ws (path_of p) (e - 1)
  next_lower none = one_less ∙ next_down ws (path_of p) (e - 1) (read_at ∙ none)

  pub next_found : Walkable ws s → (y ≡ 0 → ⊥) → NextAt ws s (path_of p) (record { cell = y; number = e - 1 })
  next_found w some =
      let l : e - 1 < s.dimensions = omega arith in
      record {
        is = one_less ∙ next_here ws (path_of p) (e - 1) y read_at (omega arith);
        other = some;
        below = omega (arith, is, w.links (get_or p.cells (e - 1) 0) (e - 1) (cell_below i l) l);
        number = l;
      }

-- .. and with the path that leads to it
pub next_with :
    {ws : List ℕ} {s : Settings} {p q : Path} {r : NextCell} → PathIn s p → NextAt ws s (path_of p) r → Onward p r.number r.cell q → NextWith ws s p r q
next_with i n o = record { at = n; way = onward_way i o; path_in = onward_in i o n.number n.below }
