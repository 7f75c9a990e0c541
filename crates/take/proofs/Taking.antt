-- Going on from the position's path past dead cells, and that each way out of a take has the outcome of the definition.
use mathlib.Core.Path.{◌≡◌, refl, sym, ap, ap₂, ◌∙◌, subst}
use mathlib.Core.Bool.{false}
use mathlib.Core.List.{List, [], ◌∷◌, ◌++◌, append-nil}
use Prim.Native.Nat.{ℕ, suc, ◌+◌, ◌≤◌, ◌<◌}
use native.Mathlib.Omega.{arith}
use Rattle.std.proofs.Common.{None, Some}
use lib.ListN.{length, take, drop, length-append}
use lib.Seq.{take_at}
use Rattle.settings.specs.Numbers.{header_words}
use Rattle.settings.specs.declared.Settings.{Settings}
use Rattle.lists.proofs.All.{All, all_append, all_at}
use Rattle.meaning.specs.Row.{Node, last_of}
use Rattle.meaning.specs.State.{State, position_key}
use Rattle.meaning.specs.Picture.{path, cell_pictures, picture}
use Rattle.meaning.specs.Reading.{read}
use Rattle.meaning.specs.Words.{word_index, key_at, value_at, mark_at}
use Rattle.meaning.specs.Layer.Paths.{path_for, PathOf}
use Rattle.meaning.specs.Layer.Stores.{store, write_path, write_node}
use Rattle.answers.specs.Refusals.{answer, Meets}
use Rattle.meaning.specs.Operations.{dead_front, from_live, keys_above, keys_passed, taken, take_out}
use Rattle.answers.specs.declared.Answer.{Answer}
use Rattle.meaning.specs.Layer.Listed.{Listed}
use Rattle.meaning.proofs.Rows.AscendingRow.{Asc}
use Rattle.meaning.proofs.Pictures.State.{Sound}
use Rattle.meaning.proofs.Pictures.StateCells.{free_length}
use Rattle.meaning.proofs.Pictures.Picture.{path_length}
use Rattle.meaning.proofs.Kept.KeepsState.{live_split}
use Rattle.meaning.proofs.Cells.Placed.{mark_one, mark_other, place_key, place_value}
use Rattle.meaning.proofs.BothWays.SentencesShape.{HasPlace, row_placed}
use Rattle.meaning.proofs.Paths.PathNext.{last_of_lem, way_within}
use Rattle.meaning.proofs.Paths.PathTake.{stops, position_on_way, above_more, passed_upto, taken_path}
use Rattle.meaning.proofs.Written.TakeWords.{taken_words_lem}
use Rattle.meaning.proofs.Outcomes.{take_outcome_none, take_outcome_first}
use Rattle.paths.specs.declared.path.Path.{Path}
use Rattle.paths.specs.declared.NextCell.{NextCell}
use Rattle.paths.specs.Paths.{path_of, PathIn, NoneNext, NextWith}
use Rattle.words.proofs.Listed.{listed_picture, on_listed}
use Rattle.paths.proofs.Ways.{MovesOn, moves_on, moves_end}
use Rattle.take.specs.declared.Ahead.{Ahead}
use Rattle.take.specs.Ahead.{AheadIs, FirstLive}

-- Past dead cells

-- The path has come past dead nodes to one that is not below the position, and past `passed` keys above it.
pub record Passing (t : State) (s : Settings) (p : Path) (passed : ℕ) : Type 0 where
  pub front : List Node
  pub later : List Node
  pub on_way : PathOf t (path_of p) front later
  pub dead : All (λ y. y.live ≡ false) front
  pub position : position_key t ≤ (last_of front).key
  pub count : passed ≡ keys_above (position_key t) front
  pub room : passed + length later < s.cells
  pub path_in : PathIn s p

-- the words of path of a list are the position's path
pub passing_start :
    {ws : List ℕ} {s : Settings} → Listed ws s → {p : Path} → p.used ≡ s.dimensions → path_of p ≡ take s.dimensions (drop header_words ws) →
    Passing (read ws) s p 0
unfolding picture
passing_start h {p} =
    on_listed (λ t ws s. p.used ≡ s.dimensions → path_of p ≡ take s.dimensions (drop header_words ws) → Passing t s p 0)
    (λ t v used is.
    let w = position_on_way t v in
    let here : PathOf t (path_of p) w.front w.later =
    record { split = w.on_way.split; is = is ∙ take_at (path t) (cell_pictures t) t.settings.dimensions (path_length t) ∙ w.on_way.is } in
    record {
      front = w.front;
      later = w.later;
      on_way = here;
      dead = w.dead;
      position = omega (arith, w.key);
      count = sym w.none_above;
      room = omega (arith, v.ranges.cells_least, free_length t v, ap length w.on_way.split, length-append w.front w.later);
      path_in = record { used = used; below = λ d l. way_within v here d };
    })
    h

module _ {ws : List ℕ} {s : Settings} (h : Listed ws s) {p : Path} {passed : ℕ} (g : Passing (read ws) s p passed) where
  abbrev t : State
  t = read ws

  pub passing_end : NoneNext ws s (path_of p) → FirstLive ws s (record { cell = None; passed = passed; path = p })
  passing_end none =
      let split = g.on_way.split ∙ ap (λ l. g.front ++ l) (moves_end h none g.later g.on_way) in
      let all : t.row ≡ g.front = split ∙ append-nil g.front in
      record {
        found =
            subst (AheadIs t (record { cell = None; passed = passed; path = p })) (sym (ap from_live split ∙ (stops g.front [] g.dead tt).live))
            (record { cell = refl; passed = g.count ∙ ap (keys_above (position_key t)) (sym all) });
        below = tt;
        used = g.path_in.used;
      }

  module _ {r : NextCell} {q : Path} (n : NextWith ws s p r q) {mark : ℕ} (is : mark ≡ mark_at ws r.cell) where
    on : MovesOn t ws s (path_of p) g.front g.later r
    on = moves_on h n.at g.later g.on_way

    further : PathOf t (path_of q) (g.front ++ (on.node ∷ [])) on.rest
    further = on.to.way n.way

    above : position_key t < on.node.key
    above = omega (arith, g.position, on.to.above)

    pub passing_here : mark ≡ 1 → FirstLive ws s (record { cell = Some r.cell; passed = passed + 1; path = q })
    passing_here one =
        let x = on.node in
        let live = mark_one x.live (sym on.to.mark ∙ sym is ∙ one) in
        let split = g.on_way.split ∙ ap (λ l. g.front ++ l) on.next in
        let counted = passed_upto (position_key t) g.front x on.rest (subst (Asc 0) split (listed_picture h).sound.ascends) above in
        record {
          found =
              subst (AheadIs t (record { cell = Some r.cell; passed = passed + 1; path = q }))
              (sym (ap from_live split ∙ (stops g.front (x ∷ on.rest) g.dead live).live))
              (record {
                cell = ap Some on.to.cell;
                passed = ap (λ m. m + 1) g.count ∙ sym (ap (keys_passed (position_key t) x.key) split ∙ counted);
                path = further.is ∙ ap (λ y. path_for t.settings.base t.settings.dimensions t.row y.key) (last_of_lem g.front x);
              });
          below = n.at.below;
          used = n.path_in.used;
        }

    pub passing_past : (mark ≡ 1 → ⊥) → Passing t s q (passed + 1)
    passing_past other =
        let y = on.node in
        record {
          front = g.front ++ (y ∷ []);
          later = on.rest;
          on_way = further;
          dead = all_append (λ z. z.live ≡ false) g.front (y ∷ []) g.dead (mark_other y.live (λ e. other (is ∙ on.to.mark ∙ e)), tt);
          position = rw (last_of_lem g.front y) (omega (arith, above));
          count = ap (λ m. m + 1) g.count ∙ sym (above_more (position_key t) g.front y above);
          room = omega (arith, g.room, ap length on.next);
          path_in = n.path_in;
        }

-- What a take leaves

node_stored : (D : ℕ) (ws : List ℕ) (x value mark : ℕ) → store D (store D ws x 1 value) x 2 mark ≡ write_node D ws x value mark
node_stored D ws x value mark = let next : word_index D x 2 ≡ suc (word_index D x 1) = omega arith in rw next refl

module _ (t : State) (v : Sound t) (a : Ahead) {r : Answer} where
  none_meets :
      (live : List Node) → from_live t.row ≡ live → AheadIs t a live → a.cell ≡ None → r ≡ answer 7 0 0 a.passed →
      Meets (take_out (picture t)) r (picture t)
  none_meets [] q f none e = rw (take_outcome_none t v q) (record { answered = e ∙ ap (λ n. answer 7 0 0 n) f.passed; left = refl })
  none_meets (x ∷ later) q f none e =
      absurd (cc (f.cell, none))

  taken_meets :
      (live : List Node) → from_live t.row ≡ live → AheadIs t a live →
      {c key value : ℕ} {after : List ℕ} → a.cell ≡ Some c → key ≡ key_at (picture t) c → value ≡ value_at (picture t) c →
      after ≡ write_path (store t.settings.dimensions (store t.settings.dimensions (picture t) c 1 0) c 2 2) (path_of a.path) →
      r ≡ answer 0 key value a.passed → Meets (take_out (picture t)) r after
  taken_meets [] q f some is_key is-value left e = absurd (cc (f.cell, some))
  taken_meets (x ∷ later) q f {c} some is_key is-value left e =
      let D = t.settings.dimensions in
      let cell : c ≡ x.cell = cc (f.cell, some) in
      let there = all_at (HasPlace t) (dead_front t.row) x later (subst (All (HasPlace t)) (live_split t.row x later q) (row_placed v)) in
      let key_of = is_key ∙ ap (key_at (picture t)) cell ∙ place_key v there.placed ∙ ap (λ y. y.key) there.node in
      let value_of_lem = is-value ∙ ap (value_at (picture t)) cell ∙ place_value v there.placed ∙ ap (λ y. y.value) there.node in
      rw (take_outcome_first t v x later q)
      (record {
        answered = e ∙ ap₂ (λ k w. answer 0 k w a.passed) key_of value_of_lem ∙ ap (λ n. answer 0 x.key x.value n) f.passed;
        left =
            left
            ∙ ap₂ (λ c p. write_path (store D (store D (picture t) c 1 0) c 2 2) p) cell (f.path ∙ sym (taken_path t x later v q))
            ∙ ap (λ l. write_path l (path (taken t x))) (node_stored D (picture t) x.cell 0 2)
            ∙ sym (taken_words_lem t x later v q);
      })

module _ {ws : List ℕ} {s : Settings} (h : Listed ws s) {a : Ahead} (f : FirstLive ws s a) {r : Answer} where
  pub take_none_meets : a.cell ≡ None → r ≡ answer 7 0 0 a.passed → Meets (take_out ws) r ws
  take_none_meets =
      on_listed (λ t ws s. AheadIs t a (from_live t.row) → a.cell ≡ None → r ≡ answer 7 0 0 a.passed → Meets (take_out ws) r ws)
      (λ t v g. none_meets t v a (from_live t.row) refl g) h f.found

  pub take_meets :
      {c key value : ℕ} {one two after : List ℕ} → a.cell ≡ Some c → key ≡ key_at ws c → value ≡ value_at ws c →
      one ≡ store s.dimensions ws c 1 0 → two ≡ store s.dimensions one c 2 2 → after ≡ write_path two (path_of a.path) →
      r ≡ answer 0 key value a.passed → Meets (take_out ws) r after
  take_meets {c} {key} {value} {one} {two} {after} some is_key is-value first second left e =
      let D = s.dimensions in
      let written = left ∙ ap (λ l. write_path l (path_of a.path)) (second ∙ ap (λ l. store D l c 2 2) first) in
      on_listed
      (λ t ws s.
      AheadIs t a (from_live t.row) → key ≡ key_at ws c → value ≡ value_at ws c →
      after ≡ write_path (store s.dimensions (store s.dimensions ws c 1 0) c 2 2) (path_of a.path) → Meets (take_out ws) r after)
      (λ t v g k w l. taken_meets t v a (from_live t.row) refl g some k w l e) h f.found is_key is-value written
