-- The walk that builds a path: what is known of it under way, and that a step keeps it.
use mathlib.Core.Path.{◌≡◌, sym, ap, ◌∙◌}
use mathlib.Core.List.{List, ◌∷◌}
use Prim.Native.Nat.{ℕ, ◌+◌}
use native.Mathlib.Numerals.{add-one}
use lib.ListN.{replicate}
use Rattle.settings.specs.declared.Settings.{Settings}
use Rattle.meaning.specs.Walk.{step_at, on_from, trail}
use Rattle.meaning.specs.Layer.Paths.{onward, path_over}
use Rattle.meaning.specs.declared.Step.{Step}
use Rattle.meaning.specs.declared.Step.TheVariants.{Go, Up, End}
use Rattle.steps.proofs.Walking.{trail_at, Walking, walking_start, walked, walking_go, walking_up}
use Rattle.paths.specs.declared.path.Path.{Path}
use Rattle.paths.specs.Paths.{path_of, Onward, Walkable, WalkEnds}

-- The walk for k has come to cell x and coordinate d with path p, of which the trail from there makes the whole path.
pub record Building (ws : List ℕ) (s : Settings) (k : ℕ) (p : Path) (x d : ℕ) : Type 0 where
  pub walking : Walking ws s k x d
  pub built : path_over s.dimensions (replicate s.dimensions 0) 0 (trail ws k) ≡ path_over s.dimensions (path_of p) d (trail_at ws k x d)
  pub used : p.used ≡ s.dimensions

module _ {ws : List ℕ} {s : Settings} (h : Walkable ws s) {k : ℕ} {p : Path} where
  pub building_start : WalkEnds ws s k → path_of p ≡ replicate s.dimensions 0 → p.used ≡ s.dimensions → Building ws s k p 0 0
  unfolding trail
  building_start e is used =
      record {
        walking = walking_start h.shaped h.head e.ended e.near;
        built = ap (λ path. path_over s.dimensions path 0 (trail ws k)) (sym is);
        used = used;
      }

  module _ {x d : ℕ} (w : Building ws s k p x d) {r : Step} (is : r ≡ step_at ws k x d) where
    -- a step, in what the trail makes of the path
    built_step : {t : Step} → r ≡ t →
        path_over s.dimensions (replicate s.dimensions 0) 0 (trail ws k)
        ≡ path_over s.dimensions (path_of p) d (t ∷ on_from (trail_at ws k) x d t)
    built_step e = w.built ∙ ap (path_over s.dimensions (path_of p) d) (walked w.walking is e)

    pub building_go : {y : ℕ} {q : Path} → r ≡ Go y → Onward p d y q → Building ws s k q y d
    unfolding path_over
    building_go {y} e o =
        let there = o.way ∙ ap (λ n. onward n (path_of p) d y) w.used in
        record {
          walking = walking_go w.walking is h.links e;
          built = built_step e ∙ ap (λ path. path_over s.dimensions path d (trail_at ws k y d)) (sym there);
          used = o.used ∙ w.used;
        }

    pub building_up : r ≡ Up → Building ws s k p x (d + 1)
    unfolding path_over
    building_up e = record { walking = walking_up w.walking is h.shaped e; built = rw (add-one d) (built_step e); used = w.used }

    pub building_end : r ≡ End → path_of p ≡ path_over s.dimensions (replicate s.dimensions 0) 0 (trail ws k)
    unfolding path_over
    building_end e = sym (built_step e)
