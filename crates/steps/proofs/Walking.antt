-- A walk under way on words with the shape of a list, whose links lead to cells of the list: a step of the code keeps it, and leaves a
-- trail that is one step shorter.
use mathlib.Core.Path.{◌≡◌, sym, ap, ◌∙◌, subst}
use mathlib.Core.Bool.{true, false≢true}
use mathlib.Core.List.{List, [], ◌∷◌}
use Prim.Native.Nat.{ℕ, ◌+◌, ◌*◌, ◌<◌}
use native.Mathlib.Numerals.{add-one}
use native.Mathlib.Omega.{arith}
use lib.ListN.{length}
use Rattle.settings.specs.declared.Settings.{Settings}
use Rattle.meaning.specs.Words.{dimensions_at, base_at, key_at, owed_at}
use Rattle.meaning.specs.Walk.{link_read, step_at, on_from, trail_from, trail, ends}
use Rattle.meaning.specs.declared.Step.{Step}
use Rattle.meaning.specs.declared.Step.TheVariants.{Go, Up, End}
use Rattle.meaning.specs.Layer.Near.{Near, NearAlong}
use Rattle.meaning.proofs.Walks.WalkSteps.{trail_step, Tells, step_tells}
use Rattle.words.specs.Shaped.{Shaped}
use Rattle.steps.specs.Blocks.{Met}
use Rattle.words.proofs.Shaped.{shaped_dimensions}

-- the trail for k from cell x and coordinate d, with as many steps allowed as are enough on a list
abbrev pub trail_at : List ℕ → ℕ → ℕ → ℕ → List Step
trail_at ws k x d = trail_from (dimensions_at ws * base_at ws) ws k x d

-- The walk for k has come to cell x and coordinate d, and comes to its end from there.
pub record Walking (ws : List ℕ) (s : Settings) (k x d : ℕ) : Type 0 where
  pub ended : ends (trail_at ws k x d) ≡ true
  pub cell : x < s.cells
  pub inside : d < s.dimensions
  pub near : NearAlong s.base s.dimensions k (key_at ws) x d (trail_at ws k x d)

pub walking_start :
    {ws : List ℕ} {s : Settings} → Shaped ws s → 0 < s.cells → {k : ℕ} → ends (trail ws k) ≡ true →
    NearAlong s.base s.dimensions k (key_at ws) 0 0 (trail ws k) → Walking ws s k 0 0
unfolding trail
walking_start h head e near = record { ended = e; cell = head; inside = omega (arith, h.dimensions_least); near = near }

-- what a step asks
pub walking_met : {ws : List ℕ} {s : Settings} {k x d : ℕ} → Walking ws s k x d → owed_at ws x < s.cells → Met ws s k x d
walking_met {ws} {s} {k} {x} {d} w owed =
    let here = near_first (trail_at ws k x d) w.ended w.near in
    record { cell = w.cell; inside = w.inside; owed = owed; fits = here.0; shares = here.1 }
  where
    near_first : (steps : List Step) → ends steps ≡ true → NearAlong s.base s.dimensions k (key_at ws) x d steps →
        Near s.base s.dimensions k (key_at ws x) d
    near_first [] e n = absurd (false≢true (unfold ends in e))
    near_first (Go y ∷ steps) e n = n.0
    near_first (Up ∷ steps) e n = n.0
    near_first (End ∷ steps) e n = n.0

module _ {ws : List ℕ} {s : Settings} {k x d : ℕ} (w : Walking ws s k x d) {r : Step} (is : r ≡ step_at ws k x d) where
  -- the step, and the trail from where it leads
  pub walked : {t : Step} → r ≡ t → trail_at ws k x d ≡ t ∷ on_from (trail_at ws k) x d t
  walked e = trail_step (dimensions_at ws * base_at ws) ws k x d w.ended (sym is ∙ e)

  tells : {t : Step} → r ≡ t → Tells ws x d t
  tells e = subst (Tells ws x d) (sym is ∙ e) (step_tells ws k x d)

  near_on : {t : Step} → r ≡ t → NearAlong s.base s.dimensions k (key_at ws) x d (t ∷ on_from (trail_at ws k) x d t)
  near_on e = subst (NearAlong s.base s.dimensions k (key_at ws) x d) (walked e) w.near

  pub walking_go : ((x d : ℕ) → x < s.cells → d < s.dimensions → link_read ws x d < s.cells) → {y : ℕ} → r ≡ Go y → Walking ws s k y d
  unfolding ends
  walking_go links e =
      record {
        ended = sym (ap ends (walked e)) ∙ w.ended;
        cell = omega (arith, tells e, links x d w.cell w.inside);
        inside = w.inside;
        near = (near_on e).1;
      }

  pub walking_up : Shaped ws s → r ≡ Up → Walking ws s k x (d + 1)
  unfolding ends
  walking_up h e =
      let more = tells e in
      rw (add-one d)
      (record { ended = sym (ap ends (walked e)) ∙ w.ended; cell = w.cell; inside = omega (arith, w.inside, shaped_dimensions h); near = (near_on e).1 })

  pub left_go : {y : ℕ} → r ≡ Go y → length (trail_at ws k y d) < length (trail_at ws k x d)
  left_go e = omega (arith, ap length (walked e))

  pub left_up : r ≡ Up → length (trail_at ws k x (d + 1)) < length (trail_at ws k x d)
  left_up e = rw (add-one d) (omega (arith, ap length (walked e)))
