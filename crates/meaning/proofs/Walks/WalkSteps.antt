-- The trail of a walk, step by step. A trail that comes to its end is the same whatever the steps allowed, so that from where a step leads it
-- is one step shorter: its length stands in place of a counter.
use mathlib.Core.Path.{◌≡◌, refl, sym, ap, ◌∙◌}
use mathlib.Core.Bool.{Bool, true, false, cond, false≢true}
use mathlib.Core.List.{List, ◌∷◌}
use Prim.Native.Nat.{ℕ, zero, suc, ◌≤◌}
use native.Mathlib.Omega.{arith}
use lib.Dec.{eqb, ltb}
use borrow.Author.Tests.{eqb-false}
use Rattle.meaning.specs.Keys.{coordinate}
use Rattle.meaning.specs.Words.{coordinate_at, dimensions_at, base_at}
use Rattle.meaning.specs.Walk.{link_read, step_at, on_from, trail_from, ends}
use Rattle.meaning.specs.declared.Step.{Step}
use Rattle.meaning.specs.declared.Step.TheVariants.{Go, Up, End}

-- the first step, and those that follow
pub trail_first :
    (fuel : ℕ) (ws : List ℕ) (k x d : ℕ) {t : Step} → step_at ws k x d ≡ t → trail_from (suc fuel) ws k x d ≡ t ∷ on_from (trail_from fuel ws k) x d t
unfolding trail_from
trail_first fuel ws k x d e = ap (λ t. t ∷ on_from (trail_from fuel ws k) x d t) e

-- where a trail comes to its end, what follows its first step is the same by all that agree on trails that do
on_enough :
    (f g : ℕ → ℕ → List Step) (x d : ℕ) (t : Step) → ends (t ∷ on_from f x d t) ≡ true → ((y c : ℕ) → ends (f y c) ≡ true → g y c ≡ f y c) →
    on_from g x d t ≡ on_from f x d t
unfolding ends
on_enough f g x d (Go y) e same = same y d e
on_enough f g x d Up e same = same x (suc d) e
on_enough f g x d End e same = refl

-- a trail that has come to its end is the same with more steps allowed
pub trail_enough :
    (fuel more : ℕ) (ws : List ℕ) (k x d : ℕ) → ends (trail_from fuel ws k x d) ≡ true → fuel ≤ more →
    trail_from more ws k x d ≡ trail_from fuel ws k x d
unfolding ends trail_from
trail_enough zero more ws k x d e h = absurd (false≢true e)
trail_enough (suc fuel) zero ws k x d e h = absurd (omega arith)
trail_enough (suc fuel) (suc more) ws k x d e h =
    let t = step_at ws k x d in
    ap (λ l. t ∷ l) (on_enough (trail_from fuel ws k) (trail_from more ws k) x d t e (λ y c f. trail_enough fuel more ws k y c f (omega arith)))

-- so the steps that follow its first are the trail from where that leads, with as many steps allowed
pub trail_step :
    (fuel : ℕ) (ws : List ℕ) (k x d : ℕ) {t : Step} → ends (trail_from fuel ws k x d) ≡ true → step_at ws k x d ≡ t →
    trail_from fuel ws k x d ≡ t ∷ on_from (trail_from fuel ws k) x d t
unfolding ends trail_from
trail_step zero ws k x d e s = absurd (false≢true e)
trail_step (suc fuel) ws k x d {t} e s =
    let first = trail_first fuel ws k x d s in
    first
    ∙ ap (λ l. t ∷ l) (sym (on_enough (trail_from fuel ws k) (trail_from (suc fuel) ws k) x d t (sym (ap ends first) ∙ e)
    (λ y c f. trail_enough fuel (suc fuel) ws k y c f (omega arith))))

-- What a step from cell x and coordinate d tells: it goes where link d of x leads, and up to below D only.
abbrev pub Tells : List ℕ → ℕ → ℕ → Step → Type 0
Tells ws x d (Go y) = y ≡ link_read ws x d
Tells ws x d Up = suc d ≡ dimensions_at ws → ⊥
Tells ws x d End = Unit {0}

pub step_tells : (ws : List ℕ) (k x d : ℕ) → Tells ws x d (step_at ws k x d)
unfolding step_at
step_tells ws k x d = at (ltb own sought) (eqb own sought) (eqb (suc d) (dimensions_at ws)) refl (eqb (link_read ws x d) 0)
  where
    own : ℕ
    own = coordinate_at ws x d

    sought : ℕ
    sought = coordinate (base_at ws) (dimensions_at ws) k d

    at : (below same top : Bool) → eqb (suc d) (dimensions_at ws) ≡ top → (none : Bool) →
        Tells ws x d (cond below (cond none End (Go (link_read ws x d))) (cond same (cond top End Up) End))
    at true same top t true = tt
    at true same top t false = refl
    at false true true t none = tt
    at false true false t none = eqb-false (suc d) (dimensions_at ws) t
    at false false top t none = tt
