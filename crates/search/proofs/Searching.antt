-- The walk of a search on a list: what is known of it under way, and that a step keeps it.
use mathlib.Core.Path.{◌≡◌, refl, sym, ap, ◌∙◌}
use mathlib.Core.Bool.{true}
use mathlib.Core.List.{List}
use Prim.Native.Nat.{ℕ, ◌+◌, ◌*◌, ◌-◌, ◌≤◌}
use native.Mathlib.Nat.{mul-le-mul}
use native.Mathlib.Numerals.{add-one}
use native.Mathlib.Omega.{arith}
use lib.ListN.{length}
use Rattle.settings.specs.declared.Settings.{Settings}
use Rattle.settings.proofs.Numbers.{base_at_most}
use Rattle.meaning.specs.Words.{key_at}
use Rattle.meaning.specs.Walk.{step_at, trail, ends, walk}
use Rattle.meaning.specs.declared.Rest.{Rest}
use Rattle.meaning.specs.declared.Step.{Step}
use Rattle.meaning.specs.declared.Step.TheVariants.{Go, Up, End}
use Rattle.meaning.specs.Resting.{at_head, rest_over, rest}
use Rattle.meaning.specs.Layer.Listed.{Listed}
use Rattle.meaning.proofs.Pictures.State.{base_of_lem}
use Rattle.meaning.specs.Layer.Near.{NearAlong}
use Rattle.meaning.proofs.Walks.Walk.{trail_ends, trail_near, walk_bounded}
use Rattle.meaning.proofs.Walks.WalkStop.{rest_looked, rest_walk}
use Rattle.words.proofs.Listed.{on_listed, listed_shaped, listed_cells, listed_link}
use Rattle.steps.proofs.Walking.{trail_at, Walking, walking_start, walked, walking_go, walking_up}

-- The walk for k has come to r, and rests where the trail from there leads.
pub record Searching (ws : List ℕ) (s : Settings) (k : ℕ) (r : Rest) : Type 0 where
  pub walking : Walking ws s k r.at r.coordinate
  pub rested : rest ws k ≡ rest_over r (trail_at ws k r.at r.coordinate)

pub searching_start : {ws : List ℕ} {s : Settings} → Listed ws s → (k : ℕ) → 1 ≤ k → k ≤ s.largest → Searching ws s k at_head
unfolding rest trail
searching_start h k least most =
    let ended = on_listed (λ t l u. k ≤ u.largest → ends (trail l k) ≡ true) (λ t v m. trail_ends t v k least m) h most in
    let near =
    on_listed (λ t l u. k ≤ u.largest → NearAlong u.base u.dimensions k (key_at l) 0 0 (trail l k)) (λ t v m. trail_near t v k least m) h most
    in
    record { walking = walking_start (listed_shaped h) (omega (arith, listed_cells h)) ended near; rested = refl }

module _ {ws : List ℕ} {s : Settings} (h : Listed ws s) {k : ℕ} {r : Rest} (w : Searching ws s k r) where
  -- the cells gone to are at most D(b-1), which is at most 16 * 65,535
  pub looked_fits : 1 ≤ k → k ≤ s.largest → r.looked ≤ 1048560
  looked_fits least most =
      let bound : length (walk ws k) ≤ s.dimensions * (s.base - 1) =
      on_listed (λ t l u. k ≤ u.largest → length (walk l k) ≤ u.dimensions * (u.base - 1)) (λ t v m. walk_bounded t v k least m) h most in
      let base : s.base ≤ 65536 =
      on_listed (λ t l u. u.base ≤ 65536) (λ t v. base_at_most v.ranges.dimensions_least v.ranges.largest_most (base_of_lem t v)) h in
      let low : s.base - 1 ≤ 65535 = omega arith in
      let product : s.dimensions * (s.base - 1) ≤ 16 * 65535 = mul-le-mul (listed_shaped h).dimensions_most low in
      omega (arith, ap (λ t. t.looked) w.rested, rest_walk ws k, rest_looked r (trail_at ws k r.at r.coordinate))

  module _ {t : Step} (is : t ≡ step_at ws k r.at r.coordinate) where
    pub searching_go : {y : ℕ} → t ≡ Go y →
        Searching ws s k (record { from = r.at; number = r.coordinate; at = y; coordinate = r.coordinate; looked = r.looked + 1 })
    unfolding rest_over
    searching_go e =
        rw (add-one r.looked)
        (record { walking = walking_go w.walking is (listed_link h) e; rested = w.rested ∙ ap (rest_over r) (walked w.walking is e) })

    pub searching_up : t ≡ Up →
        Searching ws s k (record { from = r.from; number = r.number; at = r.at; coordinate = r.coordinate + 1; looked = r.looked })
    unfolding rest_over
    searching_up e =
        record {
          walking = walking_up w.walking is (listed_shaped h) e;
          rested = rw (add-one r.coordinate) (w.rested ∙ ap (rest_over r) (walked w.walking is e));
        }

    pub searching_end : t ≡ End → r ≡ rest ws k
    unfolding rest_over
    searching_end e = sym (w.rested ∙ ap (rest_over r) (walked w.walking is e))
