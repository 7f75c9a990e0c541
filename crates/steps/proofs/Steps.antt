-- One step of the walk, by the start of the key's next block and its size; and the starts, worked out one after the other.
use mathlib.Core.Path.{◌≡◌, refl, ap, ◌∙◌}
use mathlib.Core.Bool.{true, cond}
use mathlib.Core.List.{List}
use Prim.Native.Nat.{ℕ, suc, ◌+◌, ◌-◌, ◌%◌, ◌^◌, ◌≤◌, ◌<◌}
use native.Mathlib.Decide.{ℕ_discrete}
use native.Mathlib.Numerals.{add-one}
use native.Mathlib.Omega.{arith}
use lib.Dec.{eqb, ltb}
use lib.ListN.{length, get_or, set}
use lib.Seq.{get_or-set_same, get_or-set_other}
use borrow.Author.Tests.{lt-ltb, le-ltb, eq-eqb, ne_eqb}
use Rattle.settings.specs.Levels.{PowersOf}
use Rattle.settings.specs.declared.Settings.{Settings}
use Rattle.settings.proofs.Powers.{power_some}
use Rattle.meaning.specs.Keys.{coordinate, shared, block_start}
use Rattle.meaning.specs.Words.{key_at}
use Rattle.meaning.specs.Walk.{link_read, step_along, step_at}
use Rattle.meaning.specs.declared.Step.TheVariants.{Go, Up, End}
use Rattle.meaning.proofs.Rows.Blocks.{block_before, block_inside, block_past}
use Rattle.words.specs.Shaped.{Shaped}
use Rattle.steps.specs.Blocks.{BlocksOf, Met}
use Rattle.words.proofs.Shaped.{shaped_dimensions, shaped_base}

-- One step, by the cell's key and k's block

module _ {ws : List ℕ} {s : Settings} (h : Shaped ws s) (k x d : ℕ) {starts powers : List ℕ} (sought : BlocksOf s k starts powers) (met : Met ws s k x d)
    {own : ℕ} (here : own ≡ key_at ws x) where
  abbrev digit : ℕ → ℕ
  digit key = coordinate s.base s.dimensions key d

  step_is :
      step_at ws k x d
      ≡ cond (ltb (digit own) (digit k)) (step_along (link_read ws x d)) (cond (eqb (digit own) (digit k)) (cond (eqb (d + 1) s.dimensions) End Up) End)
  unfolding step_at
  step_is = rw (here, shaped_dimensions h, shaped_base h, add-one d) refl

  start_is : get_or starts d 0 ≡ block_start s.base s.dimensions k (suc d)
  start_is = sought.blocks.level d met.inside

  size_is : get_or powers (d + 1) 0 ≡ s.base ^ (s.dimensions - suc d)
  size_is = rw (add-one d) (sought.sizes.level (suc d) met.inside)

  own_fits : own < s.base ^ s.dimensions
  own_fits = rw here met.fits

  own_shares : d ≤ shared s.base s.dimensions own k
  own_shares = rw here met.shares

  below : own < get_or starts d 0 → ltb (digit own) (digit k) ≡ true
  below less =
      lt-ltb _ _
      (block_before s.base s.dimensions own k d sought.sizes.some own_fits sought.fits met.inside own_shares (omega (arith, less, start_is)))

  pub step_none : {y : ℕ} → own < get_or starts d 0 → y ≡ link_read ws x d → y ≡ 0 → step_at ws k x d ≡ End
  step_none less e none = step_is ∙ rw (below less, ← e, eq-eqb _ 0 none) refl

  pub step_go : {y : ℕ} → own < get_or starts d 0 → y ≡ link_read ws x d → (y ≡ 0 → ⊥) → step_at ws k x d ≡ Go y
  step_go less e some = step_is ∙ rw (below less, ← e, ne_eqb _ 0 some) refl

  module _ (from : get_or starts d 0 ≤ own) where
    same : own - get_or starts d 0 < get_or powers (d + 1) 0 → digit own ≡ digit k
    same less =
        block_inside s.base s.dimensions own k d sought.sizes.some own_fits sought.fits met.inside own_shares (omega (arith, from, start_is))
        (omega (arith, from, less, start_is, size_is))

    pub step_last : own - get_or starts d 0 < get_or powers (d + 1) 0 → d + 1 ≡ s.dimensions → step_at ws k x d ≡ End
    step_last less last =
        let e = same less in
        step_is ∙ rw (le-ltb (digit own) (digit k) (omega arith), eq-eqb (digit own) (digit k) e, eq-eqb (d + 1) s.dimensions last) refl

    pub step_up : own - get_or starts d 0 < get_or powers (d + 1) 0 → (d + 1 ≡ s.dimensions → ⊥) → step_at ws k x d ≡ Up
    step_up less more =
        let e = same less in
        step_is ∙ rw (le-ltb (digit own) (digit k) (omega arith), eq-eqb (digit own) (digit k) e, ne_eqb (d + 1) s.dimensions more) refl

    pub step_above : get_or powers (d + 1) 0 ≤ own - get_or starts d 0 → step_at ws k x d ≡ End
    step_above past =
        let some : 0 < get_or powers (d + 1) 0 = power_some sought.sizes (omega (arith, met.inside)) in
        let above =
        block_past s.base s.dimensions own k d sought.sizes.some own_fits sought.fits met.inside own_shares
        (omega (arith, from, past, some, start_is, size_is))
        in
        step_is ∙ rw (le-ltb (digit own) (digit k) (omega arith), ne_eqb (digit own) (digit k) (λ e. omega arith)) refl

-- the ways in which a step ends
pub ruleset step_cases = (step_none, step_go, step_last, step_up, step_above)

-- The starts of k's blocks

-- those up to level d are written
abbrev pub StartsTo : Settings → ℕ → List ℕ → ℕ → Type 0
StartsTo s k starts n = (d : ℕ) → d < n → get_or starts d 0 ≡ block_start s.base s.dimensions k (suc d)

pub starts_more :
    {s : Settings} {powers : List ℕ} (p : PowersOf s powers) (k : ℕ) (starts : List ℕ) {n v : ℕ} → n < s.dimensions → n < length starts →
    StartsTo s k starts n → v ≡ k - k % get_or powers (n + 1) 0 → StartsTo s k (set starts n v) (n + 1)
unfolding block_start
starts_more {s} {powers} p k starts {n} {v} inside long before e d less = go (ℕ_discrete d n)
  where
    go : Dec (d ≡ n) → get_or (set starts n v) d 0 ≡ block_start s.base s.dimensions k (suc d)
    go (yes q) =
        let power : get_or powers (n + 1) 0 ≡ s.base ^ (s.dimensions - suc n) = rw (add-one n) (p.level (suc n) inside) in
        rw q (get_or-set_same starts n v 0 long ∙ e ∙ ap (λ m. k - k % m) power)
    go (no ne) = get_or-set_other starts n d v 0 ne ∙ before d (omega (arith, less, ne))
