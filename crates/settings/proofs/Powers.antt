-- The powers of b, level by level from the last one: each is the one after it times b.
use mathlib.Core.Path.{◌≡◌, sym, ◌∙◌, ap}
use mathlib.Core.List.{List}
use Prim.Native.Nat.{ℕ, ◌+◌, ◌*◌, ◌-◌, ◌^◌, ◌≤◌, ◌<◌}
use native.Mathlib.Nat.{one-le-pow, pow-le-pow_right}
use native.Mathlib.Decide.{ℕ_discrete}
use native.Mathlib.Omega.{arith}
use lib.ListN.{length, get_or, set}
use lib.Seq.{get_or-set_same, get_or-set_other}
use Rattle.settings.specs.declared.Settings.{Settings}
use Rattle.settings.specs.Levels.{PowersOf}
use Rattle.settings.proofs.Numbers.{power_more}

-- the powers from level d up to level `top`
abbrev pub Levels : ℕ → ℕ → List ℕ → ℕ → Type 0
Levels b top of d = (i : ℕ) → d ≤ i → i ≤ top → get_or of i 0 ≡ b ^ (top - i)

pub levels_more :
    (b top d : ℕ) (of : List ℕ) → d ≤ top → d < length of → 0 < d → Levels b top of d → Levels b top (set of (d - 1) (get_or of d 0 * b)) (d - 1)
levels_more b top d of h inside some levels i low high = at (ℕ_discrete (d - 1) i)
  where
    at : Dec (d - 1 ≡ i) → get_or (set of (d - 1) (get_or of d 0 * b)) i 0 ≡ b ^ (top - i)
    at (yes e) =
        let there : top - d + 1 ≡ top - i = omega arith in
        ap (λ j. get_or (set of (d - 1) (get_or of d 0 * b)) j 0) (sym e)
        ∙ get_or-set_same of (d - 1) (get_or of d 0 * b) 0 (omega arith)
        ∙ power_more b (top - d) (levels d (omega arith) h)
        ∙ ap (λ n. b ^ n) there
    at (no ne) = get_or-set_other of (d - 1) i (get_or of d 0 * b) 0 (λ e. ne (sym e)) ∙ levels i (omega (arith, ne, low)) high

-- the next power fits where the last one does
pub level_fits : (b top d : ℕ) {v : ℕ} → 0 < b → d ≤ top → 0 < d → v ≡ b ^ (top - d) → b ^ top < 2 ^ 64 → v * b < 2 ^ 64
level_fits b top d pos h some e fits =
    let less : top - d + 1 ≤ top = omega arith in
    omega (arith, power_more b (top - d) e, pow-le-pow_right pos less)

-- no power is 0
pub power_some : {s : Settings} {powers : List ℕ} → PowersOf s powers → {d : ℕ} → d ≤ s.dimensions → 0 < get_or powers d 0
power_some {s} p {d} h = rw (p.level d h) (one-le-pow (s.dimensions - d) s.base p.some)
