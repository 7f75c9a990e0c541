-- `Settings::full_base` meets its contract: each node of the table passes one computed test, whose two halves make it the base.
use mathlib.Core.Bool.{Bool, ◌&&◌}
use mathlib.Core.List.{List, [], ◌∷◌}
use mathlib.Core.Path.{◌≡◌, refl, subst}
use Prim.Native.Nat.{ℕ, ◌+◌, ◌-◌, ◌^◌}
use native.Mathlib.Omega.{arith}
use lib.Dec.{leb, ltb}
use lib.ListN.{get_or}
use borrow.Author.Rules.{rules}
use borrow.Author.Tests.{ltb-true, leb-true}
use Rattle.settings.specs.Numbers.{least_dimensions, most_largest}
use Rattle.settings.specs.Base.{IsBase}
use Rattle.settings.proofs.Numbers.{and_left, and_right, is_base_lem}
use Rattle.settings.proofs.Table.{at}
use Rattle.settings.proofs.Settings.full_base.Goals as goal

bases : List ℕ
bases = 65536 ∷ 1626 ∷ 256 ∷ 85 ∷ 41 ∷ 24 ∷ 16 ∷ 12 ∷ 10 ∷ 8 ∷ 7 ∷ 6 ∷ 5 ∷ 5 ∷ 4 ∷ []

-- Node i is for D = i + 2: its power is above the largest K, and that of the number before it is not.
abbrev high : ℕ → ℕ → Bool
high i b = ltb most_largest (b ^ (i + least_dimensions))

abbrev low : ℕ → ℕ → Bool
low i b = leb ((b - 1) ^ (i + least_dimensions)) most_largest

right : ℕ → ℕ → Bool
right i b = high i b && low i b

pub returns : goal.returns
unfolding bases right
returns c =
    let i = c.args.d - least_dimensions in
    let b = get_or bases i 0 in
    let D = i + least_dimensions in
    let e : D ≡ c.args.d = omega arith in
    let t = at right bases refl i (search rules) in
    subst (λ (n : ℕ). IsBase n most_largest b) e
    (is_base_lem D (ltb-true most_largest (b ^ D) (and_left (high i b) (low i b) t))
    (leb-true ((b - 1) ^ D) most_largest (and_right (high i b) (low i b) t)))
