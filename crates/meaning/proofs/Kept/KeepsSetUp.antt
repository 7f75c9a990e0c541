-- Set up gives a state in order: no cell stands but the head, and the chain has each number from 1 to C-1 once.
use mathlib.Core.Path.{◌≡◌, refl}
use mathlib.Core.Bool.{true}
use mathlib.Core.List.{[]}
use Prim.Native.Nat.{ℕ, ◌-◌}
use native.Mathlib.Omega.{arith}
use Rattle.settings.specs.Numbers.{in_range, base_of}
use Rattle.settings.proofs.Numbers.{ranges}
use Rattle.lists.specs.Lists.{numbers_from}
use Rattle.lists.proofs.Numbers.{numbers_length, numbers_range, numbers_once}
use Rattle.lists.proofs.Occurrences.{occurrences_here}
use Rattle.lists.proofs.All.{all_map}
use Rattle.meaning.specs.Operations.{fresh}
use Rattle.meaning.proofs.Pictures.State.{Sound}
use Rattle.meaning.proofs.Kept.KeepsState.{unowing_debts}

pub fresh_sound : (D K C : ℕ) → in_range D K C ≡ true → Sound (fresh D K C)
unfolding fresh
fresh_sound D K C e =
    let r = ranges D K C e in
    record {
      ranges = r;
      base = refl;
      ascends = tt;
      keys = tt;
      count = numbers_length 1 (C - 1);
      range = all_map (λ c h. let least = r.cells_least in let low = h.0 in let high = h.1 in omega arith) (numbers_from 1 (C - 1)) (numbers_range 1 (C - 1));
      once = all_map (λ c h. numbers_once c 1 (C - 1) h.0 h.1) (numbers_from 1 (C - 1)) (numbers_range 1 (C - 1));
      values = tt;
      debts = unowing_debts (base_of D K) D [] tt;
      position = omega (arith, occurrences_here 0 0 [] refl);
      dead = tt;
    }
