-- `files::keys_rise` meets its contract: the keys of all pairs rise from 0 as those from pair i on do from the key before.
use mathlib.Core.Path.{◌≡◌}
use Prim.Native.Nat.{◌-◌}
use lib.ListN.{drop}
use Rattle.files.specs.Files.{before, place, pairs_from, rising}
use Rattle.files.proofs.keys_rise.Given as goal

abbrev pub invariant-loop-i : goal.invariant-loop-i
invariant-loop-i l =
    rising 0 l.largest (pairs_from l.n (drop (before l.n) l.file)) ≡ rising l.below l.largest (pairs_from (l.n - l.i) (drop (place l.n l.i) l.file))
