-- What waits in a buffer: its live key-value pairs, ascending.
use Rattle.std.specs.Prelude.{List, map, ℕ}
use Rattle.lists.specs.Lists.{those}
use Rattle.files.specs.Files.{Pair}
use Rattle.meaning.specs.Row.{Node}
use Rattle.meaning.specs.Reading.{read}

abbrev pub pair : Node → Pair
pair x = record { key = x.key; value = x.value }

abbrev pub live_pairs : List ℕ → List Pair
live_pairs ws = map pair (those (λ x. x.live) (read ws).row)
