-- The full number: the logger's number comes round to 0 after 65,535, and the last full number tells which round it is in.
use Rattle.std.specs.Prelude.{◌≡◌, ℕ, ◌+◌, ◌-◌, ◌%◌, ◌≤◌, cond, ◌&&◌, nat_le, None, Option, Some}

-- one round of the logger's numbers
abbrev pub numbers_per_round : ℕ
numbers_per_round = 65536

-- the most that a full number may be, and so the most that the last one is; above it no record has been accepted yet
abbrev pub most_full : ℕ
most_full = 4294967295

-- n is a full number of the record's own, by the last: of the numbers congruent to it modulo 65,536, the one from 32,768 below the last to
-- 32,767 above it.
pub record Full (last own n : ℕ) : Type 0 where
  pub congruent : n % numbers_per_round ≡ own % numbers_per_round
  pub least : last ≤ n + 32768
  pub most : n ≤ last + 32767

-- The full number, one round further on, so that it is a number though the full number itself be below 0: the first congruent one from
-- 32,768 below the last, one round further on.
abbrev pub round_on : ℕ → ℕ → ℕ
round_on last own = last + 32768 + (own + numbers_per_round - (last + 32768) % numbers_per_round) % numbers_per_round

-- one round back, if it is then from 0 to the most
abbrev pub round_back : ℕ → Option ℕ
round_back n = cond (nat_le numbers_per_round n && nat_le n (most_full + numbers_per_round)) (Some (n - numbers_per_round)) None

-- the full number of a record's own after the last one; a first record's is its own and a round
unfoldable pub full_number : ℕ → ℕ → Option ℕ
full_number last own = cond (nat_le last most_full) (round_back (round_on last own)) (Some (own + numbers_per_round))
