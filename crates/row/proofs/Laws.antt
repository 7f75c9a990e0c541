-- What the functions are proved by: the laws of the inner ones, and for each call those of its ways out.
use Rattle.settings.proofs.Numbers.{ranges}
use Rattle.row.proofs.Turns.{place_here, place_on_lem, place_end, live_here, live_on_lem, live_end, above_one, above_none, right_turn, right_end, last_at}
use Rattle.row.proofs.Found.{stands_test}
use Rattle.row.proofs.Checking.{row_range, row_long, row_room, checked, keys_rise, row_keys, row_position, row_zeros, zero_here, zero_on, zero_end}
use Rattle.row.proofs.Changed.{row_added, row_freed}
use Rattle.row.proofs.Outcomes.{set_up_bad, set_up_length, set_up_done, no_row, insert_bad, insert_live, insert_dead, insert_full, insert_new_lem, find_bad, find_none, find_dead, find_live, finish_bad, finish_none, finish_there, take_none, take_live, sweep_none, sweep_some}

pub ruleset searches = (place_here, place_on_lem, place_end, live_here, live_on_lem, live_end, above_one, above_none, last_at)

pub ruleset checks = (right_turn, right_end, stands_test, ranges, row_range, row_long, row_room, checked, keys_rise, row_keys, row_position, row_zeros, zero_here, zero_on, zero_end)

pub ruleset inner = (searches, checks, row_added, row_freed)

pub ruleset sets_up = (ranges, set_up_bad, set_up_length, set_up_done)

pub ruleset inserts = (no_row, insert_bad, insert_live, insert_dead, insert_full, insert_new_lem)

pub ruleset finds = (no_row, find_bad, find_none, find_dead, find_live)

pub ruleset finishes = (no_row, finish_bad, finish_none, finish_there)

pub ruleset takes = (no_row, take_none, take_live)

pub ruleset sweeps = (no_row, sweep_none, sweep_some)
