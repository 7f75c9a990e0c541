-- For proofs that compute closed terms: `unfolding computing` opens every definition of specs/.
use mathlib.Core.List.{flat_map}
use Prim.Native.Nat.{ℕ}
use Rattle.settings.specs.Numbers.{in_range, first_above, base_of}
use Rattle.settings.specs.Checked.{checked_of}
use Rattle.lists.specs.Lists.{those, every, occurrences, numbers_from, blocks, same}
use Rattle.meaning.specs.Keys.{coordinates, shared}
use Rattle.meaning.specs.Row.{first_sharing, places_after, places, link, place_of, node_at, put, last_of}
use Rattle.meaning.specs.State.{key_of, ascending, debt_holds, tests, valid}
use Rattle.meaning.specs.Picture.{standing_words, next_free, free_words, words_of, first_with, path, cell_pictures, picture}
use Rattle.meaning.specs.Reading.{standing, chain, read, sized, is_list, reading_of}
use Rattle.meaning.specs.Operations.{on_list, on_key, looked, fresh, set_up_out, finished, links_moved, finish_at, finish_out, find_at, on_reading, set_up_by}
use Rattle.meaning.specs.Operations.{find_out, leads_to, dimension_at, settled_link_at, parent_in, position_after, revived, slot_for, added, insert_new}
use Rattle.meaning.specs.Operations.{insert_at, insert_out, dead_front, from_live, keys_above, keys_passed, taken, take_from, take_out}
use Rattle.meaning.specs.Operations.{last_alone, freed_by, swept, sweep_out}
use Rattle.meaning.specs.Rule.{counted, least_above, plus_one, rule}
use Rattle.meaning.specs.Walk.{link_read, step_at, trail_from, trail, gone_to, walk}
use Rattle.calls.specs.Calls.{outcome, after_calls}
use Rattle.book.specs.Book.{standing_at}
use Rattle.calls.specs.Runs.{passed_sum, only_of, added_sum}

unfoldable pub computing : ℕ
unfolding flat_map in_range first_above base_of coordinates shared first_sharing places_after places link place_of node_at put those every key_of ascending
    occurrences debt_holds tests valid numbers_from standing_words next_free free_words words_of first_with path cell_pictures picture blocks standing chain
    read sized same is_list reading_of on_reading on_list on_key looked fresh checked_of set_up_by set_up_out finished links_moved finish_at finish_out find_at find_out leads_to
    dimension_at settled_link_at parent_in position_after revived slot_for added insert_new insert_at insert_out dead_front from_live keys_above
    keys_passed taken take_from take_out last_of last_alone freed_by swept sweep_out counted least_above plus_one rule
    link_read step_at trail_from trail gone_to walk outcome after_calls standing_at passed_sum only_of added_sum
computing = 0
