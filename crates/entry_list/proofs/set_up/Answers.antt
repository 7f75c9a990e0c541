-- `entry_list::set_up` meets its contract: the list is fresh.
use mathlib.Core.Path.{◌∙◌, ap}
use Rattle.meaning.specs.Reading.{is_list}
use Rattle.entry_list.proofs.EntryList.{set_up_fresh, fresh_is_list}
use Rattle.entry_list.proofs.set_up.Goals as goal

pub settings_of-requires : goal.settings_of-requires
settings_of-requires c = ap is_list (set_up_fresh c.args.words.now c.requires c.mdlist_set_up.ensures) ∙ fresh_is_list

pub returns : goal.returns
returns c = record { fresh = set_up_fresh c.args.words.now c.requires c.mdlist_set_up.ensures; listed = c.settings_of.ensures }
