-- `report::put_checksum` meets its contract: the number put is the checksum of the words.
use Rattle.report.specs.Report.{checksum_text}
use Rattle.report.proofs.Sums.{same_numbers}
use Rattle.report.proofs.put_checksum.Goals as goal

pub returns : goal.returns
unfolding checksum_text
returns c = rw (same_numbers c.checksum.ensures) at c.put_number.ensures
