-- What the code answers to a line of input, by crate format's meaning of it.
use Rattle.std.specs.Prelude.{suc, length, Option, Some, None}
use Rattle.format.specs.Listing as Listing
use Rattle.format.specs.Text.{decimal}
use Rattle.lines.specs.declared.Line.{Line}

-- how many bits it says, and where their digits begin: behind the count and its tab
unfoldable pub line_for : Listing.Line → Option Line
line_for (Listing.says l) = Some (record { bits = length l; first = suc (length (decimal (length l))) })
line_for Listing.bad = None
