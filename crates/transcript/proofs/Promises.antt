-- The promises of specs/Promises.antt. Assumes nothing.
use Rattle.transcript.specs.Promises.{NothingIsCut, PrintsTheText, LinesAreWhole, LastLinesAreWhole, AdvancePrints, ClosePrints}
use Rattle.transcript.proofs.Uncut.{one_more}
use Rattle.transcript.proofs.Printing.{prints}
use Rattle.transcript.proofs.Whole.{line_whole, last_whole, advance_leaves, close_leaves}

pub nothing_is_cut : NothingIsCut
nothing_is_cut = one_more

pub prints_the_text : PrintsTheText
prints_the_text = prints

pub lines_are_whole : LinesAreWhole
lines_are_whole = line_whole

pub last_lines_are_whole : LastLinesAreWhole
last_lines_are_whole = last_whole

pub advance_prints : AdvancePrints
advance_prints p s buf r left room = advance_leaves buf room p s r left

pub close_prints : ClosePrints
close_prints p buf wrote left room = close_leaves buf room p wrote left
