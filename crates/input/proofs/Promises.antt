-- The promises of specs/Promises.antt. Assumes nothing.
use mathlib.Core.Path.{refl}
use native.Mathlib.Omega.{arith}
use Rattle.input.specs.Numbers.{with_group, number_in, groups_in}
use Rattle.input.specs.Promises.{NumbersReadBack, OneFormIsTaken, ThreeHundred, HeaderIsRead, NineAreKept, EventsMoveOn}
use Rattle.input.proofs.Groups.{reads_back, written}
use Rattle.input.proofs.Heading.{header_read, at_most_nine}
use Rattle.input.proofs.Moving.{event_ends}

pub numbers_read_back : NumbersReadBack
numbers_read_back before rest n h = reads_back 9 before rest n h (omega arith)

pub one_form_is_taken : OneFormIsTaken
one_form_is_taken s bytes at n next e = rw e at (written s bytes 10 at)

pub three_hundred : ThreeHundred
unfolding groups_in number_in with_group
three_hundred = (refl, refl)

pub header_is_read : HeaderIsRead
header_is_read = header_read

pub nine_are_kept : NineAreKept
nine_are_kept = at_most_nine

pub events_move_on : EventsMoveOn
events_move_on s at e next h = rw h at (event_ends at s)
