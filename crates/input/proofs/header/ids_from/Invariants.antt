-- `input::header::ids_from`: what is still to be read, behind the ids that are kept. Assumes nothing.
use Rattle.std.proofs.Common.{◌≡◌, ◌-◌, []}
use Rattle.input.specs.Reading.{ids_from}
use Rattle.input.proofs.header.ids_from.Given as goal

abbrev pub invariant-ids : goal.invariant-ids
invariant-ids l = ids_from l.count l.s l.at [] ≡ ids_from (l.count - l.counter) l.s l.next l.ids.items
