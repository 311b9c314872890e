-- What the rules and orders ask of the table, for the sender's place p in the path list: about its task with a tag,
-- and about a unit.
use Rattle.std.specs.Prelude.{ℕ, Bool, false, is_some}
use Rattle.task.specs.Selections.{named, aca_on}
use Rattle.task.specs.Scan.{nobody}
use Rattle.table.specs.Tables.{path_at, unit_at, is_attached, has_aca, owned_by, pick_of, has_room}
use Rattle.table.specs.declared.Attention.TheVariants as attention
use Rattle.table.specs.declared.Table.{Table}
use Rattle.rules.specs.declared.facts.Facts.{Facts}
use Rattle.rules.specs.declared.facts.Lookup.{Lookup}

unfoldable pub facts_of : Table → ℕ → ℕ → ℕ → Facts
facts_of t p tag lun = record {
  marked = (path_at t p).full;
  attention = (path_at t p).attention;
  room = has_room t;
  taken = is_some (pick_of t (named p tag));
  attached = is_attached t lun;
  aca = has_aca (unit_at t lun).aca;
  owned = owned_by (unit_at t lun).aca p;
  busy = is_some (pick_of t (aca_on lun));
}

-- the facts, that task itself, and the map of the other paths that have a task on the unit
unfoldable pub lookup_of : Table → ℕ → ℕ → ℕ → ℕ → Lookup
lookup_of t p tag lun others = record { facts = facts_of t p tag lun; own = pick_of t (named p tag); others = others }

-- for an order that goes by its unit alone: whether the unit is attached, and the other paths that have a task there; all
-- else is left at none
unfoldable pub unit_alone : Bool → ℕ → Lookup
unit_alone attached others = record {
  facts = record { marked = false; attention = attention.Nothing; room = false; taken = false; attached = attached; aca = false; owned = false; busy = false };
  own = nobody;
  others = others;
}
