-- The map of what was seen, which the soundness check keeps in front of its pairwise walk: 1,040 bits, of which each
-- live record sets those of its name, its arrival number and what a unit can have once. Two records that share one of
-- these set the same bit. So where none of a record's bits is set, no live record below clashes with it; a bit that is
-- set says nothing, and the walk decides.
use Rattle.std.specs.Prelude.{ℕ, zero, suc, ◌+◌, ◌*◌, ◌/◌, ◌%◌, Bool, cond, ◌||◌, ◌&&◌, List, get_or, set, replicate}
use Rattle.task.specs.Tasks.{is_aca, is_running}
use Rattle.task.specs.Map.{is_live, with_bit}
use Rattle.task.specs.declared.Task.{Task}
use Rattle.table.specs.Tables.{task_at}
use Rattle.table.specs.declared.Table.{Table}

-- ---- which bits are a task's

-- one of 512 for its name, which is path and tag; the tags of each path begin 64 behind those of the one before
abbrev pub name_bit : Task → ℕ
name_bit a = (a.path * 64 + a.tag) % 512

-- one of 512 for its arrival number
abbrev pub number_bit : Task → ℕ
number_bit a = 512 + a.arrival % 512

-- one of 8 for its unit where it runs, and one of 8 where it is an ACA task
abbrev pub running_bit : Task → ℕ
running_bit a = 1024 + a.unit % 8

abbrev pub aca_bit : Task → ℕ
aca_bit a = 1032 + a.unit % 8

-- ---- the map: 17 words of 64 bits

abbrev pub is_seen : List ℕ → ℕ → Bool
is_seen seen k = is_live (get_or seen (k / 64) 0) (k % 64)

abbrev pub with_seen : List ℕ → ℕ → List ℕ
with_seen seen k = set seen (k / 64) (with_bit (get_or seen (k / 64) 0) (k % 64))

abbrev pub with_seen_if : Bool → List ℕ → ℕ → List ℕ
with_seen_if asked seen k = cond asked (with_seen seen k) seen

-- one of the task's bits is set
unfoldable pub may_clash : List ℕ → Task → Bool
may_clash seen a =
    is_seen seen (name_bit a) || (is_seen seen (number_bit a)
    || ((is_running a.phase && is_seen seen (running_bit a)) || (is_aca a.kind && is_seen seen (aca_bit a))))

-- the task's bits set
unfoldable pub with_bits_of : List ℕ → Task → List ℕ
with_bits_of seen a =
    with_seen_if (is_aca a.kind) (with_seen_if (is_running a.phase) (with_seen (with_seen seen (name_bit a)) (number_bit a)) (running_bit a)) (aca_bit a)

-- the bits of the live records below i
unfoldable pub seen_below : Table → ℕ → List ℕ
seen_below t zero = replicate 17 0
seen_below t (suc i) = cond (is_live t.live i) (with_bits_of (seen_below t i) (task_at t i)) (seen_below t i)
