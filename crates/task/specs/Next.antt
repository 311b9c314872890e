-- What the scan's answer is, said with no fold: nobody; or of the records that take part the HEAD OF QUEUE task with
-- the highest arrival number; or, where none is one, the task with the lowest.
use Rattle.std.specs.Prelude.{ℕ, ◌<◌, ◌≤◌, ◌≡◌, Bool, true, false, List, length, get_or, Option, Some, None}
use Rattle.task.specs.Tasks.{no_task, is_head}
use Rattle.task.specs.Selections.{picks_live}
use Rattle.task.specs.Scan.{scan}
use Rattle.task.specs.declared.Task.{Task}
use Rattle.task.specs.declared.select.Selection.{Selection}
use Rattle.task.specs.declared.scan.Pick.{Pick}

module _ (live : ℕ) (s : Selection) (tasks : List Task) where
  abbrev pub record_at : ℕ → Task
  record_at i = get_or tasks i no_task

  -- record i takes part: it is live and picked
  abbrev pub Takes : ℕ → Type 0
  Takes i = picks_live live s i (record_at i) ≡ true

  abbrev pub head_at : ℕ → Bool
  head_at i = is_head (record_at i).kind

  -- p names a record below n that takes part, and the task in it
  pub record Stands (n : ℕ) (p : Pick) : Type 0 where
    pub below : p.at < n
    pub takes : Takes p.at
    pub task : p.task ≡ record_at p.at

  -- r is the right answer for the records below n
  pub data Next (n : ℕ) (r : Option Pick) : Type 0 where
    no_one : r ≡ None → ((i : ℕ) → i < n → Takes i → ⊥) → Next n r
    highest_head : (p : Pick) → r ≡ Some p → Stands n p → is_head p.task.kind ≡ true → ((i : ℕ) → i < n → Takes i → head_at i ≡ true → (record_at i).arrival ≤ p.task.arrival) → Next n r
    lowest : (p : Pick) → r ≡ Some p → Stands n p → is_head p.task.kind ≡ false → ((i : ℕ) → i < n → Takes i → (head_at i ≡ false) × (p.task.arrival ≤ (record_at i).arrival)) → Next n r

-- the scan's answer is right for all records
abbrev pub ScanIsNext : Type 0
ScanIsNext = (live : ℕ) (s : Selection) (tasks : List Task) → Next live s tasks (length tasks) (scan live s tasks)
