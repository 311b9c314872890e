-- The scan, one record at a time. Assumes nothing.
use Prim.Native.Nat.{ℕ, ◌+◌, ◌<◌, ◌≤◌}
use mathlib.Core.Path.{◌≡◌, sym, ap, ◌∙◌}
use mathlib.Core.List.{List}
use native.Mathlib.Nat.{le_antisymm}
use native.Mathlib.Numerals.{add-one}
use lib.ListN.{length, get_or, drop}
use lib.Seq.{drop-cons, drop-length}
use Rattle.std.specs.Prelude.{Option}
use Rattle.task.specs.Tasks.{no_task}
use Rattle.task.specs.Scan.{considered, scan_from}
use Rattle.task.specs.declared.Task.{Task}
use Rattle.task.specs.declared.select.Selection.{Selection}
use Rattle.task.specs.declared.scan.Pick.{Pick}

-- what a loop over the records asks: one more is considered, and at the end nothing is left
module _ (live : ℕ) (s : Selection) (best : Option Pick) (i : ℕ) (tasks : List Task) where
  pub scan_step_or : (d : Task) → i < length tasks
      → scan_from live s best i (drop i tasks) ≡ scan_from live s (considered live s best i (get_or tasks i d)) (i + 1) (drop (i + 1) tasks)
  unfolding scan_from
  scan_step_or d h =
      ap (scan_from live s best i) (drop-cons tasks i d h)
      ∙ ap (λ (k : ℕ). scan_from live s (considered live s best i (get_or tasks i d)) (i + 1) (drop k tasks)) (sym (add-one i))

  pub scan_step : i < length tasks
      → scan_from live s best i (drop i tasks) ≡ scan_from live s (considered live s best i (get_or tasks i no_task)) (i + 1) (drop (i + 1) tasks)
  scan_step = scan_step_or no_task

  pub scan_end : i ≤ length tasks → length tasks ≤ i → scan_from live s best i (drop i tasks) ≡ best
  unfolding scan_from
  scan_end h k = rw (le_antisymm h k, drop-length)
