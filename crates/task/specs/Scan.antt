-- The scan: a fold over the records that keeps the task that goes before every other picked so far. What it comes to
-- is said in Next.antt.
use Rattle.std.specs.Prelude.{ℕ, ◌+◌, Bool, true, cond, not, ◌&&◌, ◌||◌, List, [], ◌∷◌, ltb, Option, Some, None}
use Rattle.task.specs.Tasks.{is_head}
use Rattle.task.specs.Selections.{picks_live}
use Rattle.task.specs.declared.Task.{Task}
use Rattle.task.specs.declared.select.Selection.{Selection}
use Rattle.task.specs.declared.scan.Pick.{Pick}

abbrev pub nobody : Option Pick
nobody = None

abbrev pub taken_at : ℕ → Task → Option Pick
taken_at i a = Some (record { task = a; at = i })

-- a goes before b
abbrev pub beats : Task → Task → Bool
beats a b =
    cond (is_head a.kind) (not (is_head b.kind) || ltb b.arrival a.arrival) (not (is_head b.kind) && ltb a.arrival b.arrival)

-- a goes before the best so far, or there is none
abbrev pub beats_best : Task → Option Pick → Bool
beats_best a None = true
beats_best a (Some p) = beats a p.task

unfoldable pub considered : ℕ → Selection → Option Pick → ℕ → Task → Option Pick
considered live s best i a = cond (picks_live live s i a) (cond (beats_best a best) (taken_at i a) best) best

unfoldable pub scan_from : ℕ → Selection → Option Pick → ℕ → List Task → Option Pick
scan_from live s best i [] = best
scan_from live s best i (a ∷ rest) = scan_from live s (considered live s best i a) (i + 1) rest

abbrev pub scan : ℕ → Selection → List Task → Option Pick
scan live s tasks = scan_from live s nobody 0 tasks
