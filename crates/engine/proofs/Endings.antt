-- What left the live map, which is what an outcome's `ended` says, on any table. Assumes nothing.
use Prim.Native.Nat.{ℕ}
use mathlib.Core.Path.{◌≡◌, refl, sym, ap, ◌∙◌}
use mathlib.Core.Bool.{◌&&◌}
use mathlib.Core.List.{List}
use lib.Dec.{ltb}
use Rattle.wire.specs.declared.codes.StatusByte.{StatusByte}
use Rattle.wire.specs.declared.codes.Sense.{Sense}
use Rattle.wire.proofs.Table.{cond_ind}
use Rattle.task.specs.Map.{is_live, gone}
use Rattle.task.specs.declared.Task.{Task}
use Rattle.task.proofs.Maps.{gone_none}
use Rattle.table.specs.Tables.{altered_at}
use Rattle.table.specs.declared.Table.{Table}
use Rattle.engine.specs.Calls.{message_of, start_of, finish_of, total_reset_of}
use Rattle.engine.specs.declared.Outcome.{Outcome}
use Rattle.engine.proofs.Outcomes.{each_message, each_start, each_finish, each_reset}

-- a changed record stays live
pub altered_map : (t : Table) (k : ℕ) (b : Task) → (altered_at t k b).live ≡ t.live
unfolding altered_at
altered_map t k b = cond_ind (λ (u : Table). u.live ≡ t.live) (ltb k 64 && is_live t.live k) (λ _. refl) (λ _. refl)

-- ---- what `ended` is, on any table

abbrev Gone : Table → Outcome → Type 0
Gone t o = o.ended ≡ gone t.live o.table.live

pub message_gone : (t : Table) (m : List ℕ) (n : ℕ) → Gone t (message_of t m n)
message_gone t m n = each_message (Gone t) t (λ _. sym (gone_none t.live)) m (λ path tag w _ _. refl) n

pub start_gone : (t : Table) (unit : ℕ) → Gone t (start_of t unit)
start_gone t unit =
    each_start (Gone t) t (λ _. sym (gone_none t.live)) unit (λ _ _ _ _. sym (ap (gone t.live) (altered_map t _ _) ∙ gone_none t.live))

pub finish_gone : (t : Table) (arrival : ℕ) (status : StatusByte) (s : Sense) (transferred n : ℕ) → Gone t (finish_of t arrival status s transferred n)
finish_gone t arrival status s transferred n = each_finish (Gone t) t (λ _. sym (gone_none t.live)) arrival status s transferred n (λ _ _. refl)

pub reset_gone : (t : Table) → Gone t (total_reset_of t)
reset_gone t = each_reset (Gone t) t (λ _. sym (gone_none t.live)) refl
