-- Every call keeps a table good, and setup's table is good. Assumes nothing.
use Rattle.std.specs.Prelude.{Option, Some, None}
use Prim.Native.Nat.{ℕ, ◌<◌}
use mathlib.Core.Path.{◌≡◌, refl, sym, ap, ◌∙◌}
use mathlib.Core.Bool.{Bool, true, false, cond, not, ◌&&◌}
use mathlib.Core.List.{List}
use native.Mathlib.Omega.{arith}
use lib.Dec.{eqb}
use borrow.Author.Tests.{not-false, ltb-true, eq-eqb, eqb-true}
use Rattle.wire.specs.Codes
use Rattle.wire.specs.Messages.{reserved_set}
use Rattle.wire.specs.Block.{cut_short, no_block}
use Rattle.wire.specs.declared.message.Flags.{Flags}
use Rattle.task.specs.Tasks.{is_aca}
use Rattle.task.specs.Selections.{picks, every_task, named, on_unit, aca_on, aca_from_on, running_on, waiting_on, aca_waiting_on}
use Rattle.task.specs.declared.Task.{Task}
use Rattle.std.specs.Prelude.{Some, None, is_some}
use Rattle.wire.proofs.Table.{cond_ind}
use Rattle.task.proofs.Ways.{never, both}
use Rattle.task.proofs.Places.{first_picks}
use Rattle.task.proofs.Selecting.{meets, picks_every, picks_on, picks_aca_on, picks_aca_from_on}
use Rattle.table.specs.Tables.{place_of, path_of, unit_at, task_at, is_attached, has_aca, owned_by, any_live, pick_of, has_room, others_on, with_paths, ended_by, marked_in, reset_attention_in}
use Rattle.table.specs.View.{Shaped}
use Rattle.sound.specs.Promises.{Good, MayCome}
use Rattle.table.specs.declared.Table.{Table}
use Rattle.table.proofs.Views.{live_at, pick_at, any_is_found, none_left}
use Rattle.sound.proofs.Keeps.{accept_keeps, may_come as paths-may-come, end_keeps, start_keeps as start-task-keeps, restart_keeps, claim_keeps, clear_keeps, mark_keeps, attention_gone_keeps, reset_attention_keeps, cleared_attention_keeps, finish_keeps as finish-task-keeps, reset_keeps as reset-table-keeps, setup_is_good as setup-table-is-good}
use Rattle.rules.specs.Facts.{facts_of, lookup_of}
use Rattle.rules.specs.Rules.{asks_aca, kept_out_by_aca, aca_kind_without_aca, room_rules, field_rules, unit_rules, block_rules, command_rules, accepts, deciding}
use Rattle.rules.specs.Management.{ends_of, tag_of, unit_of, order_code, order_change}
use Rattle.rules.specs.declared.facts.Facts.{Facts}
use Rattle.rules.specs.declared.change.SenderChange.{SenderChange}
use Rattle.rules.specs.declared.change.SenderChange.TheVariants.{Stays, SetMark, ClearMark, ClearMarkAndAttention}
use Rattle.rules.specs.declared.change.QueueChange.TheVariants.{Leaves, Holds}
use Rattle.rules.specs.declared.command.Ruling.{Ruling}
use Rattle.rules.specs.declared.command.Ruling.TheVariants.{Refuse, Respond, Report, Invalid, Accept}
use Rattle.rules.specs.declared.manage.Order.{Order}
use Rattle.rules.specs.declared.manage.Order.TheVariants.{AbortTask, AbortTaskSet, ClearTaskSet, ClearAca, UnitReset, TargetReset}
use Rattle.rules.specs.Promises.{holds_queue}
use Rattle.rules.proofs.Promises.{holds_as_asked, attached_is_seven_to_ten}
use Rattle.rules.proofs.Entries.{every_rule, applies_at, passed}
use Rattle.plan.specs.Plans.{ruled, order_plan, sender_after}
use Rattle.plan.specs.declared.Request.{Request}
use Rattle.plan.specs.declared.Request.TheVariants.{Command, Manage, Confirm}
use Rattle.plan.specs.declared.Plan.{Plan}
use Rattle.engine.specs.Calls.{with_parts, plan_at, with_records, carried_out, choice_on, setup_of}
use Rattle.engine.specs.Promises.{MessageKeeps, StartKeeps, FinishKeeps, ResetKeeps, SetupIsGood}
use Rattle.engine.specs.declared.Outcome.{Outcome}
use Rattle.engine.proofs.Outcomes.{each_message, each_start, each_finish, each_reset, each_confirm}

-- a place that is not 8 is a listed path's
listed_place : (t : Table) (id : ℕ) → path_of t id < 8 → path_of t id < t.count
unfolding place_of
listed_place t id l = ltb-true _ _ (both _ _ (first_picks 8 _ l)).0

pub owned_by_law : (o : Option ℕ) (p : ℕ) → owned_by o p ≡ true → o ≡ Some p
owned_by_law None p e = let z : ◌≡◌ {A = ℕ} 0 1 = cc in absurd (omega arith)
owned_by_law (Some q) p e = ap Some (eqb-true q p e)

-- ---- a command that is accepted may come

-- rule 7, for kind ACA
owner_alone : (f : Facts) (g : Flags) → asks_aca g ≡ true → kept_out_by_aca f g ≡ false → aca_kind_without_aca f g ≡ false → (f.owned ≡ true) × (f.busy ≡ false)
unfolding kept_out_by_aca aca_kind_without_aca
owner_alone f g = cases f.aca f.owned (asks_aca g) f.busy
  where
    cases : (aca owned asks busy : Bool) → asks ≡ true → (aca && not (owned && (asks && not busy))) ≡ false → (not aca && asks) ≡ false → (owned ≡ true) × (busy ≡ false)
    cases aca owned false busy a b s = absurd (never a refl)
    cases false owned true busy a b s = absurd (never refl s)
    cases true false true busy a b s = absurd (never refl b)
    cases true true true true a b s = absurd (never refl b)
    cases true true true false a b s = (refl, refl)

-- the rules by their places in the list: 2 is rule 1's room, 3 is rule 2, 6 is rule 5, 7 is rule 6, 8 and 9 are rule
-- 7, 12 is rule 9
module _ (t : Table) (p tag lun : ℕ) (flags : Flags) (m : List ℕ) where
  abbrev pub facts : Facts
  facts = facts_of t p tag lun

  module _ (e : (deciding facts flags m).gives ≡ Accept) where
    none_applied : (k : ℕ) → applies_at (command_rules facts flags m) k ≡ false
    unfolding command_rules room_rules field_rules unit_rules block_rules every_rule
    none_applied = passed (command_rules facts flags m) (accepts m) refl e

    pub accept_has_room : has_room t ≡ true
    unfolding command_rules room_rules facts_of
    accept_has_room = not-false _ (none_applied 2)

    pub accept_is_whole : (cut_short m ≡ false) × (no_block m ≡ false)
    unfolding command_rules room_rules field_rules unit_rules block_rules
    accept_is_whole = (none_applied 3, none_applied 12)

    may_come : Shaped t → p < t.count → MayCome t p tag lun flags.queue
    unfolding command_rules room_rules field_rules unit_rules block_rules facts_of
    may_come h l =
        let by-owner : is_aca flags.queue ≡ true → (owned_by (unit_at t lun).aca p ≡ true) × (is_some (pick_of t (aca_on lun)) ≡ false) =
        λ a. owner_alone facts flags a (none_applied 8) (none_applied 9) in
        record {
          listed = l;
          attached = not-false _ (none_applied 7);
          free = sym (any_is_found t (named p tag) h) ∙ none_applied 6;
          owner = λ a. owned_by_law (unit_at t lun).aca p (by-owner a).0;
          alone = λ a. sym (any_is_found t (aca_on lun) h) ∙ (by-owner a).1;
        }

-- a rule that holds the queue is one of rules 7 to 10, and the unit is attached
pub held_attached : (f : Facts) (flags : Flags) (m : List ℕ) → holds_queue (deciding f flags m).gives ≡ true → f.attached ≡ true
held_attached f flags m h =
    let k = both _ _ (sym (holds_as_asked f flags m) ∙ h) in sym (attached_is_seven_to_ten.either f flags m k.1) ∙ k.0

-- ---- what an order leaves

-- CLEAR ACA is answered 00h only to the owner
pub owner_clears : (f : Facts) (m : List ℕ) (lun : ℕ) → (order_code f m (ClearAca lun)).0 ≡ 0 → f.owned ≡ true
unfolding order_code
owner_clears f m lun = cases (reserved_set m) (not f.attached) f.owned
  where
    cases : (b c owned : Bool) → (cond b Codes.invalid_field (cond c Codes.invalid_field (cond owned Codes.done Codes.no_aca))).0 ≡ 0 → owned ≡ true
    cases true c owned e = absurd (omega arith)
    cases false true owned e = absurd (omega arith)
    cases false false true e = refl
    cases false false false e = absurd (omega arith)

aca_there : (a : Task) (lun : ℕ) → picks (aca_on lun) a ≡ true → (a.unit ≡ lun) × (is_aca a.kind ≡ true)
aca_there a lun e = let h = both _ _ (sym (picks_aca_on a lun) ∙ e) in (eqb-true _ _ h.0, h.1)

module _ (t : Table) (g : Good t) where
  none_on : (lun : ℕ) → any_live (ended_by t (on_unit lun)) (aca_on lun) ≡ false
  none_on lun = none_left t (on_unit lun) g.shaped (aca_on lun) (λ i a f. picks_on a lun ∙ eq-eqb _ _ (aca_there a lun f.picked).0)

  none_anywhere : (lun : ℕ) → any_live (ended_by t every_task) (aca_on lun) ≡ false
  none_anywhere lun = none_left t every_task g.shaped (aca_on lun) (λ i a f. picks_every a)

  -- the ACA task is the owner's
  none_owned : (p lun : ℕ) → owned_by (unit_at t lun).aca p ≡ true → any_live (ended_by t (aca_from_on p lun)) (aca_on lun) ≡ false
  none_owned p lun o =
      none_left t (aca_from_on p lun) g.shaped (aca_on lun)
      (λ i a f.
      let h = aca_there a lun f.picked in
      let q : (unit_at t a.unit).aca ≡ Some a.path = g.sound.aca_owned i a f.below f.here h.1 in
      let r : (unit_at t lun).aca ≡ Some p = owned_by_law _ p o in
      let u : a.unit ≡ lun = h.0 in
      let s : a.path ≡ p = cc in
      picks_aca_from_on a p lun ∙ rw (eq-eqb _ _ s, eq-eqb _ _ u, h.1))

-- ---- the calls

module _ (t : Table) (g : Good t) (p : ℕ) (l : p < t.count) where
  sender_keeps : (sender : SenderChange) → Good (with_paths t (sender_after t.paths p sender))
  sender_keeps Stays = g
  sender_keeps SetMark = mark_keeps t p true g l
  sender_keeps ClearMark = mark_keeps t p false g l
  sender_keeps ClearMarkAndAttention = attention_gone_keeps (with_paths t (marked_in t.paths p false)) p (mark_keeps t p false g l) l

  ruling_keeps : (next tag lun : ℕ) (flags : Flags) (r : Ruling) → (r ≡ Accept → MayCome t p tag lun flags.queue) → (holds_queue r ≡ true → is_attached t lun ≡ true)
      → Good (carried_out t (ruled next p tag lun flags r))
  unfolding carried_out with_records
  ruling_keeps next tag lun flags (Refuse n) c h = g
  ruling_keeps next tag lun flags (Respond code sender) c h = sender_keeps sender
  ruling_keeps next tag lun flags (Report status sense sender Leaves) c h = sender_keeps sender
  ruling_keeps next tag lun flags (Report status sense sender Holds) c h =
      claim_keeps (with_paths t (sender_after t.paths p sender)) lun p (sender_keeps sender) (h refl) l
  ruling_keeps next tag lun flags (Invalid sender) c h = sender_keeps sender
  ruling_keeps next tag lun flags Accept c h =
      let l = sender_after t.paths p ClearMark in accept_keeps (with_paths t l) p tag lun _ _ (sender_keeps ClearMark) (paths-may-come l (c refl))

  -- what an order asks of the table
  abbrev asked : Order → Facts
  asked o = facts_of t p (tag_of o) (unit_of o)

  -- a reset gives all paths reset attention
  abbrev attentive : Table
  attentive = with_paths t (reset_attention_in t.paths t.count false)

  attentive_good : Good attentive
  attentive_good = reset_attention_keeps t false g

  -- an order that is carried out. To end tasks first and then take an ACA comes to the same table
  done_keeps : (m : List ℕ) (o : Order) → (order_code (asked o) m o).0 ≡ 0 → Good (ended_by (with_parts t (order_change (others_on t (unit_of o) p) o)) (ends_of p o))
  unfolding ended_by facts_of
  done_keeps m (AbortTask tag2) e = end_keeps t _ g
  done_keeps m (AbortTaskSet lun) e = end_keeps t _ g
  done_keeps m (ClearTaskSet lun) e = end_keeps _ _ (cleared_attention_keeps t lun p g)
  done_keeps m (ClearAca lun) e =
      clear_keeps (ended_by t (aca_from_on p lun)) (Some lun) (end_keeps t _ g) (none_owned t g p lun (owner_clears (asked (ClearAca lun)) m lun e))
  done_keeps m (UnitReset lun) e =
      clear_keeps (ended_by attentive (on_unit lun)) (Some lun) (end_keeps attentive _ attentive_good) (none_on attentive attentive_good lun)
  done_keeps m TargetReset e =
      clear_keeps (ended_by attentive every_task) None (end_keeps attentive _ attentive_good) (none_anywhere attentive attentive_good)

  plan_keeps : (m : List ℕ) (tag : ℕ) (w : Request) → Good (carried_out t (plan_at t m p tag w))
  unfolding carried_out with_records plan_at lookup_of order_plan facts_of
  plan_keeps m tag (Command lun flags) = ruling_keeps t.next tag lun flags _ (λ e. may_come t p tag lun flags m e g.shaped l) (held_attached (facts_of t p tag lun) flags m)
  plan_keeps m tag (Manage o) =
      cond_ind (λ (pl : Plan). Good (carried_out t pl)) (eqb (order_code (asked o) m o).0 (Codes.done).0) (λ e. done_keeps m o (eqb-true _ _ e)) (λ _. g)
  plan_keeps m tag (Confirm offset complete) =
      each_confirm (λ (pl : Plan). Good (carried_out t pl)) (pick_of t (named p tag)) p tag m offset complete g g (λ _ _ _. end_keeps t _ g)
      (λ _ _ _ _. restart_keeps t _ offset g)

abbrev GoodAfter : Outcome → Type 0
GoodAfter o = Good o.table

pub message_keeps : MessageKeeps
message_keeps t m n g =
    each_message GoodAfter t (λ _. g) m (λ path tag w _ l. plan_keeps t g (path_of t path) (listed_place t path l) m tag w) n

-- the task that may go is on the unit
pub on_unit_law : (a : Task) (aca : Bool) (unit : ℕ) → picks (cond aca (aca_waiting_on unit) (waiting_on unit)) a ≡ true → a.unit ≡ unit
on_unit_law a true unit e = eqb-true _ _ (meets _ a e).place
on_unit_law a false unit e = eqb-true _ _ (meets _ a e).place

pub start_keeps : StartKeeps
unfolding choice_on
start_keeps t unit g =
    each_start GoodAfter t (λ _. g) unit
    (λ _ idle p found.
    let f = pick_at t _ g.shaped found in
    let here : (task_at t p.at).unit ≡ unit =
    ap (λ (a : Task). a.unit) (live_at t _ f.here).1 ∙ on_unit_law _ (has_aca (unit_at t unit).aca) unit f.picked in
    start-task-keeps t p.at g (rw here (sym (any_is_found t (running_on unit) g.shaped) ∙ idle)))

pub finish_keeps : FinishKeeps
finish_keeps t arrival status s transferred n g =
    each_finish GoodAfter t (λ _. g) arrival status s transferred n (λ _ _. finish-task-keeps t _ _ transferred g)

pub reset_keeps : ResetKeeps
reset_keeps t g = each_reset GoodAfter t (λ _. g) (reset-table-keeps t g)

pub setup_is_good : SetupIsGood
unfolding setup_of
setup_is_good = setup-table-is-good
