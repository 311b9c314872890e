-- A numbered refusal changes nothing and ends nothing; what an accepted command and a start come to. Replies.antt has
-- that replies are written, Keeps.antt that tables stay sound, Confirming.antt what becomes of a task that waits to be
-- confirmed, Abort.antt what ABORT TASK depends on, Past.antt that bytes past the specified length are not read. Assumes
-- nothing.
use Rattle.std.specs.Prelude.{Result, Ok, Err}
use Prim.Native.Nat.{ℕ, ◌+◌, ◌≤◌}
use mathlib.Core.Path.{◌≡◌, refl, sym, ap, ◌∙◌, subst}
use mathlib.Core.Bool.{Bool, true, false, cond, ◌||◌}
use mathlib.Core.List.{List}
use native.Mathlib.Omega.{arith}
use lib.ListN.{length, drop, length-drop}
use lib.Seq.{length-take-le}
use lib.Dec.{eqb, ltb}
use borrow.Author.Tests.{ltb-false, eqb-false}
use Rattle.wire.specs.Codes
use Rattle.wire.specs.Block.{block_length, cut_short, no_block, block_of}
use Rattle.wire.specs.declared.codes.Refusal.{Refusal}
use Rattle.wire.specs.declared.codes.StatusByte.{StatusByte}
use Rattle.wire.specs.declared.codes.Sense.{Sense}
use Rattle.wire.specs.declared.message.Flags.{Flags}
use Rattle.task.specs.Map.{gone}
use Rattle.task.specs.Selections.{named}
use Rattle.task.proofs.Ways.{never}
use Rattle.task.proofs.Maps.{gone_none}
use Rattle.task.specs.Next.{Next}
use Rattle.task.proofs.Next.{scan_is_next}
use Rattle.table.specs.Tables.{zero_table, path_of, unit_at, pick_of}
use Rattle.table.specs.Setup.{bad_list, setup_table}
use Rattle.table.specs.declared.Table.{Table}
use Rattle.rules.specs.Facts.{lookup_of}
use Rattle.rules.specs.Rules.{deciding}
use Rattle.rules.specs.declared.facts.Lookup.{Lookup}
use Rattle.rules.specs.declared.command.Ruling.{Ruling}
use Rattle.rules.specs.declared.command.Ruling.TheVariants.{Refuse, Respond, Report, Invalid, Accept}
use Rattle.plan.specs.Plans.{ruled, plan_of}
use Rattle.plan.specs.declared.Request.{Request}
use Rattle.plan.specs.declared.Request.TheVariants.{Command, Manage, Confirm}
use Rattle.plan.specs.declared.Plan.{Plan}
use Rattle.plan.specs.declared.Answer.{Answer}
use Rattle.plan.specs.declared.Answer.TheVariants as answer
use Rattle.plan.proofs.Promises.{order_answer}
use Rattle.engine.specs.Calls.{out, plan_at, with_records, carried_out, stops_for, message_of, may_go, choice_on, start_of, finish_of, total_reset_of, setup_of, replied, Answers, handed_over}
use Rattle.engine.specs.Promises.{MessageRefusals, FinishRefusals, StartRefusals, ResetRefusals, SetupRefusals, EndsNothing, NothingEnded, AcceptedIsWhole, Goes, StartsNext}
use Rattle.engine.specs.declared.Outcome.{Outcome}
use Rattle.engine.proofs.Outcomes.{each_message, each_start, each_finish, each_reset, each_confirm, left_by}
use Rattle.engine.proofs.Endings.{message_gone, finish_gone, reset_gone}
use Rattle.engine.proofs.Keeps.{accept_is_whole}

-- ---- refusals

-- an answer by its sort
abbrev pub sort_of : Result Answer Refusal → ℕ
sort_of (Ok answer.Ready) = 0
sort_of (Ok (answer.Accepted n)) = 1
sort_of (Ok (answer.Reply r)) = 2
sort_of (Ok (answer.Started offset arrival)) = 3
sort_of (Ok (answer.Confirmed n)) = 4
sort_of (Ok (answer.Restarted n)) = 5
sort_of (Ok answer.Reset) = 6
sort_of (Err n) = 7

pub unlike : {A : Type 0} {a b : Result Answer Refusal} → eqb (sort_of a) (sort_of b) ≡ false → a ≡ b → A
unlike {a = a} {b = b} h e = absurd (eqb-false (sort_of a) (sort_of b) h (ap sort_of e))

-- an answer is a refusal only where the table is t, and nothing has to stop
abbrev Stays : Table → Result Answer Refusal → Table → ℕ → Type 0
Stays t a u stops = (n : Refusal) → a ≡ Err n → (u ≡ t) × (stops ≡ 0)

no_refusal : {t u : Table} {a : Result Answer Refusal} {stops : ℕ} → eqb (sort_of a) 7 ≡ false → Stays t a u stops
no_refusal h n = unlike h

abbrev Kept : Table → Outcome → Type 0
Kept t o = Stays t o.answer o.table o.stops

abbrev PlanKept : Table → Plan → Type 0
PlanKept t pl = Stays t pl.answer (carried_out t pl) (stops_for t pl.records)

ruling_kept : (t : Table) (next p tag lun : ℕ) (flags : Flags) (r : Ruling) → PlanKept t (ruled next p tag lun flags r)
unfolding carried_out with_records
ruling_kept t next p tag lun flags (Refuse k) = λ _ _. (refl, refl)
ruling_kept t next p tag lun flags (Respond code sender) = no_refusal refl
ruling_kept t next p tag lun flags (Report status sense sender queue) = no_refusal refl
ruling_kept t next p tag lun flags (Invalid sender) = no_refusal refl
ruling_kept t next p tag lun flags Accept = no_refusal refl

plan_kept : (t : Table) (s : Lookup) (next p tag : ℕ) (m : List ℕ) (w : Request) → PlanKept t (plan_of s next p tag m w)
unfolding carried_out with_records
plan_kept t s next p tag m (Command lun flags) = ruling_kept t next p tag lun flags (deciding s.facts flags m).gives
plan_kept t s next p tag m (Manage o) = no_refusal (ap (λ (a : Result Answer Refusal). eqb (sort_of a) 7) (order_answer s.facts s.others p tag m o))
plan_kept t s next p tag m (Confirm offset complete) =
    each_confirm (PlanKept t) s.own p tag m offset complete (no_refusal refl) (λ _ _. (refl, refl)) (λ _ _ _. no_refusal refl) (λ _ _ _ _. no_refusal refl)

-- an outcome that meets a contract, where the outcome that it defines is kept
as_defined : {t : Table} {defined o : Outcome} → Kept t defined → o ≡ defined → Kept t o
as_defined kept e = rw e kept

with_reply : {t : Table} {defined : Outcome} (buf : List ℕ) {o : Outcome} {left : List ℕ} (n : Refusal)
    → Kept t defined → Answers defined buf o left → o.answer ≡ Err n → (o.table ≡ t) × (left ≡ buf)
unfolding replied
with_reply buf n kept x e = ((as_defined kept x.outcome n e).0, left_by buf x e)

message_kept : (t : Table) (m : List ℕ) (n : ℕ) → Kept t (message_of t m n)
unfolding plan_at
message_kept t m n = each_message (Kept t) t (λ _ _ _. (refl, refl)) m (λ path tag w _ _. plan_kept t _ _ _ tag m w) n

finish_kept : (t : Table) (arrival : ℕ) (status : StatusByte) (s : Sense) (transferred n : ℕ) → Kept t (finish_of t arrival status s transferred n)
finish_kept t arrival status s transferred n = each_finish (Kept t) t (λ _ _ _. (refl, refl)) arrival status s transferred n (λ _ _. no_refusal refl)

start_kept : (t : Table) (unit : ℕ) → Kept t (start_of t unit)
start_kept t unit = each_start (Kept t) t (λ _ _ _. (refl, refl)) unit (λ _ _ _ _. no_refusal refl)

reset_kept : (t : Table) → Kept t (total_reset_of t)
reset_kept t = each_reset (Kept t) t (λ _ _ _. (refl, refl)) (no_refusal refl)

pub message_refusals : MessageRefusals
message_refusals t m buf o left n = with_reply buf n (message_kept t m (length buf))

pub finish_refusals : FinishRefusals
finish_refusals t arrival status s transferred buf o left n = with_reply buf n (finish_kept t arrival status s transferred (length buf))

pub start_refusals : StartRefusals
start_refusals t unit o n e h = (as_defined (start_kept t unit) e n h).0

pub reset_refusals : ResetRefusals
reset_refusals t o n e h = (as_defined (reset_kept t) e n h).0

pub setup_refusals : SetupRefusals
unfolding setup_of setup_table
setup_refusals ids attached first o n e h = (as_defined (zero (bad_list ids) _) e n h).0
  where
    zero : (b : Bool) (u : Table) → Stays zero_table (cond b (Err Codes.bad_paths) (Ok answer.Ready)) (cond b zero_table u) 0
    zero true u = λ _ _. (refl, refl)
    zero false u = no_refusal refl

-- what left the live map of a table that stays is nothing
refused_ends : {t : Table} {defined o : Outcome} (n : Refusal) → Kept t defined → defined.ended ≡ gone t.live defined.table.live → o ≡ defined → o.answer ≡ Err n → EndsNothing o
refused_ends {t} {defined} n kept left e h =
    let k = kept n (sym (ap (λ (q : Outcome). q.answer) e) ∙ h) in
    rw e (record { ended = left ∙ ap (λ (u : Table). gone t.live u.live) k.0 ∙ gone_none t.live; stops = k.1 })

pub nothing_ended : NothingEnded
unfolding setup_of
nothing_ended = record {
  message = λ t m buf o left n x. refused_ends n (message_kept t m (length buf)) (message_gone t m (length buf)) x.outcome;
  start = λ t unit o e. rw e (each_start EndsNothing t (λ _. none_ended) unit (λ _ _ _ _. none_ended));
  finish = λ t arrival status s transferred buf o left n x.
      refused_ends n (finish_kept t arrival status s transferred (length buf)) (finish_gone t arrival status s transferred (length buf)) x.outcome;
  total_reset = λ t o n. refused_ends n (reset_kept t) (reset_gone t);
  setup = λ ids attached first o e. rw e none_ended;
}
  where
    none_ended : {t : Table} {a : Result Answer Refusal} {to : ℕ} → EndsNothing (out t a to)
    none_ended = record { ended = refl; stops = refl }

-- ---- an accepted command

accepts_only : (next p tag lun arrival : ℕ) (flags : Flags) (r : Ruling) → (ruled next p tag lun flags r).answer ≡ Ok (answer.Accepted arrival) → r ≡ Accept
accepts_only next p tag lun arrival flags (Refuse n) e = unlike refl e
accepts_only next p tag lun arrival flags (Respond code sender) e = unlike refl e
accepts_only next p tag lun arrival flags (Report status sense sender queue) e = unlike refl e
accepts_only next p tag lun arrival flags (Invalid sender) e = unlike refl e
accepts_only next p tag lun arrival flags Accept e = refl

abbrev WholeBlock : List ℕ → Type 0
WholeBlock m = (cut_short m ≡ false) × (no_block m ≡ false)

message_whole : (t : Table) (m : List ℕ) (n arrival : ℕ) → (message_of t m n).answer ≡ Ok (answer.Accepted arrival) → WholeBlock m
unfolding plan_at lookup_of
message_whole t m n arrival =
    each_message (λ (o : Outcome). o.answer ≡ Ok (answer.Accepted arrival) → WholeBlock m) t (λ _. unlike refl) m (λ path tag w _ _. asked (path_of t path) tag w) n
  where
    asked : (p tag : ℕ) (w : Request) → (plan_at t m p tag w).answer ≡ Ok (answer.Accepted arrival) → WholeBlock m
    asked p tag (Command lun flags) e = accept_is_whole t p tag lun flags m (accepts_only t.next p tag lun arrival flags _ e)
    asked p tag (Manage o) e = unlike refl (sym (order_answer _ _ p tag m o) ∙ e)
    asked p tag (Confirm offset complete) e =
        each_confirm (λ (pl : Plan). pl.answer ≡ Ok (answer.Accepted arrival) → WholeBlock m) (pick_of t (named p tag)) p tag m offset complete (unlike refl) (unlike refl)
        (λ _ _ _. unlike refl) (λ _ _ _ _. unlike refl) e

long_enough : (m : List ℕ) → cut_short m ≡ false → 16 + block_length m ≤ length m
unfolding cut_short
long_enough m e = ltb-false _ _ (second (ltb (length m) 17) _ e)
  where
    second : (b c : Bool) → (b || c) ≡ false → c ≡ false
    second true c h = absurd (never refl h)
    second false c h = h

whole_length : (m : List ℕ) → cut_short m ≡ false → length (block_of m) ≡ block_length m
unfolding block_of
whole_length m e =
    let l = long_enough m e in
    let k : block_length m ≤ length (drop 16 m) = rw (length-drop 16 m) (omega arith) in
    rw e (length-take-le _ _ k)

pub accepted_is_whole : AcceptedIsWhole
unfolding handed_over
accepted_is_whole t m buf o left arrival x e =
    let w = message_whole t m (length buf) arrival (sym (ap (λ (q : Outcome). q.answer) x.outcome) ∙ e) in
    (w.0, w.1, rw e (whole_length m w.0))

-- ---- a start

pub starts_next : StartsNext
unfolding choice_on pick_of
starts_next t unit offset arrival o e h =
    rw e (each_start (λ (o : Outcome). o.answer ≡ Ok (answer.Started offset arrival) → Goes t unit offset arrival o.table) t (λ _. unlike refl) unit
    (λ _ _ p found x. record {
      pick = p;
      next = subst (Next t.live (may_go (unit_at t unit).aca unit) t.tasks (length t.tasks)) found (scan_is_next t.live (may_go (unit_at t unit).aca unit) t.tasks);
      number = cc;
      offset_named = cc;
      runs = refl;
    })
    (rw e at h))
