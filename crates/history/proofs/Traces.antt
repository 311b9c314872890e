-- What holds of the ledger of any trace, with no table and no contract: each entry and each ending has its event,
-- each accepted command has its entry, and whose commands a message ends. Assumes nothing.
use Rattle.std.specs.Prelude.{Result, Ok, Err}
use Prim.Native.Nat.{ℕ, zero, suc, ◌+◌, ◌<◌}
use mathlib.Core.Path.{◌≡◌, refl, sym, ap, subst, ◌∙◌}
use mathlib.Core.Bool.{Bool, true, false}
use mathlib.Core.List.{List, [], ◌∷◌, map}
use mathlib.Core.Option.{Option, none, some, none-ne-some}
use mathlib.Core.Logic.{inl, inr}
use native.Mathlib.Nat.{add-zero, zero-add, add-suc, suc-add}
use native.Mathlib.Omega.{arith}
use lib.Dec.{eqb}
use lib.ListN.{length}
use borrow.Author.Tests.{eqb-true}
use Rattle.wire.specs.Codes
use Rattle.wire.specs.Messages.{read_of}
use Rattle.wire.specs.declared.codes.Refusal.{Refusal}
use Rattle.wire.specs.declared.codes.ReturnCode.{ReturnCode}
use Rattle.wire.specs.declared.codes.StatusByte.{StatusByte}
use Rattle.wire.specs.declared.codes.Sense.{Sense}
use Rattle.reply.specs.declared.Reply.{Reply}
use Rattle.reply.specs.declared.Reply.TheVariants as reply
use Rattle.task.specs.Tasks.{accepted_as}
use Rattle.task.specs.Selections.{picks, numbered_as}
use Rattle.wire.specs.declared.codes.Kind.{Kind}
use Rattle.task.specs.declared.Sequel.{Sequel}
use Rattle.task.specs.declared.Task.{Task}
use Rattle.task.specs.declared.select.Selection.{Selection}
use Rattle.wire.proofs.Table.{cond_ind}
use Rattle.task.proofs.Ways.{never, both}
use Rattle.task.proofs.Places.{below_suc}
use Rattle.task.proofs.Selecting.{meets}
use Rattle.rules.specs.Management.{ends_of}
use Rattle.plan.specs.Plans.{asking, asked_in, sequel_of, reply_of}
use Rattle.rules.specs.declared.manage.Order.{Order}
use Rattle.rules.specs.declared.manage.Order.TheVariants.{AbortTask, AbortTaskSet, ClearTaskSet, ClearAca, UnitReset, TargetReset}
use Rattle.plan.specs.declared.Request.{Request}
use Rattle.plan.specs.declared.Request.TheVariants.{Command, Manage, Confirm}
use Rattle.plan.specs.declared.Asked.{Asked}
use Rattle.plan.specs.declared.Answer.{Answer}
use Rattle.plan.specs.declared.Answer.TheVariants as answer
use Rattle.history.specs.Trace.{Event, Message, Start, Finish, TotalReset, Told, nth, event_numbered, Label, by_status, by_order, Effect, Nothing, Accepts, Restarts, Ends, Fate, stays, becomes, ended, fate_of, place_in, command_effect, order_replied, order_effect, confirm_effect, request_effect, message_effect, start_effect, finish_replied, reset_effect, effect_of, effect_told}
use Rattle.history.specs.Ledger.{Ending, Entry, is_empty, new_entry, after_effect, new_entries, noted, ledger_from, ledger, Has}
use Rattle.history.specs.Demand.{EntryAt, waiting, Came, Caused, reaches_others, may_reach_others, EndsItsOwn}
use Rattle.history.proofs.Nth.{Each, same_element, nth_below, nth_append, nth_last, nth_map, each_none, each_one, each_append, each_map}
use Rattle.history.proofs.Fates.{effect_ways, taken, new_entries_ways}

-- ---- what an event can do, by its answer

-- a fact about every answer, from each sort of answer; and about every reply that an answer may be
each_answer : (P : Result Answer Refusal → Type 0) → P (Ok answer.Ready) → ((n : ℕ) → P (Ok (answer.Accepted n))) → ((r : Reply) → P (Ok (answer.Reply r))) → ((o n : ℕ) → P (Ok (answer.Started o n)))
    → ((n : ℕ) → P (Ok (answer.Confirmed n))) → ((n : ℕ) → P (Ok (answer.Restarted n))) → P (Ok answer.Reset) → ((n : Refusal) → P (Err n)) → (a : Result Answer Refusal) → P a
each_answer P ready accepted replied started confirmed restarted reset refused (Ok answer.Ready) = ready
each_answer P ready accepted replied started confirmed restarted reset refused (Ok (answer.Accepted n)) = accepted n
each_answer P ready accepted replied started confirmed restarted reset refused (Ok (answer.Reply r)) = replied r
each_answer P ready accepted replied started confirmed restarted reset refused (Ok (answer.Started o n)) = started o n
each_answer P ready accepted replied started confirmed restarted reset refused (Ok (answer.Confirmed n)) = confirmed n
each_answer P ready accepted replied started confirmed restarted reset refused (Ok (answer.Restarted n)) = restarted n
each_answer P ready accepted replied started confirmed restarted reset refused (Ok answer.Reset) = reset
each_answer P ready accepted replied started confirmed restarted reset refused (Err n) = refused n

each_reply : (P : Option Reply → Type 0) → P none → ((t : ℕ) (code : ReturnCode) → P (some (reply.Response t code)))
    → ((t : ℕ) (status : StatusByte) (sense : Sense) → P (some (reply.Status t status sense))) → ((t : ℕ) → P (some (reply.Invalid t))) → (x : Option Reply) → P x
each_reply P nothing response status invalid none = nothing
each_reply P nothing response status invalid (some (reply.Response t code)) = response t code
each_reply P nothing response status invalid (some (reply.Status t s sense)) = status t s sense
each_reply P nothing response status invalid (some (reply.Invalid t)) = invalid t

module _ (P : Effect → Type 0) (nothing : P Nothing) where
  -- a command is accepted, and then waits
  command_can : (p tag lun : ℕ) (kind : Kind) (sequel : Sequel) → ((n : ℕ) → P (Accepts (accepted_as n p tag lun kind sequel)))
      → (a : Result Answer Refusal) → P (command_effect p tag lun kind sequel a)
  command_can p tag lun kind sequel accepts =
      each_answer (λ a. P (command_effect p tag lun kind sequel a)) nothing accepts (λ _. nothing) (λ _ _. nothing) (λ _. nothing) (λ _. nothing) nothing (λ _. nothing)

  -- an order ends what it selects
  order_can : (p : ℕ) (o : Order) → P (Ends (ends_of p o) (by_order o)) → (a : Result Answer Refusal) → P (order_effect p o a)
  order_can p o ends a =
      each_reply (λ x. P (order_replied p o x)) nothing
      (λ t code. cond_ind P (eqb code.0 (Codes.done).0) (λ _. ends) (λ _. nothing)) (λ _ _ _. nothing) (λ _. nothing) (reply_of a)

  -- a confirmation ends a command, or has it wait again
  confirm_can : (p tag offset : ℕ) (complete : Bool) → ((n : ℕ) → P (Ends (numbered_as n p tag) by_status)) → ((n : ℕ) → P (Restarts (numbered_as n p tag) offset))
      → (a : Result Answer Refusal) → P (confirm_effect p tag offset complete a)
  confirm_can p tag offset complete ends restarts =
      each_answer (λ a. P (confirm_effect p tag offset complete a)) nothing (λ _. nothing) (λ _. nothing) (λ _ _. nothing)
      (λ n. cond_ind P complete (λ _. ends n) (λ _. nothing)) (λ n. cond_ind P complete (λ _. nothing) (λ _. restarts n)) nothing (λ _. nothing)

-- what it accepts waits
abbrev Waits : Option Task → Type 0
Waits none = Unit {0}
Waits (some a) = waiting a ≡ a

abbrev AcceptsWaiting : Effect → Type 0
AcceptsWaiting f = Waits (taken f)

request_waiting : (p tag : ℕ) (w : Request) (a : Result Answer Refusal) → AcceptsWaiting (request_effect p tag w a)
request_waiting p tag (Command lun flags) a = command_can AcceptsWaiting tt p tag lun flags.queue (sequel_of flags.confirm) (λ _. refl) a
request_waiting p tag (Manage o) a = order_can AcceptsWaiting tt p o tt a
request_waiting p tag (Confirm offset complete) a = confirm_can AcceptsWaiting tt p tag offset complete (λ _. tt) (λ _. tt) a

message_waiting : (ids : List ℕ) (q : Result Asked Refusal) (a : Result Answer Refusal) → AcceptsWaiting (message_effect ids q a)
message_waiting ids (Err n) a = tt
message_waiting ids (Ok b) a = request_waiting (place_in ids b.path) b.tag b.request a

event_waiting : (ids : List ℕ) (ev : Event) (a : Result Answer Refusal) → AcceptsWaiting (effect_of ids ev a)
event_waiting ids (Message m buf) a = message_waiting ids (asked_in (read_of m)) a
event_waiting ids (Start unit) a =
    each_answer (λ a. AcceptsWaiting (start_effect a)) tt (λ _. tt) (λ _. tt) (λ _ _. tt) (λ _. tt) (λ _. tt) tt (λ _. tt) a
event_waiting ids (Finish arrival status sense transferred buf) a =
    each_reply (λ x. AcceptsWaiting (finish_replied arrival transferred x)) tt (λ _ _. tt) (λ _ _ _. tt) (λ _. tt) (reply_of a)
event_waiting ids TotalReset a =
    each_answer (λ a. AcceptsWaiting (reset_effect a)) tt (λ _. tt) (λ _. tt) (λ _ _. tt) (λ _. tt) (λ _. tt) tt (λ _. tt) a

accepts_waiting : (ids : List ℕ) (x : Told) (a : Task) → effect_told ids x ≡ Accepts a → waiting a ≡ a
accepts_waiting ids x a f = subst AcceptsWaiting f (event_waiting ids x.event x.answer)

-- ---- what an event leaves of an entry: the command but for its phase, bytes and offset, and its acceptance

abbrev SameCommand : Entry → Entry → Type 0
SameCommand e d = (d.accepted ≡ e.accepted) × (waiting d.task ≡ waiting e.task)

effect_same : (n : ℕ) (f : Effect) (e : Entry) → SameCommand e (after_effect n f e)
effect_same n f e = effect_ways (SameCommand e) n f e (refl, refl) (λ _ _ _. (refl, refl)) (λ _ _. (refl, refl))

-- ---- event by event: what holds before the first event, and is kept by each, holds at the end of the trace

module _ (ids : List ℕ) (h : List Told) where
  abbrev pub KeptByEvents : (ℕ → List Entry → Type 0) → Type 0
  KeptByEvents P = (n : ℕ) (x : Told) (l : List Entry) → event_numbered h n ≡ some x → P n l → P (suc n) (noted n (effect_told ids x) l)

  -- rest is what the trace has from event n on
  along : (P : ℕ → List Entry → Type 0) → KeptByEvents P → (rest : List Told) (n : ℕ) (l : List Entry) → ((k : ℕ) → event_numbered h (n + k) ≡ nth rest k)
      → P n l → P (n + length rest) (ledger_from ids n l rest)
  unfolding nth ledger_from
  along P kept [] n l there p = rw add-zero p
  along P kept (x ∷ rest) n l there p =
      rw (add-suc, ← suc-add)
      (along P kept rest (suc n) (noted n (effect_told ids x) l) (λ k. rw (suc-add, ← add-suc) (there (suc k)))
      (kept n x l (rw add-zero at (there zero)) p))

  pub by_events : (P : ℕ → List Entry → Type 0) → KeptByEvents P → P 1 [] → P (1 + length h) (ledger ids h)
  unfolding event_numbered
  by_events P kept p = along P kept h 1 [] (λ k. rw (suc-add zero k, zero-add)) p

  -- ---- each entry and each ending has its event

  abbrev EachCaused : Entry → Type 0
  EachCaused e = Each (Caused ids h e) e.endings

  -- as it is before event n
  record Known (n : ℕ) (e : Entry) : Type 0 where
    before : e.accepted < n
    came : Came ids h e
    caused : EachCaused e

  known_change : {n : ℕ} {e d : Entry} → SameCommand e d → EachCaused d → Known n e → Known (suc n) d
  known_change same caused w = record {
    before = omega arith;
    came = record { cause = w.came.cause; there = ap (event_numbered h) same.0 ∙ w.came.there; effect = w.came.effect ∙ ap Accepts (sym same.1) };
    caused = caused;
  }

  known_later : {n : ℕ} {e : Entry} → Known n e → Known (suc n) e
  known_later w = known_change (refl, refl) w.caused w

  each_empty : (P : Ending → Type 0) (l : List Ending) → is_empty l ≡ true → Each P l
  each_empty P [] o = each_none P
  each_empty P (x ∷ l) o = absurd (never o refl)

  module _ (n : ℕ) (x : Told) (there : event_numbered h n ≡ some x) where
    -- an entry goes on in another way only while it has no ending; and one ending more is by event n
    known_after : (e : Entry) → Known n e → Known (suc n) (after_effect n (effect_told ids x) e)
    known_after e w =
        effect_ways (Known (suc n)) n (effect_told ids x) e (known_later w)
        (λ phase position o. known_change (refl, refl) (each_empty _ e.endings o) w)
        (λ how f.
        known_change (refl, refl)
        (each_append _ e.endings _
        (λ k y g. let c = w.caused k y g in record { after = c.after; cause = c.cause; there = c.there; effect = c.effect })
        (each_one _ _ (record { after = w.before; cause = x; there = there; effect = f }))) w)

    known_new : Each (Known (suc n)) (new_entries n (effect_told ids x))
    known_new =
        new_entries_ways (λ (_ : Option Task) (l : List Entry). Each (Known (suc n)) l) n (effect_told ids x) (each_none _)
        (λ a f.
        each_one _ (new_entry n a)
        (record {
          before = omega arith;
          came = record { cause = x; there = there; effect = f ∙ ap Accepts (sym (accepts_waiting ids x a f)) };
          caused = each_none (Caused ids h (new_entry n a));
        }))

    known_noted : (l : List Entry) → Each (Known n) l → Each (Known (suc n)) (noted n (effect_told ids x) l)
    unfolding noted
    known_noted l w =
        each_append (Known (suc n)) (map (after_effect n (effect_told ids x)) l) (new_entries n (effect_told ids x))
        (each_map (Known n) (Known (suc n)) (after_effect n (effect_told ids x)) known_after l w) known_new

  known : Each (Known (1 + length h)) (ledger ids h)
  known = by_events (λ n l. Each (Known n) l) (λ n x l there w. known_noted n x there l w) (each_none (Known 1))

  pub came_in : (k : ℕ) (e : Entry) → EntryAt ids h k e → Came ids h e
  came_in k e g = (known k e g).came

  pub caused_in : (k : ℕ) (e : Entry) (x : Ending) → EntryAt ids h k e → Has x e.endings → Caused ids h e x
  caused_in k e x g m = (known k e g).caused m.0 x m.1

-- ---- each accepted command has its entry

-- the ledger l has an entry for the command a, which event m accepted
abbrev EntryOf : ℕ → Task → List Entry → Type 0
EntryOf m a l = (k : ℕ) × (e : Entry) × (nth l k ≡ some e) × (e.accepted ≡ m) × (waiting e.task ≡ a)

entry_stays : (m : ℕ) (a : Task) (l : List Entry) → EntryOf m a l → (n : ℕ) (f : Effect) → EntryOf m a (noted n f l)
unfolding noted
entry_stays m a l r n f =
    let same = effect_same n f r.1 in
    (r.0, after_effect n f r.1, nth_append (map (after_effect n f) l) (new_entries n f) r.0 (nth_map (after_effect n f) l r.0 r.2), same.0 ∙ r.3, same.1 ∙ r.4)

entry_new : (n : ℕ) (a : Task) (l : List Entry) (f : Effect) → f ≡ Accepts a → waiting a ≡ a → EntryOf n a (noted n f l)
unfolding noted
entry_new n a l f e waits =
    subst (λ (f : Effect). EntryOf n a (noted n f l)) (sym e)
    (length (map (after_effect n (Accepts a)) l), new_entry n a, nth_last (map (after_effect n (Accepts a)) l) (new_entry n a), refl, waits)

module _ (ids : List ℕ) (h : List Told) where
  -- each event before n has entered what it accepted
  abbrev EnteredBefore : ℕ → List Entry → Type 0
  EnteredBefore n l = (m : ℕ) (x : Told) (a : Task) → m < n → event_numbered h m ≡ some x → effect_told ids x ≡ Accepts a → EntryOf m a l

  none_before : EnteredBefore 1 []
  unfolding event_numbered
  none_before zero x a b there f = absurd (none-ne-some x there)
  none_before (suc m) x a b there f = absurd (omega arith)

  entered_kept : KeptByEvents ids h EnteredBefore
  entered_kept n x l here r m y a b there f = elim (below_suc b) [
    | inl same ↦ let one : y ≡ x = cc in rw same (entry_new n a l (effect_told ids x) (rw one at f) (accepts_waiting ids y a f))
    | inr c ↦ entry_stays m a l (r m y a c there f) n (effect_told ids x)
  ]

  event_below : (n : ℕ) (x : Told) → event_numbered h n ≡ some x → n < 1 + length h
  unfolding event_numbered
  event_below zero x there = omega arith
  event_below (suc n) x there = omega (arith, nth_below h n there)

  pub entered_in : (n : ℕ) (x : Told) (a : Task) → event_numbered h n ≡ some x → effect_told ids x ≡ Accepts a
      → (k : ℕ) × (e : Entry) × EntryAt ids h k e × (e.accepted ≡ n) × (waiting e.task ≡ a)
  entered_in n x a there f = by_events ids h EnteredBefore entered_kept none_before n x a (event_below n x there) there f

-- ---- whose commands a message ends

pub own_order : (p : ℕ) (o : Order) → reaches_others o ≡ false → (a : Task) → picks (ends_of p o) a ≡ true → a.path ≡ p
own_order p (AbortTask tag2) r a e = eqb-true _ _ (both _ _ (meets _ a e).whose).0
own_order p (AbortTaskSet lun) r a e = eqb-true _ _ (meets _ a e).whose
own_order p (ClearTaskSet lun) r a e = absurd (never refl r)
own_order p (ClearAca lun) r a e = eqb-true _ _ (meets _ a e).whose
own_order p (UnitReset lun) r a e = absurd (never refl r)
own_order p TargetReset r a e = absurd (never refl r)

pub own_numbered : (n p tag : ℕ) (a : Task) → picks (numbered_as n p tag) a ≡ true → a.path ≡ p
own_numbered n p tag a e = eqb-true _ _ (both _ _ (meets _ a e).whose).0

abbrev is_ended : Fate → Bool
is_ended stays = false
is_ended (becomes a) = false
is_ended (ended how) = true

-- what it ends is from the path at p
abbrev EndsFrom : ℕ → Effect → Type 0
EndsFrom p f = (a : Task) → is_ended (fate_of f a) ≡ true → a.path ≡ p

module _ (p : ℕ) where
  from_nothing : EndsFrom p Nothing
  unfolding fate_of
  from_nothing a e = absurd (never e refl)

  from_accept : (b : Task) → EndsFrom p (Accepts b)
  unfolding fate_of
  from_accept b a e = absurd (never e refl)

  from_restart : (s : Selection) (offset : ℕ) → EndsFrom p (Restarts s offset)
  unfolding fate_of
  from_restart s offset a = cond_ind (λ (x : Fate). is_ended x ≡ true → a.path ≡ p) (picks s a) (λ _ e. absurd (never e refl)) (λ _ e. absurd (never e refl))

  from_end : (s : Selection) (how : Label) → ((a : Task) → picks s a ≡ true → a.path ≡ p) → EndsFrom p (Ends s how)
  unfolding fate_of
  from_end s how own a = cond_ind (λ (x : Fate). is_ended x ≡ true → a.path ≡ p) (picks s a) (λ y _. own a y) (λ _ e. absurd (never e refl))

own_message : (ids : List ℕ) (path tag : ℕ) (w : Request) (a : Result Answer Refusal) → may_reach_others w ≡ false
    → EndsFrom (place_in ids path) (message_effect ids (Ok (asking path tag w)) a)
own_message ids path tag (Command lun flags) a r =
    let p : ℕ = place_in ids path in
    command_can (EndsFrom p) (from_nothing p) p tag lun flags.queue (sequel_of flags.confirm) (λ n. from_accept p _) a
own_message ids path tag (Manage o) a r =
    let p : ℕ = place_in ids path in
    order_can (EndsFrom p) (from_nothing p) p o (from_end p (ends_of p o) (by_order o) (own_order p o r)) a
own_message ids path tag (Confirm offset complete) a r =
    let p : ℕ = place_in ids path in
    confirm_can (EndsFrom p) (from_nothing p) p tag offset complete
    (λ n. from_end p (numbered_as n p tag) by_status (own_numbered n p tag))
    (λ n. from_restart p (numbered_as n p tag) offset) a

pub ends_its_own : EndsItsOwn
ends_its_own ids h k e x m buf path tag w g i y there sent asked r =
    let c = caused_in ids h k e x g i in
    let f : effect_told ids c.cause ≡ message_effect ids (Ok (asking path tag w)) y.answer =
    ap (effect_told ids) (same_element c.there there)
    ∙ ap (λ (v : Event). effect_of ids v y.answer) sent
    ∙ ap (λ (q : Result Asked Refusal). message_effect ids q y.answer) asked in
    own_message ids path tag w y.answer r e.task (ap (λ (f : Effect). is_ended (fate_of f e.task)) (sym f) ∙ ap is_ended c.effect)
