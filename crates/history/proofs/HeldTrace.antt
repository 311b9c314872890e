-- M-103 on the trace alone: behind a command that is answered STATUS 02h on an attached unit, each number that a start of
-- the unit answers was given to an ACA command of the same path. The premises can be met. Assumes nothing.
use Rattle.std.specs.Prelude.{Ok}
use Prim.Native.Nat.{ℕ, zero, suc, ◌<◌, ◌^◌}
use mathlib.Core.Path.{◌≡◌, refl, sym, ap, subst, ◌∙◌}
use mathlib.Core.Bool.{true, false}
use mathlib.Core.List.{List, [], ◌∷◌, ◌++◌}
use mathlib.Core.Logic.{inl, inr}
use mathlib.Core.Option.{some, none-ne-some}
use native.Mathlib.Omega.{arith}
use lib.ListN.{length, take, drop, take-append-drop}
use Rattle.wire.specs.Codes
use Rattle.wire.specs.Messages.{read_of}
use Rattle.wire.specs.declared.message.Flags.{Flags}
use Rattle.task.specs.Tasks.{is_aca}
use Rattle.task.specs.declared.Task.{Task}
use Rattle.task.proofs.Ways.{either_way, never}
use Rattle.table.specs.Tables.{path_of, is_attached, bit_of}
use Rattle.table.specs.Setup.{bad_list, fresh_table, setup_table}
use Rattle.table.specs.declared.Table.{Table}
use Rattle.sound.specs.Promises.{Good}
use Rattle.plan.specs.Plans.{asking, asked_in}
use Rattle.plan.specs.declared.Request.TheVariants.{Command}
use Rattle.engine.specs.Calls.{message_of, setup_of, SetupContract}
use Rattle.engine.specs.Holding.{CommandCall, rule_for, says02, held_by}
use Rattle.engine.specs.declared.Outcome.{Outcome}
use Rattle.engine.proofs.Outcomes.{one_asked, each_message}
use Rattle.engine.proofs.Holding.{holds_queue_law}
use Rattle.history.specs.Trace.{Event, Message, nth}
use Rattle.history.specs.Demand.{Call, told, Contract, Engine, Chained, last_table, waiting}
use Rattle.history.specs.Drives.{engine, calls_of}
use Rattle.history.specs.Ended.{Lists, Made}
use Rattle.history.specs.TwoHosts.{hosts, fresh, buffer}
use Rattle.history.specs.Held.{NoneReleases, given, AcaTask, StaysHeld, BadOnTrace, GivenToAca, HeldOnTrace, in_front, waiting_table, bad_outcome, bad_bytes, events_behind, calls_behind, SomeAreHeld}
use Rattle.history.proofs.Nth.{same_element}
use Rattle.history.proofs.Calls.{place}
use Rattle.history.proofs.Computing.{computing}
use Rattle.history.proofs.Demand.{tied_fresh, as_drive, demand_three, meets_contract, engine_chains, after_refused_setup}
use Rattle.history.proofs.Ended.{done_by_law}
use Rattle.history.proofs.Held.{lists_after, good_after, bad_command_holds, queue_is_held}

-- ---- a chain of calls in two parts

module _ (C : Contract) where
  front : (t : Table) (xs ys : List Call) → Chained C t (xs ++ ys) → Chained C t xs
  front t [] ys chain = tt
  front t (x ∷ xs) ys chain = (chain.0, front x.outcome.table xs ys chain.1)

  back : (t : Table) (xs ys : List Call) → Chained C t (xs ++ ys) → Chained C (last_table t xs) ys
  unfolding last_table
  back t [] ys chain = chain
  back t (x ∷ xs) ys chain = back x.outcome.table xs ys chain.1

last_two : (t : Table) (xs ys : List Call) → last_table t (xs ++ ys) ≡ last_table (last_table t xs) ys
unfolding last_table
last_two t [] ys = refl
last_two t (x ∷ xs) ys = last_two x.outcome.table xs ys

-- the table that call k was given is the one that those before it left
given_last : (t : Table) (cs : List Call) (k : ℕ) → given t cs k ≡ last_table t (take k cs)
unfolding given last_table
given_last t [] zero = refl
given_last t [] (suc k) = refl
given_last t (c ∷ cs) zero = refl
given_last t (c ∷ cs) (suc k) = given_last c.outcome.table cs k

nth_between : {A : Type 0} (xs : List A) (y : A) (zs : List A) → nth (xs ++ (y ∷ zs)) (length xs) ≡ some y
unfolding nth
nth_between [] y zs = refl
nth_between (x ∷ xs) y zs = nth_between xs y zs

-- ---- along a chain of the engine's calls

-- the table is sound, its path list is setup's, and its attached units are setup's
record Steady (ids : List ℕ) (attached : ℕ) (t : Table) : Type 0 where
  good : Good t
  names : Lists ids t
  same : t.attached ≡ attached

module _ (ids : List ℕ) (attached : ℕ) where
  steady_after : (ev : Event) (t : Table) (o : Outcome) (left : List ℕ) → Steady ids attached t → Engine ev t o left → Steady ids attached o.table
  steady_after ev t o left s c =
      let made : Made Engine ev t o left = record { good = s.good; call = c } in
      record {
        good = rw (as_drive ev t o left c) (good_after ev t s.good);
        names = lists_after ids ev t o left s.names made;
        same = (done_by_law ids ev t o left s.names made).attached ∙ s.same;
      }

  steady_along : (t : Table) (cs : List Call) → Steady ids attached t → Chained Engine t cs → Steady ids attached (last_table t cs)
  unfolding last_table
  steady_along t [] s chain = s
  steady_along t (c ∷ cs) s chain = steady_along c.outcome.table cs (steady_after c.event t c.outcome c.left s chain.0) chain.1

joined : (t : Table) (xs ys : List Call) → Chained Engine t xs → Chained Engine (last_table t xs) ys → Chained Engine t (xs ++ ys)
unfolding last_table
joined t [] ys a b = b
joined t (x ∷ xs) ys a b = (a.0, joined x.outcome.table xs ys a.1 b)

-- after a setup that was not refused
steady_fresh : (ids : List ℕ) (attached first : ℕ) → first < 2 ^ 64 → bad_list ids ≡ false → Steady ids attached (setup_of ids attached first).table
unfolding setup_of setup_table fresh_table
steady_fresh ids attached first l b =
    let t = tied_fresh ids attached first l b in
    record { good = t.good; names = record { count = t.listed; each = t.ids_stand }; same = rw b refl }

-- ---- a command that is answered by a STATUS is from a listed path

listed_sender : (t : Table) (m : List ℕ) (n path tag lun : ℕ) (flags : Flags) → asked_in (read_of m) ≡ Ok (asking path tag (Command lun flags)) → says02 (message_of t m n).answer ≡ true
    → path_of t path < 8
listed_sender t m n path tag lun flags e =
    each_message (λ (o : Outcome). says02 o.answer ≡ true → path_of t path < 8) t (λ _ h. absurd (never h refl)) m
    (λ path2 tag2 w f l _.
    let same = one_asked path tag path2 tag2 (Command lun flags) w f e in
    rw same.0 at l)
    n

-- ---- the theorem

module _ (ids : List ℕ) (attached first : ℕ) (o : Outcome) (cs : List Call) (c : Call) (ds : List Call) (p lun : ℕ) (lf : first < 2 ^ 64) (lb : attached < 2 ^ 8)
    (made : SetupContract ids attached first o) (chain : Chained Engine o.table (cs ++ (c ∷ ds))) (bad : BadOnTrace ids attached c p lun) where
  -- after a refused setup the command is refused too
  not_refused : bad_list ids ≡ true → ⊥
  unfolding setup_of
  not_refused b =
      let r = after_refused_setup ids attached first o Codes.bad_paths (cs ++ (c ∷ ds)) made (ap (λ (x : Outcome). x.answer) made ∙ rw b) chain in
      never bad.says (ap says02 (r.refused (length cs) c (nth_between cs c ds)))

  module _ (b : bad_list ids ≡ false) where
    -- the table that the command is given, and the one behind it
    abbrev t : Table
    t = last_table o.table cs

    abbrev u : Table
    u = c.outcome.table

    steady : Steady ids attached t
    steady = steady_along ids attached o.table cs (rw made (steady_fresh ids attached first lf b)) (front Engine o.table cs (c ∷ ds) chain)

    behind : Chained Engine t (c ∷ ds)
    behind = back Engine o.table cs (c ∷ ds) chain

    call : CommandCall t bad.m bad.buf c.outcome c.left bad.path bad.tag lun bad.flags
    call = record {
      good = steady.good;
      byte = rw steady.same lb;
      call = subst (λ (ev : Event). Engine ev t c.outcome c.left) bad.event behind.0;
      asks = bad.asks;
    }

    held : held_by (rule_for t bad.m bad.path bad.tag lun bad.flags) c.outcome.answer ≡ true
    held =
        let there : is_attached t lun ≡ true = ap (λ (n : ℕ). bit_of n lun) steady.same ∙ bad.there in
        let rule = (holds_queue_law t bad.m bad.buf c.outcome c.left bad.path bad.tag lun bad.flags call).attached bad.says in
        rw (rule ∙ there, bad.says)

    sender : path_of t bad.path ≡ p
    sender =
        let l = listed_sender t bad.m (length bad.buf) bad.path bad.tag lun bad.flags bad.asks (sym (ap (λ (x : Outcome). says02 x.answer) call.call.outcome) ∙ bad.says) in
        sym (place ids t steady.good steady.names.count steady.names.each bad.path l) ∙ bad.sender

    module _ (free : NoneReleases ids p lun ds) where
      stays : StaysHeld u ds p lun
      stays =
          subst (λ (q : ℕ). StaysHeld u ds q lun) sender
          ((bad_command_holds ids t bad.m bad.buf c.outcome c.left bad.path bad.tag lun bad.flags steady.names call held).behind ds behind.1
          (subst (λ (q : ℕ). NoneReleases ids q lun ds) (sym sender) free))

      -- the calls before call k behind the command
      abbrev before : ℕ → List Call
      before k = cs ++ (c ∷ take k ds)

      chained_before : (k : ℕ) → Chained Engine o.table (before k)
      chained_before k =
          joined o.table cs (c ∷ take k ds) (front Engine o.table cs (c ∷ ds) chain)
          (behind.0, front Engine u (take k ds) (drop k ds) (rw (take-append-drop k ds) behind.1))

      table_before : (k : ℕ) → given u ds k ≡ last_table o.table (before k)
      unfolding last_table
      table_before k = given_last u ds k ∙ sym (last_two o.table cs (c ∷ take k ds))

      given_to : (k n i : ℕ) (a : Task) → AcaTask (given u ds k) p lun i a → a.arrival ≡ n → GivenToAca ids (told (before k)) n p lun
      given_to k n i a x e =
          let agreed = demand_three ids attached first o (before k) lf made (chained_before k) in
          let r = agreed.no_other i a x.below (rw (table_before k) at x.here) in
          let came = agreed.came r.0 r.1 r.2 in
          let same : r.1.task ≡ a = r.4 in
          record {
            event = r.1.accepted;
            cause = came.cause;
            task = waiting r.1.task;
            there = came.there;
            effect = came.effect;
            number = ap (λ (b : Task). b.arrival) same ∙ e;
            kind = ap (λ (b : Task). is_aca b.kind) same ∙ x.kind;
            whose = ap (λ (b : Task). b.path) same ∙ x.owner;
            where_to = ap (λ (b : Task). b.unit) same ∙ x.there;
          }

pub held_on_trace : HeldOnTrace
held_on_trace ids attached first o cs c ds p lun lf lb made chain bad free k d offset n e s h = elim (either_way (bad_list ids)) [
  | inl b ↦ absurd (not_refused ids attached first o cs c ds p lun lf lb made chain bad b)
  | inr b ↦
      let r = (stays ids attached first o cs c ds p lun lf lb made chain bad b free).starts k d offset n e s h in
      given_to ids attached first o cs c ds p lun lf lb made chain bad b free k n r.0 r.1 r.2 r.3
]

-- ---- the premises can be met

pub some_are_held : SomeAreHeld
unfolding computing in_front events_behind
some_are_held = record {
  call = record { good = steady.good; byte = omega arith; call = meets_contract (Message bad_bytes buffer) waiting_table; asks = refl };
  bad = refl;
  free = free;
  stays = queue_is_held hosts bad_outcome.table calls_behind 0 0 after.good after.names (engine_chains bad_outcome.table events_behind) refl free;
  answers = refl;
  cleared = refl;
}
  where
    steady : Steady hosts 0x01 waiting_table
    steady = steady_along hosts 0x01 fresh (calls_of engine fresh in_front) (steady_fresh hosts 0x01 1 (omega arith) refl) (engine_chains fresh in_front)

    after : Steady hosts 0x01 bad_outcome.table
    after = steady_after hosts 0x01 (Message bad_bytes buffer) waiting_table bad_outcome _ steady (meets_contract (Message bad_bytes buffer) waiting_table)

    free : NoneReleases hosts 0 0 calls_behind
    free zero c e = rw (← same_element refl e) refl
    free (suc zero) c e = rw (← same_element refl e) refl
    free (suc (suc zero)) c e = rw (← same_element refl e) refl
    free (suc (suc (suc zero))) c e = rw (← same_element refl e) refl
    free (suc (suc (suc (suc zero)))) c e = rw (← same_element refl e) refl
    free (suc (suc (suc (suc (suc zero))))) c e = rw (← same_element refl e) refl
    free (suc (suc (suc (suc (suc (suc zero)))))) c e = rw (← same_element refl e) refl
    free (suc (suc (suc (suc (suc (suc (suc k))))))) c e = absurd (none-ne-some c e)
