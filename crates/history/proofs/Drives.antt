-- The seven wrong drives do not meet demand 3, each by a short trace, computed; and of the drives that echo those
-- break it that go on answering, and those meet it that refuse. Assumes nothing.
use Rattle.std.specs.Prelude.{Result, Err}
use Prim.Native.Nat.{ℕ, ◌<◌, ◌≤◌, ◌^◌}
use mathlib.Core.Path.{◌≡◌, refl, sym, ap, subst, ◌∙◌}
use mathlib.Core.List.{◌++◌, List, [], ◌∷◌}
use native.Mathlib.Omega.{arith}
use lib.Count.{ones}
use Rattle.wire.specs.Codes
use Rattle.wire.specs.declared.codes.Refusal.{Refusal}
use Rattle.table.specs.declared.Table.{Table}
use Rattle.engine.specs.Calls.{setup_of}
use Rattle.plan.specs.declared.Answer.{Answer}
use Rattle.engine.specs.declared.Outcome.{Outcome}
use Rattle.history.specs.Trace.{Event, Start, Finish, TotalReset, Told}
use Rattle.history.specs.Demand.{Call, told, Chained, last_table, Agrees, Demand3}
use Rattle.history.specs.Drives.{Drive, calls_of, ByDrive, engine, ended_by_tag, goes_by_tag, numbers_anew, finishes_all, loses_tasks, ends_at_finish, completes_all, invents_live, WrongDrives, Remembering, calls_by, Meets, Echoes, open_after, Echoing}
use Rattle.history.specs.TwoHosts.{hosts, fresh, buffer, command, confirmable, confirms, abort}
use Rattle.history.proofs.Computing.{computing}
use Rattle.history.proofs.Demand.{as_engine, refusing, WorksOrRefuses, works_or_refuses}

-- a drive's calls are what the drive hands back
chained : (drive : Drive) (t : Table) (evs : List Event) → Chained (ByDrive drive) t (calls_of drive t evs)
unfolding calls_of
chained drive t [] = tt
chained drive t (ev ∷ evs) = (refl, chained drive (drive ev t).table evs)

-- what demand 3 would say of a drive's calls after a setup with two hosts, unit 0 alone and first arrival number 1
attempt : (drive : Drive) → Demand3 (ByDrive drive) → (evs : List Event) → Agrees hosts (told (calls_of drive fresh evs)) (last_table fresh (calls_of drive fresh evs))
unfolding computing
attempt drive d evs = d hosts 0x01 1 (setup_of hosts 0x01 1) (calls_of drive fresh evs) (omega arith) refl (chained drive fresh evs)

-- INQUIRY from a host with a tag, which is accepted while the attention of setup's reset is pending
abbrev inquire : List ℕ
inquire = 0x12 ∷ 0 ∷ 0 ∷ 0 ∷ 0x24 ∷ 0 ∷ []

abbrev inquiry : ℕ → ℕ → Event
inquiry host tag = command host tag inquire

-- the device finishes a command, with status GOOD
abbrev finish : ℕ → Event
finish arrival = Finish arrival Codes.good Codes.no_sense 0 buffer

pub wrong_drives : WrongDrives
unfolding computing ended_by_tag goes_by_tag numbers_anew finishes_all loses_tasks ends_at_finish completes_all invents_live
wrong_drives = record {
  -- host 1 aborts its own command; host 2's with the same tag is accepted, not ended and not live
  not_by_tag = λ d.
      let z : ◌≡◌ {A = ℕ} 1 0 = (attempt goes_by_tag d (inquiry 1 5 ∷ inquiry 2 5 ∷ abort 1 6 5 ∷ [])).balance 1 in
      omega arith;
  -- total reset ends host 1's command, and the finish of host 2's, which has the same arrival number, ends it again
  not_numbers_anew = λ d.
      let z : 2 ≤ 1 = (attempt numbers_anew d (inquiry 1 5 ∷ Start 0 ∷ TotalReset ∷ inquiry 2 5 ∷ Start 0 ∷ finish 1 ∷ [])).once 0 _ refl in
      omega arith;
  -- the command is aborted while it waits, and the late finish ends it again
  not_finishes_all = λ d.
      let z : 2 ≤ 1 = (attempt finishes_all d (inquiry 1 5 ∷ abort 1 6 5 ∷ finish 1 ∷ [])).once 0 _ refl in
      omega arith;
  -- the command is accepted, not ended and not live
  not_loses = λ d.
      let z : ◌≡◌ {A = ℕ} 1 0 = (attempt loses_tasks d (inquiry 1 5 ∷ Start 0 ∷ [])).balance 0 in
      omega arith;
  -- the command has CONFIRM and is finished: it is accepted, not ended and not live
  not_at_finish = λ d.
      let z : ◌≡◌ {A = ℕ} 1 0 = (attempt ends_at_finish d (confirmable 1 5 inquire ∷ Start 0 ∷ finish 1 ∷ [])).balance 0 in
      omega arith;
  -- the host asks with COMPLETE clear for its command to be started again: it is accepted, not ended and not live
  not_completes_all = λ d.
      let z : ◌≡◌ {A = ℕ} 1 0 = (attempt completes_all d (confirmable 1 5 inquire ∷ Start 0 ∷ finish 1 ∷ confirms 0x00 1 5 ∷ [])).balance 0 in
      omega arith;
  -- one command is accepted and not ended, and 64 records of the path at 0 are said to be live
  not_invents = λ d.
      let z : ◌≡◌ {A = ℕ} 1 64 = (attempt invents_live d (inquiry 1 5 ∷ [])).balance 0 in
      omega arith;
}

-- ---- drives that work at the first call and afterwards only echo

-- the first call of such a drive and a second one: what was told, and the last table
module _ (d : Remembering) (E : Echoes d) (ev ev' : Event) (t : Table) where
  abbrev first : Outcome
  first = engine ev t

  abbrev first_told : Told
  first_told = record { event = ev; answer = first.answer }

  abbrev two : List Call
  two = calls_by d [] t (ev ∷ ev' ∷ [])

  told_two : told two ≡ first_told ∷ record { event = ev'; answer = (d (first_told ∷ []) ev' first.table).answer } ∷ []
  unfolding calls_by
  told_two = rw (E.works ev t)

  last_two : last_table t two ≡ first.table
  unfolding calls_by last_table
  last_two = rw (E.works ev t) (E.echo first_told [] ev' first.table)

-- such a drive that answers as the engine would accepts two commands, and one is live
echo_breaks : (d : Remembering) → Echoes d → ((x : Told) (h : List Told) (ev : Event) (t : Table) → (d (x ∷ h) ev t).answer ≡ (engine ev t).answer) → Meets d → ⊥
unfolding computing
echo_breaks d E answers m =
    let ev : Event = inquiry 1 5 in
    let ev' : Event = inquiry 1 6 in
    let h : List Told = first_told d E ev ev' fresh ∷ record { event = ev'; answer = (engine ev' (engine ev fresh).table).answer } ∷ [] in
    let same : told (calls_by d [] fresh (ev ∷ ev' ∷ [])) ≡ h =
    told_two d E ev ev' fresh ∙ ap (λ (a : Result Answer Refusal). first_told d E ev ev' fresh ∷ record { event = ev'; answer = a } ∷ []) (answers _ [] ev' (engine ev fresh).table) in
    let agreed : Agrees hosts h (engine ev fresh).table =
    subst (Agrees hosts h) (last_two d E ev ev' fresh)
    (subst (λ (h : List Told). Agrees hosts h (last_table fresh (calls_by d [] fresh (ev ∷ ev' ∷ [])))) same (m hosts 0x01 1 (ev ∷ ev' ∷ []) (omega arith))) in
    let z : ◌≡◌ {A = ℕ} 2 1 = agreed.balance 0 in
    omega arith

-- after the first call the table stays, so the number of live records does
module _ (d : Remembering) (E : Echoes d) where
  echo_last : (x : Told) (h : List Told) (t : Table) (evs : List Event) → last_table t (calls_by d (x ∷ h) t evs) ≡ t
  unfolding calls_by last_table
  echo_last x h t [] = refl
  echo_last x h t (ev ∷ evs) = echo_last x (h ++ record { event = ev; answer = (d (x ∷ h) ev t).answer } ∷ []) (d (x ∷ h) ev t).table evs ∙ E.echo x h ev t

  first_last : (t : Table) (ev : Event) (evs : List Event) → last_table t (calls_by d [] t (ev ∷ evs)) ≡ (d [] ev t).table
  unfolding calls_by last_table
  first_last t ev evs = echo_last _ [] (d [] ev t).table evs

  echo_miscounts : (ids : List ℕ) (attached first : ℕ) (ev : Event) (rest more : List Event) → first < 2 ^ 64
      → (open_after d ids (setup_of ids attached first).table (ev ∷ rest) ≡ open_after d ids (setup_of ids attached first).table (ev ∷ more) → ⊥) → Meets d → ⊥
  echo_miscounts ids attached first ev rest more l differ m =
      let t : Table = (setup_of ids attached first).table in
      differ
      (sym (m ids attached first (ev ∷ rest) l).live_count
      ∙ ap (λ (u : Table). ones u.live) (first_last t ev rest ∙ sym (first_last t ev more))
      ∙ (m ids attached first (ev ∷ more) l).live_count)

module _ (d : Remembering) (E : Echoes d) (R : (x : Told) (h : List Told) (ev : Event) (t : Table) → (n : Refusal) × ((d (x ∷ h) ev t).answer ≡ Err n)) where
  later : (x : Told) (h : List Told) (t : Table) (evs : List Event) → Chained WorksOrRefuses t (calls_by d (x ∷ h) t evs)
  unfolding calls_by
  later x h t [] = tt
  later x h t (ev ∷ evs) =
      let r = R x h ev t in
      (refusing r.0 r.1 (E.echo x h ev t), later x (h ++ record { event = ev; answer = (d (x ∷ h) ev t).answer } ∷ []) (d (x ∷ h) ev t).table evs)

  from_first : (t : Table) (evs : List Event) → Chained WorksOrRefuses t (calls_by d [] t evs)
  unfolding calls_by
  from_first t [] = tt
  from_first t (ev ∷ evs) = (as_engine (E.works ev t), later _ [] (d [] ev t).table evs)

  echo_meets : Meets d
  echo_meets ids attached first evs l =
      works_or_refuses ids attached first (setup_of ids attached first) (calls_by d [] (setup_of ids attached first).table evs) l refl (from_first _ evs)

pub echoing : Echoing
echoing = record { breaks = echo_breaks; miscounts = echo_miscounts; meets = echo_meets }
