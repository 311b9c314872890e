-- The drives that say wrongly what they ended: each by a call on a table that the engine's calls lead to, computed.
-- Assumes nothing.
use Prim.Native.Nat.{ℕ}
use mathlib.Core.Path.{◌≡◌, refl, sym, ap, ◌∙◌}
use mathlib.Core.Bool.{true}
use mathlib.Core.List.{List, [], ◌∷◌}
use native.Mathlib.Omega.{arith}
use lib.Dec.{eqb}
use Rattle.wire.specs.Codes
use Rattle.task.specs.Map.{gone}
use Rattle.task.specs.declared.Task.{Task}
use Rattle.task.proofs.Ways.{never}
use Rattle.task.specs.Index.{some_below}
use Rattle.table.specs.Setup.{bad_list}
use Rattle.table.specs.Tables.{task_at}
use Rattle.table.specs.Steps.{running_among}
use Rattle.table.specs.declared.Table.{Table}
use Rattle.table.proofs.Views.{not_both}
use Rattle.rules.specs.declared.manage.Order.TheVariants.{ClearTaskSet}
use Rattle.plan.specs.Plans.{reply_of}
use Rattle.history.specs.Trace.{Event, Message, Start, Finish, by_order}
use Rattle.history.specs.Demand.{last_table}
use Rattle.history.specs.Drives.{Drive, calls_of, ByDrive, engine}
use Rattle.history.specs.Ended.{Made, fate_by}
use Rattle.history.specs.Sayings.{counts_confirmed, stops_at_finish, names_own_alone, names_accepted, WrongSayings}
use Rattle.history.specs.TwoHosts.{hosts, fresh, buffer, command, confirmable}
use Rattle.history.proofs.Nth.{same_element}
use Rattle.history.proofs.Computing.{computing}
use Rattle.history.proofs.Demand.{tied_fresh}
use Rattle.history.proofs.Ended.{is_ended, finish_named, engine_says}
use Rattle.history.proofs.Summed.{Fitting, fitting_along}

-- the table after some of the engine's calls
abbrev after : List Event → Table
after evs = last_table fresh (calls_of engine fresh evs)

-- it is sound and has the hosts' ids
fits : (evs : List Event) → Fitting hosts (after evs)
unfolding bad_list some_below
fits evs =
    let T = tied_fresh hosts 0x01 1 (omega arith) refl in
    fitting_along hosts fresh evs (record { good = T.good; lists = record { count = T.listed; each = T.ids_stand } })

-- a call of a drive on it
made : (drive : Drive) (evs : List Event) (ev : Event) → Made (ByDrive drive) ev (after evs) (drive ev (after evs)) []
made drive evs ev = record { good = (fits evs).good; call = refl }

abbrev inquire : List ℕ
inquire = 0x12 ∷ 0 ∷ 0 ∷ 0 ∷ 0x24 ∷ 0 ∷ []

abbrev finish : Event
finish = Finish 1 Codes.good Codes.no_sense 0 buffer

-- CLEAR TASK SET of unit 0 from host 1
abbrev clears : Event
clears = Message (0x83 ∷ 0x32 ∷ 0 ∷ 9 ∷ 0 ∷ 0 ∷ 1 ∷ 1 ∷ 0 ∷ []) buffer

pub wrong_sayings : WrongSayings
unfolding computing gone running_among counts_confirmed stops_at_finish names_own_alone names_accepted
wrong_sayings = record {
  engine_says = engine_says;
  -- host 1's command has CONFIRM and is finished: its bit is set, and it goes on
  not_confirmed = λ d.
      let evs : List Event = confirmable 1 5 inquire ∷ Start 0 ∷ [] in
      let t : Table = after evs in
      let f = d.ended.set hosts finish t (counts_confirmed finish t) [] (fits evs).lists (made counts_confirmed evs finish) 0 refl in
      let same : f.1 ≡ task_at t 0 = sym (same_element refl f.3) in
      never (sym (ap (λ (a : Task). is_ended (fate_by hosts finish (counts_confirmed finish t) a)) same) ∙ ap is_ended f.4) refl;
  -- the unit is to stop, and the task that ran there is the one that was finished
  not_at_finish = λ d.
      let evs : List Event = command 1 5 inquire ∷ Start 0 ∷ [] in
      let t : Table = after evs in
      let s = d.stops.set finish t (stops_at_finish finish t) [] (made stops_at_finish evs finish) 0 refl in
      let f = d.ended.set hosts finish t (stops_at_finish finish t) [] (fits evs).lists (made stops_at_finish evs finish) s.1 s.3.in_ended in
      let same : f.1 ≡ s.2 = same_element f.3 s.3.here in
      let named : eqb f.1.arrival 1 ≡ true = finish_named 1 0 (reply_of (stops_at_finish finish t).answer) f.1 f.2 f.4 in
      never (ap (λ (a : Task). eqb a.arrival 1) (sym same) ∙ named) s.3.not_finished;
  -- host 1 clears the set; host 2's command was ended, and its bit is clear
  not_own_alone = λ d.
      let evs : List Event = command 1 5 inquire ∷ command 2 5 inquire ∷ [] in
      let t : Table = after evs in
      never (d.ended.all hosts clears t (names_own_alone clears t) [] (fits evs).lists (made names_own_alone evs clears) 1 (task_at t 1) (by_order (ClearTaskSet 0)) (omega arith) refl refl) refl;
  -- the first command is accepted into record 0: its bit is set, and no command was there
  not_accepted = λ d.
      let ev : Event = command 1 5 inquire in
      let f = d.ended.set hosts ev (after []) (names_accepted ev (after [])) [] (fits []).lists (made names_accepted [] ev) 0 refl in
      not_both refl f.3;
}
