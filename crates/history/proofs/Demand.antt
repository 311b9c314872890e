-- Demand 3, proved of the engine's contracts: whatever the calls handed back, the ledger of the calls and the last
-- table agree. Assumes nothing.
use Rattle.std.specs.Prelude.{Ok, Err}
use Prim.Native.Nat.{ℕ, zero, suc, ◌<◌, ◌^◌}
use mathlib.Core.Path.{◌≡◌, refl, sym, ap, subst, ◌∙◌}
use mathlib.Core.Bool.{Bool, true, false, cond}
use mathlib.Core.List.{List, [], ◌∷◌}
use mathlib.Core.Logic.{inl, inr}
use mathlib.Core.Option.{some, none-ne-some}
use native.Mathlib.Omega.{arith}
use lib.ListN.{length}
use Rattle.wire.specs.Codes
use Rattle.wire.specs.declared.codes.Refusal.{Refusal}
use Rattle.task.proofs.Ways.{either_way}
use Rattle.table.specs.Tables.{zero_table, altered_at, finished}
use Rattle.table.specs.Setup.{bad_list, fresh_table, setup_table}
use Rattle.sound.specs.Sound.{count_ok, sound_of}
use Rattle.table.specs.declared.Path as path
use Rattle.table.specs.declared.Table.{Table}
use Rattle.sound.proofs.Keeps.{listed_at}
use Rattle.table.proofs.Views.{at_empty, not_both}
use Rattle.table.proofs.Weights.{setup_weighs}
use Rattle.engine.specs.Calls.{heard_of, answered_to, message_of, start_choice, start_of, finish_choice, finish_of, total_reset_of, setup_of}
use Rattle.plan.specs.declared.Answer.TheVariants as answer
use Rattle.engine.specs.declared.Outcome.{Outcome}
use Rattle.engine.proofs.Keeps.{message_keeps, start_keeps, finish_keeps, reset_keeps, setup_is_good}
use Rattle.history.specs.Trace.{Event, Message, Start, Finish, TotalReset, nth, Effect, Nothing, effect_of}
use Rattle.history.specs.Ledger.{Entry, noted, ledger_from, ledger, total}
use Rattle.history.specs.Demand.{Call, told, Contract, Engine, Chained, last_table, Demand3, AfterRefusedSetup}
use Rattle.history.specs.Drives.{left_after, calls_of, ByDrive, engine, EngineChains, EngineAgrees, refuses_all, RefusingMeets}
use Rattle.history.proofs.Kept.{Tied, Matched, matched, kept}
use Rattle.history.proofs.Calls.{done_nothing, refused_nothing, message_done, start_done, finish_done, reset_done}
use Rattle.history.proofs.Agreeing.{agrees}

-- ---- after setup

pub tied_fresh : (ids : List ℕ) (attached first : ℕ) → first < 2 ^ 64 → bad_list ids ≡ false → Tied ids [] (setup_of ids attached first).table
unfolding setup_of setup_table fresh_table total
tied_fresh ids attached first l b = record {
  good = setup_is_good ids attached first l b;
  listed = rw b refl;
  ids_stand = rw b (λ p below. ap (λ (a : path.Path). a.id) (listed_at ids p below));
  same = λ f. sym (setup_weighs f ids attached first);
  given = λ n. omega arith;
  unused = λ n _. refl;
  single = refl;
}

-- ---- after a refused setup

pub zero_setup : (ids : List ℕ) (attached first : ℕ) → bad_list ids ≡ true → (setup_of ids attached first).table ≡ zero_table
unfolding setup_of setup_table
zero_setup ids attached first b = rw b

matched_zero : Matched [] zero_table
unfolding zero_table total setup_table bad_list
matched_zero = record {
  shaped = record { map = omega arith; next = omega arith; paths = refl; units = refl; tasks = refl };
  one_arrival = λ i j a b _ _ here _ _. absurd (not_both (at_empty zero_table i refl) here);
  same = λ f. sym (setup_weighs f [] 0 0);
  given = λ n. omega arith;
  single = refl;
}

-- ---- along the calls, for every contract that keeps ledger and table tied, and under which calls on the all-zero table are refused and leave it

abbrev pub Keeps : Contract → Type 0
Keeps C = (ids : List ℕ) (l : List Entry) (t : Table) (n : ℕ) (ev : Event) (o : Outcome) (left : List ℕ) → Tied ids l t → C ev t o left
    → Tied ids (noted n (effect_of ids ev o.answer) l) o.table

pub record Idles (o : Outcome) : Type 0 where
  pub number : Refusal
  pub refused : o.answer ≡ Err number
  pub table : o.table ≡ zero_table

abbrev pub Refuses : Contract → Type 0
Refuses C = (ev : Event) (o : Outcome) (left : List ℕ) → C ev zero_table o left → Idles o

module _ (C : Contract) (keeps : Keeps C) (refuses : Refuses C) where
  along : (ids : List ℕ) (n : ℕ) (l : List Entry) (t : Table) (cs : List Call) → Tied ids l t → Chained C t cs → Tied ids (ledger_from ids n l (told cs)) (last_table t cs)
  unfolding ledger_from last_table
  along ids n l t [] T m = T
  along ids n l t (c ∷ cs) T m = along ids (suc n) _ c.outcome.table cs (keeps ids l t n c.event c.outcome c.left T m.0) m.1

  idle : (ids : List ℕ) (n : ℕ) (cs : List Call) → Chained C zero_table cs → (ledger_from ids n [] (told cs) ≡ []) × (last_table zero_table cs ≡ zero_table)
  unfolding ledger_from last_table noted
  idle ids n [] m = (refl, refl)
  idle ids n (c ∷ cs) m =
      let s = refuses c.event c.outcome c.left m.0 in
      let nothing : effect_of ids c.event c.outcome.answer ≡ Nothing = ap (effect_of ids c.event) s.refused ∙ refused_nothing ids c.event s.number in
      let r = idle ids (suc n) cs (subst (λ (t : Table). Chained C t cs) s.table m.1) in
      (ap (λ (f : Effect). ledger_from ids (suc n) (noted n f []) (told cs)) nothing ∙ r.0, ap (λ (t : Table). last_table t cs) s.table ∙ r.1)

  pub meets : Demand3 C
  meets ids attached first o cs l made chained = elim (either_way (bad_list ids)) [
    | inl b ↦
        let z : o.table ≡ zero_table = ap (λ (x : Outcome). x.table) made ∙ zero_setup ids attached first b in
        let r = idle ids 1 cs (subst (λ (t : Table). Chained C t cs) z chained) in
        let last : last_table o.table cs ≡ zero_table = ap (λ (t : Table). last_table t cs) z ∙ r.1 in
        agrees ids (told cs) (last_table o.table cs)
        (subst (Matched (ledger ids (told cs))) (sym last) (subst (λ (e : List Entry). Matched e zero_table) (sym r.0) matched_zero))
    | inr b ↦
        agrees ids (told cs) (last_table o.table cs)
        (matched (along ids 1 [] o.table cs (rw made (tied_fresh ids attached first l b)) chained))
  ]

-- ---- the engine

drive_keeps : Keeps (ByDrive engine)
unfolding engine
drive_keeps ids l t n (Message m buf) o left T c =
    rw c (kept ids l t (message_of t m (length buf)).table T (message_keeps t m (length buf) T.good) n _ (message_done ids t T.good T.listed T.ids_stand m buf))
drive_keeps ids l t n (Start unit) o left T c =
    rw c (kept ids l t (start_of t unit).table T (start_keeps t unit T.good) n _ (start_done ids t T.good T.listed T.ids_stand unit))
drive_keeps ids l t n (Finish arrival status sense transferred buf) o left T c =
    rw c
    (kept ids l t (finish_of t arrival status sense transferred (length buf)).table T (finish_keeps t arrival status sense transferred (length buf) T.good) n _
    (finish_done ids t T.good T.listed T.ids_stand arrival status sense transferred buf))
drive_keeps ids l t n TotalReset o left T c =
    rw c (kept ids l t (total_reset_of t).table T (reset_keeps t T.good) n _ (reset_done ids t T.good T.listed T.ids_stand))

-- a call on the all-zero table is refused by 13
pub unsound : (ev : Event) → ((engine ev zero_table).answer ≡ Err Codes.not_sound) × ((engine ev zero_table).table ≡ zero_table)
unfolding engine message_of heard_of answered_to start_of start_choice finish_of finish_choice total_reset_of sound_of count_ok zero_table altered_at finished
unsound (Message m buf) = (refl, refl)
unsound (Start unit) = (refl, refl)
unsound (Finish arrival status sense transferred buf) = (refl, refl)
unsound TotalReset = (refl, refl)

drive_refuses : Refuses (ByDrive engine)
drive_refuses ev o left c = record {
  number = Codes.not_sound;
  refused = ap (λ (x : Outcome). x.answer) c ∙ (unsound ev).0;
  table = ap (λ (x : Outcome). x.table) c ∙ (unsound ev).1;
}

-- an outcome that meets the contracts is the engine's
pub as_drive : (ev : Event) (t : Table) (o : Outcome) (left : List ℕ) → Engine ev t o left → ByDrive engine ev t o left
unfolding engine
as_drive (Message m buf) t o left c = c.outcome
as_drive (Start unit) t o left c = c
as_drive (Finish arrival status sense transferred buf) t o left c = c.outcome
as_drive TotalReset t o left c = c

pub demand_three : Demand3 Engine
demand_three =
    meets Engine (λ ids l t n ev o left T c. drive_keeps ids l t n ev o left T (as_drive ev t o left c))
    (λ ev o left c. drive_refuses ev o left (as_drive ev zero_table o left c))

-- ---- the engine's own calls

pub meets_contract : (ev : Event) (t : Table) → Engine ev t (engine ev t) (left_after ev (engine ev t).answer)
unfolding engine left_after
meets_contract (Message m buf) t = record { outcome = refl; buffer = refl }
meets_contract (Start unit) t = refl
meets_contract (Finish arrival status sense transferred buf) t = record { outcome = refl; buffer = refl }
meets_contract TotalReset t = refl

pub engine_chains : EngineChains
unfolding calls_of
engine_chains t [] = tt
engine_chains t (ev ∷ evs) = (meets_contract ev t, engine_chains (engine ev t).table evs)

pub engine_agrees : EngineAgrees
engine_agrees ids attached first evs l =
    demand_three ids attached first (setup_of ids attached first) (calls_of engine (setup_of ids attached first).table evs) l refl (engine_chains _ evs)

-- ---- after a refused setup each call is refused

refused_setup : (ids : List ℕ) (attached first : ℕ) (n : Refusal) → (setup_of ids attached first).answer ≡ Err n → bad_list ids ≡ true
unfolding setup_of
refused_setup ids attached first n = cases (bad_list ids)
  where
    cases : (b : Bool) → cond b (Err Codes.bad_paths) (Ok answer.Ready) ≡ Err n → b ≡ true
    cases true e = refl
    cases false e = let z : ◌≡◌ {A = ℕ} 0 1 = cc in absurd (omega arith)

each_refused : (cs : List Call) → Chained Engine zero_table cs → (k : ℕ) (c : Call) → nth cs k ≡ some c → c.outcome.answer ≡ Err Codes.not_sound
unfolding nth
each_refused [] m k c e = absurd (none-ne-some c e)
each_refused (d ∷ cs) m zero c e =
    let same : d ≡ c = cc in
    ap (λ (x : Call). x.outcome.answer) (sym same) ∙ ap (λ (x : Outcome). x.answer) (as_drive d.event zero_table d.outcome d.left m.0) ∙ (unsound d.event).0
each_refused (d ∷ cs) m (suc k) c e =
    let z : d.outcome.table ≡ zero_table = ap (λ (x : Outcome). x.table) (as_drive d.event zero_table d.outcome d.left m.0) ∙ (unsound d.event).1 in
    each_refused cs (subst (λ (t : Table). Chained Engine t cs) z m.1) k c e

pub after_refused_setup : AfterRefusedSetup
after_refused_setup ids attached first o n cs made refused chained =
    let b : bad_list ids ≡ true = refused_setup ids attached first n (sym (ap (λ (x : Outcome). x.answer) made) ∙ refused) in
    let z : o.table ≡ zero_table = ap (λ (x : Outcome). x.table) made ∙ zero_setup ids attached first b in
    let on-zero : Chained Engine zero_table cs = subst (λ (t : Table). Chained Engine t cs) z chained in
    let r = idle Engine (λ ids l t n ev o left T c. drive_keeps ids l t n ev o left T (as_drive ev t o left c))
    (λ ev o left c. drive_refuses ev o left (as_drive ev zero_table o left c)) ids 1 cs on-zero in
    record { refused = each_refused cs on-zero; table = ap (λ (t : Table). last_table t cs) z ∙ r.1; empty = r.0 }

-- ---- a call that is the engine's, or is refused and leaves the table

-- what such a call hands back
pub data Works (ev : Event) (t : Table) (o : Outcome) : Type 0 where
  as_engine : o ≡ engine ev t → Works ev t o
  refusing : (n : Refusal) → o.answer ≡ Err n → o.table ≡ t → Works ev t o

abbrev pub WorksOrRefuses : Contract
WorksOrRefuses ev t o left = Works ev t o

works_keeps : Keeps WorksOrRefuses
works_keeps ids l t n ev o left T (as_engine e) = drive_keeps ids l t n ev o left T e
works_keeps ids l t n ev o left T (refusing k e same) =
    rw (same, e, refused_nothing ids ev k) (kept ids l t t T T.good n Nothing (done_nothing t))

works_refuses : Refuses WorksOrRefuses
works_refuses ev o left (as_engine e) = drive_refuses ev o left e
works_refuses ev o left (refusing k e same) = record { number = k; refused = e; table = same }

pub works_or_refuses : Demand3 WorksOrRefuses
works_or_refuses = meets WorksOrRefuses works_keeps works_refuses

-- ---- a drive that refuses every call meets demand 3

as_refusing : (t : Table) (cs : List Call) → Chained (ByDrive refuses_all) t cs → Chained WorksOrRefuses t cs
unfolding refuses_all
as_refusing t [] m = tt
as_refusing t (c ∷ cs) m =
    (refusing Codes.not_handled (ap (λ (x : Outcome). x.answer) m.0) (ap (λ (x : Outcome). x.table) m.0), as_refusing c.outcome.table cs m.1)

pub refusing_meets : RefusingMeets
refusing_meets ids attached first o cs l made chained = works_or_refuses ids attached first o cs l made (as_refusing o.table cs chained)
