-- M-103, a refused command holds the queue as well: which answers to a command give its unit an ACA, whose that is, and
-- that no other answer to a command changes an ACA. Proved in proofs/Holding.antt.
use Rattle.std.specs.Prelude.{Result, Ok, ℕ, ◌<◌, ◌^◌, ◌≡◌, Bool, true, false, ◌&&◌, List, eqb, Some}
use Rattle.std.proofs.Math.Option.{Option, none, some}
use Rattle.wire.specs.Codes
use Rattle.wire.specs.Messages.{read_of}
use Rattle.wire.specs.declared.message.Flags.{Flags}
use Rattle.reply.specs.declared.Reply.{Reply}
use Rattle.reply.specs.declared.Reply.TheVariants as reply
use Rattle.table.specs.Tables.{path_of, path_at, is_attached, aca_at}
use Rattle.table.specs.declared.Attention.TheVariants as attention
use Rattle.table.specs.declared.Table.{Table}
use Rattle.sound.specs.Promises.{Good}
use Rattle.rules.specs.First.{Rule}
use Rattle.rules.specs.Facts.{facts_of}
use Rattle.rules.specs.Rules.{deciding}
use Rattle.rules.specs.Promises.{seven_to_ten}
use Rattle.wire.specs.declared.codes.Refusal.{Refusal}
use Rattle.plan.specs.Plans.{asking, asked_in, reply_of}
use Rattle.plan.specs.declared.Request.TheVariants.{Command}
use Rattle.plan.specs.declared.Answer.{Answer}
use Rattle.engine.specs.Calls.{MessageContract}
use Rattle.engine.specs.declared.Outcome.{Outcome}

-- a command of the path with an id is handed to the engine, with a sound table whose map of attached units is a byte
pub record CommandCall (t : Table) (m buf : List ℕ) (o : Outcome) (left : List ℕ) (path tag lun : ℕ) (flags : Flags) : Type 0 where
  pub good : Good t
  pub byte : t.attached < 2 ^ 8
  pub call : MessageContract t m buf o left
  pub asks : asked_in (read_of m) ≡ Ok (asking path tag (Command lun flags))

-- the rule that decides it
abbrev pub rule_for : Table → List ℕ → ℕ → ℕ → ℕ → Flags → Rule
rule_for t m path tag lun flags = deciding (facts_of t (path_of t path) tag lun) flags m

-- the answer is STATUS 02h
abbrev pub is_check : Option Reply → Bool
is_check none = false
is_check (some (reply.Response t code)) = false
is_check (some (reply.Status t status sense)) = eqb status.0 (Codes.check_condition).0
is_check (some (reply.Invalid t)) = false

abbrev pub says02 : Result Answer Refusal → Bool
says02 a = is_check (reply_of a)

-- .. by rules 7 to 10
abbrev pub held_by : Rule → Result Answer Refusal → Bool
held_by r a = seven_to_ten r && says02 a

-- what the command does to the ACA of the units, by the rule r that decides it: t is the table handed in, u the next one,
-- a the answer, p the place of the sender
pub record AcaAfter (t u : Table) (a : Result Answer Refusal) (r : Rule) (p lun : ℕ) : Type 0 where
  -- after a STATUS 02h by rules 7 to 10 the unit has ACA, and it is the sender's
  pub sender : held_by r a ≡ true → aca_at u.units lun ≡ Some p
  -- where the unit had one before, that was the sender's too: nothing changes hands
  pub its_own : held_by r a ≡ true → (q : ℕ) → aca_at t.units lun ≡ Some q → q ≡ p
  -- the ACA of no other unit changes
  pub elsewhere : (unit : ℕ) → (unit ≡ lun → ⊥) → aca_at u.units unit ≡ aca_at t.units unit
  -- and no other answer to a command changes a unit's ACA: rule 6, 28h, 30h, RESPONSE, `invalid`, `accepted`, a refusal
  pub no_other : held_by r a ≡ false → u.units ≡ t.units
  -- no record changes: what waits goes on waiting, and what runs goes on
  pub records : says02 a ≡ true → (u.live ≡ t.live) × (u.tasks ≡ t.tasks)
  -- with rule 8 the attention goes and the ACA comes in one answer
  pub rule_8 : says02 a ≡ true → r.number ≡ 8 → (held_by r a ≡ true) × ((path_at u p).attention ≡ attention.Nothing)
  -- on a link trace: a STATUS 02h is that of rules 7 to 10 where the unit is attached, and else that of rule 6
  pub attached : says02 a ≡ true → seven_to_ten r ≡ is_attached t lun
  pub rule_6 : says02 a ≡ true → is_attached t lun ≡ false → r.number ≡ 6

abbrev pub HoldsQueue : Type 0
HoldsQueue = (t : Table) (m buf : List ℕ) (o : Outcome) (left : List ℕ) (path tag lun : ℕ) (flags : Flags)
    → CommandCall t m buf o left path tag lun flags → AcaAfter t o.table o.answer (rule_for t m path tag lun flags) (path_of t path) lun
