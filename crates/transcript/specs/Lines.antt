-- The lines of a transcript: the event's number in decimal, then a word and its numbers. Tags are four upper-case hex
-- digits, codes and status fields two.
use Rattle.std.specs.Prelude.{Result, Ok, Err}
use Rattle.wire.specs.Codes
use Rattle.wire.specs.declared.codes.Refusal.{Refusal}
use Rattle.std.specs.Prelude.{ℕ, zero, suc, ◌+◌, ◌-◌, ◌/◌, ◌%◌, List, [], ◌∷◌, ◌++◌, ◌≡◌, cond, length, take, drop, ltb}
use Prim.Native.Char.{code}
use Prim.Native.String.{String, [] as ended, ◌∷◌ as ◌then◌}
use Rattle.wire.specs.declared.codes.Sense.{Sense}
use Rattle.reply.specs.declared.Reply.{Reply}
use Rattle.reply.specs.declared.Reply.TheVariants.{Response, Status, Invalid}
use Rattle.plan.specs.declared.Answer.{Answer}
use Rattle.plan.specs.declared.Answer.TheVariants as answer
use Rattle.plan.specs.declared.Answer.TheVariants.{Ready, Accepted, Started, Confirmed, Restarted, Reset}
use Rattle.transcript.specs.declared.line.Line.{Line}

-- ---- words

-- the bytes of a text in ASCII: the code of each character
abbrev pub ascii : String → List ℕ
ascii ended = []
ascii (c then rest) = code c ∷ ascii rest

abbrev pub space : ℕ
space = 0x20

abbrev pub newline : ℕ
newline = 0x0a

abbrev pub accepted_word : List ℕ
accepted_word = ascii " accepted "

abbrev pub response_word : List ℕ
response_word = ascii " response"

abbrev pub status_word : List ℕ
status_word = ascii " status"

abbrev pub invalid_word : List ℕ
invalid_word = ascii " invalid"

abbrev pub confirmed_word : List ℕ
confirmed_word = ascii " confirmed "

abbrev pub restarted_word : List ℕ
restarted_word = ascii " restarted "

abbrev pub started_word : List ℕ
started_word = ascii " started "

abbrev pub refused_word : List ℕ
refused_word = ascii " refused "

abbrev pub reset_word : List ℕ
reset_word = ascii " reset"

abbrev pub end_word : List ℕ
end_word = ascii "end"

abbrev pub ok_word : List ℕ
ok_word = ascii " ok "

abbrev pub bad_word : List ℕ
bad_word = ascii " bad"

-- ---- numbers

-- decimal, of at most so many digits
unfoldable pub decimal_in : ℕ → ℕ → List ℕ
decimal_in zero n = []
decimal_in (suc k) n = cond (ltb n 10) ((48 + n) ∷ []) (decimal_in k (n / 10) ++ ((48 + n % 10) ∷ []))

-- a number below 2^64 has 20 digits at most
abbrev pub decimal_of : ℕ → List ℕ
decimal_of n = decimal_in 20 n

-- an upper-case hex digit
abbrev pub digit_of : ℕ → ℕ
digit_of d = cond (ltb d 10) (48 + d) (55 + d)

-- a space and two digits; a space and four
abbrev pub hex_of : ℕ → List ℕ
hex_of b = space ∷ digit_of (b / 16 % 16) ∷ digit_of (b % 16) ∷ []

abbrev pub hex_word : ℕ → List ℕ
hex_word w = space ∷ digit_of (w / 256 / 16 % 16) ∷ digit_of (w / 256 % 16) ∷ digit_of (w % 256 / 16 % 16) ∷ digit_of (w % 256 % 16) ∷ []

-- ---- the lines

-- a status's sense fields
abbrev pub sense_text : Sense → List ℕ
sense_text s = hex_of s.key ++ (hex_of s.code ++ hex_of s.qualifier)

-- a reply: `response` tag code, `status` tag status key code qualifier, `invalid` tag
unfoldable pub reply_text : Reply → List ℕ
reply_text (Response tag code) = response_word ++ (hex_word tag ++ hex_of code.0)
reply_text (Status tag status sense) = status_word ++ (hex_word tag ++ (hex_of status.0 ++ sense_text sense))
reply_text (Invalid tag) = invalid_word ++ hex_word tag

-- what stands behind the event's number
unfoldable pub answer_text : Result Answer Refusal → List ℕ
answer_text (Ok Ready) = []
answer_text (Ok (Accepted n)) = accepted_word ++ decimal_of n
answer_text (Ok (answer.Reply r)) = reply_text r
answer_text (Ok (Started offset arrival)) = started_word ++ decimal_of arrival
answer_text (Ok (Confirmed n)) = confirmed_word ++ decimal_of n
answer_text (Ok (Restarted n)) = restarted_word ++ decimal_of n
answer_text (Ok Reset) = reset_word
answer_text (Err n) = refused_word ++ decimal_of (Codes.refusal_number n)

-- the line of event n
abbrev pub line_of : ℕ → Result Answer Refusal → List ℕ
line_of n a = decimal_of n ++ (answer_text a ++ (newline ∷ []))

-- the last line: `end ok` and the live count, `end bad`, `end refused 11`
abbrev pub end_ok : ℕ → List ℕ
end_ok live = end_word ++ (ok_word ++ (decimal_of live ++ (newline ∷ [])))

abbrev pub end_bad : List ℕ
end_bad = end_word ++ (bad_word ++ (newline ∷ []))

abbrev pub end_refused : ℕ → List ℕ
end_refused n = end_word ++ (refused_word ++ (decimal_of n ++ (newline ∷ [])))

-- ---- a line in the making has 64 bytes at most

-- the bytes of a line: those at the front of its room
abbrev pub shown : Line → List ℕ
shown l = take l.len l.bytes

-- bytes put behind those of a line, as many as there is room for: a full line takes no more
unfoldable pub push_all : List ℕ → List ℕ → List ℕ
push_all l bs = l ++ take (64 - length l) bs

-- a line handed over into a lent buffer: its bytes at the front, the rest as it was; a buffer under 64 bytes gets
-- nothing
unfoldable pub handed_of : List ℕ → List ℕ → ℕ
handed_of l buf = cond (ltb (length buf) 64) 0 (length l)

unfoldable pub handed_in : List ℕ → List ℕ → List ℕ
handed_in l buf = cond (ltb (length buf) 64) buf (l ++ drop (length l) buf)

pub record Handed (l buf : List ℕ) (n : ℕ) (left : List ℕ) : Type 0 where
  pub wrote : n ≡ handed_of l buf
  pub buffer : left ≡ handed_in l buf
