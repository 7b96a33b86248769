-- The three operations over numbers and bytes: what each call returns, and each byte that it leaves.
use Rattle.std.specs.Prelude.{◌≡◌, Bool, true, false, List, [], ℕ, eqb, ltb, length, if◌then◌else◌}
use Rattle.rules.specs.declared.Answer.{Answer}
use Rattle.rules.specs.Session.{Screen, state}
use Rattle.rules.specs.Refusal.{told_number}
use Rattle.rules.specs.Operation.{Outcome, opened, host_bytes, one_key}
use Rattle.layout.specs.Layout.{session_length, encoded, is_session, decoded}

-- the number answered, the session's bytes, the two counts, and the lent buffers afterwards
pub record Result : Type 0 where
  pub number : ℕ
  pub session : List ℕ
  pub taken : ℕ
  pub written : ℕ
  pub screen : Screen
  pub reply : List ℕ

abbrev pub result_of : ℕ → List ℕ → ℕ → ℕ → Screen → List ℕ → Result
result_of number session taken written b reply =
    record { number = number; session = session; taken = taken; written = written; screen = b; reply = reply }

-- an answer as numbers and bytes: 0 where the call is taken, else the refusal's number
abbrev pub given : Answer → Screen → List ℕ → Result
given a b reply = result_of (told_number a.verdict) (encoded a.session) a.taken a.written b reply

-- what the rules say
abbrev pub told : Outcome → Result
told o = given o.answer o.screen o.reply

-- 255, before any other number: the bytes are no session, and all stays as it came
abbrev pub no_session : List ℕ → Screen → List ℕ → Result
no_session session b reply = result_of 255 session 0 0 b reply

-- done where the test is passed, else refused
unfoldable pub provided : Bool → Result → Result → Result
provided true done refused = done
provided false done refused = refused

-- open wants a place for a session, whatever stands there
unfoldable pub open_call : ℕ → ℕ → ℕ → List ℕ → Screen → Result
open_call m n named session b = provided (eqb (length session) session_length) (told (opened m n named b)) (no_session session b [])

-- host bytes and a key want the bytes of a session
unfoldable pub host_call : List ℕ → List ℕ → Screen → List ℕ → Result
host_call session input b reply =
    provided (is_session session) (told (host_bytes (state (decoded session) b) reply input)) (no_session session b reply)

-- a key is any number; those that are no byte have no meaning
unfoldable pub key_call : List ℕ → ℕ → Screen → List ℕ → Result
key_call session key b reply =
    provided (is_session session) (told (one_key (state (decoded session) b) reply key)) (no_session session b reply)

-- the byte that a key is handed on as: 255 has no meaning either
abbrev pub key_byte : ℕ → ℕ
key_byte key = if ltb key 256 then key else 255

-- an answer's number, session and counts, as a call returns and leaves them
pub record Gives (a : Answer) (number : ℕ) (session : List ℕ) (taken written : ℕ) : Type 0 where
  pub number_is : number ≡ told_number a.verdict
  pub session_is : session ≡ encoded a.session
  pub taken_is : taken ≡ a.taken
  pub written_is : written ≡ a.written
