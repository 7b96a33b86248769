use Rattle.std.proofs.Common.{◌≡◌, refl, ap, ◌∙◌, Bool, true, false, not, ◌||◌, List, [], ◌∷◌, ◌++◌, ℕ, leb, eqb, replicate, set, if◌then◌else◌}
-- Each cause that specs/Causes.antt names can change what it is named for: no name stands there for nothing.
use Prim.Native.String.{String}
use lib.Dec.{leb-zero}
use Rattle.telnet.specs.Writer.{subnegotiation}
use Rattle.words.proofs.Laws.{true_or_false, not_both, and_right}
use Rattle.screen.specs.Cells.{cell_of}
use Rattle.pad.specs.Parameters.{start_values}
use Rattle.pad.specs.Line.{line_of}
use Rattle.pad.specs.Message.{idle_message}
use Rattle.rules.specs.Session.{State, pad_with}
use Rattle.rules.specs.Refusal.{verdict}
use Rattle.rules.specs.Operation.{running, press_tests, key_ran}
use Rattle.rules.specs.Call.{Call, host, key, called, left}
use Rattle.rules.specs.Executed.{one_of}
use Rattle.rules.specs.Causes.{Aspect, attributes, det, x3, suppression, received, characters, marks, cursor, values, line, changers}
use Rattle.rules.specs.Cases.Computing.{computing}
use Rattle.rules.specs.Cases.Vocabulary.{Seen, lent, flag, same, failures, starting, modes, marked, x3_switched, padded, seeing}
use Rattle.rules.specs.Cases.Vocabulary as word
use Rattle.rules.proofs.Passing.{failures_same, briefly}
use Rattle.rules.proofs.Ready.{passing, ready, key_full, byte_full}
-- that nothing else changes it is checked first
use Rattle.rules.proofs.Causes.{nothing_else}

-- four cells by three with this text, three fields of one line each, the first cell marked and no other, the cursor at (1,1), DET on and
-- protection suppressed
abbrev starts : String → State
starts text =
    marked (1 ∷ replicate 11 0) (starting 4 3 true (word.characters text) (replicate 4 0 ++ (replicate 4 1 ++ replicate 4 2)) 1 1)

abbrev start : State
start = starts "abcdefghijkl"

abbrev other : State
other = starts "ABCDEFGHIJKL"

unfoldable pub differs : Aspect → State → State → Bool
differs attributes s t = not (same s.screen.attrs t.screen.attrs)
differs det s t = not (eqb (flag s.session.frame.det) (flag t.session.frame.det))
differs x3 s t = not (eqb (flag s.session.frame.x3) (flag t.session.frame.x3))
differs suppression s t = not (eqb (flag s.session.frame.suppressed) (flag t.session.frame.suppressed))
differs received s t = let m = s.session.frame.received in let n = t.session.frame.received in
    not (same (m.edit ∷ m.erase ∷ m.transmit ∷ m.format0 ∷ m.format1 ∷ []) (n.edit ∷ n.erase ∷ n.transmit ∷ n.format0 ∷ n.format1 ∷ []))
differs characters s t = not (same s.screen.chars t.screen.chars)
differs marks s t = not (same s.screen.marks t.screen.marks)
differs cursor s t = not (eqb (cell_of 4 s.session.frame.cursor) (cell_of 4 t.session.frame.cursor))
differs values s t = not (same s.session.pad.values.held t.session.pad.values.held)
differs line s t = not (eqb s.session.pad.line.len t.session.pad.line.len)

-- a call with the least reply room, 108, changes it
abbrev changes : Aspect → State → (List ℕ → Call) → Bool
changes a s call = differs a s (left (called s (call (replicate 108 lent))))

-- whatever character it writes, it changes the one text or the other
abbrev changes_one : Aspect → (List ℕ → Call) → Bool
changes_one a call = changes a start call || changes a other call

-- the bytes of a command that is executed there, and of one that draws an ERROR
abbrev command : ℕ → List ℕ → Call
command code =
    host
    (subnegotiation 20
    (if leb code 3 then code ∷ 0 ∷ []
    else if eqb code 4 then 4 ∷ 0 ∷ 0 ∷ []
    else if eqb code 5 then 5 ∷ 3 ∷ 2 ∷ []
    else if leb code 7 then code ∷ 0 ∷ []
    else if eqb code 36 then 36 ∷ 9 ∷ 0 ∷ 0 ∷ 1 ∷ []
    else if eqb code 37 then 37 ∷ 1 ∷ 120 ∷ []
    else if eqb code 38 then 38 ∷ 254 ∷ []
    else code ∷ []))

abbrev failing : ℕ → List ℕ → Call
failing code = host (subnegotiation 20 (code ∷ 9 ∷ 9 ∷ []))

-- 37 cells in a row, option 30 on or off and DET off, "ab" in the edit line, and a key that deletes its last character and echoes a star
abbrev wide : Bool → ℕ → State
wide on k =
    padded
    (pad_with (record { held = set (set (set (set start_values.held 2 1) 15 1) 16 k) 19 42 }) (line_of (word.characters "ab")) idle_message)
    (x3_switched on (modes false false (starting 37 1 false (replicate 37 97) (replicate 37 0) 1 0)))

-- a call with the least reply room, 333, changes it
abbrev changes_wide : Aspect → State → (List ℕ → Call) → Bool
changes_wide a s call = differs a s (left (called s (call (replicate 333 lent))))

-- a negotiation: DO where the option is off, DONT where it is on
abbrev negotiates : Aspect → ℕ → Bool
negotiates a verb =
    if eqb (changers a).option 30 then changes_wide a (wide (eqb verb 254) 8) (host (255 ∷ verb ∷ 30 ∷ []))
    else changes a (if eqb verb 253 then modes false true start else start) (host (255 ∷ verb ∷ 20 ∷ []))

-- those of a list that change nothing
unfoldable pub idle : (ℕ → Bool) → List ℕ → List ℕ
idle changing [] = []
idle changing (n ∷ ns) = if changing n then idle changing ns else n ∷ idle changing ns

pub record EachChanges (a : Aspect) : Type 0 where
  pub text : failures (λ b. not ((changers a).text b) || changes_one a (host (b ∷ []))) 256 ≡ []
  pub executed : idle (λ code. changes a start (command code)) (changers a).executed ≡ []
  pub failed : idle (λ code. changes a start (failing code)) (changers a).failed ≡ []
  pub verbs : idle (negotiates a) (changers a).verbs ≡ []
  pub messages : idle (λ code. changes_wide a (wide true 8) (host (subnegotiation 30 (code ∷ 3 ∷ 2 ∷ [])))) (changers a).messages ≡ []
  pub keys : failures (λ k. not ((changers a).keys k) || changes_one a (key k)) 256 ≡ []
  pub typed : failures (λ k. not ((changers a).typed k) || changes_wide a (wide true k) (key k)) 256 ≡ []

-- ---- by what a call leaves once it has passed the tests of every call

byte_changes : (a : Aspect) (s : State) → ready s (replicate 108 lent) ≡ true → (b : ℕ)
    → changes a s (host (b ∷ [])) ≡ differs a s (running s (b ∷ [])).state
byte_changes a s r b = ap (λ (o : Seen). differs a s o.left) (byte_full s 108 r b)

-- what a key leaves
abbrev pressed_to : State → ℕ → State
pressed_to s k = (briefly (verdict (press_tests s k)) s 1 (key_ran s k)).left

key_changes : (a : Aspect) (s : State) → ready s (replicate 108 lent) ≡ true → (k : ℕ) → changes a s (key k) ≡ differs a s (pressed_to s k)
key_changes a s r k = ap (λ (o : Seen). differs a s o.left) (key_full s 108 r k)

start_ready : ready start (replicate 108 lent) ≡ true
unfolding computing seeing ready passing
start_ready = refl

other_ready : ready other (replicate 108 lent) ≡ true
unfolding computing seeing ready passing
other_ready = refl

by_text : (a : Aspect)
    → failures (λ b. not ((changers a).text b) || (differs a start (running start (b ∷ [])).state || differs a other (running other (b ∷ [])).state)) 256 ≡ []
    → failures (λ b. not ((changers a).text b) || changes_one a (host (b ∷ []))) 256 ≡ []
by_text a p = failures_same _ _ 256 (λ b. rw (byte_changes a start start_ready b, byte_changes a other other_ready b)) ∙ p

by_keys : (a : Aspect)
    → failures (λ k. not ((changers a).keys k) || (differs a start (pressed_to start k) || differs a other (pressed_to other k))) 256 ≡ []
    → failures (λ k. not ((changers a).keys k) || changes_one a (key k)) 256 ≡ []
by_keys a p = failures_same _ _ 256 (λ k. rw (key_changes a start start_ready k, key_changes a other other_ready k)) ∙ p

-- the line takes 0 to 127, and each of them may name a parameter's character
line_takes : (a : Aspect) (k : ℕ) → (changers a).typed k ≡ true → leb k 127 ≡ true
unfolding changers
line_takes attributes k e = not_both false e refl
line_takes det k e = not_both false e refl
line_takes x3 k e = not_both false e refl
line_takes suppression k e = not_both false e refl
line_takes received k e = not_both false e refl
line_takes characters k e = and_right (leb 1 k) _ e
line_takes marks k e = not_both false e refl
line_takes cursor k e = and_right (leb 1 k) _ e
line_takes values k e = not_both false e refl
line_takes line k e = and_right (leb 0 k) _ e

wide_ready : (k : ℕ) → leb k 127 ≡ true → ready (wide true k) (replicate 333 lent) ≡ true
unfolding computing seeing ready passing
wide_ready k h = rw (leb-zero k, h)

by_typed : (a : Aspect)
    → failures (λ k. not ((changers a).typed k) || differs a (wide true k) (pressed_to (wide true k) k)) 256 ≡ []
    → failures (λ k. not ((changers a).typed k) || changes_wide a (wide true k) (key k)) 256 ≡ []
by_typed a p =
    failures_same _ _ 256
    (λ k.
    true_or_false ((changers a).typed k)
    (λ t.
    ap (λ (o : Seen). not ((changers a).typed k) || differs a (wide true k) o.left)
    (key_full (wide true k) 333 (wide_ready k (line_takes a k t)) k))
    (λ t. rw t))
    ∙ p

-- one law for each: the checker keeps all that a law computes until the law ends
by_attributes : EachChanges attributes
unfolding computing seeing one_of changers differs idle
by_attributes =
    record {
      text = by_text attributes refl;
      executed = refl;
      failed = refl;
      verbs = refl;
      messages = refl;
      keys = by_keys attributes refl;
      typed = by_typed attributes refl;
    }

by_det : EachChanges det
unfolding computing seeing one_of changers differs idle
by_det =
    record {
      text = by_text det refl;
      executed = refl;
      failed = refl;
      verbs = refl;
      messages = refl;
      keys = by_keys det refl;
      typed = by_typed det refl;
    }

by_x3 : EachChanges x3
unfolding computing seeing one_of changers differs idle
by_x3 =
    record {
      text = by_text x3 refl;
      executed = refl;
      failed = refl;
      verbs = refl;
      messages = refl;
      keys = by_keys x3 refl;
      typed = by_typed x3 refl;
    }

by_suppression : EachChanges suppression
unfolding computing seeing one_of changers differs idle
by_suppression =
    record {
      text = by_text suppression refl;
      executed = refl;
      failed = refl;
      verbs = refl;
      messages = refl;
      keys = by_keys suppression refl;
      typed = by_typed suppression refl;
    }

by_received : EachChanges received
unfolding computing seeing one_of changers differs idle
by_received =
    record {
      text = by_text received refl;
      executed = refl;
      failed = refl;
      verbs = refl;
      messages = refl;
      keys = by_keys received refl;
      typed = by_typed received refl;
    }

by_characters : EachChanges characters
unfolding computing seeing one_of changers differs idle
by_characters =
    record {
      text = by_text characters refl;
      executed = refl;
      failed = refl;
      verbs = refl;
      messages = refl;
      keys = by_keys characters refl;
      typed = by_typed characters refl;
    }

by_marks : EachChanges marks
unfolding computing seeing one_of changers differs idle
by_marks =
    record {
      text = by_text marks refl;
      executed = refl;
      failed = refl;
      verbs = refl;
      messages = refl;
      keys = by_keys marks refl;
      typed = by_typed marks refl;
    }

by_cursor : EachChanges cursor
unfolding computing seeing one_of changers differs idle
by_cursor =
    record {
      text = by_text cursor refl;
      executed = refl;
      failed = refl;
      verbs = refl;
      messages = refl;
      keys = by_keys cursor refl;
      typed = by_typed cursor refl;
    }

by_values : EachChanges values
unfolding computing seeing one_of changers differs idle
by_values =
    record {
      text = by_text values refl;
      executed = refl;
      failed = refl;
      verbs = refl;
      messages = refl;
      keys = by_keys values refl;
      typed = by_typed values refl;
    }

by_line : EachChanges line
unfolding computing seeing one_of changers differs idle
by_line =
    record {
      text = by_text line refl;
      executed = refl;
      failed = refl;
      verbs = refl;
      messages = refl;
      keys = by_keys line refl;
      typed = by_typed line refl;
    }

pub each_changes : (a : Aspect) → EachChanges a
each_changes attributes = by_attributes
each_changes det = by_det
each_changes x3 = by_x3
each_changes suppression = by_suppression
each_changes received = by_received
each_changes characters = by_characters
each_changes marks = by_marks
each_changes cursor = by_cursor
each_changes values = by_values
each_changes line = by_line
