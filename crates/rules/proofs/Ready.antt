-- What a call does once it has passed the tests that every call has to pass: sizes, buffers, characters, session, reply room.
use Rattle.std.proofs.Common.{◌≡◌, refl, ◌∙◌, Bool, true, ◌&&◌, List, [], ◌∷◌, ◌++◌, ℕ, leb, length, replicate, Ok, Err}
use Rattle.words.proofs.Laws.{and_left, and_right}
use Rattle.rules.specs.Session.{State, reply_room, all_printable, all_marks, session_ok}
use Rattle.rules.specs.Refusal.{Test, Verdict, verdict, size_tests, state_tests}
use Rattle.rules.specs.Operation.{Ran, running, taken_of, host_refusal, host_bytes, press_tests, key_ran, one_key}
use Rattle.rules.specs.Call.{host, key, called}
use Rattle.rules.specs.Cases.Vocabulary.{look, lent, in_full}
use Rattle.rules.proofs.Passing.{briefly, ends_full}
-- the cases of document 01 are checked first
use Rattle.rules.proofs.Shut.{shut_holds}

unfoldable pub passing : List Test → Bool
passing [] = true
passing (t ∷ ts) = t.passes && passing ts

-- tests that are passed leave the verdict to those after them
passed : (ts us : List Test) → passing ts ≡ true → verdict (ts ++ us) ≡ verdict us
unfolding passing verdict
passed [] us e = refl
passed (t ∷ ts) us e = rw (and_left t.passes _ e) (passed ts us (and_right t.passes _ e))

all_passed : (ts : List Test) → passing ts ≡ true → verdict ts ≡ Ok tt
unfolding passing verdict
all_passed [] e = refl
all_passed (t ∷ ts) e = rw (and_left t.passes _ e) (all_passed ts (and_right t.passes _ e))

unfoldable pub ready : State → List ℕ → Bool
ready s reply =
    passing (size_tests s.session.frame s.screen) && passing (state_tests s.session s.screen reply)

module _ (s : State) (room : ℕ) (e : ready s (replicate room lent) ≡ true) where
  abbrev buffer : List ℕ
  buffer = replicate room lent

  abbrev sizes : List Test
  sizes = size_tests s.session.frame s.screen

  abbrev states : List Test
  states = state_tests s.session s.screen buffer

  sizes_passed : passing sizes ≡ true
  unfolding ready
  sizes_passed = and_left _ _ e

  states_passed : passing states ≡ true
  unfolding ready
  states_passed = and_right (passing sizes) _ e

  -- a key has its own tests to pass
  pub key_full : (k : ℕ) → look (called s (key k buffer)) ≡ in_full room (briefly (verdict (press_tests s k)) s 1 (key_ran s k))
  unfolding called one_key
  key_full k =
      rw (passed sizes (states ++ press_tests s k) sizes_passed ∙ passed states (press_tests s k) states_passed)
      (ends_full (verdict (press_tests s k)) s room 1 (key_ran s k))

  host_passed : host_refusal s buffer ≡ Ok tt
  host_passed = passed sizes states sizes_passed ∙ all_passed states states_passed

  room_there : leb (reply_room s.session.frame) (length buffer) ≡ true
  unfolding passing state_tests
  room_there =
      and_left _ _
      (and_right (all_marks s.screen.marks) _
      (and_right (session_ok s.session) _ (and_right (all_printable s.screen.chars) _ states_passed)))

  -- a host byte is taken
  pub byte_full : (b : ℕ) → look (called s (host (b ∷ []) buffer)) ≡ in_full room (briefly (Ok tt) s 1 (running s (b ∷ [])))
  unfolding called host_bytes taken_of
  byte_full b = rw (host_passed, room_there) (ends_full (Ok tt) s room 1 (running s (b ∷ [])))

-- a refusal leaves the PAD too
pub pad_kept : (v : Verdict) (s : State) (taken : ℕ) (ran : Ran) → ran.state.session.pad ≡ s.session.pad
    → (briefly v s taken ran).left.session.pad ≡ s.session.pad
pad_kept (Ok passed) s taken ran e = e
pad_kept (Err r) s taken ran e = refl
