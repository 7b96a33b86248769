-- The reply room: one reply fits into 7C + 2 bytes, that many are needed, and what a call returns keeps to what it was lent.
use Rattle.std.proofs.Common.{◌≡◌, refl, ap, false, List, [], ◌∷◌, ℕ, ◌-◌, ◌≤◌, le_trans, arith, leb-true, le-leb, leb, length, take, length-append, length-drop, Ok}
use Rattle.words.proofs.Laws.{either}
use Rattle.rules.specs.declared.Edition.TheVariants.{September}
use Rattle.rules.specs.Session.{State, reply_room, fresh_frame}
use Rattle.rules.specs.Refusal.{is_taken}
use Rattle.rules.specs.Operation.{Outcome, host_byte, running, unless, taken_of, host_refusal, host_bytes, key_ran}
use Rattle.rules.specs.Call.{Call, host, key, called}
use Rattle.rules.specs.Cases.Computing.{computing}
use Rattle.rules.specs.Cases.Vocabulary.{starting}
use Rattle.rules.proofs.Calls.{reply_of, taken_by, ran_by, called_cases}
use Rattle.rules.proofs.Effects.{keeps_happening, keeps_key}
use Rattle.rules.proofs.Sound.{Sound, sound_byte, Accepted, sound_of}

-- ---- one reply

module _ {m n : ℕ} {s : State} (k : Sound m n s) where
  pub room_is : reply_room s.session.frame ≡ reply_room (fresh_frame m n September)
  room_is = rw (k.view.sizes.width, k.view.sizes.height)

  -- of a host byte
  pub room_byte : (b : ℕ) → length (host_byte s b).replies ≤ reply_room s.session.frame
  unfolding host_byte
  room_byte b = rw room_is ((keeps_happening k.view s.session.reader s.session.pad _).reply s.screen k.chars.long)

  -- of a key
  pub room_key : (code : ℕ) → length (key_ran s code).replies ≤ reply_room s.session.frame
  room_key code = omega (arith, room_is, (keeps_key s k.view k.pad code).reply s.screen k.chars.long)

-- All of it is used: two cells, each an unprotected field and marked, and subcommand 27.
pub room_reached :
    let s = starting 2 1 false (32 ∷ 32 ∷ []) (0 ∷ 16 ∷ []) 0 0 in
    length (running s (255 ∷ 250 ∷ 20 ∷ 27 ∷ 255 ∷ 240 ∷ [])).replies ≡ reply_room s.session.frame
unfolding computing
room_reached = refl

-- ---- what a call returns

-- no more is taken than there is
pub taken_most : (s : State) (free : ℕ) (bs : List ℕ) → taken_of s free bs ≤ length bs
unfolding taken_of
taken_most s free [] = omega arith
taken_most s free (b ∷ bs) =
    let rest = taken_most (host_byte s b).state (free - length (host_byte s b).replies) bs in
    either (λ n. n ≤ length (b ∷ bs)) (leb (reply_room s.session.frame) free) (λ e. omega arith) (λ e. omega arith)

-- the replies of the bytes that are taken fit
pub replies_fit : {m n : ℕ} {s : State} → Sound m n s → (free : ℕ) (bs : List ℕ)
    → length (running s (take (taken_of s free bs) bs)).replies ≤ free
unfolding taken_of running
replies_fit k free [] = omega arith
replies_fit {s = s} k free (b ∷ bs) =
    let one = host_byte s b in
    either (λ n. length (running s (take n (b ∷ bs))).replies ≤ free) (leb (reply_room s.session.frame) free)
    (λ e. rw length-append
    (omega (arith, leb-true, room_byte k b, replies_fit {s = one.state} (sound_byte k b) (free - length one.replies) bs)))
    (λ e. omega arith)

-- a call that is not refused takes at least one byte, if there is one
pub takes_some : (s : State) (reply : List ℕ) (b : ℕ) (bs : List ℕ) → host_refusal s reply ≡ Ok tt
    → 1 ≤ (host_bytes s reply (b ∷ bs)).answer.taken
unfolding host_bytes unless taken_of
takes_some s reply b bs e = rw (e, le-leb _ _ (sound_of s (host [] reply) (ap is_taken e)).room) (omega arith)

-- how much a call offers
abbrev pub offered : Call → ℕ
offered (host input reply) = length input
offered (key code reply) = 1

taken_fits : (s : State) (c : Call) → taken_by s c ≤ offered c
taken_fits s (host input reply) = taken_most s (length reply) input
taken_fits s (key code reply) = omega arith

written_fits : (s : State) (c : Call) → Accepted s (reply_of c) → length (ran_by s c).replies ≤ length (reply_of c)
written_fits s (host input reply) a = replies_fit a.sound (length reply) input
written_fits s (key code reply) a = le_trans (room_key a.sound code) a.room

pub record Bounded (c : Call) (o : Outcome) : Type 0 where
  pub taken : o.answer.taken ≤ offered c
  pub written : o.answer.written ≤ length (reply_of c)
  pub long : length o.reply ≡ length (reply_of c)

-- no more is taken than was offered, no more written than was replyOf, and the reply buffer keeps its length
pub called_bounded : (s : State) (c : Call) → Bounded c (called s c)
called_bounded s c =
    called_cases (Bounded c) s c
    (λ t.
    let fits = written_fits s c (sound_of s c (ap is_taken t)) in
    record { taken = taken_fits s c; written = fits; long = simp (length-append, length-drop) (omega arith) })
    (λ r f. record { taken = omega arith; written = omega arith; long = refl })
