-- Laws of the layout: a session and its bytes determine each other.
use Rattle.layout.proofs.Kit.{◌≡◌, refl, sym, subst, ◌∙◌, Bool, true, false, ◌&&◌, ◌||◌, List, ◌∷◌, ℕ, zero, suc, arith}
use Rattle.layout.proofs.Kit.{eqb, leb, leb-true, eqb-true, eqb-false, le-leb, eq-eqb, ne_eqb, true_or_false, and_left, and_right}
use Rattle.layout.proofs.Kit.{length, tabulate, tabulated}
use Rattle.telnet.specs.declared.Verb.TheVariants.{Will, Wont, Do, Dont}
use Rattle.telnet.specs.declared.Phase.{Phase}
use Rattle.telnet.specs.declared.Phase.TheVariants.{Rest, Iac, Negotiating, Opening, OpeningIac, Inside, InsideIac}
use Rattle.pad.specs.declared.message.Stage.{Stage}
use Rattle.pad.specs.declared.message.Stage.TheVariants.{Code, Parameter, Value}
use Rattle.pad.specs.Parameters.{parameters}
use Rattle.pad.specs.Message.{messages}
use Rattle.pad.specs.Line.{lines}
use Rattle.rules.specs.declared.Edition.{Edition}
use Rattle.rules.specs.declared.Edition.TheVariants.{June, September}
use Rattle.rules.specs.declared.Session.{Session}
use Rattle.rules.specs.Session.{fresh}
use Rattle.layout.specs.Layout.{session_length, version, bit_of, phase_bytes, stage_at, stage_bytes, edition_number, encoded, stored}
use Rattle.layout.specs.Layout.{byte_at, bytes_from, is_flag, has_flags, is_phase, is_stage, has_places, is_session}
use Rattle.layout.specs.Layout.{phase_of, stage_of, edition_numbered, maps_in, frame_in, reader_in, pad_in, decoded, layouts}

-- n bytes are those that are read from them
abbrev Spelled : List ℕ → ℕ → Type 0
Spelled xs n = xs ≡ tabulate (byte_at xs) 0 n

read_whole : (xs : List ℕ) (n : ℕ) → length xs ≡ n → Spelled xs n
read_whole xs n e = tabulated (byte_at xs) xs n 0 e (λ k h. refl)

-- ---- from a session to its bytes and back

-- a flag is read back, and is one
flag_back : (b : Bool) → (eqb (bit_of b) 1 ≡ b) × (is_flag (bit_of b) ≡ true)
flag_back true = (refl, refl)
flag_back false = (refl, refl)

-- so is where the reader stands
phase_back : (p : Phase)
    → let at = phase_bytes p in
    (phase_of at.number at.option ≡ p) × (is_phase at.number at.option ≡ true)
unfolding layouts
phase_back Rest = (refl, refl)
phase_back Iac = (refl, refl)
phase_back (Negotiating Will) = (refl, refl)
phase_back (Negotiating Wont) = (refl, refl)
phase_back (Negotiating Do) = (refl, refl)
phase_back (Negotiating Dont) = (refl, refl)
phase_back Opening = (refl, refl)
phase_back OpeningIac = (refl, refl)
phase_back (Inside option) = (refl, refl)
phase_back (InsideIac option) = (refl, refl)

-- and what is next in a message
stage_back : (s : Stage)
    → let at = stage_bytes s in
    (stage_of at.number at.code at.parameter ≡ s) × (is_stage at.number at.code at.parameter ≡ true)
unfolding layouts
stage_back Code = (refl, refl)
stage_back (Parameter code) = (refl, refl)
stage_back (Value code parameter) = (refl, refl)

-- and the edition
edition_back : (e : Edition) → (edition_numbered (edition_number e) ≡ e) × (is_flag (edition_number e) ≡ true)
unfolding layouts
edition_back June = (refl, refl)
edition_back September = (refl, refl)

-- what every Rattle value of the type has: its arrays have their lengths
pub record Sized (s : Session) : Type 0 where
  pub held : length s.reader.held.bytes ≡ 6
  pub values : length s.pad.values.held ≡ 28
  pub line : length s.pad.line.bytes ≡ 128
  pub copy : length s.pad.message.copy.held ≡ 28

module _ (s : Session) (z : Sized s) where
  held : Spelled s.reader.held.bytes 6
  held = read_whole _ 6 z.held

  values : Spelled s.pad.values.held 28
  values = read_whole _ 28 z.values

  line : Spelled s.pad.line.bytes 128
  line = read_whole _ 128 z.line

  copy : Spelled s.pad.message.copy.held 28
  copy = read_whole _ 28 z.copy

  -- a session's bytes are 212
  pub encoded_length : length (encoded s) ≡ session_length
  unfolding encoded tabulate
  encoded_length = rw (held, values, line, copy)

  -- they are those of a session
  pub encoded_session : is_session (encoded s) ≡ true
  unfolding is_session encoded tabulate
  encoded_session =
      rw (
        encoded_length,
        held,
        values,
        line,
        copy,
        (flag_back s.frame.det).1,
        (flag_back s.frame.x3).1,
        (flag_back s.frame.suppressed).1,
        (flag_back s.reader.cr).1,
        (phase_back s.reader.phase).1,
        (stage_back s.pad.message.stage).1,
        (edition_back s.frame.edition).1,
      )

  maps_back : maps_in (encoded s) ≡ s.frame.received
  unfolding maps_in encoded tabulate
  maps_back = rw (held, values, line, copy)

  named_back : edition_numbered (byte_at (encoded s) 211) ≡ s.frame.edition
  unfolding encoded tabulate
  named_back = rw (held, values, line, copy) (edition_back s.frame.edition).0

  frame_back : frame_in (encoded s) ≡ s.frame
  unfolding frame_in encoded
  frame_back =
      rw (
        named_back,
        (flag_back s.frame.det).0,
        (flag_back s.frame.x3).0,
        (flag_back s.frame.suppressed).0,
        maps_back,
      )

  reader_back : reader_in (encoded s) ≡ s.reader
  unfolding reader_in encoded tabulate
  reader_back = rw ((phase_back s.reader.phase).0, held, (flag_back s.reader.cr).0) (rw (← held))

  values_back : bytes_from (encoded s) 18 28 ≡ s.pad.values.held
  unfolding encoded tabulate
  values_back = rw (held, values)

  count_back : byte_at (encoded s) 46 ≡ s.pad.line.len
  unfolding encoded tabulate
  count_back = rw (held, values)

  line_back : bytes_from (encoded s) 47 128 ≡ s.pad.line.bytes
  unfolding encoded tabulate
  line_back = rw (held, values, line)

  next_back : stage_of (byte_at (encoded s) 175) (byte_at (encoded s) 176) (byte_at (encoded s) 177) ≡ s.pad.message.stage
  unfolding encoded tabulate
  next_back = rw (held, values, line) (stage_back s.pad.message.stage).0

  copy_back : bytes_from (encoded s) 178 28 ≡ s.pad.message.copy.held
  unfolding encoded tabulate
  copy_back = rw (held, values, line, copy)

  pad_back : pad_in (encoded s) ≡ s.pad
  unfolding pad_in
  pad_back = rw (values_back, count_back, line_back, next_back, copy_back)

  -- and give it back
  pub decoded_encoded : decoded (encoded s) ≡ s
  unfolding decoded
  decoded_encoded = rw (frame_back, reader_back, pad_back)

-- ---- from bytes to a session and back

-- every number up to n passes a test
abbrev all_up_to : (ℕ → Bool) → ℕ → Bool
all_up_to test zero = test 0
all_up_to test (suc n) = test (suc n) && all_up_to test n

-- so does each of them
up_to : (test : ℕ → Bool) (n k : ℕ) → all_up_to test n ≡ true → leb k n ≡ true → test k ≡ true
up_to test zero k h e = let z : k ≡ 0 = omega (arith, leb-true k 0 e) in rw z h
up_to test (suc n) k h e =
    true_or_false (eqb k (suc n)) (λ t. rw (eqb-true k (suc n) t) (and_left (test (suc n)) _ h))
    (λ f. up_to test n k (and_right (test (suc n)) _ h) (le-leb k n (omega (arith, leb-true k (suc n) e, eqb-false k (suc n) f))))

-- a flag is written back
flag_kept : (n : ℕ) → is_flag n ≡ true → bit_of (eqb n 1) ≡ n
flag_kept n e = eqb-true _ _ (up_to (λ k. eqb (bit_of (eqb k 1)) k) 1 n refl e)

-- so is where the reader stands
module _ (n o : ℕ) (h : is_phase n o ≡ true) where
  known : leb n 9 ≡ true
  known = and_left (leb n 9) _ h

  number_kept : (phase_bytes (phase_of n o)).number ≡ n
  unfolding layouts
  number_kept = eqb-true _ _ (up_to (λ k. eqb (phase_bytes (phase_of k o)).number k) 9 n refl known)

  option_kept : (phase_bytes (phase_of n o)).option ≡ o
  unfolding layouts
  option_kept =
      true_or_false (leb 8 n)
      (λ t.
      true_or_false (eqb n 8) (λ q. rw (eqb-true n 8 q))
      (λ q. let nine : n ≡ 9 = omega (arith, leb-true 8 n t, leb-true n 9 known, eqb-false n 8 q) in rw nine))
      (λ f.
      let none = up_to (λ k. leb 8 k || eqb (phase_bytes (phase_of k o)).option 0) 9 n refl known in
      eqb-true _ 0 (rw f at none) ∙ sym (eqb-true o 0 (rw f at (and_right (leb n 9) _ h))))

-- and what is next in a message
stage_kept : (n c p : ℕ) → is_stage n c p ≡ true → stage_bytes (stage_of n c p) ≡ stage_at n c p
unfolding layouts
stage_kept n c p h =
    true_or_false (eqb n 0)
    (λ t. let both : (eqb c 0 && eqb p 0) ≡ true = rw t at h in
    rw (t, eqb-true n 0 t, eqb-true c 0 (and_left _ _ both), eqb-true p 0 (and_right (eqb c 0) _ both)))
    (λ f. true_or_false (eqb n 1)
    (λ t. rw (f, t, eqb-true n 1 t, eqb-true p 0 (rw (f, t) at h)))
    (λ g. rw (f, g, eqb-true n 2 (rw (f, g) at h))))

-- and the edition
edition_kept : (n : ℕ) → is_flag n ≡ true → edition_number (edition_numbered n) ≡ n
unfolding layouts
edition_kept n e = eqb-true _ _ (up_to (λ k. eqb (edition_number (edition_numbered k)) k) 1 n refl e)

module _ (b : List ℕ) (h : is_session b ≡ true) where
  abbrev at : ℕ → ℕ
  at = byte_at b

  -- bytes that are a session are 212
  pub session_length_lem : length b ≡ session_length
  unfolding is_session
  session_length_lem = eqb-true _ _ (and_left (eqb (length b) session_length) _ h)

  -- what else was tested
  past_length : (eqb (at 0) version && (has_flags b && has_places b)) ≡ true
  unfolding is_session
  past_length = and_right (eqb (length b) session_length) _ h

  version_right : at 0 ≡ version
  version_right = eqb-true _ _ (and_left (eqb (at 0) version) _ past_length)

  flags : (is_flag (at 5) ≡ true) × (is_flag (at 6) ≡ true) × (is_flag (at 7) ≡ true) × (is_flag (at 17) ≡ true)
      × (is_flag (at 211) ≡ true)
  flags =
      let all = and_left (has_flags b) _ (and_right (eqb (at 0) version) _ past_length) in
      let two = and_right (is_flag (at 5)) _ all in
      let three = and_right (is_flag (at 6)) _ two in
      let four = and_right (is_flag (at 7)) _ three in
      (and_left _ _ all, and_left _ _ two, and_left _ _ three, and_left _ _ four, and_right (is_flag (at 17)) _ four)

  places : has_places b ≡ true
  places = and_right (has_flags b) _ (and_right (eqb (at 0) version) _ past_length)

  -- and those of the session read from them
  pub encoded_decoded : encoded (decoded b) ≡ b
  unfolding encoded decoded maps_in frame_in reader_in pad_in tabulate
  encoded_decoded =
      let phase = and_left (is_phase (at 8) (at 9)) _ places in
      let stage = and_right (is_phase (at 8) (at 9)) _ places in
      rw (
        flag_kept (at 5) flags.0,
        flag_kept (at 6) flags.1,
        flag_kept (at 7) flags.2,
        flag_kept (at 17) flags.3,
        number_kept (at 8) (at 9) phase,
        option_kept (at 8) (at 9) phase,
        stage_kept (at 175) (at 176) (at 177) stage,
        edition_kept (at 211) flags.4,
      )
      (subst (λ (v : ℕ). v ∷ bytes_from b 1 211 ≡ b) version_right (sym (read_whole b 212 session_length_lem)))

-- ---- what a caller keeps

-- the session that an open returns, refused or not, has bytes that are one
pub fresh_sized : (m n : ℕ) (e : Edition) → Sized (fresh m n e)
unfolding parameters messages lines
fresh_sized m n e = record { held = refl; values = refl; line = refl; copy = refl }

pub refused_open : is_session (encoded (fresh 0 0 September)) ≡ true
refused_open = encoded_session (fresh 0 0 September) (fresh_sized 0 0 September)

-- a place for a session holds one afterwards, and no other place changes
module _ (s : Session) (b : List ℕ) where
  pub stored_there : length b ≡ session_length → stored s b ≡ encoded s
  unfolding stored
  stored_there e = rw (eq-eqb (length b) session_length e)

  pub stored_elsewhere : (length b ≡ session_length → ⊥) → stored s b ≡ b
  unfolding stored
  stored_elsewhere h = rw (ne_eqb (length b) session_length h)
