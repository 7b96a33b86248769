-- Host bytes one after the other: a run of two inputs, calls that take all they are offered, and a loop over the input.
use Rattle.std.proofs.Common.{◌≡◌, refl, sym, ap, ap₂, ◌∙◌, List, [], ◌∷◌, ◌++◌, append_assoc, ℕ, suc, ◌+◌, ◌-◌, ◌≤◌, ◌<◌, add-one, arith, leb-true, le-leb, leb, length, length-append, get_or, drop, drop_of_length-le, drop-cons, Ok}
use borrow.Author.Tests.{lt-leb}
use lib.Seq.{take-length, take-append_seam}
use Rattle.words.proofs.Laws.{either}
use Rattle.rules.specs.Session.{State, reply_room}
use Rattle.rules.specs.Refusal.{is_taken}
use Rattle.rules.specs.Effect.{Executed}
use Rattle.rules.specs.Operation.{Ran, host_byte, running, answering, unless, taken_of, host_refusal, host_bytes}
use Rattle.rules.specs.Call.{host, left, executed_by}
use Rattle.rules.proofs.Calls.{replies_in}
use Rattle.rules.proofs.Sound.{Sound, sound_byte, sound_of, passes}
use Rattle.rules.proofs.Room.{room_is, room_byte}

abbrev ran : State → List ℕ → List Executed → Ran
ran s replies executed = record { state = s; replies = replies; executed = executed }

-- a run, and another from where it ended
abbrev pub followed : Ran → Ran → Ran
followed a b = record { state = b.state; replies = a.replies ++ b.replies; executed = a.executed ++ b.executed }

-- some bytes, and then others
pub running_append : (s : State) (xs ys : List ℕ)
    → running s (xs ++ ys) ≡ followed (running s xs) (running (running s xs).state ys)
unfolding running
running_append s [] ys = refl
running_append s (x ∷ xs) ys =
    let one = host_byte s x in
    let rest = running one.state xs in
    let last = running rest.state ys in
    ap (followed one) (running_append one.state xs ys)
    ∙ ap₂ (λ replies executed. ran last.state replies executed)
    (sym (append_assoc one.replies rest.replies last.replies))
    (sym (append_assoc one.executed rest.executed last.executed))

-- ---- all is taken

-- how many are taken after a first byte
abbrev pub taken_after : State → ℕ → ℕ → List ℕ → ℕ
taken_after s free b bs = taken_of (host_byte s b).state (free - length (host_byte s b).replies) bs

module _ (s : State) (free b : ℕ) (bs : List ℕ) where
  one_taken : reply_room s.session.frame ≤ free → taken_of s free (b ∷ bs) ≡ suc (taken_after s free b bs)
  unfolding taken_of
  one_taken h = rw (le-leb _ _ h)

  first_taken : taken_of s free (b ∷ bs) ≡ suc (length bs)
      → (reply_room s.session.frame ≤ free) × (taken_after s free b bs ≡ length bs)
  unfolding taken_of
  first_taken =
      either (λ n. n ≡ suc (length bs) → (reply_room s.session.frame ≤ free) × (taken_after s free b bs ≡ length bs))
      (leb (reply_room s.session.frame) free) (λ t e. omega (arith, leb-true)) (λ t e. absurd (omega arith))

more_room : (s : State) (a c : ℕ) (xs : List ℕ) → a ≤ c → taken_of s a xs ≡ length xs → taken_of s c xs ≡ length xs
unfolding taken_of
more_room s a c [] h e = refl
more_room s a c (x ∷ xs) h e =
    let f = first_taken s a x xs e in
    one_taken s c x xs (omega arith)
    ∙ ap suc (more_room (host_byte s x).state (a - length (host_byte s x).replies) _ xs (omega arith) f.1)

all_taken : {m n : ℕ} {s : State} → Sound m n s → (a b c : ℕ) (xs ys : List ℕ) → taken_of s a xs ≡ length xs
    → taken_of (running s xs).state b ys ≡ length ys → a + b ≤ c → taken_of s c (xs ++ ys) ≡ length (xs ++ ys)
unfolding running
all_taken k a b c [] ys e d h = more_room _ b c ys (omega arith) d
all_taken {s = s} k a b c (x ∷ xs) ys e d h =
    let f = first_taken s a x xs e in
    let r = room_byte k x in
    one_taken s c x (xs ++ ys) (omega arith)
    ∙ ap suc (all_taken {s = (host_byte s x).state} (sound_byte k x) (a - length (host_byte s x).replies) b _ xs ys f.1 d (omega arith))

-- bytes that draw no reply are all taken, where there is room for one
pub silent_taken : {m n : ℕ} {s : State} → Sound m n s → (free : ℕ) (xs ys : List ℕ) → reply_room s.session.frame ≤ free
    → length (running s xs).replies ≡ 0 → taken_of s free (xs ++ ys) ≡ length xs + taken_of (running s xs).state free ys
unfolding running
silent_taken k free [] ys r e = omega arith
silent_taken {s = s} k free (x ∷ xs) ys r e =
    let one = host_byte s x in
    let both = length-append one.replies (running one.state xs).replies in
    let same : free - length one.replies ≡ free = omega arith in
    let rest = silent_taken {s = one.state} (sound_byte k x) free xs ys (rw (room_is (sound_byte k x), ← room_is k) r) (omega arith) in
    one_taken s free x (xs ++ ys) r ∙ rw same (omega (arith, rest))

-- ---- two calls, or one

-- a call of host bytes that takes all its input
pub record TakesAll (s : State) (reply input : List ℕ) : Type 0 where
  pub accepted : host_refusal s reply ≡ Ok tt
  pub whole : taken_of s (length reply) input ≡ length input

module _ {s : State} {reply input : List ℕ} (t : TakesAll s reply input) where
  -- what it returns and leaves
  pub whole_taken : host_bytes s reply input ≡ answering (length input) (running s input) reply
  unfolding host_bytes unless
  whole_taken = rw (t.accepted, t.whole, take-length)

  whole_left : left (host_bytes s reply input) ≡ (running s input).state
  whole_left = rw whole_taken

  whole_replies : replies_in (host_bytes s reply input) ≡ (running s input).replies
  whole_replies = rw (whole_taken, take-append_seam)

  whole_executed : executed_by s (host input reply) ≡ (running s input).executed
  unfolding executed_by
  whole_executed = rw (t.accepted, t.whole, take-length)

-- One call with both inputs ends as the second ended, writes what the two wrote and executes what they executed.
pub record Joined (s : State) (xs ys a b c : List ℕ) : Type 0 where
  pub ends : left (host_bytes s c (xs ++ ys)) ≡ left (host_bytes (left (host_bytes s a xs)) b ys)
  pub replies : replies_in (host_bytes s c (xs ++ ys))
      ≡ replies_in (host_bytes s a xs) ++ replies_in (host_bytes (left (host_bytes s a xs)) b ys)
  pub executed : executed_by s (host (xs ++ ys) c) ≡ executed_by s (host xs a) ++ executed_by (left (host_bytes s a xs)) (host ys b)

module _ {s : State} {xs ys a b : List ℕ} (one : TakesAll s a xs) (two : TakesAll (left (host_bytes s a xs)) b ys) where
  -- a reply buffer as long as the two has room for all
  pub room_for_both : (c : List ℕ) → length a + length b ≤ length c → TakesAll s c (xs ++ ys)
  room_for_both c h =
      let k = sound_of s (host xs a) (ap is_taken one.accepted) in
      record {
        accepted = passes k.sound c (omega (arith, k.room));
        whole = all_taken k.sound (length a) (length b) _ xs ys one.whole (rw (whole_left one) at two.whole) h;
      }

  -- one call for two
  pub joined : (c : List ℕ) → TakesAll s c (xs ++ ys) → Joined s xs ys a b c
  joined c both = record {
    ends = rw (whole_left both, whole_left two, whole_left one, running_append);
    replies = rw (whole_replies both, whole_replies two, whole_replies one, whole_left one, running_append);
    executed = rw (whole_executed both, whole_executed two, whole_executed one, whole_left one, running_append);
  }

-- ---- a loop over the input

-- from i on, with room for a reply: the byte at i is taken, and those from i + 1 on as many as then
module _ (s : State) (free : ℕ) (input : List ℕ) (i : ℕ) (h : i < length input) (r : reply_room s.session.frame ≤ free) where
  pub taken_step : taken_of s free (drop i input) ≡ suc (taken_after s free (get_or input i 0) (drop (i + 1) input))
  taken_step = rw (add-one, drop-cons input i 0) (one_taken s free _ _ r)

-- with no input left nothing more is taken
pub taken_end : (s : State) (free : ℕ) (input : List ℕ) (i : ℕ) → length input ≤ i → taken_of s free (drop i input) ≡ 0
unfolding taken_of
taken_end s free input i h = rw (drop_of_length-le input h)

-- nor with no room
pub taken_full : (s : State) (free : ℕ) (bs : List ℕ) → free < reply_room s.session.frame → taken_of s free bs ≡ 0
unfolding taken_of
taken_full s free [] h = refl
taken_full s free (b ∷ bs) h = rw (lt-leb _ _ h)
