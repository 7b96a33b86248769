-- Replies written piece by piece from a place on. A piece that does not fit is left out, and changes nothing.
use Rattle.std.specs.Prelude.{◌≡◌, List, [], ◌∷◌, ℕ, ◌+◌, leb, length, if◌then◌else◌}
use Rattle.std.proofs.lemmas.List.Edits.{sets}
use Rattle.reply.specs.declared.Reply.{Reply}

-- a lent buffer, and the place in it that is written next
pub record Buffer : Type 0 where
  pub bytes : List ℕ
  pub next : ℕ

abbrev pub buffer : List ℕ → ℕ → Buffer
buffer bytes next = record { bytes = bytes; next = next }

-- one piece
abbrev pub wrote_one : Buffer → List ℕ → Buffer
wrote_one b p = if leb (b.next + length p) (length b.bytes) then buffer (sets b.bytes b.next p) (b.next + length p) else b

-- and one after the other
unfoldable pub wrote_all : Buffer → List (List ℕ) → Buffer
wrote_all b [] = b
wrote_all b (p ∷ ps) = wrote_all (wrote_one b p) ps

-- from a buffer and a place, these pieces gave this buffer and the next place
pub record Wrote (buf : List ℕ) (at : ℕ) (pieces : List (List ℕ)) (buf' : List ℕ) (at' : ℕ) : Type 0 where
  pub stored : buf' ≡ (wrote_all (buffer buf at) pieces).bytes
  pub next : at' ≡ (wrote_all (buffer buf at) pieces).next

-- From a reply, these pieces gave this reply: in the buffer that was lent, what it holds now, and the place after what was written.
pub record Puts (r : Reply) (pieces : List (List ℕ)) (r' : Reply) : Type 0 where
  pub same_buffer : r'.buffer.ghost_name ≡ r.buffer.ghost_name
  pub wrote : Wrote r.buffer.now r.at pieces r'.buffer.now r'.at
