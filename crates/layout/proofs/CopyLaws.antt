-- Laws of what the code reads and writes.
use Rattle.layout.proofs.Kit.{◌≡◌, refl, sym, ◌∙◌, List, [], ◌∷◌, ◌++◌, append-nil, ℕ, zero, suc, ◌+◌, ◌≤◌, zero-add, arith}
use Rattle.layout.proofs.Kit.{length, set, take, drop, replicate, length-append, length-drop, length-take-le, length-replicate, drop_of_length-le, get_or-take, get_or-drop}
use Rattle.layout.proofs.Kit.{sets-eq, take-length, tabulate, tabulated, put_mid, put_mid-paste}
use Rattle.layout.proofs.Kit.{Emitted, emitted_then, emitted_whole}
use Rattle.rules.specs.declared.Session.{Session}
use Rattle.layout.specs.Layout.{session_length, byte_at, bytes_from, frame_bytes, reader_bytes, pad_bytes, rest_bytes, encoded}
use Rattle.layout.specs.Layout.{decoded, layouts}

-- ---- what the code reads

zeros : (n k : ℕ) → byte_at (replicate n 0) k ≡ 0
zeros zero k = refl
zeros (suc n) zero = refl
zeros (suc n) (suc k) = zeros n k

-- zeros behind a list read as what lies beyond its end
zeros_behind : (xs : List ℕ) (m n k : ℕ) → byte_at (xs ++ drop m (replicate n 0)) k ≡ byte_at xs k
zeros_behind [] m n k = get_or-drop m (replicate n 0) k 0 ∙ zeros n (m + k)
zeros_behind (x ∷ xs) m n zero = refl
zeros_behind (x ∷ xs) m n (suc k) = zeros_behind xs m n k

module _ (bytes : List ℕ) where
  -- a part of them
  pub part_read : (from n k : ℕ) → k ≡ n → from + n ≤ length bytes → take k (drop from bytes) ≡ bytes_from bytes from n
  part_read from n k e h =
      rw e
      (tabulated (λ i. byte_at bytes (from + i)) (take n (drop from bytes)) n 0 (length-take-le n (drop from bytes) (rw length-drop (omega arith)))
      (λ i q. get_or-take n (drop from bytes) i 0 q ∙ get_or-drop from bytes i 0))

  -- zeros up to a session's length read as what lies beyond the end
  pub padded_same : decoded (bytes_from bytes 0 session_length) ≡ decoded bytes
  unfolding layouts tabulate
  padded_same = refl

  -- so a session's length of them, and so do fewer over zeros
  pub front_same : {s : Session} {whole : List ℕ} → session_length ≤ length bytes → whole ≡ take session_length bytes → s ≡ decoded whole → s ≡ decoded bytes
  front_same h e d = d ∙ rw (e, part_read 0 session_length session_length refl (omega arith)) padded_same

  pub short_same : {s : Session} {part : List ℕ} → length bytes ≤ session_length → part ≡ bytes → s ≡ decoded (part ++ drop (length bytes) (replicate session_length 0)) → s ≡ decoded bytes
  short_same h e d =
      let long : length (bytes ++ drop (length bytes) (replicate session_length 0)) ≡ session_length = simp (length-append, length-drop, length-replicate) (omega arith) in
      d ∙ rw (
        e,
        tabulated (λ k. byte_at bytes (0 + k)) (bytes ++ drop (length bytes) (replicate session_length 0)) session_length 0 long
            (λ k q. zeros_behind bytes (length bytes) session_length k ∙ rw zero-add),
      ) padded_same

-- ---- what it writes

-- a byte stored, and more behind it
pub emitted_first : {buf bytes buf₁ : List ℕ} {at end x : ℕ} → Emitted (set buf at x) (suc at) bytes buf₁ end → Emitted buf at (x ∷ bytes) buf₁ end
emitted_first p = record { next = omega (arith, p.next); stored = p.stored }

-- bytes that were copied whole
pub emitted_copy : {buf bytes part : List ℕ} {at k end : ℕ} → part ≡ bytes → length bytes ≡ k → at + k ≤ length buf → end ≡ at + k
    → Emitted buf at bytes (put_mid at k buf part) end
emitted_copy {buf} {bytes} {part} {at} {k} e l h q = record {
  next = omega arith;
  stored = put_mid-paste at k buf part bytes (length bytes) e l refl ∙ rw (take-length bytes) (sym (sets-eq bytes buf at (omega arith)));
}

-- and a byte stored behind them
pub emitted_last : {buf bytes buf₁ : List ℕ} {at next end : ℕ} (x : ℕ) → Emitted buf at bytes buf₁ next → end ≡ next + 1 → Emitted buf at (bytes ++ (x ∷ [])) (set buf₁ next x) end
emitted_last x p e = emitted_then p (record { next = e; stored = refl })

-- the frame, the reader, the PAD and the rest of the frame, one behind the other over as many bytes
pub session_put : (s : Session) {b b₁ b₂ b₃ b₄ : List ℕ} → length b ≡ session_length → Emitted b 0 (frame_bytes s.frame) b₁ 8
    → Emitted b₁ 8 (reader_bytes s.reader) b₂ 18 → Emitted b₂ 18 (pad_bytes s.pad) b₃ 206
    → Emitted b₃ 206 (rest_bytes s.frame) b₄ 212 → b₄ ≡ encoded s
unfolding encoded
session_put s {b} l f r p m =
    let all = emitted_then f (emitted_then r (emitted_then p m)) in
    let long : length (encoded s) ≡ length b = omega (arith, all.next, l) in
    let rest : drop (length (encoded s)) b ≡ [] = drop_of_length-le b {i = length (encoded s)} (omega (arith, long)) in
    emitted_whole (omega (arith, long)) all ∙ rw rest (append-nil (encoded s))
