-- Laws of bytes stored one after the other.
use Rattle.std.proofs.Common.{◌≡◌, refl, ap, ◌∙◌, List, [], ◌∷◌, ◌++◌, ℕ, suc, ◌+◌, add-zero, zero-add, add-suc, suc-add, arith, length, drop, length-append}
use lib.Seq.{sets, sets-eq, length-sets}
use Rattle.words.specs.Stored.{Room, Emitted}

-- two runs of stores in a row are one
pub sets_append : (xs buf : List ℕ) (at : ℕ) (ys : List ℕ) → sets (sets buf at xs) (at + length xs) ys ≡ sets buf at (xs ++ ys)
sets_append [] buf at ys = rw add-zero
sets_append (x ∷ xs) buf at ys = rw (add-suc, ← suc-add at (length xs)) (sets_append xs _ (suc at) ys)

-- nothing is stored
pub emitted_none : {buf : List ℕ} {at : ℕ} → Emitted buf at [] buf at
emitted_none = record { next = rw add-zero; stored = refl }

module _ {buf : List ℕ} {at : ℕ} {xs buf₁ : List ℕ} {at₁ : ℕ} (p : Emitted buf at xs buf₁ at₁) where
  -- the buffer keeps its length
  pub emitted_length : length buf₁ ≡ length buf
  emitted_length = ap length p.stored ∙ length-sets buf at xs

  -- two writes in a row
  pub emitted_then : {ys buf₂ : List ℕ} {at₂ : ℕ} → Emitted buf₁ at₁ ys buf₂ at₂ → Emitted buf at (xs ++ ys) buf₂ at₂
  emitted_then {ys} q = record {
    next = rw length-append (omega (arith, p.next, q.next));
    stored = q.stored ∙ rw (p.stored, p.next) (sets_append xs buf at ys);
  }

-- stored from the start: the bytes at the front, the rest as lent
pub emitted_whole : {buf bytes buf₁ : List ℕ} {at₁ : ℕ} → Room buf 0 bytes → Emitted buf 0 bytes buf₁ at₁
    → buf₁ ≡ bytes ++ drop (length bytes) buf
emitted_whole {buf} {bytes} room p = p.stored ∙ sets-eq bytes buf 0 room ∙ rw zero-add
