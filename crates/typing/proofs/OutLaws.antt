-- Laws of what goes out: characters as they are sent, one after the other.
use Rattle.typing.proofs.Kit.{◌≡◌, refl, sym, ◌∙◌, Bool, List, [], ◌∷◌, ◌++◌, append_assoc, append-nil, ℕ, ◌+◌, ◌*◌, ◌≤◌, ◌<◌, add-one, arith, eqb, length, get_or, take, length-append, length-take, take-suc, take_all, Emitted, either, emitted_none, emitted_then}
use Rattle.typing.specs.Keys.{sent_as, all_sent}

-- ---- characters as they go out

module _ (lf : Bool) where
  pub sent_as_most : (b : ℕ) → length (sent_as lf b) ≤ 2
  unfolding sent_as
  sent_as_most b = either (λ (l : List ℕ). length l ≤ 2) (eqb b 13) (λ e. omega arith) (λ e. omega arith)

  pub all_sent_most : (bs : List ℕ) → length (all_sent lf bs) ≤ 2 * length bs
  unfolding all_sent
  all_sent_most [] = omega arith
  all_sent_most (b ∷ bs) = simp length-append (omega (arith, sent_as_most b, all_sent_most bs))

  pub all_sent_append : (xs ys : List ℕ) → all_sent lf (xs ++ ys) ≡ all_sent lf xs ++ all_sent lf ys
  unfolding all_sent
  all_sent_append [] ys = refl
  all_sent_append (x ∷ xs) ys = rw (all_sent_append xs ys, append_assoc)

  pub all_sent_last : (xs : List ℕ) (b : ℕ) → all_sent lf xs ++ sent_as lf b ≡ all_sent lf (xs ++ (b ∷ []))
  unfolding all_sent
  all_sent_last xs b = sym (all_sent_append xs (b ∷ []) ∙ rw append-nil)

-- a loop over a text has written its first i characters
pub record Sent (lf : Bool) (text a : List ℕ) (i : ℕ) (b : List ℕ) (at : ℕ) : Type 0 where
  pub written : Emitted a 0 (all_sent lf (take i text)) b at

pub sent_none : {lf : Bool} {text a : List ℕ} → Sent lf text a 0 a 0
unfolding all_sent
sent_none = record { written = emitted_none }

module _ {lf : Bool} {text a : List ℕ} {i : ℕ} {b : List ℕ} {at : ℕ} (done : Sent lf text a i b at) where
  pub sent_few : length text ≤ 128 → at ≤ 256
  sent_few h = omega (arith, done.written.next, all_sent_most lf (take i text), length-take i text)

  pub sent_more : {c : List ℕ} {at' : ℕ} → i < length text → Emitted b at (sent_as lf (get_or text i 0)) c at' → Sent lf text a (i + 1) c at'
  sent_more h p = record { written = rw (add-one, take-suc text i 0, ← all_sent_last) (emitted_then done.written p) }

  -- all of them, and then one
  pub sent_all : (t : List ℕ) (key : ℕ) {c d : List ℕ} {at' : ℕ} → text ≡ t → length text ≤ i → Emitted b at (sent_as lf key) c at' → d ≡ c
      → Emitted a 0 (all_sent lf (t ++ (key ∷ []))) d at'
  sent_all t key e h p is = rw (← e, is, ← all_sent_last) (emitted_then (rw (take_all i text h) at done.written) p)
