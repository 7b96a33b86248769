-- Laws of the bytes of a subnegotiation: what is held so far is what the bytes so far leave, and of a whole one the first six are held.
use Rattle.std.proofs.Common.{◌≡◌, refl, sym, ap, ◌∙◌, List, [], ◌∷◌, ◌++◌, ℕ, ◌+◌, ◌≤◌, ◌<◌, min, add-one, arith, length, get_or, le-ltb, drop, take, take-suc, take_all, take-append-drop}
use Rattle.rules.specs.declared.Held.{Held}
use Rattle.rules.specs.Session.{none_held}
use Rattle.rules.specs.Telnet.{holding}
use Rattle.command.specs.Held.{holding_all}

holding_next : (h : Held) (xs : List ℕ) (b : ℕ) → holding_all h (xs ++ (b ∷ [])) ≡ holding (holding_all h xs) b
unfolding holding_all
holding_next h [] b = refl
holding_next h (x ∷ xs) b = holding_next (holding h x) xs b

holding_append : (h : Held) (xs ys : List ℕ) → holding_all h (xs ++ ys) ≡ holding_all (holding_all h xs) ys
unfolding holding_all
holding_append h [] ys = refl
holding_append h (x ∷ xs) ys = holding_append (holding h x) xs ys

holding_full : (h : Held) (xs : List ℕ) → 6 ≤ h.count → holding_all h xs ≡ h
unfolding holding_all holding
holding_full h [] l = refl
holding_full h (x ∷ xs) l = rw (le-ltb h.count 6 l) (holding_full h xs l)

module _ (bytes : List ℕ) (h₀ : Held) {h : Held} (at : ℕ) (r : h ≡ holding_all h₀ (take at bytes)) where
  -- a byte more
  pub held_more : {h' : Held} → at < length bytes → h' ≡ holding h (get_or bytes at 0) → h' ≡ holding_all h₀ (take (at + 1) bytes)
  held_more l one = one ∙ rw (add-one, take-suc bytes at 0 l, holding_next, ← r)

  -- all of them
  pub held_all : length bytes ≤ at → h ≡ holding_all h₀ bytes
  held_all l = rw (take_all at bytes l) at r

  -- where six or more are, the rest leaves them
  pub held_full : 6 ≤ h.count → h ≡ holding_all h₀ bytes
  held_full l =
      sym (holding_full h (drop at bytes) l) ∙ ap (λ (x : Held). holding_all x (drop at bytes)) r
      ∙ sym (holding_append h₀ (take at bytes) (drop at bytes)) ∙ ap (holding_all h₀) (take-append-drop at bytes)

-- ---- a whole one

-- where six are held, no byte more is
full : (bytes xs : List ℕ) → holding_all (record { bytes = bytes; count = 6 }) xs ≡ record { bytes = bytes; count = 6 }
unfolding holding_all holding
full bytes [] = refl
full bytes (x ∷ xs) = full bytes xs

-- the first six bytes, 0 where there are fewer
abbrev pub first_six : List ℕ → List ℕ
first_six xs = get_or xs 0 0 ∷ get_or xs 1 0 ∷ get_or xs 2 0 ∷ get_or xs 3 0 ∷ get_or xs 4 0 ∷ get_or xs 5 0 ∷ []

pub held_first : (xs : List ℕ) → record { bytes = first_six xs; count = min (length xs) 6 } ≡ holding_all none_held xs
unfolding holding_all holding
held_first [] = refl
held_first (a ∷ []) = refl
held_first (a ∷ b ∷ []) = refl
held_first (a ∷ b ∷ c ∷ []) = refl
held_first (a ∷ b ∷ c ∷ d ∷ []) = refl
held_first (a ∷ b ∷ c ∷ d ∷ e ∷ []) = refl
held_first (a ∷ b ∷ c ∷ d ∷ e ∷ f ∷ xs) =
    let six : min (length (a ∷ b ∷ c ∷ d ∷ e ∷ f ∷ xs)) 6 ≡ 6 = omega arith in
    rw (six, full (a ∷ b ∷ c ∷ d ∷ e ∷ f ∷ []) xs)
