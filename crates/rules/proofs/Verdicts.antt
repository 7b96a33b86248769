-- A call is taken, or refused for some reason.
use Rattle.std.proofs.Common.{◌≡◌, Ok, Err, refl, true}
use Rattle.rules.specs.declared.Refusal.{Refusal}
use Rattle.rules.specs.Refusal.{Verdict, is_taken}

pub taken_or_refused {ℓ} : {P : Type ℓ} (v : Verdict) → (v ≡ Ok tt → P) → ((r : Refusal) → v ≡ Err r → P) → P
taken_or_refused (Ok taken) t f = t refl
taken_or_refused (Err r) t f = f r refl

pub taken_is : (v : Verdict) → is_taken v ≡ true → v ≡ Ok tt
taken_is (Ok taken) e = refl
taken_is (Err r) e = cc
