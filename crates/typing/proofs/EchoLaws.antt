-- Laws of echoes: bytes by place; a signal by its style.
use Rattle.std.specs.Prelude.{if◌then◌else◌}
use Rattle.typing.proofs.Kit.{◌≡◌, refl, ◌∙◌, [], ◌∷◌, ℕ, zero, suc, ◌*◌, ◌/◌, ◌%◌, ◌≤◌, ◌<◌, arith, eqb, length, get_or, true_or_false}
use Rattle.pad.specs.declared.parameter.Values.{Values}
use Rattle.typing.specs.declared.echo.Echo.{Echo}
use Rattle.typing.specs.declared.echo.Echo.TheVariants.{Silence, Repeated, Rubouts, Struck}
use Rattle.pad.specs.Parameters.{value_of}
use Rattle.typing.specs.Echo.{editing_set, echoed, character_signal, line_signal, rubouts}

-- ---- bytes by place

pub rubouts_length : (n : ℕ) → length (rubouts n) ≡ 3 * n
unfolding rubouts
rubouts_length zero = refl
rubouts_length (suc n) = omega (arith, rubouts_length n)

pub rubout_past : (n i : ℕ) → n ≤ i / 3 → get_or (rubouts n) i 0 ≡ 0
unfolding rubouts
rubout_past zero i h = refl
rubout_past (suc n) zero h = absurd (omega arith)
rubout_past (suc n) (suc zero) h = absurd (omega arith)
rubout_past (suc n) (suc (suc zero)) h = absurd (omega arith)
rubout_past (suc n) (suc (suc (suc i))) h = rubout_past n i (omega arith)

pub rubout_within : (n i : ℕ) → i / 3 < n → get_or (8 ∷ 32 ∷ 8 ∷ []) (i % 3) 0 ≡ get_or (rubouts n) i 0
unfolding rubouts
rubout_within zero i h = absurd (omega arith)
rubout_within (suc n) zero h = refl
rubout_within (suc n) (suc zero) h = refl
rubout_within (suc n) (suc (suc zero)) h = refl
rubout_within (suc n) (suc (suc (suc i))) h =
    let e : suc (suc (suc i)) % 3 ≡ i % 3 = omega arith in rw e (rubout_within n i (omega arith))

-- ---- a signal by its style, parameter 19, which is 0 where the editing characters are not echoed

module _ (vs : Values) (n : ℕ) {style : ℕ} {echo : Echo} (is : style ≡ (if echoed vs editing_set then value_of vs 19 else 0)) where
  pub character_by : echo ≡ (if eqb style 0 then Silence else if eqb style 1 then Repeated 92 n else if eqb style 2 then Rubouts n else Repeated style n)
      → echo ≡ character_signal vs n
  unfolding character_signal
  character_by e =
      true_or_false (echoed vs editing_set)
      (λ t. e ∙ rw (is, t))
      (λ t. e ∙ rw (is, t))

  pub line_by_lem : echo ≡ (if eqb style 0 then Silence else if eqb style 2 then Rubouts n else Struck) → echo ≡ line_signal vs n
  unfolding line_signal
  line_by_lem e =
      true_or_false (echoed vs editing_set)
      (λ t. e ∙ rw (is, t))
      (λ t. e ∙ rw (is, t))
