-- Laws of keys: the line stays within its capacity and sound, what goes out was typed, a key that overfills it changes nothing,
-- echoes are short and typable.
use Rattle.typing.proofs.Kit.{◌≡◌, refl, Bool, true, false, not, ◌&&◌, List, [], ◌∷◌, ◌++◌, ℕ, zero, suc, ◌+◌, ◌*◌, ◌-◌, ◌≤◌, ◌<◌, arith, eqb, ltb, length, take, replicate, length-append, length-take, length-replicate, leb-false, lt-ltb, bit, either, less_or_not, not_both, both, above_between, ◌∙◌}
use Rattle.pad.specs.declared.parameter.Values.{Values}
use Rattle.typing.specs.declared.key.Kind.{Kind}
use Rattle.typing.specs.declared.key.Kind.TheVariants.{DeleteCharacter, DeleteLine, DisplayLine, DeleteWord, Forward, Plain}
use Rattle.typing.specs.declared.echo.Echo.{Echo}
use Rattle.pad.specs.declared.line.EditLine.{EditLine}
use Rattle.pad.specs.Parameters.{admissible, value_of, start_values, with_pair, all_admissible, parameters}
use Rattle.pad.specs.Line.{text_of, line_of, typable, line_ok, full, pushed, word_start}
use Rattle.typing.specs.Keys.{kind_of, is_plain, overfills, line_by, line_after, out_by, out_of, keys}
use Rattle.typing.specs.Echo.{echo_set, editing_set, echoed, starts_line, key_echo, plain_echo, character_signal, line_signal, echo_by, rubouts, bytes_of, echo_of}
use Rattle.pad.proofs.ParameterLaws.{admissible_at, each_in_lem}
use Rattle.pad.proofs.LineLaws.{line_ok_lem, typable_append, typable_take, typable_one, ok_typable, ok_length}
use Rattle.typing.proofs.EchoLaws.{rubouts_length}
use Rattle.typing.proofs.OutLaws.{all_sent_most}

-- ---- the line and what goes out

module _ (text : List ℕ) (k : ℕ) where
  taken_most : (n : ℕ) → length (take n text) ≤ length text
  taken_most n = omega (arith, length-take n text)

  pushed_most : length (pushed text k) ≤ length text + 1
  unfolding pushed
  pushed_most = either (λ (l : List ℕ). length l ≤ length text + 1) (full text) (λ e. omega arith) (λ e. simp length-append (omega arith))

  pushed_within : length text ≤ 128 → length (pushed text k) ≤ 128
  unfolding pushed
  pushed_within h =
      either (λ (l : List ℕ). length l ≤ 128) (full text) (λ e. h)
      (λ e. simp length-append (omega (arith, leb-false 128 (length text) e)))

  within_by : (kind : Kind) → length text ≤ 128 → length (line_by kind text k) ≤ 128
  unfolding line_by
  within_by DeleteCharacter h = omega (arith, taken_most (length text - 1))
  within_by DeleteLine h = omega arith
  within_by DisplayLine h = h
  within_by DeleteWord h = omega (arith, taken_most (word_start text))
  within_by Forward h = omega arith
  within_by Plain h = pushed_within h

  -- what goes out at a key, and two bytes for each character that then waits
  budget_by : (kind : Kind) (lf : Bool) → length (out_by kind lf text k) + 2 * length (line_by kind text k) ≤ 2 * length text + 2
  unfolding out_by line_by
  budget_by DeleteCharacter lf = omega (arith, taken_most (length text - 1))
  budget_by DeleteLine lf = omega arith
  budget_by DisplayLine lf = omega arith
  budget_by DeleteWord lf = omega (arith, taken_most (word_start text))
  budget_by Forward lf = omega (arith, all_sent_most lf (text ++ (k ∷ [])), length-append text (k ∷ []))
  budget_by Plain lf = omega (arith, pushed_most)

module _ (vs : Values) (text : List ℕ) (k : ℕ) where
  -- The line stays within its capacity.
  pub line_within : length text ≤ 128 → length (line_after vs text k) ≤ 128
  unfolding line_after
  line_within h = within_by text k (kind_of vs k) h

  -- What goes out at a key, and two bytes for each character that waits after it, is at most two for each that waited, and two.
  pub budget : length (out_of vs text k) + 2 * length (line_after vs text k) ≤ 2 * length text + 2
  unfolding out_of line_after
  budget = budget_by text k (kind_of vs k) (bit 2 (value_of vs 13))

  -- At most 258 bytes go out.
  pub out_most : length text ≤ 128 → length (out_of vs text k) ≤ 258
  out_most h = omega (arith, budget)

  -- ---- a key that overfills the line changes nothing

  overfull_by : (kind : Kind) (lf : Bool) → (is_plain kind && full text) ≡ true
      → (line_by kind text k ≡ text) × (out_by kind lf text k ≡ []) × (bytes_of (echo_by kind vs text k) text ≡ [])
  unfolding line_by out_by echo_by bytes_of plain_echo pushed
  overfull_by DeleteCharacter lf e = not_both false e refl
  overfull_by DeleteLine lf e = not_both false e refl
  overfull_by DisplayLine lf e = not_both false e refl
  overfull_by DeleteWord lf e = not_both false e refl
  overfull_by Forward lf e = not_both false e refl
  overfull_by Plain lf e = (rw e, refl, rw e)

  pub overfull_nothing : overfills vs text k ≡ true → (line_after vs text k ≡ text) × (out_of vs text k ≡ []) × (echo_of vs text k ≡ [])
  unfolding overfills line_after out_of echo_of
  overfull_nothing e = overfull_by (kind_of vs k) (bit 2 (value_of vs 13)) e

  -- ---- an echo has at most 384 bytes
  short : Echo → Type 0
  short e = length (bytes_of e text) ≤ 384

  key_short : short (key_echo vs k)
  unfolding key_echo bytes_of short
  key_short =
      either short (not (echoed vs (echo_set k))) (λ e. omega arith)
      (λ e. either short (starts_line vs k) (λ f. omega arith) (λ f. omega arith))

  character_short : (n : ℕ) → n ≤ 128 → short (character_signal vs n)
  unfolding character_signal bytes_of short
  character_short n h =
      either short (not (echoed vs 64)) (λ e. omega arith)
      (λ e. either short (eqb (value_of vs 19) 0) (λ f. omega arith)
      (λ f. either short (eqb (value_of vs 19) 1) (λ g. omega (arith, length-replicate {A = ℕ} n 92))
      (λ g. either short (eqb (value_of vs 19) 2) (λ i. omega (arith, rubouts_length n))
      (λ i. omega (arith, length-replicate n (value_of vs 19))))))

  line_short : (n : ℕ) → n ≤ 128 → short (line_signal vs n)
  unfolding line_signal bytes_of short
  line_short n h =
      either short (not (echoed vs 64)) (λ e. omega arith)
      (λ e. either short (eqb (value_of vs 19) 0) (λ f. omega arith)
      (λ f. either short (eqb (value_of vs 19) 2) (λ g. omega (arith, rubouts_length n)) (λ g. omega arith)))

  short_by : (kind : Kind) → length text ≤ 128 → short (echo_by kind vs text k)
  unfolding echo_by bytes_of plain_echo short
  short_by DeleteCharacter h = character_short 1 (omega arith)
  short_by DeleteLine h = line_short (length text) h
  short_by DisplayLine h = omega arith
  short_by DeleteWord h = character_short _ (omega arith)
  short_by Forward h = key_short
  short_by Plain h = either short (full text) (λ e. omega arith) (λ e. key_short)

  pub echo_most : length text ≤ 128 → length (echo_of vs text k) ≤ 384
  unfolding echo_of short
  echo_most h = short_by (kind_of vs k) h

-- ---- typable characters stay so, on the line and in what is echoed

module _ (text : List ℕ) (k : ℕ) (typed : typable text ≡ true) (low : k < 128) where
  typable_by : (kind : Kind) → typable (line_by kind text k) ≡ true
  unfolding line_by pushed typable
  typable_by DeleteCharacter = typable_take (length text - 1) text typed
  typable_by DeleteLine = refl
  typable_by DisplayLine = typed
  typable_by DeleteWord = typable_take (word_start text) text typed
  typable_by Forward = refl
  typable_by Plain =
      either (λ (l : List ℕ). typable l ≡ true) (full text) (λ e. typed) (λ e. typable_append text (k ∷ []) typed (typable_one k low))

  -- A key below 128 leaves typable text, ..
  pub line_typable : (vs : Values) → typable (line_after vs text k) ≡ true
  unfolding line_after
  line_typable vs = typable_by (kind_of vs k)

-- .. and a sound line sound.
pub line_stays_ok : (vs : Values) (l : EditLine) (k : ℕ) → k < 128 → line_ok l ≡ true → line_ok (line_of (line_after vs (text_of l) k)) ≡ true
line_stays_ok vs l k low ok =
    line_ok_lem (line_after vs (text_of l) k) (line_within vs (text_of l) k (ok_length l ok)) (line_typable (text_of l) k (ok_typable l ok) low vs)

typable_replicate : (n b : ℕ) → b < 128 → typable (replicate n b) ≡ true
unfolding typable
typable_replicate zero b h = refl
typable_replicate (suc n) b h = both (ltb b 128) (typable (replicate n b)) (lt-ltb b 128 h) (typable_replicate n b h)

typable_rubouts : (n : ℕ) → typable (rubouts n) ≡ true
unfolding typable rubouts
typable_rubouts zero = refl
typable_rubouts (suc n) = typable_rubouts n

-- what parameter 19 may be is below 128
signal_low : (v : ℕ) → admissible 19 v ≡ true → v < 128
unfolding parameters
signal_low v e =
    less_or_not v 128 (λ h. h)
    (λ h. not_both (admissible 19 v) e (rw (above_between 0 2 v (omega arith), above_between 8 8 v (omega arith), above_between 32 126 v (omega arith))))

module _ (vs : Values) (text : List ℕ) (k : ℕ) (ok : all_admissible vs ≡ true) (typed : typable text ≡ true) (low : k < 128) where
  typed_echo : Echo → Type 0
  typed_echo e = typable (bytes_of e text) ≡ true

  signal_typable : value_of vs 19 < 128
  signal_typable = signal_low (value_of vs 19) (admissible_at vs 28 19 (each_in_lem vs ∙ ok) (omega arith))

  key_typable : typed_echo (key_echo vs k)
  unfolding key_echo bytes_of typed_echo typable
  key_typable =
      either typed_echo (not (echoed vs (echo_set k))) (λ e. refl)
      (λ e. either typed_echo (starts_line vs k) (λ f. refl) (λ f. typable_replicate 1 k low))

  character_typable : (n : ℕ) → typed_echo (character_signal vs n)
  unfolding character_signal bytes_of typed_echo typable
  character_typable n =
      either typed_echo (not (echoed vs editing_set)) (λ e. refl)
      (λ e. either typed_echo (eqb (value_of vs 19) 0) (λ f. refl)
      (λ f. either typed_echo (eqb (value_of vs 19) 1) (λ g. typable_replicate n 92 (omega arith))
      (λ g. either typed_echo (eqb (value_of vs 19) 2) (λ i. typable_rubouts n) (λ i. typable_replicate n (value_of vs 19) signal_typable))))

  line_signal_typable : (n : ℕ) → typed_echo (line_signal vs n)
  unfolding line_signal bytes_of typed_echo typable
  line_signal_typable n =
      either typed_echo (not (echoed vs editing_set)) (λ e. refl)
      (λ e. either typed_echo (eqb (value_of vs 19) 0) (λ f. refl)
      (λ f. either typed_echo (eqb (value_of vs 19) 2) (λ g. typable_rubouts n) (λ g. refl)))

  echo_typable_by : (kind : Kind) → typed_echo (echo_by kind vs text k)
  unfolding echo_by plain_echo bytes_of typed_echo typable
  echo_typable_by DeleteCharacter = character_typable 1
  echo_typable_by DeleteLine = line_signal_typable (length text)
  echo_typable_by DisplayLine = typed
  echo_typable_by DeleteWord = character_typable (length text - word_start text)
  echo_typable_by Forward = key_typable
  echo_typable_by Plain = either typed_echo (full text) (λ e. refl) (λ e. key_typable)

  -- With admissible values each byte that is echoed is below 128.
  pub echo_typable : typable (echo_of vs text k) ≡ true
  unfolding echo_of typed_echo
  echo_typable = echo_typable_by (kind_of vs k)

-- ---- how much

-- 258 bytes are reached: a line of 128 CRs and a forwarding CR.
pub out_reached : length (out_of (with_pair start_values 3 2) (replicate 128 13) 13) ≡ 258
unfolding parameters keys bit
out_reached = refl

-- ---- many keys, each with the values of its time

pub record Press : Type 0 where
  pub values : Values
  pub key : ℕ

unfoldable pub line_after_all : List ℕ → List Press → List ℕ
line_after_all text [] = text
line_after_all text (p ∷ ps) = line_after_all (line_after p.values text p.key) ps

unfoldable pub out_of_all : List ℕ → List Press → List ℕ
out_of_all text [] = []
out_of_all text (p ∷ ps) = out_of p.values text p.key ++ out_of_all (line_after p.values text p.key) ps

-- From an empty line, two bytes go out for each key at the most.
pub budget_all : (text : List ℕ) (ps : List Press)
    → length (out_of_all text ps) + 2 * length (line_after_all text ps) ≤ 2 * length text + 2 * length ps
unfolding line_after_all out_of_all
budget_all text [] = omega arith
budget_all text (p ∷ ps) =
    simp length-append (omega (arith, budget p.values text p.key, budget_all (line_after p.values text p.key) ps))
