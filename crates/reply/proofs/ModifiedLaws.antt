-- Laws of the fields with a marked cell, written one after the other.
use Rattle.std.proofs.Common.{◌≡◌, ◌∙◌, true, false, List, [], ◌++◌, ℕ, zero, suc, ◌+◌, ◌-◌, ◌≤◌, ◌<◌, add-zero, add-one, arith, length}
use native.Mathlib.Nat.{sub-zero}
use Rattle.screen.specs.Fields.{opens_at, first_from, field_end}
use Rattle.screen.proofs.WordLaws.{first_passes, first_past, first_above, first_below}
use Rattle.screen.proofs.FieldLaws.{end_gt, end_le, none_opens}
use Rattle.reply.specs.declared.Reply.{Reply}
use Rattle.reply.specs.Written.{Puts}
use Rattle.reply.specs.Pieces.{marked_pieces, modified_pieces}
use Rattle.reply.proofs.WriteLaws.{Writing, writing_start, writing_more, writing_all}

module _ (code width : ℕ) (chars attrs marks : List ℕ) where
  -- the pieces of the fields from a cell on
  abbrev from : ℕ → List (List ℕ)
  from cell = modified_pieces code width chars attrs marks cell (length attrs - cell)

  one_less : (cell : ℕ) → cell < length attrs → length attrs - cell ≡ suc (length attrs - (cell + 1))
  one_less cell h = omega arith

  -- a field opens at the cell, or none does
  from_open : (cell : ℕ) → cell < length attrs → opens_at attrs cell ≡ true
      → from cell ≡ marked_pieces code width chars marks cell (field_end attrs cell) ++ from (cell + 1)
  unfolding modified_pieces
  from_open cell h o = rw (one_less cell h, modified_pieces, o, add-one)

  from_shut : (cell : ℕ) → cell < length attrs → opens_at attrs cell ≡ false → from cell ≡ from (cell + 1)
  unfolding modified_pieces
  from_shut cell h o = rw (one_less cell h, modified_pieces, o, add-one)

  -- none does at the n cells from this one on
  from_skips : (n cell : ℕ) → cell + n ≤ length attrs → ((k : ℕ) → cell ≤ k → k < cell + n → opens_at attrs k ≡ false)
      → from cell ≡ from (cell + n)
  from_skips zero cell h p = rw add-zero
  from_skips (suc n) cell h p =
      let e : cell + suc n ≡ cell + 1 + n = omega arith in
      rw e (from_shut cell (omega arith) (p cell (omega arith) (omega arith)) ∙ from_skips n (cell + 1) (omega arith) (λ k a b. p k (omega arith) (omega arith)))

  from_end : (cell : ℕ) → length attrs ≤ cell → from cell ≡ []
  unfolding modified_pieces
  from_end cell h = let e : length attrs - cell ≡ 0 = omega arith in rw (e, modified_pieces)

  -- so up to the next field
  from_next : (cell : ℕ) → cell ≤ length attrs → {next : ℕ} → next ≡ first_from (opens_at attrs) attrs cell (length attrs) → from cell ≡ from next
  from_next cell h {next} e =
      let n = length attrs in
      let low : cell ≤ next = rw e (first_above (opens_at attrs) n cell (n - cell) cell (omega arith) h) in
      let high : next < n + 1 = rw e (first_below (opens_at attrs) n cell (n - cell) (n + 1) (omega arith) (omega arith)) in
      let there : cell + (next - cell) ≡ next = omega arith in
      rw there at
      (from_skips (next - cell) cell (omega arith) (λ k a b. first_past (opens_at attrs) n cell (n - cell) k (omega arith) a (rw (← e) (omega arith))))

  -- and from a field to the next
  from_field : (cell : ℕ) → cell < length attrs → opens_at attrs cell ≡ true → {end next : ℕ} → end ≡ field_end attrs cell
      → next ≡ first_from (opens_at attrs) attrs end (length attrs) → from cell ≡ marked_pieces code width chars marks cell end ++ from next
  from_field cell h o {end} e f =
      let low = end_gt attrs cell h in
      let high = end_le attrs cell in
      let there : cell + 1 + (end - (cell + 1)) ≡ end = omega (arith, low, e) in
      let rest = from_skips (end - (cell + 1)) (cell + 1) (omega (arith, low, high, e))
      (λ k a b. none_opens attrs cell k (omega arith) (omega (arith, e, there, b))) in
      from_open cell h o ∙ rw (rest, there, ← e, from_next end (omega (arith, high, e)) f)

  -- of the fields, those that open before the cell are written, and the next opens at the cell or none does
  pub record Modifying (r r₁ : Reply) (cell : ℕ) : Type 0 where
    pub writing : Writing r (modified_pieces code width chars attrs marks 0 (length attrs)) r₁ (from cell)
    pub opens : cell < length attrs → opens_at attrs cell ≡ true

  opens_next : (cell : ℕ) {next : ℕ} → next ≡ first_from (opens_at attrs) attrs cell (length attrs) → next < length attrs → opens_at attrs next ≡ true
  opens_next cell e l = rw e (first_passes (opens_at attrs) (length attrs) cell (length attrs - cell) (rw (← e) l))

module _ {code width : ℕ} {chars attrs marks : List ℕ} {r : Reply} where
  pub modifying_start : {cell : ℕ} → cell ≡ first_from (opens_at attrs) attrs 0 (length attrs) → Modifying code width chars attrs marks r r cell
  modifying_start e = record {
    writing = rw (← from_next code width chars attrs marks 0 (omega arith) e, sub-zero) writing_start;
    opens = opens_next code width chars attrs marks 0 e;
  }

  module _ {r₁ : Reply} {cell : ℕ} (m : Modifying code width chars attrs marks r r₁ cell) where
    pub modifying_more : cell < length attrs → {end next : ℕ} {r₂ : Reply} → end ≡ field_end attrs cell
        → Puts r₁ (marked_pieces code width chars marks cell end) r₂ → next ≡ first_from (opens_at attrs) attrs end (length attrs)
        → Modifying code width chars attrs marks r r₂ next
    modifying_more h {end} e w f = record {
      writing = writing_more m.writing (from_field code width chars attrs marks cell h (m.opens h) e f) w;
      opens = opens_next code width chars attrs marks end f;
    }

    pub modifying_all : length attrs ≤ cell → Puts r (modified_pieces code width chars attrs marks 0 (length attrs)) r₁
    modifying_all h = writing_all m.writing (from_end code width chars attrs marks cell h)
