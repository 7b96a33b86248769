-- Laws of fields of one cell each, in a row.
use Rattle.std.proofs.Common.{◌≡◌, refl, sym, ◌∙◌, Bool, true, false, not, ◌&&◌, List, [], ◌∷◌, ◌++◌, ℕ, zero, suc, ◌+◌, ◌-◌, ◌*◌, ◌≤◌, ◌<◌, add-zero, add-one, arith, le-leb, eqb, length, get_or, drop-cons}
use native.Mathlib.Nat.{sub-zero}
use Rattle.screen.specs.Attributes.{protection, protected_at}
use Rattle.screen.specs.Fields.{starts_at, opens_at, field_end}
use Rattle.words.proofs.Laws.{less_or_not, not_both, and_left, get_d-within}
use Rattle.screen.proofs.WordLaws.{first_hit}
use Rattle.reply.specs.declared.Reply.{Reply}
use Rattle.reply.specs.Written.{Puts}
use Rattle.reply.specs.Pieces.{doubled_pieces, text_piece, separator_pieces, field_pieces}
use Rattle.reply.specs.Inner.Single.{single_pieces, EachOpens, Singles}
use Rattle.reply.proofs.WriteLaws.{Writing, writing_start, writing_more, writing_length, writing_all, WritingTo}

-- ---- cells at which an unprotected field starts

pub open_none : {attrs : List ℕ} {cell : ℕ} → EachOpens attrs cell 0
open_none = record { opens = λ k a b. absurd (omega arith) }

-- one more, by the two attribute bytes that are read
opens_here : (attrs : List ℕ) (i : ℕ) → i + 1 < length attrs
    → (not (eqb (get_or attrs i 0) (get_or attrs (i + 1) 0)) && not (eqb (protection (get_or attrs (i + 1) 0)) 1)) ≡ true → opens_at attrs (i + 1) ≡ true
unfolding opens_at starts_at protected_at
opens_here attrs i h e = rw add-one (rw (get_d-within attrs i 8 0 (omega arith), get_d-within attrs (suc i) 8 0 (omega arith)) (rw add-one at e))

pub open_next : {attrs : List ℕ} {cell n : ℕ} → EachOpens attrs cell n → cell + n + 1 < length attrs
    → (not (eqb (get_or attrs (cell + n) 0) (get_or attrs (cell + n + 1) 0)) && not (eqb (protection (get_or attrs (cell + n + 1) 0)) 1)) ≡ true
    → EachOpens attrs cell (n + 1)
open_next {attrs} {cell} {n} p h e = record {
  opens = λ k a b. less_or_not k (cell + n + 1) (λ l. p.opens k a (omega arith))
      (λ l. let q : k ≡ cell + n + 1 = omega arith in rw q (opens_here attrs (cell + n) h e));
}

-- an unprotected field starts at each of the cells, so the two attribute bytes before any of them show it
opens_is : (attrs : List ℕ) (i : ℕ) → i + 1 < length attrs
    → opens_at attrs (i + 1) ≡ (not (eqb (get_or attrs i 0) (get_or attrs (i + 1) 0)) && not (eqb (protection (get_or attrs (i + 1) 0)) 1))
unfolding opens_at starts_at protected_at
opens_is attrs i h = rw add-one (rw (get_d-within attrs i 8 0 (omega arith), get_d-within attrs (suc i) 8 0 (omega arith)) refl)

pub open_missed : {attrs : List ℕ} {cell n : ℕ} (i : ℕ) → i < n → cell + i + 1 < length attrs
    → (not (eqb (get_or attrs (cell + i) 0) (get_or attrs (cell + i + 1) 0)) && not (eqb (protection (get_or attrs (cell + i + 1) 0)) 1)) ≡ false
    → EachOpens attrs cell n → ⊥
open_missed {attrs} {cell} i l h e p =
    not_both _ (sym (opens_is attrs (cell + i) h) ∙ p.opens (cell + i + 1) (omega arith) (omega arith)) e

-- ---- their pieces

-- a field ends where the next one opens
one_end : (attrs : List ℕ) (i : ℕ) → i + 1 < length attrs → opens_at attrs (i + 1) ≡ true → field_end attrs i ≡ i + 1
unfolding field_end opens_at
one_end attrs i h e = first_hit (starts_at attrs) (length attrs) (i + 1) (length attrs) h (and_left (starts_at attrs (i + 1)) _ e)

-- one of them, and then the rest
one_at : (code : ℕ) (chars : List ℕ) (cell n i : ℕ) → i < n
    → single_pieces code chars (cell + i) (n - i) ≡ (separator_pieces code false ++ (text_piece (cell + i) (cell + i + 1) chars ∷ [])) ++ single_pieces code chars (cell + (i + 1)) (n - (i + 1))
unfolding single_pieces doubled_pieces
one_at code chars cell n i h =
    let e : n - i ≡ suc (n - (i + 1)) = omega arith in
    let f : cell + (i + 1) ≡ suc (cell + i) = omega arith in
    rw (e, f, single_pieces)

ones_past : (code : ℕ) (chars : List ℕ) (cell n i : ℕ) → n ≤ i → single_pieces code chars (cell + i) (n - i) ≡ []
unfolding single_pieces
ones_past code chars cell n i h = let e : n - i ≡ 0 = omega arith in rw (e, single_pieces)

-- of n of them, i are written
pub record WritingSingles (code n : ℕ) (r : Reply) (chars : List ℕ) (cell : ℕ) (r₁ : Reply) (i : ℕ) : Type 0 where
  pub next : r₁.at ≡ r.at + i * 7
  pub writing : Writing r (single_pieces code chars cell n) r₁ (single_pieces code chars (cell + i) (n - i))

pub ones_start : {code n : ℕ} {r : Reply} {chars : List ℕ} {cell : ℕ} → WritingSingles code n r chars cell r 0
ones_start {n = n} = record { next = omega arith; writing = rw (add-zero, sub-zero) writing_start }

module _ {code n : ℕ} {r : Reply} {chars : List ℕ} {cell : ℕ} {r₁ : Reply} {i : ℕ} (w : WritingSingles code n r chars cell r₁ i) where
  pub ones_length : length r₁.buffer.now ≡ length r.buffer.now
  ones_length = writing_length w.writing

  pub ones_more : i < n → {r₂ : Reply}
      → (r₂.at ≡ r₁.at + 7) × Puts r₁ (separator_pieces code false ++ (text_piece (cell + i) (cell + i + 1) chars ∷ [])) r₂
      → WritingSingles code n r chars cell r₂ (i + 1)
  ones_more h p = record { next = omega (arith, p.0, w.next); writing = writing_more w.writing (one_at code chars cell n i h) p.1 }

  pub ones_all : n ≤ i → Puts r (single_pieces code chars cell n) r₁
  ones_all h = writing_all w.writing (ones_past code chars cell n i h)

-- the fields from a cell on are these, and then the rest
ones_split : (code : ℕ) (chars attrs : List ℕ) (n cell : ℕ) → cell + n < length attrs → opens_at attrs cell ≡ true → EachOpens attrs cell n
    → field_pieces code chars attrs false cell (length attrs - cell)
    ≡ single_pieces code chars cell n ++ field_pieces code chars attrs false (cell + n) (length attrs - (cell + n))
unfolding field_pieces single_pieces doubled_pieces
ones_split code chars attrs zero cell h o p = rw add-zero
ones_split code chars attrs (suc n) cell h o p =
    let next : length attrs - cell ≡ suc (length attrs - suc cell) = omega arith in
    let there : cell + suc n ≡ suc cell + n = omega arith in
    let after = ones_split code chars attrs n (suc cell) (omega arith) (p.opens (suc cell) (omega arith) (omega arith))
    (record { opens = λ k a b. p.opens k (omega arith) (omega arith) }) in
    rw (next, field_pieces, o, one_end attrs cell (omega arith) (rw add-one (p.opens (suc cell) (omega arith) (omega arith))), after, there)

-- the text of one cell
pub one_text : (chars : List ℕ) (cell : ℕ) → cell < length chars → text_piece cell (cell + 1) chars ≡ get_or chars cell 0 ∷ []
one_text chars cell h =
    let one : cell + 1 - cell ≡ 1 = omega arith in
    rw (le-leb cell (cell + 1) (omega arith), le-leb (cell + 1) (length chars) (omega arith), one, drop-cons chars cell 0 h)

-- so they are written
module _ {code : ℕ} {r : Reply} {chars attrs : List ℕ} {r₁ : Reply} {first : Bool} {cell : ℕ} where
  pub to_after : WritingTo code r chars attrs r₁ first cell → {n room : ℕ} → Singles n attrs room cell r₁.at first → {r₂ : Reply}
      → Puts r₁ (single_pieces code chars cell 32) r₂ → WritingTo code r chars attrs r₂ first (cell + 32)
  to_after s p w =
      let o = s.opens (omega (arith, p.cells)) in
      let split = ones_split code chars attrs 32 cell (omega (arith, p.cells)) o p.after in
      record {
        fields = record { writing = writing_more s.fields.writing (rw p.later split) w };
        opens = λ l. p.after.opens (cell + 32) (omega arith) (omega arith);
      }
