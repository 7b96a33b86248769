-- Laws of pieces written one after the other: none of them asks that the pieces fit.
use Rattle.std.proofs.Common.{◌≡◌, refl, sym, ap, ◌∙◌, Bool, true, false, List, [], ◌∷◌, ◌++◌, append_assoc, append-nil, ℕ, zero, suc, ◌+◌, ◌-◌, ◌≤◌, ◌<◌, add-zero, add-one, arith, leb-true, leb, length, drop, get_or, drop_of_length-le, drop-cons}
use native.Mathlib.Nat.{sub-zero}
use lib.Seq.{sets, sets-eq, length-sets}
use Rattle.screen.specs.Fields.{opens_at, first_from, field_end}
use Rattle.edit.specs.Edits.{lies, can_copy, text_of, Copied}
use Rattle.words.proofs.Laws.{either, true_or_false}
use Rattle.screen.proofs.WordLaws.{first_passes, first_past, first_above, first_below}
use Rattle.screen.proofs.FieldLaws.{end_gt, end_le, none_opens}
use Rattle.edit.proofs.EditLaws.{text_length}
use Rattle.edit.proofs.EditLaws.{copied_whole}
use Rattle.reply.specs.Written.{Buffer, buffer, wrote_one, wrote_all, Wrote, Puts}
use Rattle.reply.specs.declared.Reply.{Reply}
use Rattle.reply.specs.Pieces.{doubled_pieces, text_piece, separator_pieces, field_pieces}

-- the buffer and the next place at once
pub whole : {buf : List ℕ} {at : ℕ} {ps : List (List ℕ)} {buf₁ : List ℕ} {at₁ : ℕ} → Wrote buf at ps buf₁ at₁ → buffer buf₁ at₁ ≡ wrote_all (buffer buf at) ps
whole w = λ i. buffer (w.stored i) (w.next i)

pub wrote_by : {buf : List ℕ} {at : ℕ} {ps : List (List ℕ)} {buf₁ : List ℕ} {at₁ : ℕ} → buffer buf₁ at₁ ≡ wrote_all (buffer buf at) ps → Wrote buf at ps buf₁ at₁
wrote_by e = record { stored = ap (λ (b : Buffer). b.bytes) e; next = ap (λ (b : Buffer). b.next) e }

-- ---- some pieces, and then others

all_append : (ps : List (List ℕ)) (b : Buffer) (qs : List (List ℕ)) → wrote_all b (ps ++ qs) ≡ wrote_all (wrote_all b ps) qs
unfolding wrote_all
all_append [] b qs = refl
all_append (p ∷ ps) b qs = all_append ps (wrote_one b p) qs

pub wrote_none : {buf : List ℕ} {at : ℕ} → Wrote buf at [] buf at
unfolding wrote_all
wrote_none = record { stored = refl; next = refl }

pub wrote_then : {buf : List ℕ} {at : ℕ} {ps : List (List ℕ)} {buf₁ : List ℕ} {at₁ : ℕ} {qs : List (List ℕ)} {buf₂ : List ℕ} {at₂ : ℕ}
    → Wrote buf at ps buf₁ at₁ → Wrote buf₁ at₁ qs buf₂ at₂ → Wrote buf at (ps ++ qs) buf₂ at₂
wrote_then {ps = ps} {qs = qs} p q = wrote_by (whole q ∙ ap (λ (b : Buffer). wrote_all b qs) (whole p) ∙ sym (all_append ps _ qs))

-- the buffer keeps its length
one_length : (b : Buffer) (p : List ℕ) → length (wrote_one b p).bytes ≡ length b.bytes
one_length b p =
    either (λ (x : Buffer). length x.bytes ≡ length b.bytes) (leb (b.next + length p) (length b.bytes))
    (λ t. length-sets b.bytes b.next p) (λ t. refl)

all_length : (ps : List (List ℕ)) (b : Buffer) → length (wrote_all b ps).bytes ≡ length b.bytes
unfolding wrote_all
all_length [] b = refl
all_length (p ∷ ps) b = all_length ps (wrote_one b p) ∙ one_length b p

pub wrote_length : {buf : List ℕ} {at : ℕ} {ps : List (List ℕ)} {buf₁ : List ℕ} {at₁ : ℕ} → Wrote buf at ps buf₁ at₁ → length buf₁ ≡ length buf
wrote_length {ps = ps} p = ap length p.stored ∙ all_length ps _

-- ---- a total that is written part by part

pub puts_none : {r : Reply} → Puts r [] r
puts_none = record { same_buffer = refl; wrote = wrote_none }

pub puts_then : {r : Reply} {ps : List (List ℕ)} {r₁ : Reply} {qs : List (List ℕ)} {r₂ : Reply} → Puts r ps r₁ → Puts r₁ qs r₂ → Puts r (ps ++ qs) r₂
puts_then p q = record { same_buffer = q.same_buffer ∙ p.same_buffer; wrote = wrote_then p.wrote q.wrote }

-- what the lent buffer holds in the end
pub puts_end : {r : Reply} {ps : List (List ℕ)} {r₁ : Reply} {buf : List ℕ} → Puts r ps r₁
    → (r.buffer.ghost_name ≡ r₁.buffer.ghost_name → buf ≡ r₁.buffer.now) → Wrote r.buffer.now r.at ps buf r₁.at
puts_end p e = rw (e (sym p.same_buffer)) p.wrote

-- of the total, all but the rest has been written
pub record Writing (r : Reply) (total : List (List ℕ)) (r₁ : Reply) (rest : List (List ℕ)) : Type 0 where
  pub done : List (List ℕ)
  pub split : total ≡ done ++ rest
  pub written : Puts r done r₁

pub writing_start : {r : Reply} {total : List (List ℕ)} → Writing r total r total
writing_start = record { done = []; split = refl; written = puts_none }

module _ {r : Reply} {total : List (List ℕ)} {r₁ : Reply} {rest : List (List ℕ)} (w : Writing r total r₁ rest) where
  pub writing_length : length r₁.buffer.now ≡ length r.buffer.now
  writing_length = wrote_length w.written.wrote

  pub writing_more : {xs ys : List (List ℕ)} {r₂ : Reply} → rest ≡ xs ++ ys → Puts r₁ xs r₂ → Writing r total r₂ ys
  writing_more {xs} {ys} e q = record { done = w.done ++ xs; split = w.split ∙ rw (e, append_assoc); written = puts_then w.written q }

  pub writing_all : rest ≡ [] → Puts r total r₁
  writing_all e = rw (w.split, e, append-nil) w.written

-- ---- payloads

-- the bytes from i on: the byte at i, then those from i + 1 on
pub doubled_at : (bytes : List ℕ) (i : ℕ) → i < length bytes
    → doubled_pieces (drop i bytes) ≡ doubled_pieces (get_or bytes i 0 ∷ []) ++ doubled_pieces (drop (i + 1) bytes)
unfolding doubled_pieces
doubled_at bytes i h = rw (add-one, drop-cons bytes i 0)

pub doubled_end : (bytes : List ℕ) (i : ℕ) → length bytes ≤ i → doubled_pieces (drop i bytes) ≡ []
unfolding doubled_pieces
doubled_end bytes i h = rw (drop_of_length-le bytes h)

-- ---- texts

-- what was copied is one piece
module _ {chars reply : List ℕ} {from end at : ℕ} {reply' : List ℕ} {at' : ℕ} (c : Copied chars reply from end at reply' at') where
  left_out : can_copy chars reply from end at ≡ false → buffer reply' at' ≡ buffer reply at
  left_out e = rw (c.bytes, c.next, e)

  put_in : lies from end chars ≡ true → leb (at + (end - from)) (length reply) ≡ true
      → buffer reply' at' ≡ buffer (sets reply at (text_of from end chars)) (at + (end - from))
  put_in t u =
      let long : length (text_of from end chars) ≡ end - from = text_length from end chars t in
      let all = copied_whole c (rw (t, u)) in
      let room : at + length (text_of from end chars) ≤ length reply = omega (arith, leb-true (at + (end - from)) (length reply) u, long) in
      let stored : reply' ≡ sets reply at (text_of from end chars) = all.0 ∙ sym (sets-eq (text_of from end chars) reply at room ∙ rw long) in
      λ i. buffer (stored i) (all.1 i)

  pub copied_piece : Wrote reply at (text_piece from end chars ∷ []) reply' at'
  unfolding wrote_all
  copied_piece = wrote_by (
      true_or_false (lies from end chars)
      (λ t. true_or_false (leb (at + (end - from)) (length reply))
      (λ u. rw (t, text_length from end chars t, u) (put_in t u))
      (λ u. rw (t, text_length from end chars t, u) (left_out (rw (t, u)))))
      (λ t. left_out (rw t) ∙ rw (t, add-zero) (either (λ (b : Buffer). buffer reply at ≡ b) (leb at (length reply)) (λ u. refl) (λ u. refl))))

-- ---- fields

-- of the fields, those that open before the cell are written
pub record WritingFields (code : ℕ) (r : Reply) (chars attrs : List ℕ) (r₁ : Reply) (first : Bool) (cell : ℕ) : Type 0 where
  pub writing : Writing r (field_pieces code chars attrs true 0 (length attrs)) r₁ (field_pieces code chars attrs first cell (length attrs - cell))

pub fields_start : {code : ℕ} {r : Reply} {chars attrs : List ℕ} → WritingFields code r chars attrs r true 0
fields_start {attrs = attrs} = record { writing = rw (sub-zero (length attrs)) writing_start }

module _ {code : ℕ} {r : Reply} {chars attrs : List ℕ} {r₁ : Reply} {first : Bool} {cell : ℕ} (s : WritingFields code r chars attrs r₁ first cell) where
  module _ (within : cell < length attrs) where
    next : length attrs - cell ≡ suc (length attrs - (cell + 1))
    next = omega arith

    pub fields_more : {r₂ : Reply} → opens_at attrs cell ≡ true
        → Puts r₁ (separator_pieces code first ++ (text_piece cell (field_end attrs cell) chars ∷ [])) r₂
        → WritingFields code r chars attrs r₂ false (cell + 1)
    unfolding field_pieces
    fields_more opens p =
        let rest = field_pieces code chars attrs false (cell + 1) (length attrs - (cell + 1)) in
        let split : field_pieces code chars attrs first cell (length attrs - cell) ≡ (separator_pieces code first ++ (text_piece cell (field_end attrs cell) chars ∷ [])) ++ rest =
        rw (next, field_pieces, opens, add-one, append_assoc) in
        record { writing = writing_more s.writing split p }

    pub fields_skip : opens_at attrs cell ≡ false → WritingFields code r chars attrs r₁ first (cell + 1)
    unfolding field_pieces
    fields_skip closed = record { writing = rw add-one (rw (next, field_pieces, closed, add-one) at s.writing) }

  pub fields_all : length attrs ≤ cell → Puts r (field_pieces code chars attrs true 0 (length attrs)) r₁
  unfolding field_pieces
  fields_all h = let e : length attrs - cell ≡ 0 = omega arith in writing_all s.writing (rw (e, field_pieces))

-- n cells at which no field opens
fields_skips : {code : ℕ} {r : Reply} {chars attrs : List ℕ} {r₁ : Reply} {first : Bool} {cell : ℕ} (n : ℕ)
    → WritingFields code r chars attrs r₁ first cell → cell + n ≤ length attrs
    → ((k : ℕ) → cell ≤ k → k < cell + n → opens_at attrs k ≡ false) → WritingFields code r chars attrs r₁ first (cell + n)
fields_skips zero s h p = rw add-zero s
fields_skips {cell = cell} (suc n) s h p =
    let e : cell + suc n ≡ cell + n + 1 = omega arith in
    let before = fields_skips n s (omega arith) (λ k a b. p k a (omega arith)) in
    rw e (fields_skip before (omega arith) (p (cell + n) (omega arith) (omega arith)))

-- the same, where the next field opens at the cell or none does
pub record WritingTo (code : ℕ) (r : Reply) (chars attrs : List ℕ) (r₁ : Reply) (first : Bool) (cell : ℕ) : Type 0 where
  pub fields : WritingFields code r chars attrs r₁ first cell
  pub opens : cell < length attrs → opens_at attrs cell ≡ true

module _ {code : ℕ} {r : Reply} {chars attrs : List ℕ} {r₁ : Reply} {first : Bool} {cell : ℕ} where
  pub to_next : WritingFields code r chars attrs r₁ first cell → cell ≤ length attrs
      → {next : ℕ} → next ≡ first_from (opens_at attrs) attrs cell (length attrs) → WritingTo code r chars attrs r₁ first next
  to_next s h {next} e =
      let n = length attrs in
      let low : cell ≤ next = rw e (first_above (opens_at attrs) n cell (n - cell) cell (omega arith) h) in
      let high : next < n + 1 = rw e (first_below (opens_at attrs) n cell (n - cell) (n + 1) (omega arith) (omega arith)) in
      let there : cell + (next - cell) ≡ next = omega arith in
      record {
        fields = rw there at (fields_skips (next - cell) s (omega arith)
            (λ k a b. first_past (opens_at attrs) n cell (n - cell) k (omega arith) a (rw (← e) (omega arith))));
        opens = λ l. rw e (first_passes (opens_at attrs) n cell (n - cell) (rw (← e) l));
      }

-- the scan from its end goes on
pub to_further : (attrs : List ℕ) {cell end next : ℕ} → cell < length attrs → end ≡ field_end attrs cell
    → next ≡ first_from (opens_at attrs) attrs end (length attrs) → cell < next
to_further attrs {cell} {end} {next} h e f =
    let n = length attrs in
    let on : end ≤ next = rw f (first_above (opens_at attrs) n end (n - end) end (omega arith) (omega (arith, e, end_le attrs cell))) in
    omega (arith, on, e, end_gt attrs cell h)

module _ {code : ℕ} {r : Reply} {chars attrs : List ℕ} {r₁ : Reply} {first : Bool} {cell : ℕ} where
  -- the field is written, and the scan goes on from its end
  pub to_more : WritingTo code r chars attrs r₁ first cell → cell < length attrs → {end next : ℕ} {r₂ : Reply}
      → end ≡ field_end attrs cell → Puts r₁ (separator_pieces code first ++ (text_piece cell end chars ∷ [])) r₂
      → next ≡ first_from (opens_at attrs) attrs end (length attrs) → WritingTo code r chars attrs r₂ false next
  to_more s h {end} e w f =
      let low = end_gt attrs cell h in
      let high = end_le attrs cell in
      let there : cell + 1 + (end - (cell + 1)) ≡ end = omega (arith, low, e) in
      let written = fields_more s.fields h (s.opens h) (rw e at w) in
      let after = fields_skips (end - (cell + 1)) written (omega (arith, low, high, e))
      (λ k a b. none_opens attrs cell k (omega arith) (omega (arith, e, there, b))) in
      to_next (rw there at after) (omega (arith, high, e)) f

-- bytes written one by one, each 255 twice
pub ruleset doubling = (writing_start, writing_more, doubled_at)
