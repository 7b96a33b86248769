-- How many bytes a reply and its parts take.
use Rattle.std.proofs.Common.{◌≡◌, Bool, true, false, not, List, [], ◌∷◌, ◌++◌, ℕ, zero, suc, ◌+◌, ◌-◌, ◌*◌, ◌≤◌, ◌<◌, mul-suc, add-one, arith, ne_eqb, eqb, length, length-append, length-take, length-drop, if◌then◌else◌}
use Rattle.telnet.specs.Writer.{doubled, subnegotiation}
use Rattle.pad.specs.declared.parameter.Values.{Values}
use Rattle.pad.specs.Response.{response_of}
use Rattle.pad.proofs.ResponseLaws.{response_most}
use Rattle.screen.specs.Words.{first_of}
use Rattle.screen.specs.Attributes.{protected_at}
use Rattle.screen.specs.Cells.{place_of}
use Rattle.screen.specs.Fields.{starts_at, opens_at, field_end}
use Rattle.edit.specs.Edits.{some_marked, text_of}
use Rattle.words.proofs.Laws.{either, true_or_false}
use Rattle.screen.proofs.FieldLaws.{end_gt}
use Rattle.rules.specs.declared.Edition.{Edition}
use Rattle.rules.specs.declared.Edition.TheVariants.{June, September}
use Rattle.rules.specs.declared.Facility.TheVariants.{Formatting}
use Rattle.rules.specs.Session.{Screen, reply_room, fresh_frame}
use Rattle.rules.specs.Number.{field_separator}
use Rattle.rules.specs.Edition.{code_for}
use Rattle.rules.specs.Facility.{own_map}
use Rattle.rules.specs.Effect.{Part, bytes, text, where_marked, message, spelled, spelled_all}
use Rattle.rules.specs.Subcommand.{preface_bytes, field_texts, without_first, modified_texts}
-- the sentences of document 01 are checked first, so that a wrong rule is refused there
use Rattle.rules.proofs.Causes.{nothing_else}
use Rattle.rules.proofs.Editions.{not_iac}

-- a reply that fits into the reply room of a screen m cells wide and n lines high
abbrev pub InRoom : ℕ → ℕ → List Part → Type 0
InRoom m n ps = (b : Screen) → length b.chars ≡ n * m → length (spelled_all b ps) ≤ reply_room (fresh_frame m n September)

-- what may follow a preface, on a screen of so many cells
abbrev pub Follows : ℕ → List Part → Type 0
Follows cells ps = (b : Screen) → length b.chars ≡ cells → length (spelled_all b ps) + 8 ≤ 9 * cells

module _ (m n : ℕ) where
  -- no reply
  pub fits_nothing : InRoom m n []
  unfolding spelled_all
  fits_nothing b e = omega arith

  -- bytes, where there is room for so many
  pub fits_within : (bs : List ℕ) (most : ℕ) → length bs ≤ most → most ≤ 9 * (n * m) → InRoom m n (bytes bs ∷ [])
  unfolding spelled_all spelled
  fits_within bs most l h b e = rw length-append (omega arith)

  -- a short reply
  pub fits_bytes : 0 < n * m → (bs : List ℕ) → length bs ≤ 9 → InRoom m n (bytes bs ∷ [])
  fits_bytes h bs l = fits_within bs 9 l (omega arith)

  -- a transmission: its preface takes eight bytes
  pub fits_prefaced : (bs : List ℕ) (ps : List Part) → length bs ≡ 8 → Follows (n * m) ps → InRoom m n (bytes bs ∷ ps)
  unfolding spelled_all spelled
  fits_prefaced bs ps l f b e = rw length-append (omega (arith, f b e))

-- ---- messages

-- a code and a place
pub place_message : (code x y : ℕ) → eqb code 255 ≡ false → x < 255 → y < 255 → length (subnegotiation 20 (code ∷ x ∷ y ∷ [])) ≡ 8
unfolding subnegotiation doubled
place_message code x y e hx hy = rw (e, ne_eqb x 255 (λ q. omega arith), ne_eqb y 255 (λ q. omega arith))

-- an ERROR, whatever the command
pub error_message : (code command number : ℕ) → eqb code 255 ≡ false → eqb number 255 ≡ false
    → length (subnegotiation 20 (code ∷ command ∷ number ∷ [])) ≤ 9
unfolding subnegotiation doubled
error_message code command number d e =
    rw (d, e) (true_or_false (eqb command 255) (λ q. rw q (omega arith)) (λ q. rw q (omega arith)))

-- a code and one byte, whatever it is
pub byte_message : (code b : ℕ) → eqb code 255 ≡ false → length (subnegotiation 20 (code ∷ b ∷ [])) ≤ 9
unfolding subnegotiation doubled
byte_message code b e = rw e (true_or_false (eqb b 255) (λ q. rw q (omega arith)) (λ q. rw q (omega arith)))

-- the format map of two bytes
pub format_message : (e : Edition) → length (subnegotiation 20 (own_map e Formatting)) ≤ 9
unfolding own_map subnegotiation doubled
format_message June = omega arith
format_message September = omega arith

-- what stands between two fields
separator_message : (e : Edition) → length (subnegotiation 20 (code_for e field_separator ∷ [])) ≡ 6
unfolding subnegotiation doubled
separator_message e = rw (not_iac e field_separator (omega arith))

-- a payload is at most doubled
doubled_most : (bs : List ℕ) → length (doubled bs) ≤ 2 * length bs
unfolding doubled
doubled_most [] = omega arith
doubled_most (b ∷ bs) =
    true_or_false (eqb b 255) (λ q. rw q (omega (arith, doubled_most bs))) (λ q. rw q (omega (arith, doubled_most bs)))

-- RESPONSE-IS, whatever the values
pub response_message : (vs : Values) → length (subnegotiation 30 (response_of vs)) ≤ 119
unfolding subnegotiation doubled
response_message vs = rw length-append (omega (arith, doubled_most (response_of vs), response_most vs))

-- ---- texts

-- a text is no longer than its range, and than the characters
pub text_most : (from end : ℕ) (chars : List ℕ)
    → (length (text_of from end chars) ≤ end - from) × (length (text_of from end chars) ≤ length chars)
text_most from end chars = simp (length-take, length-drop) (omega arith)

-- one text
pub one_text : {cells : ℕ} → 0 < cells → (from end : ℕ) → Follows cells (text from end ∷ [])
unfolding spelled_all spelled
one_text h from end b e = rw length-append (omega (arith, text_most from end b.chars))

-- none
pub no_text : {cells : ℕ} → 0 < cells → Follows cells []
unfolding spelled_all
no_text h b e = omega arith

-- ---- 21: all unprotected fields; 27: those with a marked cell

spelled_append : (b : Screen) (ps qs : List Part)
    → length (spelled_all b (ps ++ qs)) ≡ length (spelled_all b ps) + length (spelled_all b qs)
unfolding spelled_all
spelled_append b [] qs = omega arith
spelled_append b (p ∷ ps) qs = simp length-append (omega (arith, spelled_append b ps qs))

-- What is sent of the n cells from i on: so many bytes before the text of each field, and one for each cell from the first start on.
module _ (attrs : List ℕ) (b : Screen) (before : ℕ) where
  abbrev Most : ℕ → ℕ → List Part → Type 0
  Most i n ps = length (spelled_all b ps) + first_of (starts_at attrs) (length attrs) i n ≤ before * n + length attrs

  -- one cell more
  most_next : (i n : ℕ) (qs ps : List Part) → i + suc n ≡ length attrs → Most (suc i) n ps
      → length (spelled_all b qs) ≤ before + (field_end attrs i - i) → Most i (suc n) (if opens_at attrs i then qs ++ ps else ps)
  unfolding first_of opens_at field_end
  most_next i n qs ps h rest one =
      let k : length attrs - suc i ≡ n = omega arith in
      let end : field_end attrs i ≡ first_of (starts_at attrs) (length attrs) (suc i) n = rw (add-one, k) in
      let past = end_gt attrs i (omega arith) in
      let more : before * suc n ≡ before * n + before = mul-suc before n in
      true_or_false (starts_at attrs i)
      (λ s. rw s
      (either (λ ts. length (spelled_all b ts) + i ≤ before * suc n + length attrs) (not (protected_at attrs i))
      (λ o. omega (arith, spelled_append b qs ps)) (λ o. omega arith)))
      (λ s. rw s (omega arith))

-- what is sent of a field, if it is marked
marked_most : (marked : Bool) (bs cs : List ℕ) (most : ℕ) → length bs + length cs ≤ most
    → length ((if marked then bs ++ cs else []) ++ []) ≤ most
marked_most true bs cs most h = simp length-append (omega arith)
marked_most false bs cs most h = omega arith

module _ (e : Edition) (attrs : List ℕ) (b : Screen) where
  -- 21: a separator of six bytes
  fields_most : (i n : ℕ) → i + n ≡ length attrs → Most attrs b 6 i n (field_texts e attrs i n)
  unfolding field_texts spelled_all spelled first_of
  fields_most i zero h = omega arith
  fields_most i (suc n) h =
      most_next attrs b 6 i n (message (code_for e field_separator ∷ []) ∷ text i (field_end attrs i) ∷ []) _ h
      (fields_most (suc i) n (omega arith))
      (simp length-append (omega (arith, separator_message e, (text_most i (field_end attrs i) b.chars).0)))

  -- 27: a preface of eight bytes
  modified_most : (width i n : ℕ) → ((j : ℕ) → j < length attrs → length (preface_bytes e (place_of width j)) ≡ 8) → i + n ≡ length attrs
      → Most attrs b 8 i n (modified_texts e width attrs i n)
  unfolding modified_texts spelled_all spelled first_of
  modified_most width i zero long h = omega arith
  modified_most width i (suc n) long h =
      most_next attrs b 8 i n (where_marked (preface_bytes e (place_of width i)) i (field_end attrs i) ∷ []) _ h
      (modified_most width (suc i) n long (omega arith))
      (marked_most (some_marked b.marks i (field_end attrs i)) (preface_bytes e (place_of width i)) (text_of i (field_end attrs i) b.chars)
      (8 + (field_end attrs i - i)) (omega (arith, long i (omega arith), (text_most i (field_end attrs i) b.chars).0)))

  -- the first separator is not sent
  fields_less : (i n : ℕ)
      → length (spelled_all b (without_first (field_texts e attrs i n))) ≤ length (spelled_all b (field_texts e attrs i n)) - 6
  unfolding field_texts spelled_all spelled
  fields_less i zero = omega arith
  fields_less i (suc n) =
      either (λ ps. length (spelled_all b (without_first ps)) ≤ length (spelled_all b ps) - 6) (opens_at attrs i)
      (λ o. simp length-append (omega (arith, separator_message e))) (λ o. fields_less (suc i) n)

-- all unprotected fields
pub fields_text : (e : Edition) (attrs : List ℕ) → 0 < length attrs
    → Follows (length attrs) (without_first (field_texts e attrs 0 (length attrs)))
fields_text e attrs h b l =
    omega (arith, fields_less e attrs b 0 (length attrs), fields_most e attrs b 0 (length attrs) (omega arith))

-- those with a marked cell
pub modified_text : (m n : ℕ) (e : Edition) (attrs : List ℕ) (width : ℕ) → length attrs ≡ n * m
    → ((j : ℕ) → j < length attrs → length (preface_bytes e (place_of width j)) ≡ 8) → InRoom m n (modified_texts e width attrs 0 (length attrs))
modified_text m n e attrs width q long b l = omega (arith, modified_most e attrs b width 0 (length attrs) long (omega arith))
