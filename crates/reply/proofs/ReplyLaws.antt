-- What the pieces come to, where there is room for them all.
use Rattle.std.proofs.Common.{◌≡◌, refl, sym, ap, subst, ◌∙◌, Bool, true, false, List, [], ◌∷◌, ◌++◌, append_assoc, append-nil, ℕ, zero, suc, ◌+◌, ◌*◌, ◌≤◌, ◌<◌, add-zero, arith, le-leb, leb, eqb, length, length-append, if◌then◌else◌}
use lib.Seq.{sets, length-sets}
use Rattle.telnet.specs.Reader.{iac, se}
use Rattle.telnet.specs.Writer.{doubled, subnegotiation}
use Rattle.words.specs.Stored.{Room, Emitted}
use Rattle.screen.specs.declared.cell.Place.{Place}
use Rattle.screen.specs.Cells.{place_of}
use Rattle.screen.specs.Fields.{opens_at, field_end}
use Rattle.edit.specs.Edits.{lies, some_marked, text_of}
use Rattle.words.proofs.Laws.{true_or_false}
use Rattle.words.proofs.StoredLaws.{sets_append}
use Rattle.screen.proofs.CellLaws.{place_whole}
use Rattle.screen.proofs.FieldLaws.{end_gt, end_le}
use Rattle.rules.specs.declared.Edition.{Edition}
use Rattle.rules.specs.Session.{Screen}
use Rattle.rules.specs.Edition.{code_for}
use Rattle.rules.specs.Effect.{spelled, spelled_all}
use Rattle.rules.specs.Subcommand.{preface_bytes, field_texts, without_first, modified_texts}
use Rattle.decide.specs.declared.decision.Say.{Say}
use Rattle.decide.specs.declared.decision.Say.TheVariants.{Silent, Negotiation, Two, Three, Preface, Text, Fields, Modified}
use Rattle.decide.specs.Decision.{parts_of, Sendable}
use Rattle.reply.specs.Written.{Buffer, buffer, wrote_all, Wrote, Puts}
use Rattle.rules.specs.Number.{det_option, x3_option, data_transmit, field_separator}
use Rattle.reply.specs.Pieces.{doubled_pieces, message_pieces, preface_pieces, text_piece, field_pieces, modified_pieces, say_pieces}
use Rattle.reply.specs.declared.Reply.{Reply}
use Rattle.reply.specs.Inner.Reply.{Sayable}
use Rattle.reply.proofs.WriteLaws.{whole, wrote_by}

abbrev pub joined : List (List ℕ) → List ℕ
joined [] = []
joined (p ∷ ps) = p ++ joined ps

all_fit : (ps : List (List ℕ)) (buf : List ℕ) (at : ℕ) → at + length (joined ps) ≤ length buf
    → wrote_all (buffer buf at) ps ≡ buffer (sets buf at (joined ps)) (at + length (joined ps))
unfolding wrote_all
all_fit [] buf at h = rw add-zero
all_fit (p ∷ ps) buf at h =
    let long : length (p ++ joined ps) ≡ length p + length (joined ps) = length-append p (joined ps) in
    let here : leb (at + length p) (length buf) ≡ true = le-leb (at + length p) (length buf) (omega (arith, h, long)) in
    let sum : at + length p + length (joined ps) ≡ at + length (p ++ joined ps) = omega (arith, long) in
    rw here (all_fit ps (sets buf at p) (at + length p) (rw length-sets (omega (arith, h, long))) ∙ rw (sets_append p buf at (joined ps), sum))

pub wrote_emitted : {buf : List ℕ} {at : ℕ} (ps : List (List ℕ)) {buf₁ : List ℕ} {at₁ : ℕ} → Room buf at (joined ps) → Wrote buf at ps buf₁ at₁
    → Emitted buf at (joined ps) buf₁ at₁
wrote_emitted {buf} {at} ps room w =
    let e = whole w ∙ all_fit ps buf at room in
    record { next = ap (λ (b : Buffer). b.next) e; stored = ap (λ (b : Buffer). b.bytes) e }

-- where there is room, other pieces with the same bytes
pub wrote_as : {buf : List ℕ} {at : ℕ} (ps qs : List (List ℕ)) {buf₁ : List ℕ} {at₁ : ℕ} → joined ps ≡ joined qs → Room buf at (joined qs)
    → Wrote buf at ps buf₁ at₁ → Wrote buf at qs buf₁ at₁
wrote_as {buf} {at} ps qs e room w = wrote_by (whole w ∙ all_fit ps buf at (rw e room) ∙ rw e (sym (all_fit qs buf at room)))

pub puts_as : {r : Reply} (ps qs : List (List ℕ)) {r₁ : Reply} → joined ps ≡ joined qs → Room r.buffer.now r.at (joined ps)
    → Puts r ps r₁ → Puts r qs r₁
puts_as {r} ps qs e room p = record { same_buffer = p.same_buffer; wrote = wrote_as ps qs e (subst (λ l. Room r.buffer.now r.at l) e room) p.wrote }

joined_append : (ps qs : List (List ℕ)) → joined (ps ++ qs) ≡ joined ps ++ joined qs
joined_append [] qs = refl
joined_append (p ∷ ps) qs = rw (joined_append ps qs, append_assoc)

joined_doubled : (bytes : List ℕ) → joined (doubled_pieces bytes) ≡ doubled bytes
unfolding doubled_pieces doubled
joined_doubled [] = refl
joined_doubled (b ∷ bs) = rw (joined_doubled bs)

-- an option that needs no doubling
joined_message : (option : ℕ) → eqb option iac ≡ false → (payload : List ℕ) (ps : List (List ℕ))
    → joined (message_pieces option payload ++ ps) ≡ subnegotiation option payload ++ joined ps
unfolding subnegotiation doubled
joined_message option single payload ps =
    rw (single, joined_append (message_pieces option payload) ps, joined_append (doubled_pieces payload) ((iac ∷ se ∷ []) ∷ []), joined_doubled payload, append-nil)

det_message : (payload : List ℕ) (ps : List (List ℕ)) → joined (message_pieces det_option payload ++ ps) ≡ subnegotiation det_option payload ++ joined ps
det_message = joined_message det_option refl

message_alone : (payload : List ℕ) → joined (message_pieces det_option payload) ≡ subnegotiation det_option payload ++ []
message_alone payload = ap joined (sym (append-nil (message_pieces det_option payload))) ∙ det_message payload []

-- a text behind a preface
joined_prefaced : (e : Edition) (p : Place) (t : List ℕ) (ps : List (List ℕ))
    → joined ((preface_pieces (code_for e data_transmit) p ++ (t ∷ [])) ++ ps) ≡ (preface_bytes e p ++ t) ++ joined ps
joined_prefaced e p t ps =
    ap joined (append_assoc (preface_pieces (code_for e data_transmit) p) (t ∷ []) ps)
    ∙ det_message (code_for e data_transmit ∷ p.x.0 ∷ p.y.0 ∷ []) (t ∷ ps)
    ∙ sym (append_assoc (preface_bytes e p) t (joined ps))

lies_true : {from end : ℕ} (chars : List ℕ) → from ≤ end → end ≤ length chars → lies from end chars ≡ true
lies_true {from} {end} chars a b = rw (le-leb from end a, le-leb end (length chars) b)

module _ (e : Edition) (b : Screen) (long : length b.chars ≡ length b.attrs) where
  -- the text of a field
  field_lies : (i : ℕ) → i < length b.attrs → lies i (field_end b.attrs i) b.chars ≡ true
  field_lies i h = lies_true {from = i} b.chars (omega (arith, end_gt b.attrs i h)) (omega (arith, end_le b.attrs i))

  joined_fields : (first : Bool) (i n : ℕ) → i + n ≡ length b.attrs
      → joined (field_pieces (code_for e field_separator) b.chars b.attrs first i n)
      ≡ spelled_all b (if first then without_first (field_texts e b.attrs i n) else field_texts e b.attrs i n)
  unfolding field_pieces field_texts spelled_all spelled
  joined_fields first i zero h = true_or_false first (λ t. rw t) (λ t. rw t)
  joined_fields first i (suc n) h =
      let within : suc i + n ≡ length b.attrs = omega arith in
      true_or_false (opens_at b.attrs i)
      (λ o.
      rw (o, field_lies i (omega arith))
      (true_or_false first (λ t. rw (t, joined_fields false (suc i) n within))
      (λ t. rw (t, det_message (code_for e field_separator ∷ []) _, joined_fields false (suc i) n within))))
      (λ o. rw o (joined_fields first (suc i) n within))

  -- 27: the place of every cell has a line that a byte can number
  joined_modified : (width : ℕ) → length b.attrs ≤ 256 * width → (i n : ℕ) → i + n ≡ length b.attrs
      → joined (modified_pieces (code_for e data_transmit) width b.chars b.attrs b.marks i n) ≡ spelled_all b (modified_texts e width b.attrs i n)
  unfolding modified_pieces modified_texts spelled_all spelled
  joined_modified width numbered i zero h = refl
  joined_modified width numbered i (suc n) h =
      let rest = joined_modified width numbered (suc i) n (omega arith) in
      true_or_false (opens_at b.attrs i)
      (λ o.
      rw o
      (true_or_false (some_marked b.marks i (field_end b.attrs i))
      (λ m.
      rw (m, place_whole width 256 i (omega arith) (omega arith), field_lies i (omega arith))
      (joined_prefaced e (place_of width i) (text_of i (field_end b.attrs i) b.chars) _ ∙ rw rest))
      (λ m. rw (m, rest))))
      (λ o. rw (o, rest))

-- what is said, where it can be said
joined_say : (e : Edition) (b : Screen) (say : Say) → Sendable b.attrs say → length b.chars ≡ length b.attrs
    → joined (say_pieces e b.chars b.attrs b.marks say) ≡ spelled_all b (parts_of e b.attrs say)
unfolding spelled_all spelled
joined_say e b Silent s long = refl
joined_say e b (Negotiation verb option) s long = refl
joined_say e b (Two code x) s long = message_alone (code ∷ x ∷ [])
joined_say e b (Three code x y) s long = message_alone (code ∷ x ∷ y ∷ [])
joined_say e b (Preface p) s long = message_alone (code_for e data_transmit ∷ p.x.0 ∷ p.y.0 ∷ [])
joined_say e b (Text p from end) s long =
    det_message (code_for e data_transmit ∷ p.x.0 ∷ p.y.0 ∷ []) (text_piece from end b.chars ∷ [])
    ∙ rw (lies_true {from = from} {end = end} b.chars s.0 (omega (arith, s.1, long)))
joined_say e b (Fields p) s long =
    det_message (code_for e data_transmit ∷ p.x.0 ∷ p.y.0 ∷ []) (field_pieces (code_for e field_separator) b.chars b.attrs true 0 (length b.attrs))
    ∙ rw (joined_fields e b long true 0 (length b.attrs) (omega arith))
joined_say e b (Modified width) s long = joined_modified e b long width s 0 (length b.attrs) (omega arith)

pub said : {e : Edition} {say : Say} {b : Screen} {reply : List ℕ} {at : ℕ} {reply' : List ℕ} {at' : ℕ} → Sayable e say b reply at
    → Wrote reply at (say_pieces e b.chars b.attrs b.marks say) reply' at'
    → Emitted reply at (spelled_all b (parts_of e b.attrs say)) reply' at'
said {e} {say} {b} s w =
    let same = joined_say e b say s.sendable s.long in
    rw same at (wrote_emitted (say_pieces e b.chars b.attrs b.marks say) (rw same s.room) w)

-- RESPONSE-IS, where there is room for it
pub responded : (payload : List ℕ) {reply : List ℕ} {at : ℕ} {reply' : List ℕ} {at' : ℕ} → Room reply at (subnegotiation x3_option payload)
    → Wrote reply at (message_pieces x3_option payload) reply' at' → Emitted reply at (subnegotiation x3_option payload) reply' at'
responded payload {reply} {at} room w =
    let e : joined (message_pieces x3_option payload) ≡ subnegotiation x3_option payload =
    ap joined (sym (append-nil (message_pieces x3_option payload))) ∙ joined_message x3_option refl payload [] ∙ append-nil _ in
    let done = wrote_emitted (message_pieces x3_option payload) (subst (λ l. Room reply at l) (sym e) room) w in
    record { next = done.next ∙ ap (λ l. at + length l) e; stored = done.stored ∙ ap (λ l. sets reply at l) e }
