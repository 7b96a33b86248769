-- Laws of a byte of a message of option 30: it is read and told, and a SEND that ends is answered.
use Rattle.std.proofs.Common.{◌≡◌, refl, Bool, true, false, ◌&&◌, List, [], ◌∷◌, append-nil, ℕ, ◌+◌, ◌<◌, eqb-true, eqb, length, get_or, if◌then◌else◌}
use Rattle.words.specs.Stored.{Room, Emitted}
use Rattle.words.proofs.Laws.{either, not_both}
use Rattle.telnet.specs.declared.Phase.{Phase}
use Rattle.telnet.specs.declared.Phase.TheVariants.{Rest, Iac, Negotiating, Opening, OpeningIac, Inside, InsideIac}
use Rattle.telnet.specs.declared.Event.{Event}
use Rattle.telnet.specs.declared.Event.TheVariants.{Nothing, Data, Negotiation, Begin, Sub, End, EndBare, Lost}
use Rattle.telnet.specs.declared.Step.{Step}
use Rattle.telnet.specs.Reader.{iac, se, read_of, reader}
use Rattle.telnet.specs.Writer.{subnegotiation}
use Rattle.pad.specs.Message.{ended}
use Rattle.pad.specs.Response.{response_of}
use Rattle.rules.specs.declared.Frame.{Frame}
use Rattle.rules.specs.declared.Reader.{Reader}
use Rattle.rules.specs.declared.Pad.{Pad}
use Rattle.rules.specs.Number.{x3_option}
use Rattle.rules.specs.Session.{Screen, View, session, state, view}
use Rattle.rules.specs.Effect.{bytes, changed_all, marks_after, spelled, spelled_all, saying}
use Rattle.rules.specs.Pad.{is_x3, response}
use Rattle.rules.specs.Operation.{happening, host_byte}
use Rattle.reply.specs.Written.{Wrote}
use Rattle.reply.specs.Pieces.{message_pieces}
use Rattle.reply.proofs.ReplyLaws.{wrote_emitted, responded}
use Rattle.local.specs.declared.message.PadTurn.{PadTurn}
use Rattle.local.specs.Message.{answer_pieces, Reads}
use Rattle.det.specs.Inner.Message.{in_message}
use Rattle.reply.specs.declared.Reply.{Reply}
use Rattle.det.specs.Inner.Take.{Accepts, Taking}
use Rattle.det.proofs.TakeLaws.{byte_answerable}
use Rattle.det.proofs.HostLaws.{taking_byte}

-- what such a byte may tell
abbrev InMessage : Event → Type 0
InMessage Nothing = Unit {0}
InMessage (Data b) = ⊥
InMessage (Negotiation verb option) = ⊥
InMessage (Begin option) = ⊥
InMessage (Sub option b) = Unit {0}
InMessage (End option) = is_x3 option ≡ true
InMessage EndBare = ⊥
InMessage Lost = Unit {0}

told_in : (p : Phase) → in_message p ≡ true → (b : ℕ) → InMessage (read_of p b).event
unfolding reader in_message
told_in Rest i b = not_both false i refl
told_in Iac i b = not_both false i refl
told_in (Negotiating v) i b = not_both false i refl
told_in Opening i b = not_both false i refl
told_in OpeningIac i b = not_both false i refl
told_in (Inside o) i b = either (λ (s : Step). InMessage s.event) (eqb b iac) (λ t. tt) (λ t. tt)
told_in (InsideIac o) i b =
    let M : Step → Type 0 = λ s. InMessage s.event in
    either M (eqb b iac) (λ t. tt) (λ t. either M (eqb b se) (λ t. i) (λ t. tt))

-- it may be answered, and changes nothing but the reader and the PAD
says : (v : View) (r : Reader) (p : Pad) (e : Event) → InMessage e → happening v r p e ≡ saying v (happening v r p e).reply
unfolding happening
says v r p Nothing i = refl
says v r p (Data b) i = absurd i
says v r p (Negotiation verb option) i = absurd i
says v r p (Begin option) i = absurd i
says v r p (Sub option b) i = refl
says v r p (End option) i = rw (eqb-true option x3_option i)
says v r p EndBare i = absurd i
says v r p Lost i = refl

-- the answer, written in pieces
module _ {reply : List ℕ} {at : ℕ} {reply' : List ℕ} {at' : ℕ} (b : Screen) (payload : List ℕ) where
  written : (asked : Bool) → Room reply at (spelled_all b (if asked then bytes (subnegotiation x3_option payload) ∷ [] else []))
      → Wrote reply at (if asked then message_pieces x3_option payload else []) reply' at'
      → Emitted reply at (spelled_all b (if asked then bytes (subnegotiation x3_option payload) ∷ [] else [])) reply' at'
  unfolding spelled_all spelled
  written true room w = rw append-nil (responded payload (rw append-nil at room) w)
  written false room w = wrote_emitted [] room w

answered : (v : View) (r : Reader) (p : Pad) (e : Event) → InMessage e → (b : Screen) {reply : List ℕ} {at : ℕ} {reply' : List ℕ} {at' : ℕ}
    → Room reply at (spelled_all b (happening v r p e).reply) → Wrote reply at (answer_pieces v.frame p e) reply' at'
    → Emitted reply at (spelled_all b (happening v r p e).reply) reply' at'
unfolding happening response answer_pieces
answered v r p Nothing i b room w = written b [] false room w
answered v r p (Data c) i b room w = absurd i
answered v r p (Negotiation verb option) i b room w = absurd i
answered v r p (Begin option) i b room w = absurd i
answered v r p (Sub option c) i b room w = written b [] false room w
answered v r p (End option) i b room w =
    let e = eqb-true option x3_option i in
    let asked = v.frame.x3 && (ended p.values p.message).asked in
    rw e (written b (response_of p.values) asked (rw e at room) (rw e at w))
answered v r p EndBare i b room w = absurd i
answered v r p Lost i b room w = written b [] false room w

module _ (f : Frame) (r : Reader) (p : Pad) (b : Screen) (reply : Reply) (a : Accepts (state (session f r p) b) reply.buffer.now reply.at)
    (i : in_message r.phase ≡ true) {input : List ℕ} {from : ℕ} (h : from < length input) where
  pub message_taking : {t : PadTurn} {reply' : Reply} → Reads f r p (get_or input from 0) reply t reply'
      → Taking (state (session f r p) b) input from reply (state (session f t.reader t.pad) b) (from + 1) reply'
  unfolding host_byte changed_all marks_after
  message_taking {t} k =
      let byte = get_or input from 0 in
      let s = state (session f r p) b in
      let told = (read_of r.phase byte).event in
      let v = view f b.attrs in
      let inside = told_in r.phase i byte in
      let same : state (session f t.reader t.pad) b ≡ (host_byte s byte).state = rw (k.reader, k.pad, says v r p told inside) in
      let room = (byte_answerable s reply a byte refl).room in
      let said = answered v r p told inside b room k.answer.wrote in
      taking_byte s reply a h same (record { same_buffer = k.answer.same_buffer; emitted = said })
