use Rattle.std.proofs.Common.{◌≡◌, refl, sym, ap, ◌∙◌, arith, rules}
use Rattle.words.proofs.StoredLaws.{emitted_length}
use Rattle.rules.proofs.Running.{taken_end, taken_full}
use Rattle.pad.specs.Host.{prints_lf}
use Rattle.rules.specs.declared.Session.{Session}
use Rattle.rules.specs.Pad.{pad_after, with_message}
use Rattle.local.proofs.ToldLaws.{other_clears}
use Rattle.det.proofs.HostLaws.{accepts_turn, taking_none, taking_then, taking_room, taking_accepts, taking_done}
use Rattle.det.proofs.MessageLaws.{message_taking}
use Rattle.det.proofs.operation.take_all.Goals as goal
use Rattle.det.proofs.operation.take_all.Goals.{then-ends_other, else-ends_other, else-loop-from-test, then-loop-from-test+then-room}

pub loop-from-init : goal.loop-from-init
loop-from-init c = (taking_none (omega arith) (omega arith), refl, refl, refl, c.prints_lf-lf.ensures)

-- a byte in a half-read message
pub loop-from-preserved-then-in_message : goal.loop-from-preserved-then-in_message
loop-from-preserved-then-in_message c =
    let i = c.loop-from.invariant in
    let a = taking_accepts i.0 c.requires (omega (arith, c.reply_room-room.ensures, c.room.ensures, c.if-room.false)) in (
      taking_then i.0
          (message_taking _ _ _ _ _ a (sym c.in_message.ensures ∙ c.if-in_message.true) c.loop-from-test.true
          c.take_byte-one.ensures),
      i.1,
      i.2,
      i.3,
      c.prints_lf-lf-then-in_message.ensures,
    )

pub take_turn-turn-requires : goal.take_turn-turn-requires
take_turn-turn-requires c =
    let i = c.loop-from.invariant in
    accepts_turn _ _ _ c.loop-from.lf _ c.loop-from.reply.buffer.now c.loop-from.reply.at
    (taking_accepts i.0 c.requires (omega (arith, c.reply_room-room.ensures, c.room.ensures, c.if-room.false)))

-- a stretch, and what is told after it
pub loop-from-preserved : goal.loop-from-preserved
loop-from-preserved c =
    let i = c.loop-from.invariant in
    let a = taking_accepts i.0 c.requires (omega (arith, c.reply_room-room.ensures, c.room.ensures, c.if-room.false)) in
    let told : c.if-ends_other.now.pad ≡ pad_after c.loop-from.now.frame c.loop-from.now.pad c.take_turn-turn.result.event =
    elim c.if-ends_other.branch [
      | then-ends_other w ↦
          ap (λ (s : Session). s.pad) w.now-is ∙ ap (with_message c.loop-from.now.pad) w.idle-now.ensures
          ∙ sym (other_clears _ _ _ (sym c.ends_other.ensures ∙ w.if-ends_other.true))
      | else-ends_other w ↦ ap (λ (s : Session). s.pad) w.now-is ∙ w.tell.ensures
    ] in
    let reader : c.if-ends_other.now.reader ≡ c.take_turn-turn.result.reader =
    elim c.if-ends_other.branch [
      | then-ends_other w ↦ ap (λ (s : Session). s.reader) w.now-is
      | else-ends_other w ↦ ap (λ (s : Session). s.reader) w.now-is
    ] in
    let prints : c.if-ends_other.lf ≡ prints_lf c.if-ends_other.now.pad.values =
    elim c.if-ends_other.branch [
      | then-ends_other w ↦ w.lf-is ∙ i.4 ∙ ap (λ (s : Session). prints_lf s.pad.values) (sym w.now-is)
      | else-ends_other w ↦
          w.lf-is ∙ w.prints_lf-lf-else-ends_other.ensures ∙ ap (λ (s : Session). prints_lf s.pad.values) (sym w.now-is)
    ] in (
      taking_then i.0 (rw (← told, ← reader) at (c.take_turn-turn.ensures.turns _ (sym i.4) a)),
      search rules,
      search rules,
      search rules,
      prints,
    )

-- nothing is left, or there is no room for a reply
pub returns : goal.returns
returns c =
    let i = c.loop-from.invariant in
    let same = taking_room i.0 c.requires in
    let long = emitted_length i.0.replies.emitted in
    taking_done i.0 refl (search rules)
    (elim c.loop-from-test.branch [
      | else-loop-from-test w ↦ taken_end _ _ _ _ w.loop-from-test.false
      | then-loop-from-test+then-room w ↦ taken_full _ _ _ (omega (arith, same, long, c.reply_room-room.ensures, w.room.ensures, w.if-room.true))
    ])
