use Rattle.std.proofs.Common.{◌≡◌, false, [], ◌∷◌, ◌+◌, ◌≤◌, arith, length}
use Rattle.telnet.specs.Reader.{iac, sb, se}
use Rattle.rules.specs.Number.{det_option}
use Rattle.reply.specs.declared.Reply.{Reply}
use Rattle.reply.specs.declared.field.Separator.{Separator}
use Rattle.reply.specs.Pieces.{doubled_pieces, separator_pieces}
use Rattle.reply.specs.Written.{Puts}
use Rattle.reply.proofs.ReplyLaws.{joined, puts_as}
use Rattle.reply.proofs.Reply.put_separator.Goals as goal

-- the six bytes at once are a message
separated : (s : Separator) {r r₁ : Reply} → r.at + 6 ≤ length r.buffer.now
    → Puts r ((iac ∷ sb ∷ det_option ∷ s.code ∷ iac ∷ se ∷ []) ∷ []) r₁ → Puts r (separator_pieces s.code false) r₁
unfolding doubled_pieces
separated s room w =
    let six = (iac ∷ sb ∷ det_option ∷ s.code ∷ iac ∷ se ∷ []) ∷ [] in
    let same : joined six ≡ joined (separator_pieces s.code false) = rw s.not_iac in
    puts_as six (separator_pieces s.code false) same room w

pub returns-then-room-ge6 : goal.returns-then-room-ge6
returns-then-room-ge6 c =
    rw c.if-first.false (separated c.args.separator (omega (arith, c.if-room-ge6.true, c.room.ensures)) c.put_bytes.ensures)
