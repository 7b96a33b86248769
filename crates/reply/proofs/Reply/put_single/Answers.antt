use Rattle.std.proofs.Common.{◌≡◌, false, List, [], ◌∷◌, ◌++◌, ℕ, ◌+◌, ◌≤◌, ◌<◌, length, get_or}
use Rattle.telnet.specs.Reader.{iac, sb, se}
use Rattle.rules.specs.Number.{det_option}
use Rattle.reply.specs.declared.Reply.{Reply}
use Rattle.reply.specs.declared.field.Separator.{Separator}
use Rattle.reply.specs.Pieces.{doubled_pieces, text_piece, separator_pieces}
use Rattle.reply.specs.Written.{Puts}
use Rattle.reply.proofs.ReplyLaws.{joined, wrote_emitted, puts_as}
use Rattle.reply.proofs.SingleLaws.{one_text}
use Rattle.reply.proofs.Reply.put_single.Goals as goal

abbrev seven : ℕ → ℕ → List ℕ
seven code x = iac ∷ sb ∷ det_option ∷ code ∷ iac ∷ se ∷ x ∷ []

-- the seven bytes at once are a separator and a text
puts_seven : (s : Separator) {r : Reply} (chars : List ℕ) (cell : ℕ) {r₁ : Reply} → cell < length chars → r.at + 7 ≤ length r.buffer.now
    → Puts r (seven s.code (get_or chars cell 0) ∷ []) r₁
    → (r₁.at ≡ r.at + 7) × Puts r (separator_pieces s.code false ++ (text_piece cell (cell + 1) chars ∷ [])) r₁
unfolding doubled_pieces
puts_seven s chars cell h room w =
    let one = seven s.code (get_or chars cell 0) ∷ [] in
    let pieces = separator_pieces s.code false ++ (text_piece cell (cell + 1) chars ∷ []) in
    let same : joined one ≡ joined pieces = rw (s.not_iac, one_text chars cell h) in
    ((wrote_emitted one room w.wrote).next, puts_as one pieces same room w)

pub returns : goal.returns
returns c = let a = c.args in let r = c.requires.room in puts_seven a.separator a.chars.now a.cell r.0 r.1 c.put_bytes.ensures
