use Rattle.std.proofs.Common.{refl}
use Rattle.text.proofs.WriteLaws.{unwritten, written}
use Rattle.text.proofs.CanvasLaws.{kept_none}
use Rattle.text.proofs.canvas.Canvas.put_character.Goals as goal

pub returns-in_default : goal.returns-in_default
returns-in_default c =
    record { kept = kept_none; frame = refl; changes = unwritten c.write_host-writing.ensures c.in_default.not-Written }

pub returns : goal.returns
returns c = record {
  kept = record { buffer = refl; attrs = refl };
  frame = refl;
  changes = written c.write_host-writing.ensures c.in-Written.is c.cursor_cell.ensures c.set_cell.ensures;
}
