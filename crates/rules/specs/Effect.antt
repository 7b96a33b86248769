-- What a host byte or a key does. An effect is settled by the view alone: it names the characters that it moves and sends, and the
-- marks that it sets and asks for, by their cells. Only then are the characters and the marks touched.
use Rattle.std.specs.Prelude.{Bool, List, [], ◌∷◌, ◌++◌, ℕ, length, set, replicate, if◌then◌else◌}
use Rattle.telnet.specs.Writer.{subnegotiation}
use Rattle.edit.specs.declared.range.Shift.{Shift}
use Rattle.edit.specs.Edits.{shifted, on_part, erased, filled, some_marked, text_of}
use Rattle.rules.specs.declared.Held.{Held}
use Rattle.rules.specs.Session.{Screen, View}
use Rattle.rules.specs.Number.{det_option}
use Rattle.rules.specs.Command.{Row}

-- A change of the characters. A range of cells is given by its first and the one after its last.
pub data Change : Type 0 where
  put : ℕ → ℕ → Change  -- in a cell, a character
  erase : Bool → ℕ → ℕ → Change  -- in a range: spaces in cells not guarded, protection suppressed or not
  shift : Shift → ℕ → ℕ → ℕ → Change  -- in a range: insert or delete, by so many cells

-- the characters after a change, and after one change after the other
unfoldable pub changed : List ℕ → List ℕ → Change → List ℕ
changed chars attrs (put cell c) = set chars cell c
changed chars attrs (erase suppressed from end) = erased suppressed chars attrs from end
changed chars attrs (shift s from end by) = on_part from end (shifted s by) chars

unfoldable pub changed_all : List ℕ → List ℕ → List Change → List ℕ
changed_all chars attrs [] = chars
changed_all chars attrs (c ∷ cs) = changed_all (changed chars attrs c) attrs cs

-- Request (v): what becomes of the marks. They stay, all of them are cleared, or those of a range are set.
pub data Marking : Type 0 where
  kept : Marking
  cleared : Marking
  marked : ℕ → ℕ → Marking

unfoldable pub marks_after : List ℕ → Marking → List ℕ
marks_after marks kept = marks
marks_after marks cleared = replicate (length marks) 0
marks_after marks (marked from end) = filled from end 1 marks

-- What a reply is made of: bytes, the text of a range of cells, or both where a cell of the range is marked.
pub data Part : Type 0 where
  bytes : List ℕ → Part
  text : ℕ → ℕ → Part
  where_marked : List ℕ → ℕ → ℕ → Part

unfoldable pub spelled : Screen → Part → List ℕ
spelled b (bytes bs) = bs
spelled b (text from end) = text_of from end b.chars
spelled b (where_marked bs from end) = if some_marked b.marks from end then bs ++ text_of from end b.chars else []

unfoldable pub spelled_all : Screen → List Part → List ℕ
spelled_all b [] = []
spelled_all b (p ∷ ps) = spelled b p ++ spelled_all b ps

-- IAC SB 20 .. IAC SE
abbrev pub message : List ℕ → Part
message payload = bytes (subnegotiation det_option payload)

-- a command that was executed: its row in the list, and the bytes that it came in
pub record Executed : Type 0 where
  pub row : Row
  pub held : Held

-- The view afterwards, the changes in order, what becomes of the marks, one reply, and the commands executed. The replies read the
-- characters and the marks as they were.
pub record Effect : Type 0 where
  pub view : View
  pub changes : List Change
  pub marking : Marking
  pub reply : List Part
  pub executed : List Executed

abbrev pub changing : View → List Change → Effect
changing v changes = record { view = v; changes = changes; marking = kept; reply = []; executed = [] }

abbrev pub saying : View → List Part → Effect
saying v reply = record { view = v; changes = []; marking = kept; reply = reply; executed = [] }

abbrev pub quiet : View → Effect
quiet v = changing v []

-- a change that marks the cells of a range; an effect that clears all marks
abbrev pub writing : View → Change → ℕ → ℕ → Effect
writing v change from end = record { view = v; changes = change ∷ []; marking = marked from end; reply = []; executed = [] }

abbrev pub clearing : Effect → Effect
clearing e = record { view = e.view; changes = e.changes; marking = cleared; reply = e.reply; executed = e.executed }
