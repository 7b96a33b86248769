-- The pieces that replies are written in.
use Rattle.std.specs.Prelude.{Bool, false, true, List, [], ◌∷◌, ◌++◌, ℕ, zero, suc, eqb, length, if◌then◌else◌}
use Rattle.telnet.specs.Reader.{iac, sb, se}
use Rattle.telnet.specs.Writer.{negotiation}
use Rattle.screen.specs.declared.cell.Place.{Place}
use Rattle.screen.specs.Cells.{place_or_origin}
use Rattle.screen.specs.Fields.{opens_at, field_end}
use Rattle.edit.specs.Edits.{lies, some_marked, text_of}
use Rattle.rules.specs.declared.Edition.{Edition}
use Rattle.rules.specs.Number.{det_option, data_transmit, field_separator}
use Rattle.rules.specs.Edition.{code_for}
use Rattle.decide.specs.declared.decision.Say.{Say}
use Rattle.decide.specs.declared.decision.Say.TheVariants.{Silent, Negotiation, Two, Three, Preface, Text, Fields, Modified}

-- of a payload: IAC is written twice
unfoldable pub doubled_pieces : List ℕ → List (List ℕ)
doubled_pieces [] = []
doubled_pieces (b ∷ bs) = (if eqb b iac then iac ∷ iac ∷ [] else b ∷ []) ∷ doubled_pieces bs

-- IAC SB option payload IAC SE
abbrev pub message_pieces : ℕ → List ℕ → List (List ℕ)
message_pieces option payload = (iac ∷ sb ∷ option ∷ []) ∷ (doubled_pieces payload ++ ((iac ∷ se ∷ []) ∷ []))

-- Document 01, "Subcommands": before each transmission the place of its first cell, behind the code of DATA TRANSMIT
abbrev pub preface_pieces : ℕ → Place → List (List ℕ)
preface_pieces code p = message_pieces det_option (code ∷ p.x.0 ∷ p.y.0 ∷ [])

-- the text of a range of cells: none where it does not lie in the characters
abbrev pub text_piece : ℕ → ℕ → List ℕ → List ℕ
text_piece from end chars = if lies from end chars then text_of from end chars else []

-- "Subcommands", 21: the code of FIELD SEPARATOR between each two fields, so before every one but the first
abbrev pub separator_pieces : ℕ → Bool → List (List ℕ)
separator_pieces code first = if first then [] else message_pieces det_option (code ∷ [])

-- the text of every unprotected field of the n cells from i on
unfoldable pub field_pieces : ℕ → List ℕ → List ℕ → Bool → ℕ → ℕ → List (List ℕ)
field_pieces code chars attrs first i zero = []
field_pieces code chars attrs first i (suc n) =
    if opens_at attrs i
    then separator_pieces code first ++ (text_piece i (field_end attrs i) chars ∷ field_pieces code chars attrs false (suc i) n)
    else field_pieces code chars attrs first (suc i) n

-- request (v), 27: a field with a marked cell, behind a preface of its own
abbrev pub marked_pieces : ℕ → ℕ → List ℕ → List ℕ → ℕ → ℕ → List (List ℕ)
marked_pieces code width chars marks from end =
    if some_marked marks from end then preface_pieces code (place_or_origin width from) ++ (text_piece from end chars ∷ []) else []

-- of the n cells from i on
unfoldable pub modified_pieces : ℕ → ℕ → List ℕ → List ℕ → List ℕ → ℕ → ℕ → List (List ℕ)
modified_pieces code width chars attrs marks i zero = []
modified_pieces code width chars attrs marks i (suc n) =
    let rest = modified_pieces code width chars attrs marks (suc i) n in
    if opens_at attrs i then marked_pieces code width chars marks i (field_end attrs i) ++ rest else rest

-- of what is said, with the codes of an edition
abbrev pub say_pieces : Edition → List ℕ → List ℕ → List ℕ → Say → List (List ℕ)
say_pieces e chars attrs marks Silent = []
say_pieces e chars attrs marks (Negotiation verb option) = negotiation verb option ∷ []
say_pieces e chars attrs marks (Two code a) = message_pieces det_option (code ∷ a ∷ [])
say_pieces e chars attrs marks (Three code a b) = message_pieces det_option (code ∷ a ∷ b ∷ [])
say_pieces e chars attrs marks (Preface p) = preface_pieces (code_for e data_transmit) p
say_pieces e chars attrs marks (Text p from end) = preface_pieces (code_for e data_transmit) p ++ (text_piece from end chars ∷ [])
say_pieces e chars attrs marks (Fields p) =
    preface_pieces (code_for e data_transmit) p ++ field_pieces (code_for e field_separator) chars attrs true 0 (length attrs)
say_pieces e chars attrs marks (Modified width) = modified_pieces (code_for e data_transmit) width chars attrs marks 0 (length attrs)
