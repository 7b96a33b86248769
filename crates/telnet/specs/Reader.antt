-- Document 01, "Telnet bytes": what one byte does to the reader. Behind it stand RFC 854 and RFC 855.
use Rattle.std.specs.Prelude.{◌≡◌, ℕ, Result, MatchResult, eqb, if◌then◌else◌}
use Rattle.telnet.specs.declared.Verb.{Verb}
use Rattle.telnet.specs.declared.Verb.TheVariants.{Will, Wont, Do, Dont}
use Rattle.telnet.specs.declared.NoVerb.{NoVerb}
use Rattle.telnet.specs.declared.Phase.{Phase}
use Rattle.telnet.specs.declared.Phase.TheVariants.{Rest, Iac, Negotiating, Opening, OpeningIac, Inside, InsideIac}
use Rattle.telnet.specs.declared.Event.{Event}
use Rattle.telnet.specs.declared.Event.TheVariants.{Nothing, Data, Negotiation, Begin, Sub, End, EndBare, Lost}
use Rattle.telnet.specs.declared.Step.{Step}

-- the codes of the Telnet commands
abbrev pub iac : ℕ
iac = 255

abbrev pub sb : ℕ
sb = 250

abbrev pub se : ℕ
se = 240

abbrev pub verb_code : Verb → ℕ
verb_code Will = 251
verb_code Wont = 252
verb_code Do = 253
verb_code Dont = 254

-- the verb that a byte is, or the byte itself, where it is none
abbrev pub ReadsVerb : ℕ → Result Verb NoVerb → Type 0
ReadsVerb b r = MatchResult r (λ v. verb_code v ≡ b) (λ e. (e.0 ≡ b) × ((v : Verb) → verb_code v ≡ b → ⊥))

-- the reader goes on in this phase, and the byte tells this
abbrev pub tells : Phase → Event → Step
tells p e = record { phase = p; event = e }

abbrev pub silent : Phase → Step
silent p = tells p Nothing

-- Item 1: a byte after IAC, outside a subnegotiation. IAC IAC is the data byte 255; a verb waits for its option byte; SB
-- starts a subnegotiation; any other command does nothing.
unfoldable pub after_iac : ℕ → Step
after_iac b =
    if eqb b iac then tells Rest (Data 255)
    else if eqb b sb then silent Opening
    else if eqb b (verb_code Will) then silent (Negotiating Will)
    else if eqb b (verb_code Wont) then silent (Negotiating Wont)
    else if eqb b (verb_code Do) then silent (Negotiating Do)
    else if eqb b (verb_code Dont) then silent (Negotiating Dont)
    else silent Rest

-- Item 2: any other command inside a subnegotiation ends it unheard, and is itself obeyed as it would be outside.
unfoldable pub thrown_away : ℕ → Step
thrown_away b = tells (after_iac b).phase Lost

-- a byte after IAC SB: the option, where it is not IAC
unfoldable pub opening : ℕ → Step
opening b = if eqb b iac then silent OpeningIac else tells (Inside b) (Begin b)

-- a byte after IAC SB IAC: the option 255, the end with no option byte, or a command that throws the subnegotiation away
unfoldable pub opening_iac : ℕ → Step
opening_iac b =
    if eqb b iac then tells (Inside 255) (Begin 255)
    else if eqb b se then tells Rest EndBare
    else thrown_away b

-- a byte in the subnegotiation of the option o
unfoldable pub inside : ℕ → ℕ → Step
inside o b = if eqb b iac then silent (InsideIac o) else tells (Inside o) (Sub o b)

-- a byte after IAC in it: one byte 255, the end, or a command that throws it away
unfoldable pub inside_iac : ℕ → ℕ → Step
inside_iac o b =
    if eqb b iac then tells (Inside o) (Sub o 255)
    else if eqb b se then tells Rest (End o)
    else thrown_away b

-- One byte, in any phase. The byte after a verb is its option whatever it is, 255 too.
unfoldable pub read_of : Phase → ℕ → Step
read_of Rest b = if eqb b iac then silent Iac else tells Rest (Data b)
read_of Iac b = after_iac b
read_of (Negotiating v) b = tells Rest (Negotiation v b)
read_of Opening b = opening b
read_of OpeningIac b = opening_iac b
read_of (Inside o) b = inside o b
read_of (InsideIac o) b = inside_iac o b

-- names all of the above: under `unfolding reader` a proof computes with them
unfoldable pub reader : ℕ
unfolding after_iac thrown_away opening opening_iac inside inside_iac read_of
reader = 0
