-- Sentences of documents 01 and 02 that range over all codes, keys, options or bytes: each once, over all of them.
use Rattle.std.proofs.Common.{◌≡◌, refl, ap, ◌∙◌, Bool, true, false, List, [], ◌∷◌, ◌++◌, ℕ, ◌-◌, ◌<◌, min, ◌*◌, eqb-true, leb, eqb, get_or, replicate, if◌then◌else◌, Option, Some, None, Ok}
use Prim.Native.String.{String}
use Rattle.telnet.specs.declared.Phase.TheVariants.{Iac, InsideIac}
use Rattle.telnet.specs.declared.Event.TheVariants.{End}
use Rattle.telnet.specs.declared.Step.{Step}
use Rattle.telnet.specs.declared.Verb.TheVariants.{Will, Wont, Do, Dont}
use Rattle.telnet.specs.Reader.{reader}
use Rattle.telnet.specs.Writer.{subnegotiation, negotiation}
use Rattle.words.specs.Words.{between, tabulate}
use Rattle.words.proofs.Laws.{either, true_or_false}
use Rattle.rules.specs.declared.Held.{Held}
use Rattle.rules.specs.declared.Maps.{Maps}
use Rattle.rules.specs.declared.Edition.{Edition}
use Rattle.rules.specs.declared.Edition.TheVariants.{June, September}
use Rattle.rules.specs.declared.Facility.TheVariants.{Editing, Erasing, Transmitting, Formatting}
use Rattle.rules.specs.declared.Command.TheVariants.{Facilities, Error}
use Rattle.rules.specs.declared.Fault.TheVariants.{TooFewParameters}
use Rattle.rules.specs.Session.{View, State, view_of, no_maps, switched, with_x3, with_received, fresh_pad, screen, with_modes, with_frame}
use Rattle.rules.specs.Edition.{code_for, meant_by, holds}
use Rattle.rules.specs.Refusal.{told_number, verdict, open_tests}
use Rattle.rules.specs.Effect.{Effect, bytes, saying, quiet}
use Rattle.rules.specs.Command.{Row, row, never, row_of, code_in, fault_of}
use Rattle.rules.specs.Telnet.{option_of, is_on, accepts, turned, switched_on, switched_off, negotiated}
use Rattle.rules.specs.Subcommand.{obeyed, erring, judged, looked, subcommand}
use Rattle.rules.specs.Pad.{pad_after}
use Rattle.rules.specs.Operation.{applied, happening, reader_after, host_byte, running, unless, press_tests, key_ran, opened}
use Rattle.rules.specs.Call.{host, key, called}
use Rattle.rules.specs.Executed.{one_of}
use Rattle.rules.specs.Cases.Computing.{computing}
use Rattle.rules.specs.Cases.Vocabulary.{
  look,
  lent,
  Brief,
  brief,
  in_full,
  flag,
  same,
  same_beside,
  failures,
  Sweep,
  sweep,
  if_none,
  Everywhere,
  EachEverywhere,
  characters,
  starting,
  at,
  modes,
  maps,
  reading,
  after_cr,
  showing,
  attributed,
  unchanged,
  det,
  seeing,
}
use Rattle.rules.proofs.Passing.{same_equal, below_passes, briefly, everywhere}
use Rattle.rules.proofs.Editions.{two_editions}
use Rattle.rules.proofs.Ready.{passing, ready, key_full, byte_full, pad_kept}
-- the worked cases are checked first
use Rattle.rules.proofs.June.{june_holds}

-- ---- the 256 codes

-- how many parameters document 01's list gives a code, if it has the code
unfoldable pub listed_parameters : Edition → ℕ → List ℕ
listed_parameters September code =
    if one_of (8 ∷ 9 ∷ 10 ∷ 11 ∷ 12 ∷ 13 ∷ 14 ∷ 15 ∷ 16 ∷ 17 ∷ 19 ∷ 20 ∷ 21 ∷ 22 ∷ 23 ∷ 24 ∷ 25 ∷ 26 ∷ 27 ∷ 29 ∷ 30 ∷ 31 ∷ 32 ∷ 33 ∷ 34 ∷ 35 ∷ []) code
    then 0 ∷ []
    else if one_of (1 ∷ 2 ∷ 3 ∷ 6 ∷ 7 ∷ 38 ∷ []) code then 1 ∷ []
    else if one_of (4 ∷ 5 ∷ 37 ∷ 41 ∷ []) code then 2 ∷ []
    else if eqb code 36 then 4 ∷ []
    else []
-- and the list of source document 000, with as many parameters as in document 01
listed_parameters June code =
    if one_of (8 ∷ 9 ∷ 10 ∷ 11 ∷ 12 ∷ 13 ∷ 14 ∷ 15 ∷ 16 ∷ 17 ∷ 19 ∷ 20 ∷ 21 ∷ 22 ∷ 23 ∷ 24 ∷ 25 ∷ 26 ∷ 28 ∷ 29 ∷ 30 ∷ 31 ∷ 32 ∷ 33 ∷ 34 ∷ []) code
    then 0 ∷ []
    else if one_of (1 ∷ 2 ∷ 3 ∷ 6 ∷ 7 ∷ 37 ∷ []) code then 1 ∷ []
    else if one_of (4 ∷ 5 ∷ 36 ∷ 40 ∷ []) code then 2 ∷ []
    else if eqb code 35 then 4 ∷ []
    else []

abbrev parameters_in : Option Row → List ℕ
parameters_in (Some r) = r.parameters ∷ []
parameters_in None = []

codes_computed : (e : Edition) → failures (λ code. same (parameters_in (row_of e code)) (listed_parameters e code)) 256 ≡ []
unfolding computing seeing one_of listed_parameters
codes_computed June = refl
codes_computed September = refl

-- each code is in the list with its parameters, or is not
pub every_code : (e : Edition) (code : ℕ) → code < 256 → parameters_in (row_of e code) ≡ listed_parameters e code
every_code e code h = same_equal _ _ (below_passes _ 256 (codes_computed e) code h)

-- the code of ERROR
abbrev error_code : Edition → ℕ
error_code June = 40
error_code September = 41

error_code_lem : (e : Edition) → code_for e 41 ≡ error_code e
unfolding code_for
error_code_lem June = refl
error_code_lem September = refl

-- the codes 1 to 40 of June, and 1 to 41 of September, are those of a command
abbrev last : Edition → ℕ
last June = 40
last September = 41

held_computed : (e : Edition)
    → failures (λ code. eqb (flag (holds e (meant_by e code))) (flag (between 1 (last e) code))) 256 ≡ []
unfolding computing seeing
held_computed June = refl
held_computed September = refl

pub every_held : (e : Edition) (code : ℕ) → code < 256 → flag (holds e (meant_by e code)) ≡ flag (between 1 (last e) code)
every_held e code h = eqb-true _ _ (below_passes _ 256 (held_computed e) code h)

-- and June's mean document 01's 1 to 26 and 28 to 41, in their order
pub june_list : tabulate (meant_by June) 1 40 ≡ tabulate (λ n. n) 1 26 ++ tabulate (λ n. n) 28 14
unfolding computing
june_list = refl

-- and one that is not draws ERROR 2, whatever follows it
pub every_other_code : (v : View) (h : Held) → eqb h.count 0 ≡ false → row_of v.frame.edition (code_in h) ≡ None
    → subcommand v h ≡ saying v (bytes (subnegotiation 20 (error_code v.frame.edition ∷ code_in h ∷ 2 ∷ [])) ∷ [])
unfolding subcommand looked
every_other_code v h n e = rw (n, e, error_code_lem v.frame.edition)

-- ---- the 256 keys

-- three cells "abc" of no class, two fields "ab" and "c", the cursor on "b", DET on or off; the least reply room is 27
abbrev keyed : Bool → State
keyed on = modes on false (starting 3 1 false (characters "abc") (0 ∷ 0 ∷ 1 ∷ []) 1 0)

-- what each key leaves there and says: typed, previous cell, next field, send, delete, function keys, no meaning
unfoldable pub key_does : Bool → ℕ → Brief
key_does on k =
    let s = keyed on in
    if between 32 126 k then brief 0 1 (at 2 0 (showing (97 ∷ k ∷ 99 ∷ []) s)) []
    else if eqb k 8 then brief 0 1 (at 0 0 s) []
    else if eqb k 9 then brief 0 1 (at 2 0 s) []
    else if eqb k 127 then brief 0 1 (showing (97 ∷ 32 ∷ 99 ∷ []) s) []
    else if eqb k 13
    then (if on then brief 0 1 (at 0 0 s) (det (28 ∷ 0 ∷ 0 ∷ []) ++ (97 ∷ 98 ∷ (det (39 ∷ []) ++ (99 ∷ [])))) else brief 8 0 s [])
    else if between 128 143 k then (if on then brief 0 1 s (det (40 ∷ (k - 127) ∷ [])) else brief 8 0 s [])
    else brief 9 0 s []

abbrev key_sweep : String → Bool → Sweep
key_sweep title on = sweep title 27 (λ k. look (called (keyed on) (key k (replicate 27 lent)))) (λ k. fresh_pad) (key_does on)

-- by the key's own tests and what it does
abbrev key_told : Bool → ℕ → Brief
key_told on k = briefly (verdict (press_tests (keyed on) k)) (keyed on) 1 (key_ran (keyed on) k)

key_swept : (title : String) (on : Bool) → ready (keyed on) (replicate 27 lent) ≡ true
    → if_none (failures (λ k. same_beside (key_told on k) ((key_sweep title on).shows k)) 256) title → Everywhere (key_sweep title on)
key_swept title on r p =
    everywhere
    (record {
      full = λ k. key_full (keyed on) 27 r k;
      pad = λ k h. pad_kept (verdict (press_tests (keyed on) k)) (keyed on) 1 (key_ran (keyed on) k) refl;
      beside = p;
    })

abbrev keys_on : Sweep
keys_on = key_sweep "every key, DET on" true

every_key_on : Everywhere keys_on
unfolding computing seeing ready passing key_does
every_key_on = key_swept "every key, DET on" true refl tt

abbrev keys_off : Sweep
keys_off = key_sweep "every key, DET off" false

every_key_off : Everywhere keys_off
unfolding computing seeing ready passing key_does
every_key_off = key_swept "every key, DET off" false refl tt

-- ---- every byte of host data at rest

-- three cells by two, nothing protected, the cursor on "c", DET on or off; the least reply room is 54
abbrev resting : Bool → State
resting on = modes on false (starting 3 2 false (characters "abcdef") (replicate 6 0) 2 0)

-- written; CR, LF, BS; IAC begins a command; other data does nothing
unfoldable pub data_does : Bool → ℕ → Brief
data_does on b =
    let s = resting on in
    let leaves : State → Brief = λ t. brief 0 1 t [] in
    if between 32 126 b then leaves (at 0 1 (showing (97 ∷ 98 ∷ b ∷ characters "def") s))
    else if eqb b 13 then leaves (after_cr true (at 0 0 s))
    else if eqb b 10 then leaves (at 2 1 s)
    else if eqb b 8 then leaves (at 1 0 s)
    else if eqb b 255 then leaves (reading Iac [] s)
    else leaves s

abbrev data_sweep : String → Bool → Sweep
data_sweep title on = sweep title 54 (λ b. look (called (resting on) (host (b ∷ []) (replicate 54 lent)))) (λ b. fresh_pad) (data_does on)

-- what is told of a host byte that is taken
abbrev byte_told : State → ℕ → Brief
byte_told s b = briefly (Ok tt) s 1 (running s (b ∷ []))

data_pad : (on : Bool) (b : ℕ) → (byte_told (resting on) b).left.session.pad ≡ fresh_pad
unfolding running host_byte pad_after reader
data_pad on b =
    either (λ (told : Step). pad_after (resting on).session.frame fresh_pad told.event ≡ fresh_pad) (eqb b 255) (λ e. refl) (λ e. refl)

data_swept : (title : String) (on : Bool) → ready (resting on) (replicate 54 lent) ≡ true
    → if_none (failures (λ b. same_beside (byte_told (resting on) b) ((data_sweep title on).shows b)) 256) title → Everywhere (data_sweep title on)
data_swept title on r p =
    everywhere (record { full = λ b. byte_full (resting on) 54 r b; pad = λ b h. data_pad on b; beside = p })

abbrev data_on : Sweep
data_on = data_sweep "every byte of host data, DET on" true

every_data_on : Everywhere data_on
unfolding computing seeing ready passing data_does
every_data_on = data_swept "every byte of host data, DET on" true refl tt

abbrev data_off : Sweep
data_off = data_sweep "every byte of host data, DET off" false

every_data_off : Everywhere data_off
unfolding computing seeing ready passing data_does
every_data_off = data_swept "every byte of host data, DET off" false refl tt

-- ---- every value of a parameter

-- "ab", nothing protected, the cursor at (0,0), and a command whose bytes are held: SE ends it. The least reply room is 18.
abbrev small : State
small = starting 2 1 false (characters "ab") (replicate 2 0) 0 0

abbrev holding : List ℕ → State
holding held = reading (InsideIac 20) held small

-- a sentence over such commands: their code, the bytes held, what is to be seen
pub record Ending : Type 0 where
  pub title : String
  pub code : ℕ
  pub held : ℕ → List ℕ
  pub shows : ℕ → Brief

-- the code, and the parameters behind it
abbrev ending : String → ℕ → (ℕ → List ℕ) → (ℕ → Brief) → Ending
ending title code parameters shows = record { title = title; code = code; held = λ n. code ∷ parameters n; shows = shows }

abbrev end_sweep : Ending → Sweep
end_sweep e = sweep e.title 18 (λ n. look (called (holding (e.held n)) (host (240 ∷ []) (replicate 18 lent)))) (λ n. fresh_pad) e.shows

-- the row of a code is found once
abbrev row_is : Option Row → Row
row_is (Some r) = r
row_is None = row 0 Error 0 None never

abbrev end_told : Row → State → Brief
end_told r s =
    let v = view_of s in
    let h = s.session.reader.held in
    let effect = if eqb h.count 0 then erring v 0 TooFewParameters else judged v r h (fault_of v r.command r.parameters r.governor h) in
    let one = applied s (reader_after s.session.reader 240) (pad_after s.session.frame s.session.pad (End 20)) effect in
    brief 0 1 one.state (one.replies ++ [])

end_told_lem : (r : Row) (held : List ℕ) → row_of September (code_in (holding held).session.reader.held) ≡ Some r
    → byte_told (holding held) 240 ≡ end_told r (holding held)
unfolding running host_byte happening reader subcommand looked
end_told_lem r held e = rw e

-- no byte held hinders the call, and the code is in the list
pub record Ended (e : Ending) (n : ℕ) : Type 0 where
  pub passes : ready (holding (e.held n)) (replicate 18 lent) ≡ true
  pub found : row_of September (code_in (holding (e.held n)).session.reader.held) ≡ Some (row_is (row_of September e.code))

abbrev end_test : Ending → ℕ → Bool
end_test e = let r = row_is (row_of September e.code) in λ n. same_beside (end_told r (holding (e.held n))) ((end_sweep e).shows n)

end_swept : (e : Ending) → ((n : ℕ) → Ended e n) → if_none (failures (end_test e) 256) e.title → Everywhere (end_sweep e)
unfolding pad_after
end_swept e d p =
    everywhere
    (record {
      full = λ n.
          byte_full (holding (e.held n)) 18 (d n).passes 240
          ∙ ap (in_full 18) (end_told_lem (row_is (row_of September e.code)) (e.held n) (d n).found);
      pad = λ n h. refl;
      beside = p;
    })

-- what it leaves and answers; an ERROR with its number
abbrev does : (State → State) → List ℕ → Brief
does leaves reply = brief 0 1 (leaves small) reply

abbrev errs : ℕ → ℕ → Brief
errs code number = does unchanged (det (41 ∷ code ∷ number ∷ []))

abbrev x : Ending
x =
    ending "5 with every x" 5 (λ n. n ∷ 0 ∷ [])
    (λ n. does (at (min n 1) 0) (if leb n 1 then [] else det (41 ∷ 5 ∷ 3 ∷ [])))

every_x : Everywhere (end_sweep x)
unfolding computing seeing ready passing
every_x = end_swept x (λ n. record { passes = refl; found = refl }) tt

abbrev first_map : Ending
first_map =
    ending "36 with every first map byte" 36 (λ n. n ∷ 0 ∷ 0 ∷ 2 ∷ [])
    (λ n. if leb n 31 then does (attributed (n ∷ n ∷ [])) [] else errs 36 12)

every_first_map : Everywhere (end_sweep first_map)
unfolding computing seeing ready passing
every_first_map = end_swept first_map (λ n. record { passes = refl; found = refl }) tt

abbrev second_map : Ending
second_map =
    ending "36 with every second map byte" 36 (λ n. 9 ∷ n ∷ 0 ∷ 1 ∷ [])
    (λ n. if eqb n 0 then does (attributed (9 ∷ 0 ∷ [])) [] else errs 36 12)

every_second_map : Everywhere (end_sweep second_map)
unfolding computing seeing ready passing
every_second_map = end_swept second_map (λ n. record { passes = refl; found = refl }) tt

abbrev character : Ending
character =
    ending "37 with every character" 37 (λ n. 1 ∷ n ∷ [])
    (λ n. if between 32 126 n then does (λ s. at 1 0 (showing (n ∷ characters "b") s)) [] else errs 37 11)

every_character : Everywhere (end_sweep character)
unfolding computing seeing ready passing
every_character = end_swept character (λ n. record { passes = refl; found = refl }) tt

abbrev value : Ending
value =
    ending "38 with every value" 38 (λ n. n ∷ [])
    (λ n.
    if eqb n 253 then does (modes true true) (det (38 ∷ 251 ∷ []))
    else if eqb n 251 then does unchanged (det (38 ∷ 254 ∷ []))
    else if between 252 254 n then does unchanged []
    else errs 38 11)

every_value : Everywhere (end_sweep value)
unfolding computing seeing ready passing
every_value = end_swept value (λ n. record { passes = refl; found = refl }) tt

-- ---- all of these: each a law of its own, since the checker keeps all that a law computes until the law ends

unfoldable pub sweeps : List Sweep
sweeps =
    keys_on ∷ keys_off ∷ data_on ∷ data_off ∷ end_sweep x ∷ end_sweep first_map ∷ end_sweep second_map ∷ end_sweep character ∷ end_sweep value ∷ []

pub every_byte : EachEverywhere sweeps
unfolding sweeps
every_byte = (
  every_key_on,
  (
    every_key_off,
    (
      every_data_on,
      (
        every_data_off,
        (
          every_x,
          (
            every_first_map,
            (
              every_second_map,
              (
                every_character,
                (every_value, tt),
              ),
            ),
          ),
        ),
      ),
    ),
  ),
)

-- ---- whatever the parameters

-- 1 to 4 keep the map received in the place of the class's, and answer the terminal's own; 41 nothing, whatever its parameters are
abbrev answered : View → Maps → List ℕ → Effect
answered v received payload = saying (with_frame v (with_received v.frame received)) (bytes (det payload) ∷ [])

abbrev first_format_map : Edition → ℕ
first_format_map June = 144
first_format_map September = 208

pub record Constant (v : View) (h : Held) : Type 0 where
  pub edit_map : let m = v.frame.received in obeyed v (Facilities Editing) h
      ≡ answered v (maps (get_or h.bytes 1 0) m.erase m.transmit m.format0 m.format1) (1 ∷ 126 ∷ [])
  pub erase_map : let m = v.frame.received in obeyed v (Facilities Erasing) h
      ≡ answered v (maps m.edit (get_or h.bytes 1 0) m.transmit m.format0 m.format1) (2 ∷ 31 ∷ [])
  pub transmit_map : let m = v.frame.received in obeyed v (Facilities Transmitting) h
      ≡ answered v (maps m.edit m.erase (get_or h.bytes 1 0) m.format0 m.format1) (3 ∷ 63 ∷ [])
  pub format_map : let m = v.frame.received in obeyed v (Facilities Formatting) h
      ≡ answered v (maps m.edit m.erase m.transmit (get_or h.bytes 1 0) (get_or h.bytes 2 0))
      (4 ∷ first_format_map v.frame.edition ∷ 121 ∷ [])
  pub error_nothing : obeyed v Error h ≡ quiet v

format_kept : (v : View) (h : Held) (e : Edition) → v.frame.edition ≡ e → let m = v.frame.received in obeyed v (Facilities Formatting) h
    ≡ answered v (maps m.edit m.erase m.transmit (get_or h.bytes 1 0) (get_or h.bytes 2 0))
    (4 ∷ first_format_map v.frame.edition ∷ 121 ∷ [])
unfolding computing
format_kept v h June q = rw q
format_kept v h September q = rw q

pub every_map : (v : View) (h : Held) → Constant v h
unfolding computing
every_map v h =
    record {
      edit_map = refl;
      erase_map = refl;
      transmit_map = refl;
      format_map = format_kept v h v.frame.edition refl;
      error_nothing = refl;
    }

-- ---- every option, with each verb, on or off, protection suppressed or not

pub record Negotiates (v : View) : Type 0 where
  pub do_20_off : v.frame.det ≡ false
      → negotiated v Do 20 ≡ saying (with_modes v true v.frame.suppressed) (bytes (255 ∷ 251 ∷ 20 ∷ []) ∷ [])
  pub do_20_on : v.frame.det ≡ true → negotiated v Do 20 ≡ quiet v
  pub dont_20_on : v.frame.det ≡ true
      → negotiated v Dont 20 ≡ saying (with_frame v (with_received (switched v.frame false false) no_maps)) (bytes (255 ∷ 252 ∷ 20 ∷ []) ∷ [])
  pub dont_20_off : v.frame.det ≡ false → negotiated v Dont 20 ≡ quiet v
  -- 30: from 37 cells up
  pub do_30_off : v.frame.x3 ≡ false → leb 37 (v.frame.height * v.frame.width) ≡ true
      → negotiated v Do 30 ≡ saying (with_frame v (with_x3 v.frame true)) (bytes (255 ∷ 251 ∷ 30 ∷ []) ∷ [])
  pub do_30_small : v.frame.x3 ≡ false → leb 37 (v.frame.height * v.frame.width) ≡ false
      → negotiated v Do 30 ≡ saying v (bytes (255 ∷ 252 ∷ 30 ∷ []) ∷ [])
  pub do_30_on : v.frame.x3 ≡ true → negotiated v Do 30 ≡ quiet v
  pub dont_30_on : v.frame.x3 ≡ true → negotiated v Dont 30 ≡ saying (with_frame v (with_x3 v.frame false)) (bytes (255 ∷ 252 ∷ 30 ∷ []) ∷ [])
  pub dont_30_off : v.frame.x3 ≡ false → negotiated v Dont 30 ≡ quiet v
  pub do_other : (option : ℕ) → eqb option 20 ≡ false → eqb option 30 ≡ false
      → negotiated v Do option ≡ saying v (bytes (255 ∷ 252 ∷ option ∷ []) ∷ [])
  pub dont_other : (option : ℕ) → eqb option 20 ≡ false → eqb option 30 ≡ false → negotiated v Dont option ≡ quiet v
  pub any_will : (option : ℕ) → negotiated v Will option ≡ saying v (bytes (255 ∷ 254 ∷ option ∷ []) ∷ [])
  pub any_wont : (option : ℕ) → negotiated v Wont option ≡ quiet v

pub every_option : (v : View) → Negotiates v
unfolding negotiated switched_on switched_off option_of is_on accepts turned negotiation
every_option v =
    record {
      do_20_off = λ e. rw e;
      do_20_on = λ e. rw e;
      dont_20_on = λ e. rw e;
      dont_20_off = λ e. rw e;
      do_30_off = λ e c. rw (e, c);
      do_30_small = λ e c. rw (e, c);
      do_30_on = λ e. rw e;
      dont_30_on = λ e. rw e;
      dont_30_off = λ e. rw e;
      do_other = λ option e f. rw (e, f);
      dont_other = λ option e f. rw (e, f);
      any_will = λ option. refl;
      any_wont = λ option. refl;
    }

-- ---- every width and height: open refuses 1 outside 1 to 132 and 1 to 64, and 2 within, no cell being lent

abbrev open_seen : ℕ → ℕ → ℕ
open_seen m n = told_number (opened m n 732 (screen [] [] [])).answer.verdict

widths : failures (λ m. eqb (open_seen m 1) (if between 1 132 m then 2 else 1)) 256 ≡ []
unfolding computing seeing
widths = refl

heights : failures (λ n. eqb (open_seen 1 n) (if between 1 64 n then 2 else 1)) 256 ≡ []
unfolding computing seeing
heights = refl

pub every_width : (m : ℕ) → m < 256 → open_seen m 1 ≡ (if between 1 132 m then 2 else 1)
every_width m h = eqb-true _ _ (below_passes _ 256 widths m h)

pub every_height : (n : ℕ) → n < 256 → open_seen 1 n ≡ (if between 1 64 n then 2 else 1)
every_height n h = eqb-true _ _ (below_passes _ 256 heights n h)

-- every number named as an edition: 12 unless it is 731 or 732, and then 2
abbrev named_seen : ℕ → ℕ
named_seen named = told_number (opened 1 1 named (screen [] [] [])).answer.verdict

pub every_edition : (named : ℕ) → named_seen named ≡ (if between 731 732 named then 2 else 12)
unfolding opened unless verdict open_tests
every_edition named = rw (two_editions named) (true_or_false (between 731 732 named) (λ e. rw e) (λ e. rw e))
