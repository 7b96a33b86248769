-- Worked cases. A case has a title, a start, and calls one after the other with all that each is to return and to leave.
use Rattle.std.specs.Prelude.{◌≡◌, Bool, true, false, ◌&&◌, List, [], ◌∷◌, ◌++◌, map, ℕ, zero, suc, ◌-◌, ◌<◌, eqb, length, take, replicate, if◌then◌else◌}
use Prim.Native.Char.{code}
use Prim.Native.String.{String}
use Prim.Native.String as string
use Rattle.words.specs.Words.{ByTest}
use Rattle.telnet.specs.declared.Phase.{Phase}
use Rattle.telnet.specs.declared.Phase.TheVariants.{Rest, Iac, Negotiating, Opening, OpeningIac, Inside, InsideIac}
use Rattle.telnet.specs.Reader.{verb_code}
use Rattle.pad.specs.declared.message.Stage.{Stage}
use Rattle.pad.specs.declared.message.Stage.TheVariants.{Code, Parameter, Value}
use Rattle.screen.specs.Cells.{place}
use Rattle.rules.specs.declared.Reader.{Reader}
use Rattle.rules.specs.declared.Edition.TheVariants.{June, September}
use Rattle.rules.specs.declared.Frame.{Frame}
use Rattle.rules.specs.declared.Maps.{Maps}
use Rattle.rules.specs.declared.Pad.{Pad}
use Rattle.rules.specs.Session.{Screen, State, no_maps, fresh_pad, session, placed, switched, with_x3, with_received, screen, state}
use Rattle.rules.specs.Edition.{name_of}
use Rattle.rules.specs.Refusal.{told_number}
use Rattle.rules.specs.Operation.{Outcome, opened}
use Rattle.rules.specs.Call.{Call, host, key, called, left}

-- the characters of a text
unfoldable pub characters : String → List ℕ
characters string.[] = []
characters (string.◌∷◌ c s) = code c ∷ characters s

-- ---- what is seen of a call: all that it returns and leaves, its refusal by number

pub record Seen : Type 0 where
  pub refusal : ℕ
  pub taken : ℕ
  pub written : ℕ
  pub left : State
  pub reply : List ℕ

abbrev pub look : Outcome → Seen
look o =
    record {
      refusal = told_number o.answer.verdict;
      taken = o.answer.taken;
      written = o.answer.written;
      left = left o;
      reply = o.reply;
    }

-- every byte of a reply buffer as it is lent
abbrev pub lent : ℕ
lent = 7

-- ---- the same in brief: of the reply buffer only the bytes replied

pub record Brief : Type 0 where
  pub refusal : ℕ
  pub taken : ℕ
  pub left : State
  pub replies : List ℕ

abbrev pub brief : ℕ → ℕ → State → List ℕ → Brief
brief refusal taken s replies = record { refusal = refusal; taken = taken; left = s; replies = replies }

abbrev pub tell : Outcome → Brief
tell o = brief (told_number o.answer.verdict) o.answer.taken (left o) (take o.answer.written o.reply)

-- in full, with a reply buffer of so many bytes: behind the bytes replied it is as it was lent
abbrev pub in_full : ℕ → Brief → Seen
in_full room b =
    record {
      refusal = b.refusal;
      taken = b.taken;
      written = length b.replies;
      left = b.left;
      reply = b.replies ++ replicate (room - length b.replies) lent;
    }

-- ---- trials

-- host bytes, or a key
pub data Given : Type 0 where
  heard : List ℕ → Given
  struck : ℕ → Given

-- the call, given a reply buffer of so many bytes
abbrev pub call_with : Given → ℕ → Call
call_with (heard input) room = host input (replicate room lent)
call_with (struck k) room = key k (replicate room lent)

-- A call, by what it is given and the bytes of its reply buffer. Then what is to be seen: the refusal, the bytes taken, the state that is
-- left by the one before the call, the bytes replied.
pub record Trial : Type 0 where
  pub given : Given
  pub room : ℕ
  pub refusal : ℕ
  pub taken : ℕ
  pub leaves : State → State
  pub replies : List ℕ

unfoldable pub observed_in : State → List Trial → List Seen
observed_in s [] = []
observed_in s (t ∷ ts) = let o = called s (call_with t.given t.room) in look o ∷ observed_in (left o) ts

-- what is told, and what is stated
unfoldable pub told_in : State → List Trial → List Brief
told_in s [] = []
told_in s (t ∷ ts) = let o = called s (call_with t.given t.room) in tell o ∷ told_in (left o) ts

unfoldable pub stated_in : State → List Trial → List Brief
stated_in s [] = []
stated_in s (t ∷ ts) = let after = t.leaves s in brief t.refusal t.taken after t.replies ∷ stated_in after ts

unfoldable pub full_in : List Trial → List Brief → List Seen
full_in [] bs = []
full_in (t ∷ ts) [] = []
full_in (t ∷ ts) (b ∷ bs) = in_full t.room b ∷ full_in ts bs

-- ---- cases

pub data Case : Type 0 where
  case : String → State → List Trial → Case  -- the title, the start, the calls
  opening : String → ℕ → ℕ → ℕ → Screen → ℕ → State → Case  -- an open of m by n in this edition with these buffers: refusal, what is left

abbrev pub title_of : Case → String
title_of (case title s ts) = title
title_of (opening title m n named b refusal s) = title

abbrev pub observed_of : Case → List Seen
observed_of (case title s ts) = observed_in s ts
observed_of (opening title m n named b refusal s) = look (opened m n named b) ∷ []

abbrev pub told : Case → List Brief
told (case title s ts) = told_in s ts
told (opening title m n named b refusal s) = tell (opened m n named b) ∷ []

abbrev pub stated : Case → List Brief
stated (case title s ts) = stated_in s ts
stated (opening title m n named b refusal s) = brief refusal 0 s [] ∷ []

abbrev pub full_of : Case → List Brief → List Seen
full_of (case title s ts) bs = full_in ts bs
full_of (opening title m n named b refusal s) bs = map (λ b. in_full 0 b) bs

abbrev pub observed : List Case → List (List Seen)
observed cases = map (λ c. observed_of c) cases

abbrev pub expected : List Case → List (List Seen)
expected cases = map (λ c. full_of c (stated c)) cases

-- ---- a case that fails is named by its title

-- what is told but for its lists, as numbers
abbrev pub flag : Bool → ℕ
flag true = 1
flag false = 0

unfoldable pub phase_numbers : Phase → List ℕ
phase_numbers Rest = 0 ∷ 0 ∷ []
phase_numbers Iac = 1 ∷ 0 ∷ []
phase_numbers (Negotiating verb) = 2 ∷ verb_code verb ∷ []
phase_numbers Opening = 3 ∷ 0 ∷ []
phase_numbers OpeningIac = 4 ∷ 0 ∷ []
phase_numbers (Inside option) = 5 ∷ option ∷ []
phase_numbers (InsideIac option) = 6 ∷ option ∷ []

unfoldable pub numbers : Brief → List ℕ
numbers b =
    let f = b.left.session.frame in
    let m = f.received in
    let r = b.left.session.reader in
    b.refusal ∷ b.taken ∷ f.width ∷ f.height ∷ name_of f.edition ∷ f.cursor.x.0 ∷ f.cursor.y.0
    ∷ flag f.det ∷ flag f.x3 ∷ flag f.suppressed ∷ m.edit ∷ m.erase ∷ m.transmit ∷ m.format0 ∷ m.format1
    ∷ flag r.cr ∷ b.left.session.pad.line.len ∷ r.held.count
    ∷ phase_numbers r.phase

unfoldable pub stage_numbers : Stage → List ℕ
stage_numbers Code = 0 ∷ 0 ∷ 0 ∷ []
stage_numbers (Parameter code) = 1 ∷ code ∷ 0 ∷ []
stage_numbers (Value code parameter) = 2 ∷ code ∷ parameter ∷ []

unfoldable pub same : List ℕ → List ℕ → Bool
same [] [] = true
same [] (y ∷ ys) = false
same (x ∷ xs) [] = false
same (x ∷ xs) (y ∷ ys) = eqb x y && same xs ys

unfoldable pub same_pad : Pad → Pad → Bool
same_pad p q =
    same p.values.held q.values.held
    && (same p.line.bytes q.line.bytes
    && (same p.message.copy.held q.message.copy.held
    && same (stage_numbers p.message.stage) (stage_numbers q.message.stage)))

-- all but the PAD's lists and its half-read message
unfoldable pub same_beside : Brief → Brief → Bool
same_beside a b =
    same (numbers a) (numbers b)
    && (same a.left.session.reader.held.bytes b.left.session.reader.held.bytes
    && (same a.left.screen.chars b.left.screen.chars
    && (same a.left.screen.attrs b.left.screen.attrs
    && (same a.left.screen.marks b.left.screen.marks && same a.replies b.replies))))

unfoldable pub same_brief : Brief → Brief → Bool
same_brief a b = same_beside a b && same_pad a.left.session.pad b.left.session.pad

unfoldable pub same_all : List Brief → List Brief → Bool
same_all [] [] = true
same_all [] (y ∷ ys) = false
same_all (x ∷ xs) [] = false
same_all (x ∷ xs) (y ∷ ys) = same_brief x y && same_all xs ys

-- no proof of this can be given, and the checker says for which title it wants one
pub data Fails (title : String) : Type 0 where

abbrev pub Passes : List Case → Type 0
Passes [] = Unit {0}
Passes (c ∷ cs) = ByTest (same_all (told c) (stated c)) (Unit {0}) (Fails (title_of c)) × Passes cs

-- the numbers below n that fail a test
unfoldable pub failures : (ℕ → Bool) → ℕ → List ℕ
failures test zero = []
failures test (suc n) = let rest = failures test n in if test n then rest else n ∷ rest

-- ---- sweeps: a sentence over all bytes, what is seen with each, with a reply buffer of so many bytes, and what is stated

pub record Sweep : Type 0 where
  pub title : String
  pub room : ℕ
  pub seen : ℕ → Seen
  pub shows : ℕ → Brief

abbrev pub leaving : Pad → Brief → Brief
leaving p b =
    let s = b.left.session in
    brief b.refusal b.taken (state (session s.frame s.reader p) b.left.screen) b.replies

-- the PAD that each leaves stands beside the rest
abbrev pub sweep : String → ℕ → (ℕ → Seen) → (ℕ → Pad) → (ℕ → Brief) → Sweep
sweep title room seen pad shows = record { title = title; room = room; seen = seen; shows = λ n. leaving (pad n) (shows n) }

abbrev pub if_none : List ℕ → String → Type 0
if_none [] title = Unit {0}
if_none (n ∷ ns) title = Fails title

abbrev pub Everywhere : Sweep → Type 0
Everywhere w = (n : ℕ) → n < 256 → w.seen n ≡ in_full w.room (w.shows n)

abbrev pub EachEverywhere : List Sweep → Type 0
EachEverywhere [] = Unit {0}
EachEverywhere (w ∷ ws) = Everywhere w × EachEverywhere ws

-- ---- states

-- facility maps; all facilities agreed, whatever the terminal's own maps are (document 02, request (ii))
abbrev pub maps : ℕ → ℕ → ℕ → ℕ → ℕ → Maps
maps edit erase transmit format0 format1 =
    record { edit = edit; erase = erase; transmit = transmit; format0 = format0; format1 = format1 }

abbrev pub all_maps : Maps
all_maps = maps 255 255 255 255 255

-- where the reader stands, and the bytes held
abbrev reader : Phase → List ℕ → Bool → Reader
reader phase held cr =
    record { phase = phase; held = record { bytes = held ++ replicate (6 - length held) 0; count = length held }; cr = cr }

-- A start with DET on and all facilities agreed. Every cell is marked, so that a case tells of marks only where they are cleared; those of
-- request (v) start with none.
abbrev pub starting : ℕ → ℕ → Bool → List ℕ → List ℕ → ℕ → ℕ → State
starting m n suppressed chars attrs x y =
    let f : Frame =
    record {
      width = m;
      height = n;
      edition = September;
      cursor = place x y;
      det = true;
      x3 = false;
      suppressed = suppressed;
      received = all_maps;
    } in
    state (session f (reader Rest [] false) fresh_pad) (screen chars attrs (replicate (length chars) 1))

-- a state with another frame
abbrev framed : Frame → State → State
framed f s = state (session f s.session.reader s.session.pad) s.screen

-- a state with one thing else, and all other things as they were: June's edition, the cursor, the modes, the maps received, the reader
-- with the bytes held, whether the last byte of data was a CR, option 30 on, the PAD, the characters, the attribute bytes, the marks
abbrev pub in_june : State → State
in_june s =
    let f = s.session.frame in
    framed
    (record {
      width = f.width;
      height = f.height;
      edition = June;
      cursor = f.cursor;
      det = f.det;
      x3 = f.x3;
      suppressed = f.suppressed;
      received = f.received;
    })
    s

abbrev pub at : ℕ → ℕ → State → State
at x y s = framed (placed s.session.frame (place x y)) s

abbrev pub modes : Bool → Bool → State → State
modes det suppressed s = framed (switched s.session.frame det suppressed) s

abbrev pub asking : Maps → State → State
asking m s = framed (with_received s.session.frame m) s

-- after DONT 20: DET off, protection in effect, nothing agreed
abbrev pub det_off : State → State
det_off s = asking no_maps (modes false false s)

abbrev pub reading : Phase → List ℕ → State → State
reading phase held s = state (session s.session.frame (reader phase held s.session.reader.cr) s.session.pad) s.screen

abbrev pub after_cr : Bool → State → State
after_cr cr s =
    let r = s.session.reader in
    state (session s.session.frame (record { phase = r.phase; held = r.held; cr = cr }) s.session.pad) s.screen

abbrev pub x3_switched : Bool → State → State
x3_switched x3 s = framed (with_x3 s.session.frame x3) s

abbrev pub padded : Pad → State → State
padded p s = state (session s.session.frame s.session.reader p) s.screen

abbrev pub showing : List ℕ → State → State
showing chars s = state s.session (screen chars s.screen.attrs s.screen.marks)

abbrev pub attributed : List ℕ → State → State
attributed attrs s = state s.session (screen s.screen.chars attrs s.screen.marks)

abbrev pub marked : List ℕ → State → State
marked marks s = state s.session (screen s.screen.chars s.screen.attrs marks)

-- no cell is marked
abbrev pub unmarked : State → State
unmarked s = marked (replicate (length s.screen.marks) 0) s

abbrev pub unchanged : State → State
unchanged s = s

-- the cursor there, and this text on the screen
abbrev pub see : ℕ → ℕ → String → State → State
see x y text s = at x y (showing (characters text) s)

-- ---- what is sent: IAC SB 20 .. IAC SE; IAC, a verb (251 WILL, 252 WONT, 253 DO, 254 DONT) and an option

abbrev pub det : List ℕ → List ℕ
det payload = 0xff ∷ 0xfa ∷ 0x14 ∷ (payload ++ (0xff ∷ 0xf0 ∷ []))

abbrev pub verb : ℕ → ℕ → List ℕ
verb v option = 0xff ∷ v ∷ option ∷ []

-- ---- host bytes, or a key, with so much reply room: taken, or refused with this number

abbrev pub host_trial : ℕ → List ℕ → ℕ → (State → State) → List ℕ → Trial
host_trial room input taken leaves replies =
    record { given = heard input; room = room; refusal = 0; taken = taken; leaves = leaves; replies = replies }

abbrev pub key_trial : ℕ → ℕ → (State → State) → List ℕ → Trial
key_trial room k leaves replies = record { given = struck k; room = room; refusal = 0; taken = 1; leaves = leaves; replies = replies }

abbrev pub refused_trial : ℕ → ℕ → Given → Trial
refused_trial number room given = record { given = given; room = room; refusal = number; taken = 0; leaves = unchanged; replies = [] }

-- names what a proof about cases computes with, beside the rules
unfoldable pub seeing : ℕ
unfolding characters told_in stated_in phase_numbers numbers stage_numbers same same_pad same_beside same_brief same_all failures
seeing = 0
