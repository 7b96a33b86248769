-- Document 02, request (ii): worked cases of what is agreed, and which codes each bit of a map lets through.
use Rattle.std.proofs.Common.{◌≡◌, refl, Bool, true, false, not, ◌&&◌, List, [], ◌∷◌, ◌++◌, map, ℕ, if◌then◌else◌, Some}
use Prim.Native.String.{String}
use Rattle.words.specs.Words.{bit}
use Rattle.rules.specs.declared.Governor.TheVariants.{EditBit, EraseBit, TransmitBit, Format0Bit, Format1Bit}
use Rattle.rules.specs.declared.Maps.{Maps}
use Rattle.rules.specs.declared.Edition.{Edition}
use Rattle.rules.specs.declared.Edition.TheVariants.{June, September}
use Rattle.rules.specs.Session.{State, no_maps}
use Rattle.rules.specs.Facility.{agreed}
use Rattle.rules.specs.Command.{Row, rows}
use Rattle.rules.specs.Cases.Computing.{computing}
use Rattle.rules.specs.Cases.Vocabulary.{Case, Trial, Passes, characters, case, maps, at, asking, det_off, modes, attributed, unmarked, unchanged, det, verb, see, key_trial, observed, expected, seeing}
use Rattle.rules.proofs.Passing.{each_equal}
use Rattle.rules.proofs.Worked.{start_f, bytes}
-- the cases of document 01 and of request (i) are checked first
use Rattle.rules.proofs.Slow.{slow_holds}

-- ---- form F with nothing agreed

abbrev unasked : String → List Trial → Case
unasked title trials = case title (asking no_maps (start_f 3 0)) trials

-- a command, what it leaves and its answer
abbrev does : List ℕ → (State → State) → List ℕ → Trial
does payload leaves answer = bytes (det payload) leaves answer

-- it draws an ERROR, by its number, and changes nothing
abbrev errs : ℕ → ℕ → List ℕ → Trial
errs number code parameters = does (code ∷ parameters) unchanged (det (41 ∷ code ∷ number ∷ []))

-- the edit map is asked for
abbrev edits : ℕ → Trial
edits map = does (1 ∷ map ∷ []) (asking (maps map 0 0 0 0)) (det (1 ∷ 126 ∷ []))

unfoldable pub agreed_cases : List Case
agreed_cases =
    unasked "a command that is not agreed draws ERROR 1" (errs 1 16 [] ∷ errs 1 21 [] ∷ errs 1 35 [] ∷ errs 1 37 (3 ∷ 120 ∷ []) ∷ [])
    ∷ unasked "ERROR 1 goes before the parameter count" (errs 1 16 (0 ∷ []) ∷ errs 1 37 [] ∷ errs 1 38 [] ∷ [])
    ∷ unasked "ERROR 2 goes before ERROR 1" (errs 2 18 [] ∷ errs 2 28 [] ∷ errs 2 42 [] ∷ [])
    ∷ unasked "ERROR 1 goes before the values" (errs 1 37 (1 ∷ 7 ∷ []) ∷ errs 1 38 (9 ∷ []) ∷ [])
    ∷ unasked "no command byte draws ERROR 10" (bytes (det []) unchanged (det (41 ∷ 0 ∷ 10 ∷ [])) ∷ [])
    ∷ unasked "the bit asked for is agreed, no other"
    (edits 4 ∷ does (16 ∷ []) (see 3 0 "WT 0  #4UNIT mg ") [] ∷ errs 1 17 [] ∷ errs 1 11 [] ∷ errs 1 19 [] ∷ [])
    ∷ unasked "the latest map of a class counts"
    (edits 4 ∷ edits 16 ∷ errs 1 16 [] ∷ does (17 ∷ []) unchanged (det (18 ∷ 3 ∷ 0 ∷ [])) ∷ [])
    ∷ unasked "a map of another class leaves it"
    (edits 4 ∷ does (2 ∷ 4 ∷ []) (asking (maps 4 4 0 0 0)) (det (2 ∷ 31 ∷ []))
    ∷ does (3 ∷ 9 ∷ []) (asking (maps 4 4 9 0 0)) (det (3 ∷ 63 ∷ []))
    ∷ does (4 ∷ 16 ∷ 32 ∷ []) (asking (maps 4 4 9 16 32)) (det (4 ∷ 208 ∷ 121 ∷ []))
    ∷ does (16 ∷ []) (see 3 0 "WT 0  #4UNIT mg ") [] ∷ [])
    ∷ unasked "a facility command that draws an ERROR does not count"
    (edits 4 ∷ errs 10 1 [] ∷ errs 9 1 (16 ∷ 16 ∷ []) ∷ does (16 ∷ []) (see 3 0 "WT 0  #4UNIT mg ") [] ∷ [])
    ∷ unasked "DONT 20 ends it, and DO 20 does not bring it back"
    (edits 16 ∷ bytes (verb 254 20) det_off (verb 252 20) ∷ bytes (verb 253 20) (modes true false) (verb 251 20)
    ∷ errs 1 17 [] ∷ [])
    ∷ case "DONT 20 while off leaves it" (modes false false (start_f 3 0))
    (bytes (verb 254 20) unchanged []
    ∷ bytes (verb 253 20) (modes true false) (verb 251 20) ∷ does (17 ∷ []) unchanged (det (18 ∷ 3 ∷ 0 ∷ [])) ∷ [])
    ∷ unasked "38 as a whole needs protection on/off"
    (errs 1 38 (251 ∷ []) ∷ errs 1 38 (252 ∷ []) ∷ errs 1 38 (253 ∷ []) ∷ errs 1 38 (254 ∷ []) ∷ [])
    ∷ unasked "obeyed with nothing agreed"
    (does (5 ∷ 0 ∷ 0 ∷ []) (at 0 0) [] ∷ does (12 ∷ []) (at 3 0) []
    ∷ does (36 ∷ 8 ∷ 0 ∷ 0 ∷ 3 ∷ []) (attributed (8 ∷ 8 ∷ 8 ∷ 8 ∷ 8 ∷ 8 ∷ 8 ∷ 8 ∷ 8 ∷ 8 ∷ 8 ∷ 8 ∷ 8 ∷ 0 ∷ 0 ∷ 0 ∷ [])) []
    ∷ does (20 ∷ []) (at 0 0) (det (28 ∷ 0 ∷ 0 ∷ []) ++ characters "WT 70 #4UNIT mg ") ∷ does (41 ∷ 5 ∷ 3 ∷ []) unchanged []
    ∷ does (29 ∷ []) (λ s. unmarked (attributed (0 ∷ 0 ∷ 0 ∷ 0 ∷ 0 ∷ 0 ∷ 0 ∷ 0 ∷ 0 ∷ 0 ∷ 0 ∷ 0 ∷ 0 ∷ 0 ∷ 0 ∷ 0 ∷ []) (see 0 0 "                " s))) [] ∷ [])
    ∷ unasked "keys need nothing agreed"
    (key_trial 144 127 (see 3 0 "WT 0  #4UNIT mg ") [] ∷ key_trial 144 128 unchanged (det (40 ∷ 1 ∷ []))
    ∷ key_trial 144 13 unchanged (det (28 ∷ 3 ∷ 0 ∷ []) ++ (characters "0  " ++ (det (39 ∷ []) ++ characters "mg "))) ∷ [])
    ∷ []

pub agreed_pass : Passes agreed_cases
unfolding computing seeing agreed_cases
agreed_pass = (tt, (tt, (tt, (tt, (tt, (tt, (tt, (tt, (tt, (tt, (tt, (tt, (tt, (tt, tt))))))))))))))

pub agreed_holds : observed agreed_cases ≡ expected agreed_cases
agreed_holds = each_equal agreed_cases agreed_pass

-- ---- the intersection with the terminal's own maps, whatever the bit and the maps received are

pub record Intersects (e : Edition) (m : Maps) (w : ℕ) : Type 0 where
  pub edit : agreed e m (Some (EditBit w)) ≡ (bit w m.edit && bit w 126)
  pub erase : agreed e m (Some (EraseBit w)) ≡ (bit w m.erase && bit w 31)
  pub transmit : agreed e m (Some (TransmitBit w)) ≡ (bit w m.transmit && bit w 63)
  pub format1 : agreed e m (Some (Format1Bit w)) ≡ (bit w m.format1 && bit w 121)

pub intersects : (e : Edition) (m : Maps) (w : ℕ) → Intersects e m w
unfolding agreed
intersects e m w = record { edit = refl; erase = refl; transmit = refl; format1 = refl }

-- the first format map goes by the edition (request (vi))
pub record IntersectsFormat (m : Maps) (w : ℕ) : Type 0 where
  pub june : agreed June m (Some (Format0Bit w)) ≡ (bit w m.format0 && bit w 144)
  pub september : agreed September m (Some (Format0Bit w)) ≡ (bit w m.format0 && bit w 208)

pub intersects_format : (m : Maps) (w : ℕ) → IntersectsFormat m w
unfolding agreed
intersects_format m w = record { june = refl; september = refl }

-- ---- each bit of each map, and the commands that it lets through in an edition, by document 01's codes

unfoldable pub lets : (Row → Bool) → List Row → List ℕ
lets test [] = []
lets test (r ∷ rs) = if test r then r.code ∷ lets test rs else lets test rs

-- those that need nothing, and those that need it and no more
abbrev free : Edition → List ℕ
free e = lets (λ r. agreed e no_maps r.governor) rows

abbrev with : Edition → Maps → List ℕ
with e m = lets (λ r. agreed e m r.governor && not (agreed e no_maps r.governor)) rows

-- the bits 7 to 0 of a byte of the maps
abbrev each : Edition → (ℕ → Maps) → List (List ℕ)
each e byte = map (λ w. with e (byte w)) (128 ∷ 64 ∷ 32 ∷ 16 ∷ 8 ∷ 4 ∷ 2 ∷ 1 ∷ [])

-- the same in both, but for what the bit of TRANSMIT MODIFIED lets through
pub record Governs (e : Edition) (modified : List ℕ) : Type 0 where
  pub none : free e ≡ 1 ∷ 2 ∷ 3 ∷ 4 ∷ 5 ∷ 12 ∷ 20 ∷ 29 ∷ 36 ∷ 41 ∷ []
  pub edit : each e (λ w. maps w 0 0 0 0)
      ≡ [] ∷ (6 ∷ 7 ∷ []) ∷ (8 ∷ 9 ∷ 10 ∷ 11 ∷ []) ∷ (17 ∷ []) ∷ (13 ∷ 14 ∷ []) ∷ (15 ∷ 16 ∷ []) ∷ (19 ∷ []) ∷ [] ∷ []
  pub erase : each e (λ w. maps 0 w 0 0 0) ≡ [] ∷ [] ∷ [] ∷ (31 ∷ []) ∷ (30 ∷ []) ∷ (32 ∷ []) ∷ (33 ∷ []) ∷ (34 ∷ []) ∷ []
  pub transmit : each e (λ w. maps 0 0 w 0 0) ≡ [] ∷ [] ∷ [] ∷ (22 ∷ []) ∷ (23 ∷ []) ∷ (24 ∷ []) ∷ (25 ∷ []) ∷ (26 ∷ []) ∷ []
  pub format0 : each e (λ w. maps 0 0 0 w 0) ≡ [] ∷ modified ∷ [] ∷ (37 ∷ []) ∷ [] ∷ [] ∷ [] ∷ [] ∷ []
  pub format1 : each e (λ w. maps 0 0 0 0 w) ≡ [] ∷ (38 ∷ []) ∷ (21 ∷ 35 ∷ []) ∷ [] ∷ [] ∷ [] ∷ [] ∷ [] ∷ []

pub september_governs : Governs September (27 ∷ [])
unfolding computing lets
september_governs = record { none = refl; edit = refl; erase = refl; transmit = refl; format0 = refl; format1 = refl }

pub june_governs : Governs June []
unfolding computing lets
june_governs = record { none = refl; edit = refl; erase = refl; transmit = refl; format0 = refl; format1 = refl }
