-- A case that passes shows what is expected of it.
use Rattle.std.proofs.Common.{◌≡◌, refl, sym, ap, ap₂, ◌∙◌, Bool, true, false, List, [], ◌∷◌, ◌++◌, ℕ, zero, suc, ◌-◌, ◌<◌, arith, eqb-true, eqb, length, get_or, drop, replicate, if◌then◌else◌, Ok, Err}
use Prim.Native.String.{String}
use native.Mathlib.Nat.{sub-zero, zero-sub, suc-sub-suc}
use lib.Seq.{take-append_seam}
use Rattle.words.specs.Words.{ByTest}
use Rattle.telnet.specs.declared.Phase.{Phase}
use Rattle.telnet.specs.declared.Phase.TheVariants.{Rest, Iac, Negotiating, Opening, OpeningIac, Inside, InsideIac}
use Rattle.telnet.specs.declared.Verb.{Verb}
use Rattle.telnet.specs.declared.Verb.TheVariants.{Will, Wont, Do, Dont}
use Rattle.pad.specs.declared.message.Stage.{Stage}
use Rattle.pad.specs.declared.message.Stage.TheVariants.{Code, Parameter, Value}
use Rattle.rules.specs.declared.Pad.{Pad}
use Rattle.screen.specs.Cells.{place}
use Rattle.words.proofs.Laws.{not_both, true_or_false, less_or_not, and_left, and_right}
use Rattle.rules.specs.declared.Edition.{Edition}
use Rattle.rules.specs.declared.Edition.TheVariants.{June, September}
use Rattle.rules.specs.Session.{Screen, State, cells, fresh_frame, fresh, session, screen, state}
use Rattle.rules.specs.Edition.{edition_of, name_of}
use Rattle.rules.specs.Refusal.{Verdict, number_of}
use Rattle.rules.specs.Operation.{
  Ran,
  Outcome,
  answering,
  unless,
  host_refusal,
  host_ran,
  host_bytes,
  key_refusal,
  key_ran,
  one_key,
  blank,
  opened,
}
use Rattle.rules.specs.Call.{called, left}
use Rattle.rules.proofs.Verdicts.{taken_or_refused}
use Rattle.rules.specs.Cases.Vocabulary.{
  look,
  lent,
  Brief,
  brief,
  tell,
  in_full,
  Given,
  heard,
  struck,
  call_with,
  Trial,
  observed_in,
  told_in,
  full_in,
  Case,
  case,
  opening,
  title_of,
  observed_of,
  told,
  stated,
  full_of,
  observed,
  expected,
  flag,
  phase_numbers,
  numbers,
  stage_numbers,
  same,
  same_pad,
  same_beside,
  same_brief,
  same_all,
  Fails,
  Passes,
  failures,
  Sweep,
  if_none,
  Everywhere,
}

-- ---- what is seen, from its numbers and lists

verb_of : ℕ → Verb
verb_of n = if eqb n 251 then Will else if eqb n 252 then Wont else if eqb n 253 then Do else Dont

abbrev phase_of : ℕ → ℕ → Phase
phase_of n option =
    if eqb n 0 then Rest
    else if eqb n 1 then Iac
    else if eqb n 2 then Negotiating (verb_of option)
    else if eqb n 3 then Opening
    else if eqb n 4 then OpeningIac
    else if eqb n 5 then Inside option
    else InsideIac option

phase_back : (p : Phase) → phase_of (get_or (phase_numbers p) 0 0) (get_or (phase_numbers p) 1 0) ≡ p
unfolding phase_numbers verb_of
phase_back Rest = refl
phase_back Iac = refl
phase_back (Negotiating Will) = refl
phase_back (Negotiating Wont) = refl
phase_back (Negotiating Do) = refl
phase_back (Negotiating Dont) = refl
phase_back Opening = refl
phase_back OpeningIac = refl
phase_back (Inside option) = refl
phase_back (InsideIac option) = refl

flag_back : (b : Bool) → eqb (flag b) 1 ≡ b
flag_back true = refl
flag_back false = refl

edition_back : (e : Edition) → edition_of (name_of e) ≡ e
unfolding edition_of name_of
edition_back June = refl
edition_back September = refl

abbrev stage_of : ℕ → ℕ → ℕ → Stage
stage_of n code parameter = if eqb n 0 then Code else if eqb n 1 then Parameter code else Value code parameter

stage_back : (t : Stage) → let ns = stage_numbers t in stage_of (get_or ns 0 0) (get_or ns 1 0) (get_or ns 2 0) ≡ t
unfolding stage_numbers
stage_back Code = refl
stage_back (Parameter code) = refl
stage_back (Value code parameter) = refl

abbrev brief_of : List ℕ → Pad → List ℕ → List ℕ → List ℕ → List ℕ → List ℕ → Brief
brief_of ns pad held chars attrs marks replies =
    brief (get_or ns 0 0) (get_or ns 1 0)
    (state
    (session
    (record {
      width = get_or ns 2 0;
      height = get_or ns 3 0;
      edition = edition_of (get_or ns 4 0);
      cursor = place (get_or ns 5 0) (get_or ns 6 0);
      det = eqb (get_or ns 7 0) 1;
      x3 = eqb (get_or ns 8 0) 1;
      suppressed = eqb (get_or ns 9 0) 1;
      received = record {
        edit = get_or ns 10 0;
        erase = get_or ns 11 0;
        transmit = get_or ns 12 0;
        format0 = get_or ns 13 0;
        format1 = get_or ns 14 0;
      };
    })
    (record {
      phase = phase_of (get_or ns 18 0) (get_or ns 19 0);
      held = record { bytes = held; count = get_or ns 17 0 };
      cr = eqb (get_or ns 15 0) 1;
    })
    pad)
    (screen chars attrs marks))
    replies

-- the PAD from its lists, its line's length and its message's stage
abbrev pad_of : List ℕ → List ℕ → ℕ → List ℕ → List ℕ → Pad
pad_of values line len copy ns =
    record {
      values = record { held = values };
      line = record { bytes = line; len = len };
      message = record { stage = stage_of (get_or ns 0 0) (get_or ns 1 0) (get_or ns 2 0); copy = record { held = copy } };
    }

pad_back : (p : Pad)
    → pad_of p.values.held p.line.bytes p.line.len p.message.copy.held (stage_numbers p.message.stage) ≡ p
pad_back p = rw (stage_back p.message.stage)

brief_back : (a : Brief) → let s = a.left.session in let b = a.left.screen in
    brief_of (numbers a) s.pad s.reader.held.bytes b.chars b.attrs b.marks a.replies ≡ a
unfolding numbers
brief_back a =
    let s = a.left.session in
    let f = s.frame in
    rw (edition_back f.edition, flag_back f.det, flag_back f.x3, flag_back f.suppressed, flag_back s.reader.cr, phase_back s.reader.phase)

-- ---- equal where the tests pass

pub same_equal : (xs ys : List ℕ) → same xs ys ≡ true → xs ≡ ys
unfolding same
same_equal [] [] e = refl
same_equal [] (y ∷ ys) e = not_both false e refl
same_equal (x ∷ xs) [] e = not_both false e refl
same_equal (x ∷ xs) (y ∷ ys) e = ap₂ ◌∷◌ (eqb-true x y (and_left _ _ e)) (same_equal xs ys (and_right (eqb x y) _ e))

pad_equal : (p q : Pad) → p.line.len ≡ q.line.len → same_pad p q ≡ true → p ≡ q
unfolding same_pad
pad_equal p q len e =
    let e1 = and_right (same p.values.held q.values.held) _ e in
    let e2 = and_right (same p.line.bytes q.line.bytes) _ e1 in
    let values = same_equal _ _ (and_left _ _ e) in
    let line = same_equal _ _ (and_left _ _ e1) in
    let copy = same_equal _ _ (and_left _ _ e2) in
    let stage = same_equal _ _ (and_right (same p.message.copy.held q.message.copy.held) _ e2) in
    sym (pad_back p) ∙ rw (values, line, len, copy, stage) (pad_back q)

len_equal : (a b : Brief) → numbers a ≡ numbers b → a.left.session.pad.line.len ≡ b.left.session.pad.line.len
unfolding numbers
len_equal a b e = ap (λ ns. get_or ns 16 0) e

beside_equal : (a b : Brief) → a.left.session.pad ≡ b.left.session.pad → same_beside a b ≡ true → a ≡ b
unfolding same_beside
beside_equal a b pad e =
    let e1 = and_right (same (numbers a) (numbers b)) _ e in
    let e2 = and_right (same a.left.session.reader.held.bytes b.left.session.reader.held.bytes) _ e1 in
    let e3 = and_right (same a.left.screen.chars b.left.screen.chars) _ e2 in
    let e4 = and_right (same a.left.screen.attrs b.left.screen.attrs) _ e3 in
    let e5 = and_right (same a.left.screen.marks b.left.screen.marks) _ e4 in
    let p = same_equal (numbers a) (numbers b) (and_left _ _ e) in
    let p1 = same_equal _ _ (and_left _ _ e1) in
    let p2 = same_equal _ _ (and_left _ _ e2) in
    let p3 = same_equal _ _ (and_left _ _ e3) in
    let p4 = same_equal _ _ (and_left _ _ e4) in
    let p5 = same_equal a.replies b.replies e5 in
    sym (brief_back a) ∙ rw (p, pad, p1, p2, p3, p4, p5) (brief_back b)

numbers_equal : (a b : Brief) → same_beside a b ≡ true → numbers a ≡ numbers b
unfolding same_beside
numbers_equal a b e = same_equal (numbers a) (numbers b) (and_left _ _ e)

brief_equal : (a b : Brief) → same_brief a b ≡ true → a ≡ b
unfolding same_brief
brief_equal a b e =
    let beside = and_left _ _ e in
    beside_equal a b (pad_equal _ _ (len_equal a b (numbers_equal a b beside)) (and_right (same_beside a b) _ e)) beside

all_equal : (xs ys : List Brief) → same_all xs ys ≡ true → xs ≡ ys
unfolding same_all
all_equal [] [] e = refl
all_equal [] (y ∷ ys) e = not_both false e refl
all_equal (x ∷ xs) [] e = not_both false e refl
all_equal (x ∷ xs) (y ∷ ys) e = ap₂ ◌∷◌ (brief_equal x y (and_left _ _ e)) (all_equal xs ys (and_right (same_brief x y) _ e))

-- what fails cannot pass
fails_not : {A : Type 0} {title : String} → Fails title → A
fails_not = elim [ ]

told_stated : (c : Case) → ByTest (same_all (told c) (stated c)) (Unit {0}) (Fails (title_of c)) → told c ≡ stated c
told_stated c p =
    true_or_false (same_all (told c) (stated c)) (λ e. all_equal _ _ e)
    (λ e. let q : Fails (title_of c) = rw e at p in fails_not q)

-- ---- what is told, in full, is what is seen

drop_lent : (i n : ℕ) → drop i (replicate n lent) ≡ replicate (n - i) lent
drop_lent zero n = rw (sub-zero n)
drop_lent (suc i) zero = rw (zero-sub (suc i))
drop_lent (suc i) (suc n) = drop_lent i n ∙ rw (suc-sub-suc n i)

-- a call that is done counts as written the bytes that it replies
written_is : (taken : ℕ) (ran : Ran) (reply : List ℕ) → (answering taken ran reply).answer.written ≡ length ran.replies
written_is taken ran reply = refl

-- a call that is refused, or else done
abbrev pub briefly : Verdict → State → ℕ → Ran → Brief
briefly (Ok passed) s taken ran = brief 0 taken ran.state ran.replies
briefly (Err r) s taken ran = brief (number_of r) 0 s []

module _ (v : Verdict) (s : State) (room taken : ℕ) (ran : Ran) where
  abbrev ends : Outcome
  ends = let buffer = replicate room lent in unless v s buffer (answering taken ran buffer)

  pub ends_full : look ends ≡ in_full room (briefly v s taken ran)
  unfolding unless
  ends_full =
      taken_or_refused v (λ e. rw e (rw (drop_lent (length ran.replies) room))) (λ r e. rw e (rw (sub-zero room)))

  ends_told : tell ends ≡ briefly v s taken ran
  unfolding unless
  ends_told = taken_or_refused v (λ e. rw e (rw take-append_seam)) (λ r e. rw e)

  ends_tell : look ends ≡ in_full room (tell ends)
  ends_tell = ends_full ∙ ap (in_full room) (sym ends_told)

call_tell : (s : State) (g : Given) (room : ℕ) → let o = called s (call_with g room) in look o ≡ in_full room (tell o)
unfolding called host_bytes one_key
call_tell s (heard input) room =
    let buffer = replicate room lent in ends_tell (host_refusal s buffer) s room _ (host_ran s buffer input)
call_tell s (struck k) room = ends_tell (key_refusal s (replicate room lent) k) s room _ (key_ran s k)

open_tell : (m n named : ℕ) (b : Screen) → let o = opened m n named b in look o ≡ in_full 0 (tell o)
unfolding opened
open_tell m n named b =
    let f = fresh_frame m n (edition_of named) in
    let done : Ran = record { state = state (fresh m n (edition_of named)) (blank (cells f)); replies = []; executed = [] } in
    ends_tell _ _ 0 _ done

trials_tell : (s : State) (ts : List Trial) → observed_in s ts ≡ full_in ts (told_in s ts)
unfolding observed_in told_in full_in
trials_tell s [] = refl
trials_tell s (t ∷ ts) = ap₂ ◌∷◌ (call_tell s t.given t.room) (trials_tell (left (called s (call_with t.given t.room))) ts)

case_tell : (c : Case) → observed_of c ≡ full_of c (told c)
case_tell (case title s ts) = trials_tell s ts
case_tell (opening title m n named b refusal s) = ap (λ o. o ∷ []) (open_tell m n named b)

case_equal : (c : Case) → ByTest (same_all (told c) (stated c)) (Unit {0}) (Fails (title_of c)) → observed_of c ≡ full_of c (stated c)
case_equal c p = case_tell c ∙ ap (full_of c) (told_stated c p)

pub each_equal : (cs : List Case) → Passes cs → observed cs ≡ expected cs
each_equal [] p = refl
each_equal (c ∷ cs) p = ap₂ ◌∷◌ (case_equal c p.0) (each_equal cs p.1)

pub all_pass : (cs ds : List Case) → Passes cs → Passes ds → Passes (cs ++ ds)
all_pass [] ds p q = q
all_pass (c ∷ cs) ds p q = (p.0, all_pass cs ds p.1 q)

-- where no number below n fails a test, each passes it
pub below_passes : (test : ℕ → Bool) (n : ℕ) → failures test n ≡ [] → (k : ℕ) → k < n → test k ≡ true
unfolding failures
below_passes test zero e k h = absurd (omega arith)
below_passes test (suc n) e k h =
    true_or_false (test n)
    (λ t. less_or_not k n (λ l. below_passes test n (rw t at e) k l) (λ l. let q : k ≡ n = omega arith in rw q t))
    (λ t. absurd (omega (arith, ap length (rw t at e))))

-- two tests that agree fail alike
pub failures_same : (f g : ℕ → Bool) (n : ℕ) → ((k : ℕ) → f k ≡ g k) → failures f n ≡ failures g n
unfolding failures
failures_same f g zero e = refl
failures_same f g (suc n) e = rw (e n, failures_same f g n e)

none_wrong : (ns : List ℕ) (title : String) → if_none ns title → ns ≡ []
none_wrong [] title p = refl
none_wrong (n ∷ ns) title p = fails_not p

-- A sweep may go by what is told once some tests have been passed. Where that leaves the PAD that is stated, the rest is compared.
pub record Swept (w : Sweep) (by : ℕ → Brief) : Type 0 where
  pub full : (n : ℕ) → w.seen n ≡ in_full w.room (by n)
  pub pad : (n : ℕ) → n < 256 → (by n).left.session.pad ≡ (w.shows n).left.session.pad
  pub beside : if_none (failures (λ n. same_beside (by n) (w.shows n)) 256) w.title

pub everywhere : {w : Sweep} {by : ℕ → Brief} → Swept w by → Everywhere w
everywhere {w} s n h =
    s.full n
    ∙ ap (in_full w.room) (beside_equal _ _ (s.pad n h) (below_passes _ 256 (none_wrong _ w.title s.beside) n h))
