-- Changes keep the number of characters, and each character printable.
use Rattle.std.proofs.Common.{◌≡◌, refl, sym, ◌∙◌, Bool, true, false, not, ◌&&◌, List, [], ◌∷◌, ◌++◌, ℕ, zero, suc, ◌+◌, ◌-◌, ltb, length, get_or, set, take, drop, length-set, take-append-drop, if◌then◌else◌}
use mathlib.Core.Bool.{and_assoc}
use Rattle.words.specs.Words.{tabulate}
use Rattle.screen.specs.Words.{in_range}
use Rattle.screen.specs.Attributes.{guarded_at}
use Rattle.edit.specs.declared.range.Shift.{Shift}
use Rattle.edit.specs.declared.range.Shift.TheVariants.{Insertion, Deletion}
use Rattle.edit.specs.Edits.{lies, deleted, inserted, shifted, on_part, erased}
use Rattle.words.proofs.Laws.{either, and_left, and_right, both}
use Rattle.edit.proofs.EditLaws.{shifted_length, erased_length, on_part-length}
use Rattle.rules.specs.Session.{printable, all_printable}
use Rattle.rules.specs.Effect.{Change, put, erase, shift, changed, changed_all}
-- the sentences of document 01 are checked first, so that a wrong rule is refused there
use Rattle.rules.proofs.Causes.{nothing_else}

-- the characters of a screen of so many cells
pub record Text (cells : ℕ) (chars : List ℕ) : Type 0 where
  pub long : length chars ≡ cells
  pub printing : all_printable chars ≡ true

-- ---- lists of printable characters

-- every place holds one, if what lies beyond is read as a space
pub printable_at : (cs : List ℕ) → all_printable cs ≡ true → (i : ℕ) → printable (get_or cs i 32) ≡ true
unfolding all_printable
printable_at [] e i = refl
printable_at (c ∷ cs) e zero = and_left _ _ e
printable_at (c ∷ cs) e (suc i) = printable_at cs (and_right (printable c) _ e) i

space_or : (b : Bool) (cs : List ℕ) → all_printable cs ≡ true → (i : ℕ) → printable (if b then 32 else get_or cs i 32) ≡ true
space_or true cs e i = refl
space_or false cs e i = printable_at cs e i

printable_append : (xs ys : List ℕ) → all_printable (xs ++ ys) ≡ (all_printable xs && all_printable ys)
unfolding all_printable
printable_append [] ys = refl
printable_append (x ∷ xs) ys = rw (printable_append xs ys) (sym (and_assoc (printable x) _ _))

printable_parts : (n : ℕ) (cs : List ℕ) → all_printable cs ≡ true
    → (all_printable (take n cs) ≡ true) × (all_printable (drop n cs) ≡ true)
printable_parts n cs e =
    let p : (all_printable (take n cs) && all_printable (drop n cs)) ≡ true =
    sym (printable_append (take n cs) (drop n cs)) ∙ rw take-append-drop e in
    (and_left _ _ p, and_right (all_printable (take n cs)) _ p)

printable_tabulate : (f : ℕ → ℕ) (i n : ℕ) → ((k : ℕ) → printable (f k) ≡ true) → all_printable (tabulate f i n) ≡ true
unfolding all_printable tabulate
printable_tabulate f i zero h = refl
printable_tabulate f i (suc n) h = both _ _ (h i) (printable_tabulate f (suc i) n h)

printable_set : (cs : List ℕ) (i c : ℕ) → all_printable cs ≡ true → printable c ≡ true → all_printable (set cs i c) ≡ true
unfolding all_printable
printable_set [] i c e p = refl
printable_set (x ∷ xs) zero c e p = both _ _ p (and_right (printable x) _ e)
printable_set (x ∷ xs) (suc i) c e p = both (printable x) _ (and_left _ _ e) (printable_set xs i c (and_right (printable x) _ e) p)

printable_part : (from end : ℕ) (edit : List ℕ → List ℕ) → ((p : List ℕ) → all_printable p ≡ true → all_printable (edit p) ≡ true)
    → (cs : List ℕ) → all_printable cs ≡ true → all_printable (on_part from end edit cs) ≡ true
unfolding on_part
printable_part from end edit keeps cs e =
    let outer = printable_parts from cs e in
    let mid = keeps _ (printable_parts (end - from) _ outer.1).0 in
    either (λ l. all_printable l ≡ true) (lies from end cs)
    (λ t. printable_append _ _ ∙ both _ _ outer.0 (printable_append _ _ ∙ both _ _ mid (printable_parts end cs e).1)) (λ t. e)

-- a part that is shifted
printable_shifted : (s : Shift) (by : ℕ) (part : List ℕ) → all_printable part ≡ true → all_printable (shifted s by part) ≡ true
unfolding shifted inserted deleted
printable_shifted Insertion by part e = printable_tabulate _ 0 _ (λ i. space_or (ltb i by) part e (i - by))
printable_shifted Deletion by part e = printable_tabulate _ 0 _ (λ i. printable_at part e (i + by))

-- ---- changes

-- a character that a change puts is printable
abbrev pub Fine : Change → Type 0
Fine (put cell c) = printable c ≡ true
Fine (erase suppressed from end) = Unit {0}
Fine (shift s from end by) = Unit {0}

module _ (chars attrs : List ℕ) where
  -- a change keeps the number of characters
  pub changed_length : (c : Change) → length (changed chars attrs c) ≡ length chars
  unfolding changed
  changed_length (put cell c) = length-set chars cell c
  changed_length (erase suppressed from end) = erased_length suppressed chars attrs from end
  changed_length (shift s from end by) = on_part-length from end (shifted s by) (shifted_length s by) chars

  changed_printable : (c : Change) → Fine c → all_printable chars ≡ true → all_printable (changed chars attrs c) ≡ true
  unfolding changed erased
  changed_printable (put cell c) f e = printable_set chars cell c e f
  changed_printable (erase suppressed from end) f e =
      printable_tabulate _ 0 _ (λ i. space_or (in_range from end i && not (guarded_at suppressed attrs i)) chars e i)
  changed_printable (shift s from end by) f e = printable_part from end (shifted s by) (printable_shifted s by) chars e

  -- and keeps them printable
  pub text_changed : {cells : ℕ} (c : Change) → Fine c → Text cells chars → Text cells (changed chars attrs c)
  text_changed c f t = record { long = changed_length c ∙ t.long; printing = changed_printable c f t.printing }

-- some changes, and then others
pub changed_append : (chars attrs : List ℕ) (xs ys : List Change)
    → changed_all chars attrs (xs ++ ys) ≡ changed_all (changed_all chars attrs xs) attrs ys
unfolding changed_all
changed_append chars attrs [] ys = refl
changed_append chars attrs (x ∷ xs) ys = changed_append (changed chars attrs x) attrs xs ys
