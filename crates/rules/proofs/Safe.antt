-- Safe changes and safe reply parts. A safe change keeps protected characters, and keeps two lists of characters alike that
-- differ in protected ones alone; a safe part spells the same from both.
use Rattle.std.proofs.Common.{◌≡◌, refl, sym, ap, ap₂, ◌∙◌, true, false, not, ◌&&◌, List, [], ◌∷◌, ◌++◌, ℕ, ◌+◌, ◌-◌, ◌≤◌, ◌<◌, arith, ltb-true, ltb-false, eqb-true, ltb, eqb, length, get_or, set, length-set, length-take, length-drop, get_or-set_same, get_or-set_other, get_or-take, get_or-drop, ext_get_or, if◌then◌else◌}
use borrow.Author.Tests.{eqb-false, not-true}
use Rattle.screen.specs.Words.{in_range}
use Rattle.screen.specs.Attributes.{protected_at}
use Rattle.edit.specs.Edits.{shifted, lies, on_part, erased, some_marked, text_of}
use Rattle.words.proofs.Laws.{true_or_false, not_both, and_right, get_d-within}
use Rattle.edit.proofs.EditLaws.{shifted_length, erased_length, erased_cell_lem, on_part-none, on_part-length, on_part-before, on_part-inside, on_part-after}
use Rattle.rules.specs.Session.{screen}
use Rattle.rules.specs.Effect.{Change, put, erase, shift, changed, changed_all, Part, bytes, text, where_marked, spelled, spelled_all}
use Rattle.rules.specs.Noninterference.{Alike, Kept}
use Rattle.rules.proofs.All.{All}
-- the sentences of document 01 are checked first, so that a wrong rule is refused there
use Rattle.rules.proofs.Causes.{nothing_else}

-- no cell of the range is protected
abbrev pub Open : List ℕ → ℕ → ℕ → Type 0
Open attrs from end = (i : ℕ) → from ≤ i → i < end → protected_at attrs i ≡ false

abbrev pub SafeChange : List ℕ → Change → Type 0
SafeChange attrs (put cell c) = protected_at attrs cell ≡ false
SafeChange attrs (erase suppressed from end) = suppressed ≡ false
SafeChange attrs (shift s from end by) = Open attrs from end

abbrev pub SafePart : List ℕ → Part → Type 0
SafePart attrs (bytes bs) = Unit {0}
SafePart attrs (text from end) = Open attrs from end
SafePart attrs (where_marked bs from end) = Open attrs from end

-- two lists of characters that are alike, each with the protected characters of the one it comes from
pub record Twins (attrs c₀ d₀ c d : List ℕ) : Type 0 where
  pub alike : Alike attrs c d
  pub first : Kept attrs c₀ c
  pub second : Kept attrs d₀ d

-- ---- what is sent

module _ {attrs c d : List ℕ} (a : Alike attrs c d) where
  same_text : (from end : ℕ) → Open attrs from end → text_of from end c ≡ text_of from end d
  same_text from end o =
      ext_get_or 0 (text_of from end c) (text_of from end d) (simp (length-take, length-drop, a.long))
      (λ i h.
      let k = simp (length-take, length-drop) at h in
      let l : i < end - from = omega arith in
      simp (get_or-take, get_or-drop) (a.unprotected (from + i) (omega arith) (o (from + i) (omega arith) (omega arith))))

  -- with the same marks
  pub same_reply : (marks : List ℕ) (ps : List Part) → All (SafePart attrs) ps
      → spelled_all (screen c attrs marks) ps ≡ spelled_all (screen d attrs marks) ps
  unfolding spelled_all spelled
  same_reply marks [] s = refl
  same_reply marks (bytes bs ∷ ps) s = ap (λ rest. bs ++ rest) (same_reply marks ps s.1)
  same_reply marks (text from end ∷ ps) s = ap₂ ◌++◌ (same_text from end s.0) (same_reply marks ps s.1)
  same_reply marks (where_marked bs from end ∷ ps) s =
      ap₂ ◌++◌ (ap (λ t. if some_marked marks from end then bs ++ t else []) (same_text from end s.0)) (same_reply marks ps s.1)

-- ---- what is changed

-- What an edit does to cell i of a list of characters: nothing; or, the cell being unprotected, the same to lists that are alike.
data Cell (attrs : List ℕ) (edit : List ℕ → List ℕ) (i : ℕ) : Type 0 where
  untouched : ((x : List ℕ) → i < length x → get_or (edit x) i 0 ≡ get_or x i 0) → Cell attrs edit i
  written : protected_at attrs i ≡ false
      → ((c d : List ℕ) → Alike attrs c d → i < length c → i < length d → get_or (edit c) i 0 ≡ get_or (edit d) i 0) → Cell attrs edit i

record SafeEdit (attrs : List ℕ) (edit : List ℕ → List ℕ) : Type 0 where
  long : (x : List ℕ) → length (edit x) ≡ length x
  cell : (i : ℕ) → Cell attrs edit i

module _ {attrs : List ℕ} {edit : List ℕ → List ℕ} (s : SafeEdit attrs edit) where
  still_alike : {c d : List ℕ} → Alike attrs c d → Alike attrs (edit c) (edit d)
  still_alike {c} {d} a = record {
    long = s.long c ∙ a.long ∙ sym (s.long d);
    unprotected = λ i h u. at i (omega (arith, s.long c)) u (s.cell i);
  }
    where
      at : (i : ℕ) → i < length c → protected_at attrs i ≡ false → Cell attrs edit i → get_or (edit c) i 0 ≡ get_or (edit d) i 0
      at i h u (untouched e) = e c h ∙ a.unprotected i h u ∙ sym (e d (omega (arith, a.long)))
      at i h u (written v e) = e c d a h (omega (arith, a.long))

  still_kept : {x₀ x : List ℕ} → Kept attrs x₀ x → Kept attrs x₀ (edit x)
  still_kept {x₀} {x} k = record {
    long = s.long x ∙ k.long;
    protected = λ i h p. at i (omega (arith, k.long)) p (s.cell i) ∙ k.protected i h p;
  }
    where
      at : (i : ℕ) → i < length x → protected_at attrs i ≡ true → Cell attrs edit i → get_or (edit x) i 0 ≡ get_or x i 0
      at i h p (untouched e) = e x h
      at i h p (written u e) = not_both _ p u

module _ (attrs : List ℕ) where
  safe_put : (cell v : ℕ) → protected_at attrs cell ≡ false → SafeEdit attrs (λ x. set x cell v)
  safe_put cell v u = record {
    long = λ x. length-set x cell v;
    cell = λ i. true_or_false (eqb i cell)
        (λ e. let q = eqb-true i cell e in written (rw q u) (λ c d a h k. rw (← q) (get_or-set_same c i v 0 h ∙ sym (get_or-set_same d i v 0 k))))
        (λ e. untouched (λ x h. get_or-set_other x cell i v 0 (eqb-false i cell e)));
  }

  safe_erase : (from end : ℕ) → SafeEdit attrs (λ chars. erased false chars attrs from end)
  safe_erase from end = record {
    long = λ chars. erased_length false chars attrs from end;
    cell = λ i.
        let now : (x : List ℕ) → _ = λ x. erased_cell_lem false x attrs from end i 0 in
        true_or_false (in_range from end i && not (protected_at attrs i))
        (λ e. written (not-true _ (and_right (in_range from end i) _ e)) (λ c d a h k. rw e at (now c h) ∙ sym (rw e at (now d k))))
        (λ e. untouched (λ x h. rw e at (now x h) ∙ get_d-within x i 32 0 h));
  }

  -- a shift: any edit of an unprotected part that keeps its length
  safe_shift : (edit : List ℕ → List ℕ) → ((part : List ℕ) → length (edit part) ≡ length part)
      → (from end : ℕ) → Open attrs from end → SafeEdit attrs (on_part from end edit)
  safe_shift edit keeps from end o = record {
    long = on_part-length from end edit keeps;
    cell = λ i. true_or_false (ltb i from) (λ b. untouched (λ x h. on_part-before from end edit keeps x i 0 (ltb-true i from b)))
        (λ b. true_or_false (ltb i end) (λ e. inside i (ltb-false i from b) (ltb-true i end e))
        (λ e. untouched (λ x h. on_part-after from end edit keeps x i 0 (ltb-false i end e))));
  }
    where
      inside : (i : ℕ) → from ≤ i → i < end → Cell attrs (on_part from end edit) i
      inside i lo hi = written (o i lo hi) (λ c d a h k.
          true_or_false (lies from end c)
          (λ t.
          on_part-inside from end edit keeps c i 0 t lo hi
          ∙ rw (same_text a from end o) (sym (on_part-inside from end edit keeps d i 0 (rw a.long at t) lo hi)))
          (λ t. rw (on_part-none from end edit c t, on_part-none from end edit d (rw a.long at t)) (a.unprotected i h (o i lo hi))))

  safe_changed : (ch : Change) → SafeChange attrs ch → SafeEdit attrs (λ x. changed x attrs ch)
  unfolding changed
  safe_changed (put cell v) s = safe_put cell v s
  safe_changed (erase suppressed from end) s = rw s (safe_erase from end)
  safe_changed (shift way from end by) s = safe_shift (shifted way by) (shifted_length way by) from end s

pub still_twins : {attrs c₀ d₀ c d : List ℕ} (chs : List Change) → All (SafeChange attrs) chs → Twins attrs c₀ d₀ c d
    → Twins attrs c₀ d₀ (changed_all c attrs chs) (changed_all d attrs chs)
unfolding changed_all
still_twins [] s w = w
still_twins {attrs} {c = c} {d = d} (ch ∷ chs) s w =
    let e = safe_changed attrs ch s.0 in
    still_twins {c = changed c attrs ch} {d = changed d attrs ch} chs s.1
    (record { alike = still_alike e w.alike; first = still_kept e w.first; second = still_kept e w.second })
