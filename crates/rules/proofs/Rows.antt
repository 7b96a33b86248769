-- What holds of every row of the list holds of the row that a code finds there.
use Rattle.std.proofs.Common.{◌≡◌, sym, ℕ, eqb, eqb-true, List, [], ◌∷◌, Option, Some, None}
use Rattle.words.proofs.Laws.{either}
use Rattle.rules.specs.declared.Edition.{Edition}
use Rattle.rules.specs.Edition.{meant_by}
use Rattle.rules.specs.Command.{Row, rows, row_in, row_of}
use Rattle.rules.proofs.All.{All}

abbrev pub IfListed : (Row → Type 0) → Option Row → Type 0
IfListed P (Some r) = P r
IfListed P None = Unit {0}

module _ (P : Row → Type 0) where
  all_rows : (rs : List Row) → All P rs → (code : ℕ) → IfListed P (row_in rs code)
  unfolding row_in
  all_rows [] p code = tt
  all_rows (r ∷ rs) p code = either (IfListed P) (eqb code r.code) (λ e. p.0) (λ e. all_rows rs p.1 code)

  pub in_list : All P rows → (e : Edition) (code : ℕ) → IfListed P (row_of e code)
  in_list p e code = all_rows rows p (meant_by e code)

-- and it is the row of the command that the code means
its_code : (rs : List Row) (code : ℕ) → IfListed (λ r. r.code ≡ code) (row_in rs code)
unfolding row_in
its_code [] code = tt
its_code (r ∷ rs) code =
    either (IfListed (λ r. r.code ≡ code)) (eqb code r.code) (λ e. sym (eqb-true code r.code e)) (λ e. its_code rs code)

pub found_code : (e : Edition) (code : ℕ) (r : Row) → row_of e code ≡ Some r → r.code ≡ meant_by e code
found_code e code r q = let found = its_code rows (meant_by e code) in rw q at found
