-- What the code's table of codes holds.
use Rattle.std.specs.Prelude.{List, [], ◌∷◌, ℕ, zero, suc, if◌then◌else◌}
use Rattle.words.specs.Words.{between}
use Rattle.rules.specs.declared.Edition.{Edition}
use Rattle.rules.specs.declared.Edition.TheVariants.{June, September}
use Rattle.rules.specs.Edition.{meant_by}
use Rattle.command.specs.declared.code.Entry.{Entry}

-- the entry of a code: the command that it means, or none
unfoldable pub entry_of : Edition → ℕ → Entry
entry_of e code = let command = meant_by e code in record { 0 = if between 1 41 command then command else 0 }

-- the entries of n codes from this one on
unfoldable pub entries_from : Edition → ℕ → ℕ → List Entry
entries_from e code zero = []
entries_from e code (suc n) = entry_of e code ∷ entries_from e (suc code) n

abbrev pub entries : Edition → List Entry
entries e = entries_from e 0 42

-- which of the two arrays is an edition's
abbrev pub array_of : Edition → ℕ
array_of June = 0
array_of September = 1
