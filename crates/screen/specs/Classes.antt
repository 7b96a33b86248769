-- Document 01, "Keys": the byte classes.
use Rattle.std.specs.Prelude.{Bool, true, ◌||◌, ℕ, ◌+◌, eqb, if◌then◌else◌}
use Rattle.words.specs.Words.{between}
use Rattle.screen.specs.Attributes.{protection}

-- what an alphabetic cell takes (protection 2): a letter or the space
abbrev pub alphabetic : ℕ → Bool
alphabetic b = between 65 90 b || (between 97 122 b || eqb b 32)

-- what a numeric cell takes (protection 3): what a number is written with, or the space
abbrev pub numeric : ℕ → Bool
numeric b = between 48 57 b || (eqb b 32 || (eqb b 43 || (eqb b 45 || eqb b 46)))

-- the table's entry for a byte: 0 neither, 1 alphabetic, 2 numeric, 3 both
unfoldable pub class_of : ℕ → ℕ
class_of b = (if alphabetic b then 1 else 0) + (if numeric b then 2 else 0)

-- does a cell with this attribute byte take the byte when it is typed
unfoldable pub takes : ℕ → ℕ → Bool
takes attr b =
    if eqb (protection attr) 2 then alphabetic b
    else if eqb (protection attr) 3 then numeric b
    else true
