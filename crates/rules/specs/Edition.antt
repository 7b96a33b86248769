-- Document 02, request (vi): the edition, RFC 731 (June, source document 000) or RFC 732 (September, source document 003), and what code
-- a command has in each.
use Rattle.std.specs.Prelude.{◌≡◌, Bool, true, not, ◌&&◌, ◌||◌, ℕ, ◌+◌, ◌-◌, ltb, eqb, if◌then◌else◌}
use Rattle.words.specs.Words.{between}
use Rattle.rules.specs.declared.Edition.{Edition}
use Rattle.rules.specs.declared.Edition.TheVariants.{June, September}

-- ---- its name at opening

unfoldable pub is_edition : ℕ → Bool
is_edition n = eqb n 731 || eqb n 732

unfoldable pub edition_of : ℕ → Edition
edition_of n = if eqb n 731 then June else September

unfoldable pub name_of : Edition → ℕ
name_of June = 731
name_of September = 732

-- ---- its codes. A command is named by document 01's code, which is September's.

-- June does not have this one, and every later code is one lower there
abbrev pub transmit_modified : ℕ
transmit_modified = 27

-- the code of a command
unfoldable pub code_for : Edition → ℕ → ℕ
code_for June command = if ltb transmit_modified command then command - 1 else command
code_for September command = command

-- the command that a code means
unfoldable pub meant_by : Edition → ℕ → ℕ
meant_by June code = if ltb code transmit_modified then code else code + 1
meant_by September code = code

-- the commands that an edition has: 1 to 41, received or sent
unfoldable pub holds : Edition → ℕ → Bool
holds June command = between 1 41 command && not (eqb command transmit_modified)
holds September command = between 1 41 command

-- code to meaning and meaning to code undo each other, on what an edition has
pub record OneToOne (e : Edition) : Type 0 where
  pub meaning_back : (command : ℕ) → holds e command ≡ true → meant_by e (code_for e command) ≡ command
  pub code_back : (code : ℕ) → holds e (meant_by e code) ≡ true → code_for e (meant_by e code) ≡ code

abbrev pub EditionsOneToOne : Type 0
EditionsOneToOne = (e : Edition) → OneToOne e
