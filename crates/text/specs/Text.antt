-- What becomes of the lent characters, and host data in which an LF is passed over.
use Rattle.std.specs.Prelude.{◌≡◌, Bool, ◌&&◌, List, [], ◌∷◌, ℕ, eqb, if◌then◌else◌}
use Rattle.rules.specs.declared.Frame.{Frame}
use Rattle.rules.specs.Effect.{Effect, changed_all}

-- the frame and the characters afterwards
pub record Changes (e : Effect) (chars attrs : List ℕ) (f : Frame) (chars' : List ℕ) : Type 0 where
  pub frame : f ≡ e.view.frame
  pub characters : chars' ≡ changed_all chars attrs e.changes

-- the bytes of data that are obeyed while CR LF is printed as CR: an LF right after a CR is passed over
unfoldable pub joined : Bool → List ℕ → List ℕ
joined cr [] = []
joined cr (b ∷ bs) =
    let rest = joined (eqb b 13) bs in
    if cr && eqb b 10 then rest else b ∷ rest

-- the bytes of data that are obeyed: all of them, or those that `joined` leaves where CR LF is printed as CR
abbrev pub obeyed_bytes : Bool → Bool → List ℕ → List ℕ
obeyed_bytes joins cr bytes = if joins then joined cr bytes else bytes

-- is the last byte of data a CR, these having come after it
unfoldable pub ends_in_cr : Bool → List ℕ → Bool
ends_in_cr cr [] = cr
ends_in_cr cr (b ∷ bs) = ends_in_cr (eqb b 13) bs
