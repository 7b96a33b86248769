-- What is done so far in a loop over host data.
use Rattle.std.specs.Prelude.{Bool, ◌&&◌, List, ℕ, eqb, get_or, take, if◌then◌else◌}
use Rattle.rules.specs.declared.Frame.{Frame}
use Rattle.rules.specs.Session.{View, view}
use Rattle.rules.specs.Effect.{Effect, quiet}
use Rattle.rules.specs.Telnet.{host_text}
use Rattle.decide.specs.Writing.{control_of}
use Rattle.text.specs.Text.{Changes, obeyed_bytes, ends_in_cr}

-- is the byte at `at` passed over
abbrev pub passed_at : (joins cr : Bool) (bytes : List ℕ) (at : ℕ) → Bool
passed_at joins cr bytes at = (joins && ends_in_cr cr (take at bytes)) && eqb (get_or bytes at 0) 10

-- what the byte at `at` does, where it is no character
abbrev pub control_at : View → (joins cr : Bool) (bytes : List ℕ) (at : ℕ) → Effect
control_at v joins cr bytes at = if passed_at joins cr bytes at then quiet v else control_of v (get_or bytes at 0)

-- what the first `at` bytes do
pub record Texted (attrs : List ℕ) (joins cr : Bool) (bytes : List ℕ) (f₀ : Frame) (chars₀ : List ℕ) (at : ℕ) (f : Frame) (chars : List ℕ)
    : Type 0 where
  pub done : Changes (host_text (view f₀ attrs) (obeyed_bytes joins cr (take at bytes))) chars₀ attrs f chars

-- where the first `from` bytes lead to f and chars, the first `end` lead to f' and chars'
pub record TextStep (attrs bytes : List ℕ) (from : ℕ) (f : Frame) (chars : List ℕ) (end : ℕ) (f' : Frame) (chars' : List ℕ) : Type 0 where
  pub on : (joins cr : Bool) (f₀ : Frame) (chars₀ : List ℕ)
      → Texted attrs joins cr bytes f₀ chars₀ from f chars → Texted attrs joins cr bytes f₀ chars₀ end f' chars'
