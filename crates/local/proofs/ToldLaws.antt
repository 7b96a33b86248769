-- The end of a subnegotiation of another option leaves nothing of a message half read, and the PAD otherwise as it was.
use Rattle.std.proofs.Common.{◌≡◌, refl, true, false}
use borrow.Author.Tests.{not-true}
use Rattle.telnet.specs.declared.Event.{Event}
use Rattle.telnet.specs.declared.Event.TheVariants.{Nothing, Data, Negotiation, Begin, Sub, End, EndBare, Lost}
use Rattle.words.proofs.Laws.{not_both}
use Rattle.pad.specs.Message.{idle_message}
use Rattle.rules.specs.declared.Frame.{Frame}
use Rattle.rules.specs.declared.Pad.{Pad}
use Rattle.rules.specs.Pad.{is_x3, pad_after, with_message}
use Rattle.local.specs.Told.{ends_other}

pub other_clears : (f : Frame) (p : Pad) (e : Event) → ends_other e ≡ true → pad_after f p e ≡ with_message p idle_message
unfolding ends_other pad_after
other_clears f p Nothing h = not_both false h refl
other_clears f p (Data b) h = not_both false h refl
other_clears f p (Negotiation verb option) h = not_both false h refl
other_clears f p (Begin option) h = not_both false h refl
other_clears f p (Sub option b) h = not_both false h refl
other_clears f p (End option) h = rw (not-true (is_x3 option) h)
other_clears f p EndBare h = not_both false h refl
other_clears f p Lost h = not_both false h refl
