-- Document 01, "Subcommands", 1 to 4, and document 02, requests (ii), (iii), (v) and (vi): facilities. What a bit of a map stands for, by
-- "Facility Functions" in section 2 of source documents 003 and 000; the maps that the terminal sends; and what is agreed, by section 5
-- of 000.
use Rattle.std.specs.Prelude.{Bool, true, ◌&&◌, List, [], ◌∷◌, ℕ, zero, suc, ◌*◌, Option, Some, None}
use Rattle.words.specs.Words.{bit}
use Rattle.rules.specs.declared.Facility.{Facility}
use Rattle.rules.specs.declared.Facility.TheVariants.{Editing, Erasing, Transmitting, Formatting}
use Rattle.rules.specs.declared.Governor.{Governor}
use Rattle.rules.specs.declared.Governor.TheVariants.{EditBit, EraseBit, TransmitBit, Format0Bit, Format1Bit}
use Rattle.rules.specs.declared.Maps.{Maps}
use Rattle.rules.specs.declared.Edition.{Edition}
use Rattle.rules.specs.declared.Edition.TheVariants.{June, September}

-- ---- the bits that govern a command. The others govern none that the terminal receives.

-- a bit's weight: bits are numbered from the right, from 0
unfoldable pub weight : ℕ → ℕ
weight zero = 1
weight (suc n) = 2 * weight n

-- class 1, editing
abbrev pub toroidal_addressing : Option Governor
toroidal_addressing = Some (EditBit (weight 6))

abbrev pub incremental_addressing : Option Governor
incremental_addressing = Some (EditBit (weight 5))

abbrev pub read_cursor_address : Option Governor
read_cursor_address = Some (EditBit (weight 4))

abbrev pub line_insert_delete : Option Governor
line_insert_delete = Some (EditBit (weight 3))

abbrev pub char_insert_delete : Option Governor
char_insert_delete = Some (EditBit (weight 2))

abbrev pub back_tab : Option Governor
back_tab = Some (EditBit (weight 1))

-- class 2, erasing: the field has bit 4, the line bit 3
abbrev pub erase_field : Option Governor
erase_field = Some (EraseBit (weight 4))

abbrev pub erase_line : Option Governor
erase_line = Some (EraseBit (weight 3))

abbrev pub erase_rest_of_screen : Option Governor
erase_rest_of_screen = Some (EraseBit (weight 2))

abbrev pub erase_rest_of_line : Option Governor
erase_rest_of_line = Some (EraseBit (weight 1))

abbrev pub erase_rest_of_field : Option Governor
erase_rest_of_field = Some (EraseBit (weight 0))

-- class 3, transmitting: the line has bit 4, the field bit 3
abbrev pub transmit_line : Option Governor
transmit_line = Some (TransmitBit (weight 4))

abbrev pub transmit_field : Option Governor
transmit_field = Some (TransmitBit (weight 3))

abbrev pub transmit_rest_of_screen : Option Governor
transmit_rest_of_screen = Some (TransmitBit (weight 2))

abbrev pub transmit_rest_of_line : Option Governor
transmit_rest_of_line = Some (TransmitBit (weight 1))

abbrev pub transmit_rest_of_field : Option Governor
transmit_rest_of_field = Some (TransmitBit (weight 0))

-- class 4, formatting: its first byte, then its second
abbrev pub modified_facility : Option Governor
modified_facility = Some (Format0Bit (weight 6))

abbrev pub repeating : Option Governor
repeating = Some (Format0Bit (weight 4))

abbrev pub protection_on_off : Option Governor
protection_on_off = Some (Format1Bit (weight 6))

-- protection brings TRANSMIT UNPROTECTED and ERASE UNPROTECTED with it
abbrev pub protection_facility : Option Governor
protection_facility = Some (Format1Bit (weight 5))

-- ---- what is agreed

-- request (vi): June has no TRANSMIT MODIFIED, and its bit is off
abbrev pub own_format0 : Edition → ℕ
own_format0 June = 144
own_format0 September = 208

-- The terminal's own maps. The erase map has the bits of the five partial erasures, 0 to 4 in source document 000.
abbrev pub own_maps : Edition → Maps
own_maps e = record { edit = 126; erase = 31; transmit = 63; format0 = own_format0 e; format1 = 121 }

-- 1 to 4, which both editions have, are answered with their own code and the terminal's own map
unfoldable pub own_map : Edition → Facility → List ℕ
own_map e Editing = 1 ∷ (own_maps e).edit ∷ []
own_map e Erasing = 2 ∷ (own_maps e).erase ∷ []
own_map e Transmitting = 3 ∷ (own_maps e).transmit ∷ []
own_map e Formatting = 4 ∷ (own_maps e).format0 ∷ (own_maps e).format1 ∷ []

-- the latest map of a class counts, whatever came before: its first byte, and for formatting a second one
unfoldable pub receiving : Maps → Facility → ℕ → ℕ → Maps
receiving m Editing a b = record { edit = a; erase = m.erase; transmit = m.transmit; format0 = m.format0; format1 = m.format1 }
receiving m Erasing a b = record { edit = m.edit; erase = a; transmit = m.transmit; format0 = m.format0; format1 = m.format1 }
receiving m Transmitting a b = record { edit = m.edit; erase = m.erase; transmit = a; format0 = m.format0; format1 = m.format1 }
receiving m Formatting a b = record { edit = m.edit; erase = m.erase; transmit = m.transmit; format0 = a; format1 = b }

-- the intersection: a bit that is set in the map received and in the terminal's own
abbrev pub in_both : ℕ → ℕ → ℕ → Bool
in_both w received own = bit w received && bit w own

-- a command that no bit governs needs none
unfoldable pub agreed : Edition → Maps → Option Governor → Bool
agreed e m None = true
agreed e m (Some (EditBit w)) = in_both w m.edit (own_maps e).edit
agreed e m (Some (EraseBit w)) = in_both w m.erase (own_maps e).erase
agreed e m (Some (TransmitBit w)) = in_both w m.transmit (own_maps e).transmit
agreed e m (Some (Format0Bit w)) = in_both w m.format0 (own_maps e).format0
agreed e m (Some (Format1Bit w)) = in_both w m.format1 (own_maps e).format1
