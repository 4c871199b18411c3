-- "Each target owns its named limits": what a target takes, for WRITE, for FILL and for COPY.
use Rattle.std.specs.Prelude.{ℕ, ◌+◌, ◌-◌, Bool, true, false, ◌||◌, eqb, ltb}
use Rattle.base_targets.specs.declared.Target.{Target}
use Rattle.base_targets.specs.declared.Target.TheVariants.{Core, Pcm, Bank, Slot, Si22, Missing}

-- "slot = target − 3"
abbrev pub slot_of : (target : ℕ) → ℕ
slot_of target = target - 3

-- "the target does not exist, or its slot has no card" (15)
abbrev pub missing : Target → Bool
missing Core = false
missing Pcm = false
missing Bank = false
missing (Slot start size) = false
missing Si22 = false
missing Missing = true

-- the last address of a record or WRITE (16)
abbrev pub write_limit : Target → ℕ
write_limit Core = 0x8FF
write_limit Pcm = 0xFFFFF
write_limit Bank = 0x1FFFFFF
write_limit (Slot start size) = 0x1FFFFFF
write_limit Si22 = 0x3F
write_limit Missing = 0

-- the range of FILL and COPY: its first address, and how many there are. It ends at "0x7FF for cores", "0xFFFFF for PCM", "0x3FFFFF for
-- version 3's target 3"; a slot has "the card's bulk range in version 4"; and it is "never target 11"
abbrev pub bulk_start : Target → ℕ
bulk_start Core = 0
bulk_start Pcm = 0
bulk_start Bank = 0
bulk_start (Slot start size) = start
bulk_start Si22 = 0
bulk_start Missing = 0

abbrev pub bulk_length : Target → ℕ
bulk_length Core = 0x800
bulk_length Pcm = 0x100000
bulk_length Bank = 0x400000
bulk_length (Slot start size) = size
bulk_length Si22 = 0
bulk_length Missing = 0

-- "length 0 or a forbidden destination" (17)
unfoldable pub outside : Target → (address size : ℕ) → Bool
outside target address size =
    eqb size 0 || ltb address (bulk_start target) || ltb (bulk_start target + bulk_length target) (address + size)

-- the kind of pool that a COPY to the target takes: "kind 1 only to cores", "kind 2 only to PCM", and kind 3 to "target 3
-- (version 3) or 3 to 10 (version 4)"
abbrev pub kind_for : Target → ℕ
kind_for Core = 1
kind_for Pcm = 2
kind_for Bank = 3
kind_for (Slot start size) = 3
kind_for Si22 = 0
kind_for Missing = 0
