-- The header of each version, and the checks 1 to 6.
use Rattle.std.specs.Prelude.{ℕ, ◌+◌, ◌*◌, Bool, cond, not, ◌&&◌, ◌||◌, List, length, eqb, ltb}
use Rattle.base_format.specs.declared.header.Header.{Header}
use Rattle.base_format.specs.Bytes.{byte, be}
use Rattle.base_format.specs.Checked.{Checked, ok, refuse, ◌>>◌}
use Rattle.base_format.specs.Size.{record_size, master_header_size}

-- the letters SGUB as a number of 4 bytes
abbrev pub letters : ℕ
letters = 0x53475542

-- 48 bytes where the version is 4, "40 where it is 2 or 3, else 20"
unfoldable pub header_size : (version : ℕ) → ℕ
header_size version = cond (eqb version 4) 48 (cond (eqb version 2 || eqb version 3) 40 20)

-- version 1: "u32 frame count at 8", then the opening records and the total size. The opening starts behind the header, and the frames
-- behind its records of 5 bytes; the directory is empty
unfoldable pub plain_header : List ℕ → Header
plain_header file =
    record {
      version = 1;
      repeat = eqb (byte file 6) 1;
      frame_period = 0;
      card_count = 0;
      frame_count = be 4 file 8;
      pool_count = 0;
      initial_count = be 4 file 12;
      directory_offset = master_header_size;
      initial_start = master_header_size;
      frame_start = master_header_size + be 4 file 12 * record_size;
      total_size = be 4 file 16;
    }

-- version 4 has its "card count at 38" and its "period at 40"; the others have neither
unfoldable pub period_of : (version : ℕ) → List ℕ → ℕ
period_of version file = cond (eqb version 4) (be 4 file 40) 0

unfoldable pub card_count : (version : ℕ) → List ℕ → ℕ
card_count version file = cond (eqb version 4) (byte file 38) 0

-- versions 2 to 4: seven numbers of 4 bytes one after the other, from "8 frames, 12 pools, 16 opening operations" to "32 total size"
unfoldable pub pooled_header : (version : ℕ) → List ℕ → Header
pooled_header version file =
    record {
      version = version;
      repeat = eqb (byte file 6) 1;
      frame_period = period_of version file;
      card_count = card_count version file;
      frame_count = be 4 file 8;
      pool_count = be 4 file 12;
      initial_count = be 4 file 16;
      directory_offset = be 4 file 20;
      initial_start = be 4 file 24;
      frame_start = be 4 file 28;
      total_size = be 4 file 32;
    }

unfoldable pub header_of : List ℕ → Header
header_of file = cond (eqb (byte file 4) 1) (plain_header file) (pooled_header (byte file 4) file)

-- a pooled header's "size field, reserved bytes or card count (at most 8) is wrong": the size field is at 36, byte 39 is 0; version
-- 4 has 0 in bytes 44 to 47, versions 2 and 3 have 0 in byte 38
unfoldable pub reserved_wrong : (version : ℕ) → List ℕ → Bool
reserved_wrong version file =
    not (eqb (be 2 file 36) (header_size version))
    || not (eqb (byte file 39) 0)
    || cond (eqb version 4) (ltb 8 (byte file 38) || not (eqb (be 4 file 44) 0)) (not (eqb (byte file 38) 0))

-- byte 6 "exceeds 1", "byte 7 is not 0", or a pooled header is wrong (5)
unfoldable pub flags_wrong : (version : ℕ) → List ℕ → Bool
flags_wrong version file =
    ltb 1 (byte file 6) || not (eqb (byte file 7) 0) || not (eqb version 1) && reserved_wrong version file

-- "neither 0 nor 48,000 to 48,000,000" (6)
unfoldable pub period_wrong : (period : ℕ) → Bool
period_wrong period = not (eqb period 0) && (ltb period 48000 || ltb 48000000 period)

-- rules 1 to 6
unfoldable pub header_from : List ℕ → Checked Header
header_from file = do
  let version = byte file 4
  refuse 1 0 (ltb (length file) (header_size version))
  refuse 2 0 (not (eqb (be 4 file 0) letters))
  refuse 3 0 (eqb version 0 || ltb 4 version)
  refuse 4 0 (not (eqb (byte file 5) 16))
  refuse 5 0 (flags_wrong version file)
  refuse 6 0 (period_wrong (header_of file).frame_period)
  ok (header_of file)
