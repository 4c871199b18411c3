-- Numbers of a file, "unsigned, highest byte first". A width counts bytes, so that 3- and 4-byte addresses are one definition.
use Rattle.std.specs.Prelude.{ℕ, zero, suc, ◌+◌, ◌*◌, ◌/◌, ◌%◌, ◌<◌, Bool, true, false, ◌&&◌, List, [], ◌∷◌, ◌++◌, get_or, take, drop, eqb}

-- the byte at a place; 0 past the file's end, where a check in front has refused
abbrev pub byte : List ℕ → ℕ → ℕ
byte file place = get_or file place 0

-- every element is a byte, as a lent file's are
abbrev pub AllBytes : List ℕ → Type 0
AllBytes file = (i : ℕ) → byte file i < 256

-- the number in as many bytes from a place as its width says
unfoldable pub be : (width : ℕ) → List ℕ → (place : ℕ) → ℕ
be zero file place = 0
be (suc width) file place = be width file place * 256 + byte file (place + width)

-- the bytes of a number at a width
unfoldable pub bytes_of : (width : ℕ) → ℕ → List ℕ
bytes_of zero n = []
bytes_of (suc width) n = bytes_of width (n / 256) ++ (n % 256 ∷ [])

-- a field of a file: a byte, a number of so many bytes, or bytes as they are
pub data Field : Type 0 where
  u8 : (number : ℕ) → Field
  u : (width number : ℕ) → Field
  raw : (bytes : List ℕ) → Field

abbrev pub u16 : (number : ℕ) → Field
u16 number = u 2 number

abbrev pub u32 : (number : ℕ) → Field
u32 number = u 4 number

abbrev pub field_bytes : Field → List ℕ
field_bytes (u8 number) = number ∷ []
field_bytes (u width number) = bytes_of width number
field_bytes (raw bytes) = bytes

-- fields one after the other
unfoldable pub bytes_of_all : List Field → List ℕ
bytes_of_all [] = []
bytes_of_all (field ∷ fields) = field_bytes field ++ bytes_of_all fields

-- a part of a file: so many bytes from a place
abbrev pub part : List ℕ → (place size : ℕ) → List ℕ
part file place size = take size (drop place file)

abbrev pub same_bytes : List ℕ → List ℕ → Bool
same_bytes [] [] = true
same_bytes [] (b ∷ bs) = false
same_bytes (a ∷ more) [] = false
same_bytes (a ∷ more) (b ∷ bs) = eqb a b && same_bytes more bs

abbrev pub all_zero : List ℕ → Bool
all_zero [] = true
all_zero (b ∷ bs) = eqb b 0 && all_zero bs
