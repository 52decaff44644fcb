-- The layout of a board's bytes, for the reader (Reading.antt) and for the bytes that are written (`faircopy`): six bytes of head, L in the first
-- two, then an entry for each zone. An entry has end A, end B, the carrier in one byte or, high byte first, in two, and the heading; places in it
-- count from its first byte.
use Rattle.std.specs.Prelude.{ℕ, ◌+◌, ◌-◌, ◌*◌, ◌/◌, ◌%◌, Bool, cond}

-- how many bytes an entry has, by whether a carrier has two
unfoldable pub stride : Bool → ℕ
stride wide = cond wide 5 4

-- where zone z's entry begins, after the six bytes of the head; past the last zone, how many bytes there are
abbrev pub entry_from : Bool → ℕ → ℕ
entry_from wide z = stride wide * z + 6

-- L, the number of bytes after the first two
abbrev pub length_of : Bool → ℕ → ℕ
length_of wide zones = 4 + stride wide * zones

-- the place of the end where the zone's word with this heading starts: end A for 0, end B for 1
abbrev pub end_place : ℕ → ℕ
end_place heading = heading

-- where the carrier begins
abbrev pub carrier_place : ℕ
carrier_place = 2

-- the heading is the last byte
abbrev pub heading_place : Bool → ℕ
heading_place wide = stride wide - 1

-- two-byte numbers are big-endian: the first byte of one, and the second
abbrev pub high_byte : ℕ → ℕ
high_byte n = n / 256

abbrev pub low_byte : ℕ → ℕ
low_byte n = n % 256
