-- Rule 1.1: numbers in bytes, little-endian. Past the end of a list every byte is 0.
use Rattle.std.specs.Prelude.{ℕ, ◌+◌, ◌*◌, ◌/◌, ◌%◌, List, get_or}

unfoldable pub byte_at : List ℕ → ℕ → ℕ
byte_at s at = get_or s at 0

-- the 16-bit number at an offset
unfoldable pub u16_at : List ℕ → ℕ → ℕ
u16_at s at = byte_at s at + 256 * byte_at s (at + 1)

-- the 32-bit number at an offset
unfoldable pub u32_at : List ℕ → ℕ → ℕ
u32_at s at = u16_at s at + 65536 * u16_at s (at + 2)

-- the bytes of a 16-bit number, the low one first
abbrev pub low : ℕ → ℕ
low x = x % 256

abbrev pub high : ℕ → ℕ
high x = x / 256
