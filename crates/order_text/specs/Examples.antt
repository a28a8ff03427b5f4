-- Lines as they stand in a file, one byte a character, and what they say; bytes, and their text. Assumes nothing.
use Rattle.std.specs.Prelude.{ℕ, ◌≡◌, refl, List, [], ◌∷◌, map}
use Rattle.wire.specs.Bytes.{hex}
use Rattle.wire.specs.Store.{laid}
use Rattle.order_text.specs.Digits.{digit_of, char_of, byte_of}
use Rattle.order_text.specs.Lines.{has_bad, bytes_of, Line, good, bad, line_of, left_in}
use Rattle.order_text.specs.Text.{hex_text, text_in}

unfoldable pub lines : List (Line × Line)
lines =
    -- 01181001 and 0a000000001300304318100178563412, the lines of the document's example
    (line_of 1486 (hex 8 0x3031313831303031), good (hex 4 0x01181001))
    ∷ (line_of 1486 (hex 32 0x3061303030303030303031333030333034333138313030313738353633343132), good (hex 16 0x0a000000001300304318100178563412))
    -- ff, the largest byte, and 9f, the two ends of the digits
    ∷ (line_of 1486 (hex 6 0x666639663061), good (hex 3 0xff9f0a))
    -- "an odd line": 0118100
    ∷ (line_of 1486 (hex 7 0x30313138313030), bad)
    -- "not lower-case hexadecimal": 0A; 0g; a blank, a carriage return, a NUL and a character above 127 behind 01
    ∷ (line_of 1486 (hex 2 0x3041), bad)
    ∷ (line_of 1486 (hex 2 0x3067), bad)
    ∷ (line_of 1486 (hex 4 0x30313020), bad)
    ∷ (line_of 1486 (hex 4 0x3031300d), bad)
    ∷ (line_of 1486 (hex 4 0x30313000), bad)
    ∷ (line_of 1486 (hex 4 0x303130e9), bad)
    -- the characters beside the digits: 0/, 0:, 0`
    ∷ (line_of 1486 (hex 2 0x302f), bad)
    ∷ (line_of 1486 (hex 2 0x303a), bad)
    ∷ (line_of 1486 (hex 2 0x3060), bad)
    -- an empty line is a frame of 0 bytes
    ∷ (line_of 0 [], good [])
    -- "an overlong line": 0a0b0c where three bytes have room, and where two have
    ∷ (line_of 3 (hex 6 0x306130623063), good (hex 3 0x0a0b0c))
    ∷ (line_of 2 (hex 6 0x306130623063), bad)
    ∷ []

unfoldable pub buffers : List (List ℕ × List ℕ)
buffers =
    -- the buffer after 0a0b, and after 0a0B
    (left_in (hex 3 0x515253) (line_of 3 (hex 4 0x30613062)), hex 3 0x0a0b53)
    ∷ (left_in (hex 3 0x515253) (line_of 3 (hex 4 0x30613042)), hex 3 0x515253)
    -- 0078563412, the last line that the document's example prints
    ∷ (text_in 10 (hex 5 0x0078563412), hex 10 0x30303738353633343132)
    -- and its request, 0a000000001300204018100100000000
    ∷ (text_in 32 (hex 16 0x0a000000001300204018100100000000), hex 32 0x3061303030303030303031333030323034303138313030313030303030303030)
    -- as many bytes as have room, behind what stood there: 0a0b in 4 characters from the third on, and in 3
    ∷ (laid (hex 6 0x515253545556) 2 (text_in 4 (hex 2 0x0a0b)), hex 6 0x515230613062)
    ∷ (laid (hex 5 0x5152535455) 2 (text_in 3 (hex 2 0x0a0b)), hex 5 0x5152306155)
    ∷ []

abbrev pub Both : Type 0
Both = List Line × List (List ℕ)

pub examples : ◌≡◌ {A = Both} (map (λ (e : Line × Line). e.0) lines, map (λ (e : List ℕ × List ℕ). e.0) buffers)
    (map (λ (e : Line × Line). e.1) lines, map (λ (e : List ℕ × List ℕ). e.1) buffers)
unfolding lines buffers line_of has_bad bytes_of byte_of digit_of text_in hex_text char_of
examples = refl
