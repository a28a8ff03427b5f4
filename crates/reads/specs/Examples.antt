-- Payloads as a document writes them, and what reading them gives: the paper's number, and the values. Assumes nothing.
use Rattle.std.specs.Prelude.{◌≡◌, refl, ℕ, List, [], ◌∷◌, map, ℤ, pos, neg_ℤ, replicate}
use Rattle.wire.specs.Bytes.{hex}
use Rattle.reads.specs.Answers.{Valued, of_unsigned, of_signed, of_item, of_list, of_quantities}
use Rattle.reads.specs.Typed.{integer_read, unsigned_read, signed_read}
use Rattle.reads.specs.Signed.{signed_of}
use Rattle.reads.specs.List.{item_at}
use Rattle.reads.specs.Whole.{list_read, stored}
use Rattle.reads.specs.Quantities.{quantities_read}

abbrev gives : ℤ → Valued
gives z = (0, z ∷ [])

abbrev refused : Valued
refused = (0x20, [])

abbrev minus : ℕ → ℤ
minus n = neg_ℤ (pos n)

-- what `items` hold afterwards, of so many that all were 7
abbrev stored_in : ℕ → List ℕ → Valued
stored_in room payload = (0, map (λ (n : ℕ). pos n) (stored (replicate room 7) payload))

unfoldable pub examples : List (Valued × Valued)
examples =
    -- "Signed 16-bit ffff is -1, 0080 is -32,768."
    (of_signed (signed_read 2 (hex 2 0xffff)), gives (minus 1))
    ∷ (of_signed (signed_read 2 (hex 2 0x0080)), gives (minus 32768))
    ∷ (of_signed (signed_read 2 (hex 2 0xff7f)), gives (pos 32767))
    -- the same at 8 and 32 bits
    ∷ (of_signed (signed_read 1 (hex 1 0xff)), gives (minus 1))
    ∷ (of_signed (signed_read 1 (hex 1 0x80)), gives (minus 128))
    ∷ (of_signed (signed_read 1 (hex 1 0x7f)), gives (pos 127))
    ∷ (of_signed (signed_read 4 (hex 4 0xffffffff)), gives (minus 1))
    ∷ (of_signed (signed_read 4 (hex 4 0x00000080)), gives (minus 2147483648))
    ∷ (of_signed (signed_read 4 (hex 4 0xffffff7f)), gives (pos 2147483647))
    -- the low byte stands first, unsigned bits keep their value, and bytes behind the first are not read
    ∷ (of_signed (signed_read 2 (hex 2 0xf6fe)), gives (minus 266))
    ∷ (of_unsigned (unsigned_read 1 (hex 1 0xff)), gives (pos 255))
    ∷ (of_unsigned (unsigned_read 2 (hex 2 0x1810)), gives (pos 0x1018))
    ∷ (of_unsigned (unsigned_read 2 (hex 4 0x18108899)), gives (pos 0x1018))
    ∷ (of_unsigned (unsigned_read 4 (hex 4 0x78563412)), gives (pos 0x12345678))
    ∷ (of_unsigned (unsigned_read 4 (hex 4 0xffffffff)), gives (pos 4294967295))
    -- "a shorter payload is 20"
    ∷ (of_unsigned (unsigned_read 1 []), refused)
    ∷ (of_signed (signed_read 2 (hex 1 0xff)), refused)
    ∷ (of_unsigned (unsigned_read 4 (hex 3 0x785634)), refused)
    -- a list of two, its end, a position past the end, and a position with one byte left
    ∷ (of_item (item_at (hex 4 0x00101810) 0), (0, pos 0x1000 ∷ pos 2 ∷ []))
    ∷ (of_item (item_at (hex 4 0x00101810) 2), (0, pos 0x1018 ∷ pos 4 ∷ []))
    ∷ (of_item (item_at (hex 4 0x00101810) 4), refused)
    ∷ (of_item (item_at (hex 4 0x00101810) 0xffff_ffff_ffff_ffff), refused)
    ∷ (of_item (item_at (hex 4 0x00101810) 3), refused)
    -- "an odd payload": every read of it
    ∷ (of_item (item_at (hex 5 0x0010181060) 0), refused)
    -- the whole list: how many indices it has, and what is stored where there is room for all, for more, for fewer and for none
    ∷ (of_list (list_read (hex 4 0x00101810)), gives (pos 2))
    ∷ (of_list (list_read []), gives (pos 0))
    ∷ (of_list (list_read (hex 5 0x0010181060)), refused)
    ∷ (stored_in 2 (hex 4 0x00101810), (0, pos 0x1000 ∷ pos 0x1018 ∷ []))
    ∷ (stored_in 3 (hex 4 0x00101810), (0, pos 0x1000 ∷ pos 0x1018 ∷ pos 7 ∷ []))
    ∷ (stored_in 1 (hex 4 0x00101810), (0, pos 0x1000 ∷ []))
    ∷ (stored_in 0 (hex 4 0x00101810), (0, []))
    ∷ (stored_in 2 (hex 5 0x0010181060), (0, pos 7 ∷ pos 7 ∷ []))
    -- "Quantities need 10 bytes"
    ∷ (of_quantities (quantities_read (hex 10 0x01000200030004000501)), (0, pos 1 ∷ pos 2 ∷ pos 3 ∷ pos 4 ∷ pos 0x105 ∷ []))
    ∷ (of_quantities (quantities_read (hex 12 0x010002000300040005010600)), (0, pos 1 ∷ pos 2 ∷ pos 3 ∷ pos 4 ∷ pos 0x105 ∷ []))
    ∷ (of_quantities (quantities_read (hex 9 0x010002000300040005)), refused)
    ∷ []

pub examples_hold : map (λ (e : Valued × Valued). e.0) examples ≡ map (λ (e : Valued × Valued). e.1) examples
unfolding examples integer_read signed_of item_at quantities_read
examples_hold = refl
