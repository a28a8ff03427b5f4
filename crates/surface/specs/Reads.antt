-- The reads of a finished payload as a host calls them, by the payload's bytes: "Typed reads and list reads refuse with 20", and where nothing
-- was read every value is 0. Assumes nothing.
use Rattle.std.specs.Prelude.{List, ℕ, ◌+◌, ◌-◌, ◌*◌, ◌%◌, eqb, ltb, ℤ, pos, length}
use Rattle.std.proofs.Math.IntN.{sub_ℕ}
use Rattle.wire.specs.Words.{pick, either}
use Rattle.wire.specs.Bytes.{byte_at}
use Rattle.linked.specs.declared.reading.Unsigned.{Unsigned}
use Rattle.linked.specs.declared.reading.Signed.{Signed}
use Rattle.linked.specs.declared.reading.Item.{Item}
use Rattle.linked.specs.declared.reading.Quantities.{Quantities}
use Rattle.surface.specs.declared.reading.Typed.{Typed}

-- the bytes of a number from a place on, the low byte first
abbrev pub one_byte : List ℕ → ℕ
one_byte s = byte_at s 0

abbrev pub two_from : List ℕ → ℕ → ℕ
two_from s i = byte_at s i + 256 * byte_at s (i + 1)

abbrev pub four_bytes : List ℕ → ℕ
four_bytes s = byte_at s 0 + 256 * byte_at s 1 + 65536 * byte_at s 2 + 16777216 * byte_at s 3

-- "Typed reads take the first 1, 2 or 4 bytes of a payload, unsigned or two's complement; a shorter payload is 20."
abbrev pub unsigned_in : ℕ → ℕ → List ℕ → Unsigned
unsigned_in n x s = pick (ltb (length s) n) (record { number = 0x20; value = 0 }) (record { number = 0x00; value = x })

-- two's complement: from half of `all` on, `all` less
abbrev pub twos : ℕ → ℕ → ℕ → ℤ
twos half all x = pick (ltb x half) (pos x) (sub_ℕ x all)

abbrev pub signed_in : ℕ → ℤ → List ℕ → Signed
signed_in n x s = pick (ltb (length s) n) (record { number = 0x20; value = pos 0 }) (record { number = 0x00; value = x })

abbrev pub read_u8 : List ℕ → Unsigned
read_u8 s = unsigned_in 1 (one_byte s) s

abbrev pub read_u16 : List ℕ → Unsigned
read_u16 s = unsigned_in 2 (two_from s 0) s

abbrev pub read_u32 : List ℕ → Unsigned
read_u32 s = unsigned_in 4 (four_bytes s) s

abbrev pub read_i8 : List ℕ → Signed
read_i8 s = signed_in 1 (twos 128 256 (one_byte s)) s

abbrev pub read_i16 : List ℕ → Signed
read_i16 s = signed_in 2 (twos 32768 65536 (two_from s 0)) s

abbrev pub read_i32 : List ℕ → Signed
read_i32 s = signed_in 4 (twos 2147483648 4294967296 (four_bytes s)) s

abbrev pub typed_in : List ℕ → Typed
typed_in s = record {
  byte = read_u8 s;
  word = read_u16 s;
  long = read_u32 s;
  signed_byte = read_i8 s;
  signed_word = read_i16 s;
  signed_long = read_i32 s;
}

-- "an odd payload, or a position with no two bytes left, is 20"; the next item stands behind this one, and a refusal leaves the position
abbrev pub item_in : List ℕ → ℕ → Item
item_in s at =
    pick (either (eqb (length s % 2) 1) (ltb (length s - at) 2))
    (record { number = 0x20; index = 0; next = at })
    (record { number = 0x00; index = two_from s at; next = at + 2 })

abbrev pub quantities_with : ℕ → ℕ → ℕ → ℕ → ℕ → ℕ → Quantities
quantities_with number all receive send stored startup = record {
  number = number;
  all = all;
  rx_pdo_mappable = receive;
  tx_pdo_mappable = send;
  stored_for_device_replacement = stored;
  startup_parameters = startup;
}

-- "Quantities need 10 bytes.": five numbers of two bytes, in the order of the Rust's ObjectDescriptionListQueryCounts
abbrev pub quantities_in : List ℕ → Quantities
quantities_in s =
    pick (ltb (length s) 10)
    (quantities_with 0x20 0 0 0 0 0)
    (quantities_with 0x00 (two_from s 0) (two_from s 2) (two_from s 4) (two_from s 6) (two_from s 8))
